-- The answers of the first scripts. Assumes nothing.
use mathlib.Core.Path.{◌≡◌, refl, ◌∙◌}
use mathlib.Core.List.{List, []}
use Prim.Native.Nat.{ℕ, zero, suc, ◌+◌, ◌≤◌, ◌<◌}
use native.Mathlib.Decide.{ℕ_discrete}
use native.Mathlib.Omega.{arith}
use lib.ListN.{length, get_or, set, replicate, length-set, length-replicate}
use lib.Seq.{get_or-set_same, get_or-set_other}
use Rattle.calls_scripts.specs.declared.Held.{Held}
use Rattle.calls_scripts.specs.declared.HeldScripts.{HeldScripts}
use Rattle.calls_scripts.specs.Held.{slice_of, nobody}
use Rattle.calls_turns.specs.declared.Progress.{Progress}
use Rattle.calls_turns.specs.Progress.{start_progress}
use Rattle.calls_frames.specs.declared.Played.{Played}
use Rattle.calls_frames.specs.Answers.{no_answer, AnsweredBy, AllAnswered}

-- one value throughout
pub get_d_same : {A : Type 0} (n j : ℕ) (a : A) → get_or (replicate n a) j a ≡ a
get_d_same zero j a = refl
get_d_same (suc n) zero a = refl
get_d_same (suc n) (suc j) a = get_d_same n j a

module _ (q : ℕ) (all : HeldScripts) (tables : List ℕ) (progress : List Progress) (counts : List (List (List ℕ))) where
  -- the answer of script j
  abbrev Answers : ℕ → Played → Type 0
  Answers j a = let h : Held = get_or all.each j nobody in AnsweredBy q (get_or progress j start_progress) (slice_of h.places.table tables) h.count (get_or counts j []) a

  pub record Answering (k : ℕ) (list : List Played) : Type 0 where
    pub long : length list ≡ 8
    pub each : (j : ℕ) → j < k → Answers j (get_or list j no_answer)
    pub rest : (j : ℕ) → k ≤ j → get_or list j no_answer ≡ no_answer

  pub answering_none : (a : Played) → a ≡ no_answer → Answering 0 (replicate 8 a)
  answering_none a e = rw e (record { long = length-replicate 8 no_answer; each = λ j h. absurd (omega arith); rest = λ j h. get_d_same 8 j no_answer })

  pub answering_more : (k : ℕ) (list : List Played) → k < 8 → Answering k list → (a : Played) → Answers k a → Answering (k + 1) (set list k a)
  answering_more k list few s a z = record {
    long = length-set list k a ∙ s.long;
    each = λ j l. by j l (ℕ_discrete j k);
    rest = λ j l. get_or-set_other list k j a no_answer (λ e. omega arith) ∙ s.rest j (omega arith);
  }
    where
      by : (j : ℕ) → j < k + 1 → Dec (j ≡ k) → Answers j (get_or (set list k a) j no_answer)
      by j l (yes e) = rw (e, get_or-set_same list k a no_answer (omega (arith, s.long))) z
      by j l (no e) = rw (get_or-set_other list k j a no_answer e) (s.each j (omega (arith, e)))

  pub answering_all : (k : ℕ) (list : List Played) → k ≡ all.number → Answering k list → AllAnswered q all tables progress counts list
  answering_all k list e s = record { each = λ j h. s.each j (omega arith); rest = λ j h. s.rest j (omega arith) }
