-- The readiness, script by script. Assumes nothing.
use mathlib.Core.Path.{◌≡◌, refl, sym, ◌∙◌, ap}
use mathlib.Core.List.{List, [], ◌∷◌}
use Prim.Native.Nat.{ℕ, zero, suc, ◌<◌}
use native.Mathlib.Omega.{arith}
use lib.IntN.{ℤ}
use lib.ListN.{length, get_or}
use Rattle.rules.specs.Verdicts.{Verdict}
use Rattle.rules.specs.Verdicts.{passed as Passed, refused as Refused}
use Rattle.rules.specs.Scripts.{Script, script_of}
use Rattle.rules.specs.File.{file_script}
use Rattle.rules.specs.Calls.{Judged, accepted, prices_of, Priced, judged_priced, judged_file, scratch_size, judged, store_verdict}
use Rattle.rules_frames.specs.Frames.{Progress, beginning, ScriptPart, Readiness, ready, joins, enters, readiness}
use Rattle.rules_frames.specs.InTime.{Accepts}
use Rattle.reader.specs.declared.Loaded.{Loaded}
use Rattle.calls.specs.Held.{read_script, Given, admitted}
use Rattle.calls_scripts.specs.Held.{HeldAs, no_part, no_progress, first_no, refused_script}

-- a script that was read is held
pub held_as : (file t : List ℕ) (l : Loaded) (ranges : List (List ℤ)) → Given file t l ranges → (script : Script) → read_script file t l ranges ≡ script → HeldAs file script l.count t
unfolding script_of
held_as file t l ranges g script e = record { size = g.size; rows = ap (λ (s : Script). s.rows) (sym e); written = g.written; table = g.table }

-- one script's answer
module _ (h : ScriptPart) where
  enters_no : (j : Judged) (rest : Readiness) (q p : ℕ) → admitted j h.store ≡ Refused q p → enters j h rest ≡ Readiness.refuses q p
  unfolding enters joins
  enters_no (accepted script) rest q p e = rw e
  enters_no (Judged.refuses n k) rest q p e = let (a, b) : (n ≡ q) × (k ≡ p) = ((cc), (cc)) in cc

  enters_later : (j : Judged) (q p : ℕ) → admitted j h.store ≡ Passed → enters j h (Readiness.refuses q p) ≡ Readiness.refuses q p
  unfolding enters joins
  enters_later (accepted script) q p e = rw e
  enters_later (Judged.refuses n k) q p e = absurd (let z : ◌≡◌ {A = ℕ} 0 1 = cc in omega arith)

  enters_yes : (j : Judged) (ps : List Progress) → admitted j h.store ≡ Passed → (qs : List Progress) × (enters j h (ready ps) ≡ ready qs)
  unfolding enters joins
  enters_yes (accepted script) ps e = (beginning script h.store h.picks ∷ ps, rw e)
  enters_yes (Judged.refuses n k) ps e = absurd (let z : ◌≡◌ {A = ℕ} 0 1 = cc in omega arith)

module _ (prices : List ℕ) where
  -- its own questions
  abbrev pub answer_to : ScriptPart → Verdict
  answer_to h = admitted (judged prices scratch_size h.file) h.store

  pub cast_no : (hs : List ScriptPart) (k : ℕ) → k < length hs → ((j : ℕ) → j < k → answer_to (get_or hs j no_part) ≡ Passed) → (q p : ℕ) → answer_to (get_or hs k no_part) ≡ Refused q p
      → readiness prices scratch_size hs ≡ Readiness.refuses q p
  unfolding readiness
  cast_no [] k l f q p e = absurd (omega arith)
  cast_no (h ∷ hs) zero l f q p e = enters_no h _ (readiness prices scratch_size hs) q p e
  cast_no (h ∷ hs) (suc k) l f q p e =
      ap (enters (judged prices scratch_size h.file) h) (cast_no hs k (omega arith) (λ j m. f (suc j) (omega arith)) q p e) ∙ enters_later h _ q p (f 0 (omega arith))

  pub cast_yes : (hs : List ScriptPart) → ((j : ℕ) → j < length hs → answer_to (get_or hs j no_part) ≡ Passed) → (ps : List Progress) × (readiness prices scratch_size hs ≡ ready ps)
  unfolding readiness
  cast_yes [] f = ([], refl)
  cast_yes (h ∷ hs) f =
      let (ps, e) = cast_yes hs (λ j m. f (suc j) (omega arith)) in
      let (qs, d) = enters_yes h (judged prices scratch_size h.file) ps (f 0 (omega arith)) in
      (qs, ap (enters (judged prices scratch_size h.file) h) e ∙ d)

  -- which one is refused
  pub which_no : (hs : List ScriptPart) (k : ℕ) → k < length hs → ((j : ℕ) → j < k → answer_to (get_or hs j no_part) ≡ Passed) → (q p : ℕ) → answer_to (get_or hs k no_part) ≡ Refused q p → refused_script prices hs ≡ suc k
  unfolding refused_script first_no
  which_no [] k l f q p e = absurd (omega arith)
  which_no (h ∷ hs) zero l f q p e = ap (λ v. first_no v (refused_script prices hs)) e
  which_no (h ∷ hs) (suc k) l f q p e = λ i. first_no (f 0 (omega arith) i) (which_no hs k (omega arith) (λ j m. f (suc j) (omega arith)) q p e i)

  pub which_none : (hs : List ScriptPart) → ((j : ℕ) → j < length hs → answer_to (get_or hs j no_part) ≡ Passed) → refused_script prices hs ≡ 0
  unfolding refused_script first_no
  which_none [] f = refl
  which_none (h ∷ hs) f = λ i. first_no (f 0 (omega arith) i) (which_none hs (λ j m. f (suc j) (omega arith)) i)

  -- 1 and 16 have yes
  pub judged_file_lem : Priced prices → (file : List ℕ) → judged prices scratch_size file ≡ judged_file (prices_of prices) (file_script file)
  unfolding judged judged_priced
  judged_file_lem priced file = ap (λ v. judged_priced prices v file) priced

-- script j of those that play
pub record Plays (prices : List ℕ) (scratch : ℕ) (h : ScriptPart) (p : Progress) : Type 0 where
  pub yes_13 : judged prices scratch h.file ≡ accepted p.script
  pub yes_15 : store_verdict 0 p.script.ranges h.store ≡ Passed
  pub is : p ≡ beginning p.script h.store h.picks

pub plays_at : {prices : List ℕ} {scratch : ℕ} {hs : List ScriptPart} {ps : List Progress} → Accepts prices scratch hs ps → (j : ℕ) → j < length hs → Plays prices scratch (get_or hs j no_part) (get_or ps j no_progress)
plays_at Accepts.none j l = absurd (omega arith)
plays_at (Accepts.some a b rest) zero l = record { yes_13 = a; yes_15 = b; is = refl }
plays_at (Accepts.some a b rest) (suc j) l = plays_at rest j (omega arith)

pub plays_all : {prices : List ℕ} {scratch : ℕ} {hs : List ScriptPart} {ps : List Progress} → Accepts prices scratch hs ps → length ps ≡ length hs
plays_all Accepts.none = refl
plays_all (Accepts.some a b rest) = ap suc (plays_all rest)
