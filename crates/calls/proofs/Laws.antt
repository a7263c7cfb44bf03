-- The numbers of a line. Assumes nothing.
use mathlib.Core.Path.{◌≡◌, refl, sym, ◌∙◌, ap, subst}
use mathlib.Core.Bool.{true, false}
use mathlib.Core.List.{List, [], ◌∷◌, ◌++◌, map}
use Prim.Native.Nat.{ℕ, zero, suc, ◌+◌, ◌-◌, ◌≤◌, ◌<◌}
use native.Mathlib.Numerals.{add-one}
use native.Mathlib.Omega.{arith}
use lib.IntN.{ℤ, pos, negsuc}
use lib.ListN.{length, get_or, take, drop, set, length-set}
use lib.Seq.{take-suc, take-set-le, drop-cons, drop-set-lt, drop-drop, get_or-set_same}
use lib.Signed.{lt_z}
use Rattle.ints.proofs.Parts.{ints}
use Rattle.rules.specs.Report.{size, line_of, lines_of}
use Rattle.analysis_lines.specs.Coded.{line_in, lines_in, first_lines}
use Rattle.std.specs.Prelude.{Ok, Err}
use Rattle.rules.specs.Verdicts.{passed as Passed, refused as Refused}
use Rattle.rules.specs.Scripts.{Script}
use Rattle.analysis.specs.Whole.{AnalysisAnswer}
use Rattle.calls.specs.Held.{judged_script, FiguresFound}
use Rattle.calls.proofs.Judging.{judged_no, judged_yes}
use Rattle.calls.specs.Figures.{twos, line_numbers, LinesTold, FiguresAs}

pub twos_below : (z : ℤ) → lt_z z (pos 0) ≡ true → (n : ℕ) → n ≡ size z → (1 ≤ n) × (18_446_744_073_709_551_615 - (n - 1) ≡ twos z)
unfolding size twos
twos_below (pos n) t m e = absurd (omega (ints, t))
twos_below (negsuc n) t m e = (omega arith, ap (λ k. 18_446_744_073_709_551_615 - k) (omega arith))

pub twos_above : (z : ℤ) → lt_z z (pos 0) ≡ false → size z ≡ twos z
unfolding size twos
twos_above (pos n) t = refl
twos_above (negsuc n) t = absurd (omega (ints, t))

-- ---- the lines of a table
line_get : (l : List (List ℕ)) (k : ℕ) → get_or (lines_in l) k (line_in []) ≡ line_in (get_or l k [])
line_get [] k = refl
line_get (x ∷ l) zero = refl
line_get (x ∷ l) (suc k) = line_get l k

told_more : (l : List (List ℕ)) (k : ℕ) → k < length l → map line_numbers (first_lines l (suc k)) ≡ map line_numbers (first_lines l k) ++ (line_numbers (line_of (line_in (get_or l k []))) ∷ [])
unfolding lines_of
told_more [] k h = absurd (omega arith)
told_more (x ∷ l) zero h = refl
told_more (x ∷ l) (suc k) h = ap (λ (r : List (List ℕ)). line_numbers (line_of (line_in x)) ∷ r) (told_more l k (omega arith))

-- the first k lines are told
pub record Telling (k : ℕ) (old new : List (List ℕ)) : Type 0 where
  pub told : take k new ≡ map line_numbers (first_lines old k)
  pub rest : drop k new ≡ drop k old
  pub long : length new ≡ 16

pub tells_none : {old : List (List ℕ)} → length old ≡ 16 → Telling 0 old old
unfolding lines_of
tells_none e = record { told = refl; rest = refl; long = e }

pub tells_all : {k loops : ℕ} {old new : List (List ℕ)} → k ≡ loops → Telling k old new → LinesTold loops old new
tells_all {k} {loops} {old} {new} e h = subst (λ n. LinesTold n old new) e (record { told = h.told; rest = h.rest; long = h.long })

-- the line at k is still as it was
pub line_kept : {k : ℕ} {old new : List (List ℕ)} → k < 16 → length old ≡ 16 → Telling k old new → get_or (lines_in new) k (line_in []) ≡ line_in (get_or old k [])
line_kept {k} {old} {new} l e h =
    let a : get_or new k [] ∷ drop (suc k) new ≡ get_or old k [] ∷ drop (suc k) old
    = sym (drop-cons new k [] (omega (arith, h.long))) ∙ h.rest ∙ drop-cons old k [] (omega arith) in
    line_get new k ∙ ap line_in (ap (λ (z : List (List ℕ)). get_or z 0 []) a)

-- one more
pub tells_more : {k : ℕ} {old new : List (List ℕ)} (x : List ℕ) → k < 16 → length old ≡ 16 → x ≡ line_numbers (line_of (line_in (get_or old k []))) → Telling k old new → Telling (k + 1) old (set new k x)
tells_more {k} {old} {new} x l e q h = subst (λ n. Telling n old (set new k x)) (sym (add-one k)) (record {
  told = take-suc (set new k x) k [] (omega (arith, length-set new k x, h.long))
      ∙ (λ i. (take-set-le k new k x (omega arith) ∙ h.told) i ++ ((get_or-set_same new k x [] (omega (arith, h.long)) ∙ q) i ∷ [])) ∙ sym (told_more old k (omega arith));
  rest = drop-set-lt (suc k) new k x (omega arith) ∙ one_less new ∙ ap (drop 1) h.rest ∙ sym (one_less old);
  long = length-set new k x ∙ h.long;
})
  where
    one_less : (m : List (List ℕ)) → drop (suc k) m ≡ drop 1 (drop k m)
    one_less m = ap (λ n. drop n m) (sym (add-one k)) ∙ sym (drop-drop 1 k m)

-- ---- the figures of a script
first_length : (l : List (List ℕ)) (k : ℕ) → k ≤ length l → length (first_lines l k) ≡ k
unfolding lines_of
first_length l zero h = refl
first_length [] (suc k) h = absurd (omega arith)
first_length (x ∷ l) (suc k) h = ap suc (first_length l k (omega arith))

module _ (prices : List ℕ) (script : Script) (count : ℕ) (s : AnalysisAnswer) (ls : List (List ℕ)) (found : FiguresFound prices script count s ls) where
  pub figures_yes : s.verdict ≡ Passed → (vars : ℕ) → vars ≡ length script.ranges → (new : List (List ℕ)) → LinesTold s.loops ls new
      → FiguresAs prices (judged_script prices script) new (Ok (record { ticks = s.ticks; vars = vars; loops = s.loops }))
  figures_yes z vars e new h =
      let f = found.figures in
      subst (λ j. FiguresAs prices j new (Ok (record { ticks = s.ticks; vars = vars; loops = s.loops }))) (sym (judged_yes prices script count s ls found z))
      (f.ticks z, e, sym (first_length ls s.loops (omega (arith, f.loops z, f.long z))) ∙ ap length (f.lines z), h.told ∙ ap (map line_numbers) (f.lines z), h.long)

  pub figures_no : {q p : ℕ} → s.verdict ≡ Refused q p → (new : List (List ℕ)) → FiguresAs prices (judged_script prices script) new (Err (record { number = q; place = p }))
  figures_no {q} {p} z new =
      subst (λ j. FiguresAs prices j new (Err (record { number = q; place = p }))) (sym (judged_no prices script count s ls found z)) (refl, refl)
