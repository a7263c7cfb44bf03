-- The parts of the sheet's text, and how long they are. Assumes nothing.
use mathlib.Core.Path.{◌≡◌, refl, sym, ap, subst, ◌∙◌}
use mathlib.Core.Bool.{Bool, true, false, cond}
use mathlib.Core.List.{List, [], ◌∷◌, ◌++◌, append_assoc, append-nil}
use Prim.Native.Nat.{ℕ, zero, suc, ◌+◌, ◌*◌, ◌-◌, ◌≤◌, ◌<◌}
use native.Mathlib.Numerals.{add-one}
use native.Mathlib.Omega.{arith}
use lib.Dec.{eqb}
use lib.ListN.{length, get_or, length-append}
use borrow.Rule.Slice.PartMut.{mid_of, put_mid}
use borrow.Author.Tests.{eq-eqb, ne_eqb}
use Rattle.rules.specs.Report.{decimal, joined, key_line, ticks_key, newline, gap}
use Rattle.rules.specs.Calls.{Judged}
use Rattle.rules_season.specs.Season as season
use Rattle.rules_season.specs.Season.{accepted_key, refused_word, refused_key, number_key, greatest_key, groups_key, number_lines, sheet_text, refusal_text, sheet_of}
use Rattle.rules.proofs.LongestReport.{decimal_short, key_short}
use Rattle.report.specs.Pieces.{Wrote}
use Rattle.report.proofs.PiecesLaws.{joined_append, wrote_nothing, wrote_then, wrote_length}
use Rattle.season_sheet.specs.declared.sheet.Sheet.{Sheet}
use Rattle.season_sheet.specs.Figures.{figures_of, SheetIs, front_text, met_text, numbers_text, tail_text, SheetWritten}

-- a key and a number, and a line of another key and number
pub pair_short : (first second : List ℕ) (x y : ℕ) → length ((first ++ decimal x) ++ key_line second y) ≤ length first + length second + 41
pair_short first second x y = simp length-append (omega (arith, decimal_short x, key_short second y))

-- the line of a refusal number, and the refusal of the whole list
pub number_line : (q n : ℕ) → key_line (number_key q) n ≡ ((refused_word ++ (45 ∷ [])) ++ decimal q) ++ key_line (61 ∷ []) n
unfolding key_line joined
number_line q n = ap (λ (l : List ℕ). refused_word ++ (45 ∷ l)) (append_assoc (decimal q) (61 ∷ []) (decimal n ++ (newline ++ [])))

pub refusal_line : refusal_text 18 0 ≡ (refused_key ++ decimal 18) ++ key_line gap 0
unfolding refusal_text key_line joined
refusal_line = sym (append_assoc refused_key (decimal 18) (gap ++ (decimal 0 ++ (newline ++ []))))

pub met_none : (q n : ℕ) → n ≡ 0 → met_text q n ≡ []
unfolding met_text
met_none q n e = rw (eq-eqb n 0 e)

pub met_some : (q n : ℕ) → (n ≡ 0 → ⊥) → met_text q n ≡ ((refused_word ++ (45 ∷ [])) ++ decimal q) ++ key_line (61 ∷ []) n
unfolding met_text
met_some q n e = ap (λ b. cond b [] (key_line (number_key q) n)) (ne_eqb n 0 e) ∙ number_line q n

met_short : (q n : ℕ) → length (met_text q n) ≤ 50
unfolding met_text
met_short q n = by (eqb n 0) (omega (arith, pair_short (refused_word ++ (45 ∷ [])) (61 ∷ []) q n, ap length (number_line q n)))
  where
    by : (b : Bool) → length (key_line (number_key q) n) ≤ 50 → length (cond b [] (key_line (number_key q) n)) ≤ 50
    by true h = omega arith
    by false h = h

-- the next number's line, and those after it
number_step : (m q : ℕ) (f : ℕ → ℕ) → joined (number_lines (suc m) q f) ≡ met_text q (f q) ++ joined (number_lines m (suc q) f)
unfolding number_lines met_text joined
number_step m q f = by (eqb (f q) 0)
  where
    by : (b : Bool) → joined (cond b (number_lines m (suc q) f) (key_line (number_key q) (f q) ∷ number_lines m (suc q) f)) ≡ cond b [] (key_line (number_key q) (f q)) ++ joined (number_lines m (suc q) f)
    by true = refl
    by false = refl

numbers_most : (m q : ℕ) (f : ℕ → ℕ) → length (joined (number_lines m q f)) ≤ 50 * m
unfolding number_lines joined
numbers_most zero q f = omega arith
numbers_most (suc m) q f = omega (arith, ap length (number_step m q f), length-append (met_text q (f q)) (joined (number_lines m (suc q) f)), met_short q (f q), numbers_most m (suc q) f)

numbers_short : (f : ℕ → ℕ) → length (numbers_text f) ≤ 1_000
unfolding numbers_text
numbers_short f = numbers_most 20 1 f

-- the numbers before q are written
pub record Numbering (f : ℕ → ℕ) (old new : List ℕ) (at q : ℕ) : Type 0 where
  pub from : 1 ≤ q
  pub within : q ≤ 21
  pub same : length new ≡ length old
  pub small : at + 50 ≤ 50 * q
  pub front : List ℕ
  pub wrote : Wrote front old new at
  pub rest : front ++ joined (number_lines (21 - q) q f) ≡ joined (number_lines 20 1 f)

pub numbering_none : (f : ℕ → ℕ) (old : List ℕ) → Numbering f old old 0 1
numbering_none f old = record { from = omega arith; within = omega arith; same = refl; small = omega arith; front = []; wrote = wrote_nothing old; rest = refl }

pub numbering_more : (f : ℕ → ℕ) (old new ys : List ℕ) (at q n : ℕ) → Numbering f old new at q → q < 21 → 1_000 ≤ length old → Wrote (met_text q (f q)) (mid_of at (length new - at) new) ys n
    → Numbering f old (put_mid at (length new - at) new ys) (at + n) (q + 1)
numbering_more f old new ys at q n h l room w = record {
  from = omega arith;
  within = omega arith;
  same = wrote_length _ _ _ _ (omega (arith, both.count, h.small, w.count, met_short q (f q))) both;
  small = omega (arith, h.small, w.count, met_short q (f q));
  front = h.front ++ met_text q (f q);
  wrote = both;
  rest = append_assoc h.front (met_text q (f q)) _ ∙ ap (λ t. h.front ++ t) (sym step) ∙ h.rest;
}
  where
    both : Wrote (h.front ++ met_text q (f q)) old (put_mid at (length new - at) new ys) (at + n)
    both = wrote_then _ _ old new ys at n h.wrote w

    step : joined (number_lines (21 - q) q f) ≡ met_text q (f q) ++ joined (number_lines (21 - (q + 1)) (q + 1) f)
    step =
        let a : 21 - q ≡ suc (20 - q) = omega arith in
        let b : 20 - q ≡ 21 - (q + 1) = omega arith in
        ap (λ m. joined (number_lines m q f)) a ∙ number_step (20 - q) q f ∙ (λ i. met_text q (f q) ++ joined (number_lines (b i) (sym (add-one q) i) f))

pub numbering_all : (f : ℕ → ℕ) (old new : List ℕ) (at q : ℕ) → Numbering f old new at q → 21 ≤ q → Wrote (numbers_text f) old new at
unfolding numbers_text number_lines joined
numbering_all f old new at q h l =
    let z : 21 - q ≡ 0 = omega (arith, h.within) in
    let e : h.front ≡ joined (number_lines 20 1 f) = sym (append-nil h.front) ∙ ap (λ m. h.front ++ joined (number_lines m q f)) (sym z) ∙ h.rest in
    subst (λ t. Wrote t old new at) e h.wrote

-- ---- the whole
pub front_short : (a r : ℕ) → length (front_text a r) ≤ 59
unfolding front_text
front_short a r = simp length-append (omega (arith, key_short accepted_key a, key_short refused_key r))

pub tail_short : (t g n : ℕ) → length (tail_text t g n) ≤ 85
unfolding tail_text joined
tail_short t g n = simp length-append (omega (arith, key_short ticks_key t, key_short greatest_key g, key_short groups_key n))

pub sheet_parts : (s : season.Sheet) → sheet_text s ≡ joined (front_text s.accepted s.refused ∷ (numbers_text s.counts ∷ (tail_text s.ticks s.greatest s.groups ∷ [])))
unfolding sheet_text front_text numbers_text tail_text joined
sheet_parts s = ap (λ l. key_line accepted_key s.accepted ++ (key_line refused_key s.refused ++ l)) (joined_append (number_lines 20 1 s.counts) _ ∙ ap (λ l. joined (number_lines 20 1 s.counts) ++ l) (sym (append-nil _)))
    ∙ sym (append_assoc (key_line accepted_key s.accepted) (key_line refused_key s.refused) _)

pub sheet_room : (s : season.Sheet) → length (joined (front_text s.accepted s.refused ∷ (numbers_text s.counts ∷ (tail_text s.ticks s.greatest s.groups ∷ [])))) ≤ 1_144
unfolding joined
sheet_room s = simp length-append (omega (arith, front_short s.accepted s.refused, numbers_short s.counts, tail_short s.ticks s.greatest s.groups))

-- the text of the figures is that of the files' sheet: only the numbers 1 to 20 are read
numbers_same : (m q : ℕ) (f g : ℕ → ℕ) → q + m ≤ 21 → ((k : ℕ) → k < 21 → f k ≡ g k) → number_lines m q f ≡ number_lines m q g
unfolding number_lines
numbers_same zero q f g h e = refl
numbers_same (suc m) q f g h e =
    let r = numbers_same m (suc q) f g (omega arith) e in
    let n = e q (omega arith) in
    λ i. cond (eqb (n i) 0) (r i) (key_line (number_key q) (n i) ∷ r i)

pub text_same : (js : List Judged) (s : Sheet) (counts : List ℕ) → SheetIs js s counts → sheet_text (figures_of s counts) ≡ sheet_text (sheet_of js)
unfolding sheet_text
text_same js s counts h =
    let n = numbers_same 20 1 (λ q. get_or counts q 0) (sheet_of js).counts (omega arith) h.numbers in
    λ i. joined (key_line accepted_key (h.accepts i) ∷ (key_line refused_key (h.refusals i) ∷ (n i ++ (key_line ticks_key (h.sum i) ∷ (key_line greatest_key (h.most i) ∷ (key_line groups_key (h.classes i) ∷ []))))))

pub told : (s : Sheet) (counts old new : List ℕ) (r : ℕ) → let f = figures_of s counts in
    Wrote (joined (front_text f.accepted f.refused ∷ (numbers_text f.counts ∷ (tail_text f.ticks f.greatest f.groups ∷ [])))) old new r → SheetWritten s counts old new r
told s counts old new r w =
    let f = figures_of s counts in
    let t : Wrote (sheet_text f) old new r = subst (λ l. Wrote l old new r) (sym (sheet_parts f)) w in
    record { text = t; season = λ js h. subst (λ l. Wrote l old new r) (text_same js s counts h) t; short = omega (arith, w.count, sheet_room f) }
