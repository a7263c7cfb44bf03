-- The texts of numbers, variables, comparisons and names are read as these words, and no other texts are.
use mathlib.Core.Path.{◌≡◌, refl, sym, ◌∙◌, ap, subst}
use mathlib.Core.Logic.{◌≢◌}
use mathlib.Core.Bool.{Bool, true, false, not, cond, ◌&&◌}
use mathlib.Core.List.{List, [], ◌∷◌, ◌++◌, append_assoc, append-nil}
use Prim.Native.Nat.{ℕ, zero, suc, ◌+◌, ◌*◌, ◌-◌, ◌/◌, ◌%◌, ◌^◌, ◌≤◌, ◌<◌}
use native.Mathlib.Nat.{add-zero, pow-zero, pow-succ', pow-le-pow_right}
use native.Mathlib.Omega.{arith}
use lib.Dec.{T, ltb, leb, eqb, eqb-suc-zero, T_not, not_T, leb→le, ltb→lt, lt→ltb, nltb→le, eqb→eq}
use lib.IntN.{ℤ, pos, negsuc, neg_ℤ}
use lib.ListN.{length, drop}
use Rattle.ints.proofs.Diffs.{cond_elim, cond_true, cond_false, both, and_in}
use Rattle.rules.specs.declared.Comparison.{Comparison}
use Rattle.rules.specs.declared.Comparison.TheVariants.{Less, AtMost, Greater, AtLeast, Equal, Different}
use Rattle.rules.specs.declared.Name.{Name}
use Rattle.rules.specs.declared.Word.{Word}
use Rattle.rules.specs.declared.Word.TheVariants.{Missing, Number, Variable, Compares, Keyword, Other}
use Rattle.rules.specs.Text.{minus, letter_v, equals, is_digit, all_digits, value_from, is_natural, is_negative, is_variable, comparison_word, block_word, plain_word, word_of}
use Rattle.rules.specs.Report.{decimal_in, decimal, sign, size}
use Rattle.rules.specs.Readable.{TwentyDigits, DecimalValue, DecimalReads}
use Rattle.rules.specs.ScriptText.{number_text, variable_text, comparison_text, name_text}
use Rattle.rules.proofs.Readable.{decimal_value, decimal_natural, decimal_reads}

-- ---- tests
pub if_in : (a b : Bool) → T a → T b → T (cond a b false)
if_in true b h k = k
if_in false b h k = absurd h

pub if_yes : (a b : Bool) → T (cond a b false) → T a × T b
if_yes true b h = (tt, h)
if_yes false b h = absurd h

if_no : (a b : Bool) → T (cond a false b) → T (not a) × T b
if_no true b h = absurd h
if_no false b h = (tt, h)

-- ---- digits
pub digit_between : (b : ℕ) → T (is_digit b) → (48 ≤ b) × (b ≤ 57)
unfolding is_digit
digit_between b h = let (x, y) = both (leb 48 b) (leb b 57) h in (leb→le 48 b x, leb→le b 57 y)

decimal_digit : (k n : ℕ) → n < 10 → decimal_in (suc k) n ≡ (48 + n) ∷ []
unfolding decimal_in
decimal_digit k n h = cond_true (ltb n 10) _ _ (lt→ltb n 10 h)

decimal_more : (k m b : ℕ) → 1 ≤ m → 48 ≤ b → b ≤ 57 → decimal_in (suc k) (m * 10 + (b - 48)) ≡ decimal_in k m ++ (b ∷ [])
unfolding decimal_in
decimal_more k m b h lo hi =
    let n : ℕ = m * 10 + (b - 48) in
    let d : n / 10 ≡ m = omega arith in
    let r : 48 + n % 10 ≡ b = omega arith in
    cond_false (ltb n 10) _ _ (not_T (ltb n 10) (λ t. omega (arith, ltb→lt n 10 t))) ∙ λ i. decimal_in k (d i) ++ (r i ∷ [])

-- digits after the number m
value_back : (s : List ℕ) (k m : ℕ) → 1 ≤ m → T (all_digits s) → decimal_in (k + length s) (value_from m s) ≡ decimal_in k m ++ s
unfolding value_from all_digits
value_back [] k m h d = ap (λ j. decimal_in j m) (add-zero k) ∙ sym (append-nil (decimal_in k m))
value_back (b ∷ s) k m h d =
    let (t, u) = if_yes (is_digit b) (all_digits s) d in
    let (lo, hi) = digit_between b t in
    let n : ℕ = m * 10 + (b - 48) in
    let e : k + suc (length s) ≡ suc k + length s = omega arith in
    ap (λ j. decimal_in j (value_from n s)) e ∙ value_back s (suc k) n (omega arith) u ∙ ap (λ l. l ++ s) (decimal_more k m b h lo hi) ∙ append_assoc (decimal_in k m) (b ∷ []) s

value_large : (s : List ℕ) (k m : ℕ) → 10 ^ k ≤ m → 10 ^ (k + length s) ≤ value_from m s
unfolding value_from
value_large [] k m h = subst (λ j. 10 ^ j ≤ m) (sym (add-zero k)) h
value_large (b ∷ s) k m h =
    let e : k + suc (length s) ≡ suc k + length s = omega arith in
    subst (λ j. 10 ^ j ≤ value_from (m * 10 + (b - 48)) s) (sym e) (value_large s (suc k) (m * 10 + (b - 48)) (omega (arith, pow-succ' 10 k)))

few_digits : (n v : ℕ) → 10 ^ n ≤ v → TwentyDigits v → n < 20
few_digits n v h k = by (ltb n 20) (ltb→lt n 20) (nltb→le n 20)
  where
    by : (b : Bool) → (T b → n < 20) → (T (not b) → 20 ≤ n) → n < 20
    by true f g = f tt
    by false f g = let p : 10 ^ 20 ≤ 10 ^ n = pow-le-pow_right (omega arith) (g tt) in absurd (omega arith)

-- a text that is a number is the number's text
natural_text : (w : List ℕ) → T (is_natural w) → TwentyDigits (value_from 0 w) → w ≡ decimal (value_from 0 w)
unfolding is_natural decimal value_from all_digits
natural_text [] h k = absurd h
natural_text (b ∷ []) h k =
    let (lo, hi) = digit_between b h in
    let d : ℕ = 0 * 10 + (b - 48) in
    let e : 48 + d ≡ b = omega arith in
    sym (decimal_digit 19 d (omega arith) ∙ λ i. e i ∷ [])
natural_text (b ∷ (c ∷ s)) h k =
    let (nz, ds) = if_no (eqb b 48) (all_digits (b ∷ (c ∷ s))) h in
    let (t, u) = if_yes (is_digit b) (all_digits (c ∷ s)) ds in
    let (lo, hi) = digit_between b t in
    let ne : b ≢ 48 = λ e. T_not (eqb b 48) nz (subst (λ z. T (eqb z 48)) (sym e) tt) in
    let d : ℕ = 0 * 10 + (b - 48) in
    let one : 1 ≤ d = omega arith in
    let few : 0 + suc (length s) < 20 = few_digits (0 + suc (length s)) _ (value_large (c ∷ s) 0 d (omega (arith, pow-zero 10))) k in
    let j : ℕ = 19 - suc (length s) in
    let f : 20 ≡ suc j + suc (length s) = omega arith in
    let e : 48 + d ≡ b = omega arith in
    sym (ap (λ m. decimal_in m (value_from d (c ∷ s))) f ∙ value_back (c ∷ s) (suc j) d one u ∙ ap (λ l. l ++ (c ∷ s)) (decimal_digit j d (omega arith)) ∙ λ i. e i ∷ (c ∷ s))

-- ---- the text of a word
-- the text that a word has
abbrev pub Spelled : List ℕ → Word → Type 0
Spelled t Missing = ⊥
Spelled t (Number z) = TwentyDigits (size z) → t ≡ number_text z
Spelled t (Variable v) = TwentyDigits v → t ≡ variable_text v
Spelled t (Compares c) = t ≡ comparison_text c
Spelled t (Keyword n) = t ≡ name_text n
Spelled t Other = Unit {0}

equals_same : (k w : List ℕ) → T (equals k w) → w ≡ k
unfolding equals
equals_same [] [] h = refl
equals_same [] (b ∷ s) h = absurd h
equals_same (k ∷ w) [] h = absurd h
equals_same (k ∷ w) (b ∷ s) h = let (e, t) = if_yes (eqb b k) (equals w s) h in λ i. eqb→eq b k e i ∷ equals_same w s t i

module _ (t : List ℕ) where
  comparison : (c : Comparison) (rest : Word) → Spelled t rest → Spelled t (cond (equals (comparison_text c) t) (Compares c) rest)
  comparison c rest g = cond_elim (Spelled t) (equals (comparison_text c) t) (Compares c) rest (equals_same (comparison_text c) t) (λ _. g)

  keyword : (n : Name) (rest : Word) → Spelled t rest → Spelled t (cond (equals (name_text n) t) (Keyword n) rest)
  keyword n rest g = cond_elim (Spelled t) (equals (name_text n) t) (Keyword n) rest (equals_same (name_text n) t) (λ _. g)

  comparison_spelled : Spelled t (comparison_word t)
  unfolding comparison_word comparison_text
  comparison_spelled =
      comparison Less _ (comparison AtMost _ (comparison Greater _ (comparison AtLeast _ (comparison Equal _ (comparison Different Other tt)))))

  block_spelled : Spelled t (block_word t)
  unfolding block_word name_text
  block_spelled =
      keyword Name.For _ (keyword Name.While _ (keyword Name.Do _ (keyword Name.End _ (keyword Name.Else _ (keyword Name.Pick _ (keyword Name.Hold _ comparison_spelled))))))

  plain_spelled : Spelled t (plain_word t)
  unfolding plain_word name_text
  plain_spelled =
      keyword Name.Set _ (keyword Name.Add _ (keyword Name.Sub _ (keyword Name.Mul _ (keyword Name.Div _ (keyword Name.Cue _ (keyword Name.Off _ block_spelled))))))

natural_spelled : (t : List ℕ) → T (is_natural t) → Spelled t (Number (pos (value_from 0 t)))
unfolding number_text sign size
natural_spelled t h = natural_text t h

negative_spelled : (t : List ℕ) → T (is_negative t) → Spelled t (Number (neg_ℤ (pos (value_from 0 (drop 1 t)))))
unfolding is_negative number_text sign size
negative_spelled [] h = absurd h
negative_spelled (b ∷ s) h =
    let (e, x) = if_yes (eqb b minus) _ h in
    let (n, y) = if_yes (is_natural s) _ x in
    by (value_from 0 s) refl (eqb→eq b minus e) n y
  where
    by : (v : ℕ) → value_from 0 s ≡ v → b ≡ minus → T (is_natural s) → T (not (eqb v 0)) → Spelled (b ∷ s) (Number (neg_ℤ (pos v)))
    by zero q e n y = absurd y
    by (suc v) q e n y = λ k i. e i ∷ (natural_text s n (subst TwentyDigits (sym q) k) ∙ ap decimal q) i

variable_spelled : (t : List ℕ) → T (is_variable t) → Spelled t (Variable (value_from 0 (drop 1 t)))
unfolding is_variable variable_text
variable_spelled [] h = absurd h
variable_spelled (b ∷ s) h = let (e, n) = if_yes (eqb b letter_v) (is_natural s) h in λ k i. eqb→eq b letter_v e i ∷ natural_text s n k i

-- a text that is read as a word is the word's text
pub spelled : (t : List ℕ) → Spelled t (word_of t)
unfolding word_of
spelled t =
    cond_elim (Spelled t) (is_natural t) _ _ (natural_spelled t) λ _.
    cond_elim (Spelled t) (is_negative t) _ _ (negative_spelled t) λ _.
    cond_elim (Spelled t) (is_variable t) _ _ (variable_spelled t) λ _. plain_spelled t

-- ---- and is read as that word
no_natural : (b : ℕ) (s : List ℕ) → T (not (is_digit b)) → T (not (is_natural (b ∷ s)))
unfolding is_natural all_digits
no_natural b [] h = h
no_natural b (c ∷ s) h = by (eqb b 48) (is_digit b) (all_digits (c ∷ s)) h
  where
    by : (x y z : Bool) → T (not y) → T (not (cond x false (cond y z false)))
    by true y z h = tt
    by false true z h = absurd h
    by false false z h = tt

pub number_reads : (z : ℤ) → TwentyDigits (size z) → word_of (number_text z) ≡ Number z
unfolding number_text sign size DecimalReads DecimalValue word_of is_negative is_digit
number_reads (pos n) h = decimal_reads n h
number_reads (negsuc n) h =
    let d : List ℕ = decimal (suc n) in
    let v : value_from 0 d ≡ suc n = decimal_value (suc n) h in
    let nz : T (not (eqb (value_from 0 d) 0)) = subst (λ x. T (not (eqb x 0))) (sym v) (subst (λ b. T (not b)) (sym (eqb-suc-zero n)) tt) in
    cond_false (is_natural (minus ∷ d)) _ _ (no_natural minus d tt)
    ∙ cond_true (cond (is_natural d) (not (eqb (value_from 0 d) 0)) false) _ _ (if_in (is_natural d) _ (decimal_natural (suc n) h) nz)
    ∙ ap (λ x. Number (neg_ℤ (pos x))) v

pub variable_reads : (v : ℕ) → TwentyDigits v → word_of (variable_text v) ≡ Variable v
unfolding variable_text DecimalValue word_of is_negative is_variable is_digit
variable_reads v h =
    cond_false (is_natural (letter_v ∷ decimal v)) _ _ (no_natural letter_v (decimal v) tt)
    ∙ cond_true (is_natural (decimal v)) _ _ (decimal_natural v h) ∙ ap Variable (decimal_value v h)

pub comparison_reads : (c : Comparison) → word_of (comparison_text c) ≡ Compares c
unfolding comparison_text word_of is_natural all_digits is_digit is_negative is_variable plain_word block_word comparison_word equals
comparison_reads Less = refl
comparison_reads AtMost = refl
comparison_reads Greater = refl
comparison_reads AtLeast = refl
comparison_reads Equal = refl
comparison_reads Different = refl

pub name_reads : (n : Name) → word_of (name_text n) ≡ Keyword n
unfolding name_text word_of is_natural all_digits is_digit is_negative is_variable plain_word block_word equals
name_reads Name.Set = refl
name_reads Name.Add = refl
name_reads Name.Sub = refl
name_reads Name.Mul = refl
name_reads Name.Div = refl
name_reads Name.Off = refl
name_reads Name.Cue = refl
name_reads Name.Pick = refl
name_reads Name.Else = refl
name_reads Name.End = refl
name_reads Name.While = refl
name_reads Name.Do = refl
name_reads Name.For = refl
name_reads Name.Hold = refl

-- ---- no byte of a word is a space or LF
-- each byte is over b
abbrev pub above : ℕ → List ℕ → Bool
above b [] = true
above b (x ∷ s) = ltb b x && above b s

pub above_append : (b : ℕ) (s t : List ℕ) → T (above b s) → T (above b t) → T (above b (s ++ t))
above_append b [] t h k = k
above_append b (x ∷ s) t h k = let (p, q) = both (ltb b x) (above b s) h in and_in (ltb b x) (above b (s ++ t)) p (above_append b s t q k)

pub above_less : (a b : ℕ) (s : List ℕ) → a ≤ b → T (above b s) → T (above a s)
above_less a b [] l h = tt
above_less a b (x ∷ s) l h =
    let (p, q) = both (ltb b x) (above b s) h in
    and_in (ltb a x) (above a s) (lt→ltb a x (omega (arith, ltb→lt b x p))) (above_less a b s l q)

pub natural_digits : (w : List ℕ) → T (is_natural w) → T (all_digits w)
unfolding is_natural all_digits
natural_digits [] h = absurd h
natural_digits (b ∷ []) h = if_in (is_digit b) true h tt
natural_digits (b ∷ (c ∷ s)) h = (if_no (eqb b 48) _ h).1

digits_above : (s : List ℕ) → T (all_digits s) → T (above 32 s)
unfolding all_digits
digits_above [] h = tt
digits_above (b ∷ s) h =
    let (t, u) = if_yes (is_digit b) (all_digits s) h in
    and_in (ltb 32 b) (above 32 s) (lt→ltb 32 b (omega (arith, digit_between b t))) (digits_above s u)

pub decimal_above : (n : ℕ) → TwentyDigits n → T (above 32 (decimal n))
decimal_above n h = digits_above (decimal n) (natural_digits (decimal n) (decimal_natural n h))

pub number_above : (z : ℤ) → TwentyDigits (size z) → T (above 32 (number_text z))
unfolding number_text sign size
number_above (pos n) h = decimal_above n h
number_above (negsuc n) h = decimal_above (suc n) h

pub variable_above : (v : ℕ) → TwentyDigits v → T (above 32 (variable_text v))
unfolding variable_text
variable_above v h = decimal_above v h

pub comparison_above : (c : Comparison) → T (above 32 (comparison_text c))
unfolding comparison_text
comparison_above Less = tt
comparison_above AtMost = tt
comparison_above Greater = tt
comparison_above AtLeast = tt
comparison_above Equal = tt
comparison_above Different = tt

pub name_above : (n : Name) → T (above 32 (name_text n))
unfolding name_text
name_above Name.Set = tt
name_above Name.Add = tt
name_above Name.Sub = tt
name_above Name.Mul = tt
name_above Name.Div = tt
name_above Name.Off = tt
name_above Name.Cue = tt
name_above Name.Pick = tt
name_above Name.Else = tt
name_above Name.End = tt
name_above Name.While = tt
name_above Name.Do = tt
name_above Name.For = tt
name_above Name.Hold = tt
