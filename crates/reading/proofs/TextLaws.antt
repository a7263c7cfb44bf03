-- Laws of words and of numbers of any length. Assumes nothing.
use mathlib.Core.Path.{◌≡◌, refl, sym, ap, ◌∙◌}
use mathlib.Core.Bool.{Bool, true, false, not, cond, ◌&&◌}
use mathlib.Core.List.{List, [], ◌∷◌}
use Prim.Native.Nat.{ℕ, zero, suc, ◌+◌, ◌*◌, ◌-◌, ◌≤◌, ◌<◌, min}
use native.Mathlib.Omega.{arith}
use lib.ListN.{length, get_or, take, drop, drop_of_length-le, length-drop}
use lib.Seq.{drop-cons, take_all, length-take-le, get_or-take}
use lib.Dec.{eqb, leb, ltb}
use lib.IntN.{pos, neg_ℤ}
use borrow.Author.Tests.{eq-eqb, ne_eqb, eqb-true, eqb-false, leb-true, leb-false, ltb-false}
use Rattle.rules.specs.declared.Word.{Word}
use Rattle.rules.specs.declared.Word.TheVariants.{Number, Variable, Other}
use Rattle.rules.specs.Text.{prefixed, split, starts_with, equals, is_digit, all_digits, value_from, is_natural, is_negative, is_variable, comparison_word, block_word, plain_word, word_of}
use Rattle.std.specs.Prelude.{Option, None, Some}
use Rattle.std.specs.List.{position_or_len, position}
use Rattle.std.specs.Option.{unwrap_or}
use Rattle.std.specs.Cmp.Lexicographic.{pointwise}
use Rattle.std.proofs.lemmas.List.Recursion.{is_position_or_len}
use Rattle.std.proofs.lemmas.List.Sums.{prefix_len-le-length}
use Rattle.rules.proofs.Laws.{no_true}
use Rattle.expressions.specs.declared.leaves.Digits.{Digits}
use Rattle.reading.specs.declared.text.Tag.{Tag}
use Rattle.expressions.specs.Leaves.{ceiling, cut_z, digit_count, digit_value, DigitsAt}
use Rattle.reading.specs.Words.{before, marks, stops, stop, front, cut_word, natural_of, Reads}
use Rattle.expressions.proofs.LeavesLaws.{count_within, digit_low, natural_yes, natural_not, natural_zero, natural_none}

-- the part &s[a..]
pub part_rest : (s : List ℕ) (a : ℕ) → take (length s - a) (drop a s) ≡ drop a s
part_rest s a = take_all (length s - a) (drop a s) (simp length-drop (omega arith))

-- ---- where a byte stands
pub before_position : (b : ℕ) (s : List ℕ) → before b s ≡ position_or_len (λ x. eqb x b) s
unfolding before
before_position b s = is_position_or_len (before b) (λ x. eqb x b) refl (λ x s. ap (λ (n : ℕ). cond (eqb x b) 0 n) (omega arith)) s

pub stop_position : (s : List ℕ) → stop s ≡ position_or_len stops s
unfolding stop
stop_position s = is_position_or_len stop stops refl (λ x s. ap (λ (n : ℕ). cond (stops x) 0 n) (omega arith)) s

-- a place that was found, or the length
pub position_found : (p : ℕ → Bool) (s : List ℕ) (r : Option ℕ) → r ≡ position p s → unwrap_or r (length s) ≡ position_or_len p s
position_found p s r e = rw e (by (ltb (position_or_len p s) (length s)) refl)
  where
    by : (t : Bool) → ltb (position_or_len p s) (length s) ≡ t → unwrap_or (cond {A = Option ℕ} t (Some (position_or_len p s)) None) (length s) ≡ position_or_len p s
    by true f = refl
    by false f = omega (arith, ltb-false (position_or_len p s) (length s) f, prefix_len-le-length (λ x. not (p x)) s)

-- ---- where a word ends
pub stop_here : (s : List ℕ) (i : ℕ) → i < length s → stops (get_or s i 0) ≡ true → stop (drop i s) ≡ 0
unfolding stop
stop_here s i h e = rw (drop-cons s i 0 h, e)

pub stop_on : (s : List ℕ) (i : ℕ) → i < length s → stops (get_or s i 0) ≡ false → stop (drop i s) ≡ suc (stop (drop (suc i) s))
unfolding stop
stop_on s i h e = rw (drop-cons s i 0 h, e)

pub stop_end : (s : List ℕ) (i : ℕ) → length s ≤ i → stop (drop i s) ≡ 0
unfolding stop
stop_end s i h = rw (drop_of_length-le s)

pub stop_within : (s : List ℕ) → stop s ≤ length s
unfolding stop
stop_within [] = omega arith
stop_within (x ∷ s) = go (stops x) (stop_within s)
  where
    go : (t : Bool) → stop s ≤ length s → cond t 0 (suc (stop s)) ≤ suc (length s)
    go true h = omega arith
    go false h = omega arith

pub front_length : (s : List ℕ) → length (front s) ≡ stop s
unfolding front
front_length s = length-take-le _ _ (stop_within s)

pub front_at : (s : List ℕ) (i : ℕ) → i < stop s → get_or (front s) i 0 ≡ get_or s i 0
unfolding front
front_at s i h = get_or-take (stop s) s i 0 h

-- a word without its first byte
pub front_rest : (s : List ℕ) → 0 < stop s → front (drop 1 s) ≡ drop 1 (front s)
unfolding front stop
front_rest [] h = absurd (omega arith)
front_rest (x ∷ s) h = go (stops x) h
  where
    go : (t : Bool) → 0 < cond t 0 (suc (stop s)) → take (stop s) s ≡ drop 1 (take (cond t 0 (suc (stop s))) (x ∷ s))
    go true k = absurd (omega arith)
    go false k = refl

pub digit_on : (b : ℕ) → is_digit b ≡ true → stops b ≡ false
unfolding stops
digit_on b e = let h = digit_low b e in rw (ne_eqb b 32 (λ (x : b ≡ 32). omega arith)) (ne_eqb b 10 (λ (x : b ≡ 10). omega arith))

-- the first part, and the parts after it
pub split_more : (b : ℕ) (s : List ℕ) → before b s < length s → split b s ≡ take (before b s) s ∷ split b (drop (suc (before b s)) s)
unfolding before split
split_more b [] h = absurd (omega arith)
split_more b (x ∷ s) h = go (eqb x b) (λ k. split_more b s k) h
  where
    go : (t : Bool) → (before b s < length s → split b s ≡ take (before b s) s ∷ split b (drop (suc (before b s)) s))
        → cond t 0 (suc (before b s)) < suc (length s)
        → cond t ([] ∷ split b s) (prefixed x (split b s))
        ≡ take (cond t 0 (suc (before b s))) (x ∷ s) ∷ split b (drop (suc (cond t 0 (suc (before b s)))) (x ∷ s))
    go true ih k = refl
    go false ih k = ap (prefixed x) (ih (omega arith)) ∙ unfold prefixed in refl

pub split_last : (b : ℕ) (s : List ℕ) → length s ≤ before b s → split b s ≡ s ∷ []
unfolding before split prefixed
split_last b [] h = refl
split_last b (x ∷ s) h = go (eqb x b) (λ k. split_last b s k) h
  where
    go : (t : Bool) → (length s ≤ before b s → split b s ≡ s ∷ []) → suc (length s) ≤ cond t 0 (suc (before b s))
        → cond t ([] ∷ split b s) (prefixed x (split b s)) ≡ (x ∷ s) ∷ []
    go true ih k = absurd (omega arith)
    go false ih k = ap (prefixed x) (ih (omega arith))

-- ---- keys
pub starts_same : (w s : List ℕ) → pointwise eqb w (take (length w) s) ≡ starts_with w s
unfolding starts_with
starts_same [] s = refl
starts_same (k ∷ w) [] = refl
starts_same (k ∷ w) (b ∷ s) = by (starts_same w s) (eqb k b) (eqb b k) refl refl
  where
    by : pointwise eqb w (take (length w) s) ≡ starts_with w s → (t u : Bool) → eqb k b ≡ t → eqb b k ≡ u → t && pointwise eqb w (take (length w) s) ≡ cond u (starts_with w s) false
    by i true true e f = i
    by i true false e f = absurd (eqb-false b k f (sym (eqb-true k b e)))
    by i false true e f = absurd (eqb-false k b e (sym (eqb-true b k f)))
    by i false false e f = refl

-- ---- digits, one after the other
pub all_more : (s : List ℕ) (i : ℕ) → i < length s → is_digit (get_or s i 0) ≡ true → all_digits (drop i s) ≡ all_digits (drop (suc i) s)
unfolding all_digits
all_more s i h d = rw (drop-cons s i 0, d)

pub all_stop : (s : List ℕ) (i : ℕ) → i < length s → is_digit (get_or s i 0) ≡ false → all_digits (drop i s) ≡ false
unfolding all_digits
all_stop s i h d = rw (drop-cons s i 0, d)

pub all_end : (s : List ℕ) (i : ℕ) → length s ≤ i → all_digits (drop i s) ≡ true
unfolding all_digits
all_end s i h = rw (drop_of_length-le s)

pub value_more : (s : List ℕ) (i a : ℕ) → i < length s → value_from a (drop i s) ≡ value_from (a * 10 + (get_or s i 0 - 48)) (drop (suc i) s)
unfolding value_from
value_more s i a h = rw (drop-cons s i 0)

pub value_end : (s : List ℕ) (i a : ℕ) → length s ≤ i → value_from a (drop i s) ≡ a
unfolding value_from
value_end s i a h = rw (drop_of_length-le s)

-- ---- digits up to a space or an LF
at_stop : List ℕ → Bool
at_stop [] = true
at_stop (b ∷ s) = stops b

at_place : (s : List ℕ) (i : ℕ) → i < length s → at_stop (drop i s) ≡ stops (get_or s i 0)
unfolding at_stop
at_place s i h = rw (drop-cons s i 0 h)

at_end : (s : List ℕ) (i : ℕ) → length s ≤ i → at_stop (drop i s) ≡ true
unfolding at_stop
at_end s i h = rw (drop_of_length-le s h)

record Ended (u : List ℕ) : Type 0 where
  all : all_digits (front u) ≡ true
  long : stop u ≡ digit_count u
  value : (n : ℕ) → value_from n (front u) ≡ digit_value n u

ended : (u : List ℕ) → at_stop (drop (digit_count u) u) ≡ true → Ended u
unfolding at_stop digit_count digit_value stop front all_digits value_from
ended [] h = record { all = refl; long = refl; value = λ n. refl }
ended (b ∷ s) h = by (ended s) (is_digit b) refl h
  where
    by : (at_stop (drop (digit_count s) s) ≡ true → Ended s) → (d : Bool) → is_digit b ≡ d → at_stop (drop (cond d (suc (digit_count s)) 0) (b ∷ s)) ≡ true → Ended (b ∷ s)
    by f true e k =
        let m = digit_on b e in
        let i = f k in
        record { all = rw (m, e) i.all; long = rw (m, e) (ap suc i.long); value = λ n. rw (m, e) (i.value (n * 10 + (b - 48))) }
    by f false e k = record { all = rw k; long = rw (k, e); value = λ n. rw (k, e) }

stopped : (u : List ℕ) → at_stop (drop (digit_count u) u) ≡ false → all_digits (front u) ≡ false
unfolding at_stop digit_count stop front all_digits
stopped [] h = no_true (sym h)
stopped (b ∷ s) h = by (stopped s) (is_digit b) refl h
  where
    by : (at_stop (drop (digit_count s) s) ≡ false → all_digits (front s) ≡ false) → (d : Bool) → is_digit b ≡ d → at_stop (drop (cond d (suc (digit_count s)) 0) (b ∷ s)) ≡ false → all_digits (front (b ∷ s)) ≡ false
    by f true e k = rw (digit_on b e, e) (f k)
    by f false e k = rw (k, e)

-- what was found of the word at the front
no_digits : (s : List ℕ) → is_natural s ≡ false → None ≡ natural_of s
unfolding natural_of
no_digits s e = rw e

module _ (s : List ℕ) (d : Digits) (h : DigitsAt s 0 d) where
  count : d.next ≡ digit_count s
  count = omega (arith, h.next)

  ends_at : (d.next < length s → stops (get_or s d.next 0) ≡ true) → at_stop (drop (digit_count s) s) ≡ true
  ends_at f = ap (λ n. at_stop (drop n s)) (sym count) ∙ by (leb (length s) d.next) refl
    where
      by : (t : Bool) → leb (length s) d.next ≡ t → at_stop (drop d.next s) ≡ true
      by true e = at_end s d.next (leb-true (length s) d.next e)
      by false e = let l = leb-false (length s) d.next e in at_place s d.next l ∙ f l

  pub natural_within : (d.next ≡ 0 → ⊥) → 0 < length s
  natural_within f = count_within s 0 (omega (arith, count))

  pub natural_stopped : d.next < length s → stops (get_or s d.next 0) ≡ false → None ≡ natural_of (front s)
  natural_stopped l e = no_digits (front s) (natural_not (front s) (stopped s (ap (λ n. at_stop (drop n s)) (sym count) ∙ at_place s d.next l ∙ e)))

  pub natural_absent : d.next ≡ 0 → None ≡ natural_of (front s)
  natural_absent z = by (at_stop (drop (digit_count s) s)) refl
    where
      by : (t : Bool) → at_stop (drop (digit_count s) s) ≡ t → None ≡ natural_of (front s)
      by true e = no_digits (front s) (natural_none (front s) (omega (arith, front_length s, (ended s e).long, count)))
      by false e = no_digits (front s) (natural_not (front s) (stopped s e))

  module _ (f : d.next < length s → stops (get_or s d.next 0) ≡ true) where
    whole : Ended s
    whole = ended s (ends_at f)

    pub natural_leading : get_or s 0 0 ≡ 48 → 1 < d.next → None ≡ natural_of (front s)
    natural_leading z l = no_digits (front s) (natural_zero (front s) (omega (arith, front_length s, whole.long, count)) (front_at s 0 (omega (arith, whole.long, count)) ∙ z))

    pub natural_found : (d.next ≡ 0 → ⊥) → (get_or s 0 0 ≡ 48 → d.next ≤ 1) → Some d ≡ natural_of (front s)
    unfolding natural_of ceiling
    natural_found p z =
        let first : get_or (front s) 0 0 ≡ get_or s 0 0 = front_at s 0 (omega (arith, whole.long, count)) in
        let yes : is_natural (front s) ≡ true = natural_yes (front s) whole.all (omega (arith, front_length s, whole.long, count)) (λ (e : get_or (front s) 0 0 ≡ 48). omega (arith, front_length s, whole.long, count, z (sym first ∙ e))) in
        let v : d.value ≡ min (value_from 0 (front s)) 2_000_000_001 = h.value ∙ ap (λ n. min n 2_000_000_001) (sym (whole.value 0)) in
        let n : d.next ≡ length (front s) = omega (arith, front_length s, whole.long, count) in
        rw (yes, ← v, ← n)

found_yes : (s : List ℕ) (test : Bool) (d : Digits) → cond test (Some (record { value = min (value_from 0 s) ceiling; next = length s })) None ≡ Some d
    → (test ≡ true) × (d.value ≡ min (value_from 0 s) ceiling) × (d.next ≡ length s)
found_yes s true d e =
    let k : ◌≡◌ {A = Digits} (record { value = min (value_from 0 s) ceiling; next = length s }) d = cc in
    (refl, sym (ap (λ (x : Digits). x.value) k), sym (ap (λ (x : Digits). x.next) k))
found_yes s false d e = absurd (let z : ◌≡◌ {A = ℕ} 0 1 = cc in omega arith)

pub is_natural_lem : (s : List ℕ) (d : Digits) → natural_of s ≡ Some d → (is_natural s ≡ true) × (d.value ≡ min (value_from 0 s) ceiling) × (d.next ≡ length s)
unfolding natural_of
is_natural_lem s d e = found_yes s (is_natural s) d e

pub not_natural : (s : List ℕ) → natural_of s ≡ None → is_natural s ≡ false
unfolding natural_of
not_natural s e = by (is_natural s) e
  where
    by : (t : Bool) → cond {A = Option Digits} t (Some (record { value = min (value_from 0 s) ceiling; next = length s })) None ≡ None → t ≡ false
    by true k = absurd (let z : ◌≡◌ {A = ℕ} 0 1 = cc in omega arith)
    by false k = refl

-- ---- words
cut_cond : (b : Bool) (x y : Word) → cut_word (cond b x y) ≡ cond b (cut_word x) (cut_word y)
cut_cond true x y = refl
cut_cond false x y = refl

-- a keyword or a comparison has no number
pub cut_plain : (s : List ℕ) → cut_word (plain_word s) ≡ plain_word s
unfolding plain_word block_word comparison_word
cut_plain s = simp cut_cond (unfold cut_word in refl)

pub word_number : (s : List ℕ) (d : Digits) → natural_of s ≡ Some d → Number (pos d.value) ≡ cut_word (word_of s)
unfolding word_of cut_word cut_z
word_number s d e = let (t, h, _) = is_natural_lem s d e in rw (t, h)

pub word_none : (s : List ℕ) → length s ≡ 0 → Other ≡ cut_word (word_of s)
unfolding word_of is_natural is_negative is_variable plain_word block_word comparison_word equals cut_word
word_none [] h = refl
word_none (b ∷ s) h = absurd (omega arith)

-- a word that is no natural number, by its first byte and the number v after it
abbrev marked : List ℕ → ℕ → List ℕ → Word
marked w b t =
    cond (cond (eqb b 45) (cond (is_natural t) (not (eqb (value_from 0 t) 0)) false) false) (Number (neg_ℤ (pos (value_from 0 t))))
    (cond (cond (eqb b 118) (is_natural t) false) (Variable (value_from 0 t)) (plain_word w))

word_marked : (s : List ℕ) → 0 < length s → is_natural s ≡ false → word_of s ≡ marked s (get_or s 0 0) (drop 1 s)
unfolding word_of is_negative is_variable
word_marked [] h n = absurd (omega arith)
word_marked (b ∷ t) h n = rw n

module _ (s : List ℕ) (some : 0 < length s) (none : is_natural s ≡ false) where
  pub mark_none : natural_of (drop 1 s) ≡ None → plain_word s ≡ cut_word (word_of s)
  mark_none e = rw (word_marked s some none, not_natural (drop 1 s) e) (go (eqb (get_or s 0 0) 45) (eqb (get_or s 0 0) 118))
    where
      go : (p q : Bool) → plain_word s ≡ cut_word (cond (cond p false false) (Number (neg_ℤ (pos (value_from 0 (drop 1 s))))) (cond (cond q false false) (Variable (value_from 0 (drop 1 s))) (plain_word s)))
      go true true = sym (cut_plain s)
      go true false = sym (cut_plain s)
      go false true = sym (cut_plain s)
      go false false = sym (cut_plain s)

  pub mark_plain : marks (get_or s 0 0) ≡ false → plain_word s ≡ cut_word (word_of s)
  unfolding marks
  mark_plain e = go (eqb (get_or s 0 0) 118) (eqb (get_or s 0 0) 45) refl refl e
    where
      go : (p q : Bool) → eqb (get_or s 0 0) 118 ≡ p → eqb (get_or s 0 0) 45 ≡ q → cond p true q ≡ false → plain_word s ≡ cut_word (word_of s)
      go true q f g h = absurd (let z : ◌≡◌ {A = ℕ} 0 1 = cc in omega arith)
      go false true f g h = absurd (let z : ◌≡◌ {A = ℕ} 0 1 = cc in omega arith)
      go false false f g h = rw (word_marked s some none, g, f) (sym (cut_plain s))

  module _ (d : Digits) (e : natural_of (drop 1 s) ≡ Some d) where
    pub mark_variable : get_or s 0 0 ≡ 118 → Variable d.value ≡ cut_word (word_of s)
    unfolding cut_word
    mark_variable h =
        let (t, k, _) = is_natural_lem (drop 1 s) d e in
        rw (word_marked s some none, h, t, k)

    pub mark_negative : get_or s 0 0 ≡ 45 → (d.value ≡ 0 → ⊥) → Number (neg_ℤ (pos d.value)) ≡ cut_word (word_of s)
    unfolding cut_word cut_z ceiling
    mark_negative h z =
        let (t, k, _) = is_natural_lem (drop 1 s) d e in
        let y : eqb (value_from 0 (drop 1 s)) 0 ≡ false = ne_eqb (value_from 0 (drop 1 s)) 0 (λ (x : value_from 0 (drop 1 s) ≡ 0). z (omega arith)) in
        rw (word_marked s some none, h, t, y, k) (negative (value_from 0 (drop 1 s)) (λ (x : value_from 0 (drop 1 s) ≡ 0). z (omega arith)))
      where
        negative : (n : ℕ) → (n ≡ 0 → ⊥) → Number (neg_ℤ (pos (min n ceiling))) ≡ Number (cut_z (neg_ℤ (pos n)))
        negative zero f = absurd (f refl)
        negative (suc n) f = refl

    pub mark_zero : get_or s 0 0 ≡ 45 → d.value ≡ 0 → plain_word s ≡ cut_word (word_of s)
    unfolding ceiling
    mark_zero h z =
        let (t, k, _) = is_natural_lem (drop 1 s) d e in
        let y : eqb (value_from 0 (drop 1 s)) 0 ≡ true = eq-eqb (value_from 0 (drop 1 s)) 0 (omega arith) in
        rw (word_marked s some none, h, t, y) (sym (cut_plain s))

-- a number that `natural` found is cut off
pub natural_small : (s : List ℕ) (d : Digits) → natural_of s ≡ Some d → d.value ≤ 2_000_000_001
unfolding ceiling
natural_small s d e = let (_, h, _) = is_natural_lem s d e in omega arith

-- ---- the word at the front of a text, which is no number without a sign, by its first byte
module _ (s : List ℕ) (p : 0 < stop s) (q : is_natural (front s) ≡ false) where
  some : 0 < length (front s)
  some = omega (arith, front_length s)

  first : get_or (front s) 0 0 ≡ get_or s 0 0
  first = front_at s 0 p

  pub plain_first : marks (get_or s 0 0) ≡ false → plain_word (front s) ≡ cut_word (word_of (front s))
  plain_first m = mark_plain (front s) some q (ap marks first ∙ m)

  -- r is the number after it
  module _ (r : Option Digits) (e : r ≡ natural_of (front (take (length s - 1) (drop 1 s)))) where
    found : natural_of (drop 1 (front s)) ≡ r
    found = sym (e ∙ ap (λ (t : List ℕ). natural_of (front t)) (part_rest s 1) ∙ ap natural_of (front_rest s p))

    pub plain_none : r ≡ None → plain_word (front s) ≡ cut_word (word_of (front s))
    plain_none k = mark_none (front s) some q (found ∙ k)

    module _ (d : Digits) (k : r ≡ Some d) where
      pub marked_small : d.value ≤ 2_000_000_001
      marked_small = natural_small (drop 1 (front s)) d (found ∙ k)

      pub marked_end : d.next + 1 ≡ stop s
      marked_end =
          let (_, _, n) = is_natural_lem (drop 1 (front s)) d (found ∙ k) in
          omega (arith, n, length-drop 1 (front s), front_length s, some)

      pub marked_within : d.next + 1 ≤ length s
      marked_within = omega (arith, marked_end, stop_within s)

      pub reads_variable : get_or s 0 0 ≡ 118 → Reads s (record { tag = Tag.Variable; value = pos d.value; end = d.next + 1 })
      reads_variable v = record { word = mark_variable (front s) some q d (found ∙ k) (first ∙ v); end = marked_end }

      -- the first byte is a `-`
      module _ (m : marks (get_or s 0 0) ≡ true) (o : get_or s 0 0 ≡ 118 → ⊥) where
        dash : get_or s 0 0 ≡ 45
        unfolding marks
        dash = by (eqb (get_or s 0 0) 118) (eqb (get_or s 0 0) 45) refl refl m
          where
            by : (t u : Bool) → eqb (get_or s 0 0) 118 ≡ t → eqb (get_or s 0 0) 45 ≡ u → cond t true u ≡ true → get_or s 0 0 ≡ 45
            by true u f g h = absurd (o (eqb-true (get_or s 0 0) 118 f))
            by false true f g h = eqb-true (get_or s 0 0) 45 g
            by false false f g h = no_true h

        pub plain_zero : d.value ≡ 0 → plain_word (front s) ≡ cut_word (word_of (front s))
        plain_zero z = mark_zero (front s) some q d (found ∙ k) (first ∙ dash) z

        pub reads_negative : (d.value ≡ 0 → ⊥) → Reads s (record { tag = Tag.Number; value = neg_ℤ (pos d.value); end = d.next + 1 })
        reads_negative z = record { word = mark_negative (front s) some q d (found ∙ k) (first ∙ dash) z; end = marked_end }
