-- Words as numbers and values. Assumes nothing.
use mathlib.Core.Path.{◌≡◌, refl, ap}
use mathlib.Core.Bool.{Bool, true, false, not, cond, ◌&&◌}
use mathlib.Core.List.{List, [], ◌∷◌}
use Prim.Native.Nat.{ℕ, zero, suc, ◌-◌, ◌≤◌, ◌<◌}
use lib.IntN.{ℤ}
use native.Mathlib.Omega.{arith}
use borrow.Author.Tests.{eq-eqb, ne_eqb}
use lib.Dec.{eqb}
use lib.ListN.{length, get_or, take, drop, length-drop, set}
use lib.Seq.{take_all}
use Rattle.std.specs.Prelude.{None}
use Rattle.rules.specs.Text.{minus, starts_with, equals, is_digit, all_digits, is_natural}
use Rattle.program_words.specs.Words.{spelled_in, number_in, is_number, upward_of, downward_of, value_in}

-- ---- whether a word is a number from 0 on
pub none_natural : (w : List ℕ) → length w ≡ 0 → false ≡ is_natural w
unfolding is_natural
none_natural [] e = refl
none_natural (b ∷ w) e = absurd (omega arith)

one_alone : (t : Bool) → cond t true false ≡ t
one_alone true = refl
one_alone false = refl

one_natural : (w : List ℕ) → length w ≡ 1 → all_digits w ≡ is_natural w
unfolding is_natural all_digits
one_natural [] e = absurd (omega arith)
one_natural (b ∷ []) e = one_alone (is_digit b)
one_natural (b ∷ (c ∷ w)) e = absurd (omega arith)

pub zero_natural : (w : List ℕ) → 1 < length w → get_or w 0 0 ≡ 48 → false ≡ is_natural w
unfolding is_natural
zero_natural [] l h = absurd (omega arith)
zero_natural (b ∷ []) l h = absurd (omega arith)
zero_natural (b ∷ (c ∷ w)) l h = rw (eq-eqb b 48 h)

many_natural : (w : List ℕ) → 1 < length w → (get_or w 0 0 ≡ 48 → ⊥) → all_digits w ≡ is_natural w
unfolding is_natural
many_natural [] l h = absurd (omega arith)
many_natural (b ∷ []) l h = absurd (omega arith)
many_natural (b ∷ (c ∷ w)) l h = rw (ne_eqb b 48 h)

pub other_natural : (w : List ℕ) → (length w ≡ 0 → ⊥) → (1 < length w → get_or w 0 0 ≡ 48 → ⊥) → all_digits w ≡ is_natural w
other_natural [] n h = absurd (n refl)
other_natural (b ∷ []) n h = one_natural (b ∷ []) refl
other_natural (b ∷ (c ∷ w)) n h = many_natural (b ∷ (c ∷ w)) (omega arith) (h (omega arith))

-- ---- numbers
pub none_number : (w : List ℕ) → length w ≡ 0 → None ≡ number_in w
unfolding number_in
none_number w e = rw (← none_natural w e)

pub zero_number : (w : List ℕ) → 1 < length w → get_or w 0 0 ≡ 48 → None ≡ number_in w
unfolding number_in
zero_number w l h = rw (← zero_natural w l h)

-- any other word is read as far as its digits spell a number
pub word_number : (w : List ℕ) → (length w ≡ 0 → ⊥) → (1 < length w → get_or w 0 0 ≡ 48 → ⊥) → spelled_in w ≡ number_in w
unfolding number_in spelled_in
word_number w n h = rw (other_natural w n h)

-- ---- a number of either sign
plain_first : (b : ℕ) → cond (eqb b 45) true false ≡ false → eqb b 45 ≡ false
plain_first b f = go (eqb b 45) f
  where
    go : (t : Bool) → cond t true false ≡ false → t ≡ false
    go true g = absurd (cc)
    go false g = refl

minus_first : (b : ℕ) → cond (eqb b 45) true false ≡ true → eqb b 45 ≡ true
minus_first b f = go (eqb b 45) f
  where
    go : (t : Bool) → cond t true false ≡ true → t ≡ true
    go true g = refl
    go false g = absurd (cc)

pub plain_number : (w : List ℕ) → starts_with (minus ∷ []) w ≡ false → is_natural w ≡ is_number w
unfolding starts_with is_number is_natural
plain_number [] e = refl
plain_number (b ∷ w) e = rw (plain_first b e)

pub minus_number : (w x : List ℕ) → starts_with (minus ∷ []) w ≡ true → x ≡ drop 1 w → (not (equals (48 ∷ []) x) && is_natural x) ≡ is_number w
unfolding starts_with is_number
minus_number [] x e f = absurd (cc)
minus_number (b ∷ w) x e f = rw (minus_first b e, f)

-- ---- values
pub plain_value : (w : List ℕ) → starts_with (minus ∷ []) w ≡ false → upward_of (number_in w) ≡ value_in w
unfolding starts_with value_in number_in is_natural
plain_value [] e = refl
plain_value (b ∷ w) e = rw (plain_first b e)

pub minus_value : (w x : List ℕ) → starts_with (minus ∷ []) w ≡ true → x ≡ drop 1 w → downward_of (number_in x) ≡ value_in w
unfolding starts_with value_in
minus_value [] x e f = absurd (cc)
minus_value (b ∷ w) x e f = rw (minus_first b e, f)

-- the rest of a word
pub part_rest : (s : List ℕ) (a : ℕ) → take (length s - a) (drop a s) ≡ drop a s
part_rest s a = take_all (length s - a) (drop a s) (simp length-drop (omega arith))

-- a store that has no such place
pub set_past : (l : List ℤ) (i : ℕ) (x : ℤ) → length l ≤ i → l ≡ set l i x
set_past [] i x h = refl
set_past (y ∷ l) zero x h = absurd (omega arith)
set_past (y ∷ l) (suc i) x h = ap {B = List ℤ} (λ r. y ∷ r) (set_past l i x (omega arith))
