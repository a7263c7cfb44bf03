-- Digits one by one, and the number that they spell. Assumes nothing.
use mathlib.Core.Path.{◌≡◌, refl, sym, ◌∙◌, ap}
use mathlib.Core.Bool.{Bool, true, false, cond, ◌&&◌}
use mathlib.Core.List.{List, [], ◌∷◌}
use Prim.Native.Nat.{ℕ, suc, ◌+◌, ◌*◌, ◌-◌, ◌≤◌, ◌<◌}
use native.Mathlib.Omega.{arith}
use borrow.Author.Tests.{le-leb, lt-leb, leb-true}
use lib.Dec.{leb}
use lib.ListN.{length, get_or, drop}
use Rattle.rules.specs.Text.{is_digit, all_digits, value_from}
use Rattle.reading.proofs.TextLaws.{all_more, all_stop, all_end, value_more, value_end}
use Rattle.program_words.specs.Words.{digit_of, sized, spelled_in}
use Rattle.std.specs.Prelude.{Option, None, Some}

-- ---- one digit
-- a byte is a digit, or it has no value
pub data Read (b : ℕ) : Type 0 where
  digit : is_digit b ≡ true → digit_of b ≡ b - 48 → digit_of b ≤ 9 → Read b
  other : is_digit b ≡ false → digit_of b ≡ 10 → Read b

pub reads : (b : ℕ) → Read b
unfolding digit_of is_digit
reads b = by (leb 48 b) (leb b 57) refl refl
  where
    by : (p q : Bool) → leb 48 b ≡ p → leb b 57 ≡ q → Read b
    by true true e f = digit (rw (e, f)) (rw (e, f)) (rw (e, f) (omega (arith, leb-true b 57 f)))
    by true false e f = other (rw (e, f)) (rw (e, f))
    by false q e f = other (rw e) (rw e)

-- by the range of the code
pub digit_in : (b : ℕ) → 48 ≤ b → b ≤ 57 → Some (b - 48) ≡ cond (is_digit b) (Some (digit_of b)) None
unfolding digit_of is_digit
digit_in b h k = rw (le-leb 48 b h, le-leb b 57 k)

pub digit_low : (b : ℕ) → b < 48 → None ≡ cond (is_digit b) (Some (digit_of b)) None
unfolding digit_of is_digit
digit_low b h = rw (lt-leb 48 b h)

pub digit_high : (b : ℕ) → 57 < b → None ≡ cond (is_digit b) (Some (digit_of b)) None
unfolding digit_of is_digit
digit_high b h = go (leb 48 b)
  where
    go : (t : Bool) → None ≡ cond (t && leb b 57) (Some (cond (t && leb b 57) (b - 48) 10)) None
    go true = rw (lt-leb b 57 h)
    go false = refl

-- by the answer of the code
pub digit_none : (b : ℕ) → None ≡ cond (is_digit b) (Some (digit_of b)) None → is_digit b ≡ false
digit_none b e = by (is_digit b) refl e
  where
    by : (t : Bool) → is_digit b ≡ t → None ≡ cond t (Some (digit_of b)) None → is_digit b ≡ false
    by true f g = absurd (cc)
    by false f g = f

pub digit_some : (b d : ℕ) → Some d ≡ cond (is_digit b) (Some (digit_of b)) None → (is_digit b ≡ true) × (d ≡ b - 48)
digit_some b d e = by (reads b) e
  where
    by : Read b → Some d ≡ cond (is_digit b) (Some (digit_of b)) None → (is_digit b ≡ true) × (d ≡ b - 48)
    by (digit p q l) f = (p, let g = rw p at f in cc)
    by (other p q) f = let g = rw p at f in absurd (cc)

pub digit_here : (b : ℕ) → 48 ≤ b → b ≤ 57 → is_digit b ≡ true
unfolding is_digit
digit_here b h k = rw (le-leb 48 b h, le-leb b 57 k)

pub digit_range : (b : ℕ) → is_digit b ≡ true → (48 ≤ b) × (b ≤ 57)
unfolding is_digit
digit_range b e = go (leb 48 b) (leb b 57) refl refl e
  where
    go : (p q : Bool) → leb 48 b ≡ p → leb b 57 ≡ q → (p && q) ≡ true → (48 ≤ b) × (b ≤ 57)
    go true true f g h = (leb-true 48 b f, leb-true b 57 g)
    go true false f g h = absurd (cc)
    go false q f g h = absurd (cc)

-- ---- the number up to a byte
pub record Spelling (w : List ℕ) (n i : ℕ) : Type 0 where
  pub digits : all_digits w ≡ all_digits (drop i w)
  pub value : value_from 0 w ≡ value_from n (drop i w)

pub spelling_none : (w : List ℕ) → Spelling w 0 0
spelling_none w = record { digits = refl; value = refl }

pub value_grows : (s : List ℕ) (a : ℕ) → a ≤ value_from a s
unfolding value_from
value_grows [] a = omega arith
value_grows (b ∷ s) a = omega (arith, value_grows s (a * 10 + (b - 48)))

too_large : (v : ℕ) → 18_446_744_073_709_551_615 < v → sized v ≡ None
unfolding sized
too_large v h = rw (lt-leb v 18_446_744_073_709_551_615 h)

either : (t : Bool) (x : Option ℕ) → x ≡ None → cond t x None ≡ None
either true x e = e
either false x e = refl

module _ (w : List ℕ) (n i : ℕ) (now : Spelling w n i) where
  module _ (h : i < length w) where
    -- no digit
    pub spelling_stops : is_digit (get_or w i 0) ≡ false → None ≡ spelled_in w
    unfolding spelled_in
    spelling_stops p = rw (now.digits, all_stop w i h p)

    module _ (d : ℕ) (e : (is_digit (get_or w i 0) ≡ true) × (d ≡ get_or w i 0 - 48)) where
      -- one digit more
      pub spelling_more : Spelling w (n * 10 + d) (suc i)
      spelling_more = record { digits = now.digits ∙ all_more w i h e.0; value = now.value ∙ value_more w i n h ∙ ap (λ x. value_from (n * 10 + x) (drop (suc i) w)) (sym e.1) }

      -- too many
      pub spelling_past : 18_446_744_073_709_551_615 < n * 10 + d → None ≡ spelled_in w
      unfolding spelled_in
      spelling_past l = sym (either (all_digits w) _ (too_large _ (omega (arith, spelling_more.value, value_grows (drop (suc i) w) (n * 10 + d)))))

  pub spelling_ends : length w ≤ i → n ≤ 18_446_744_073_709_551_615 → Some n ≡ spelled_in w
  unfolding spelled_in sized
  spelling_ends h k = rw (now.digits, all_end w i h, now.value, value_end w i n h, le-leb n 18_446_744_073_709_551_615 k)
