-- The words of a first word, of a line and of one word. Assumes nothing.
use mathlib.Core.Path.{◌≡◌, refl, sym, ap, ◌∙◌}
use mathlib.Core.Bool.{Bool, true, false, cond, ◌&&◌}
use mathlib.Core.List.{List, [], ◌∷◌}
use Prim.Native.Nat.{ℕ, suc, ◌+◌, ◌-◌, ◌≤◌, ◌<◌}
use native.Mathlib.Omega.{arith}
use borrow.Author.Tests.{eq-eqb, ne_eqb, eqb-true, eqb-false}
use lib.Dec.{eqb}
use lib.IntN.{ℤ}
use denote.Ref.{Bor}
use lib.ListN.{length, get_or, take, drop, drop_of_length-le}
use lib.Seq.{drop-cons}
use Rattle.std.specs.Cmp.Lexicographic.{pointwise}
use Rattle.std.specs.Option.{MatchOption, unwrap_or}
use Rattle.rules.specs.Text.{space, minus, split, starts_with, equals}
use Rattle.std.specs.Prelude.{Option, None, Some, Result, Ok}
use Rattle.program_words.specs.Lists.{comma, values_in, values_kept, until_space, line_words, comma_words}

-- ---- a first word
-- a text is as long as a key that it starts with
pub starts_long : (key s : List ℕ) → starts_with key s ≡ true → length key ≤ length s
unfolding starts_with
starts_long [] s e = omega arith
starts_long (k ∷ key) [] e = absurd (let z : ◌≡◌ {A = ℕ} 0 1 = cc in omega arith)
starts_long (k ∷ key) (b ∷ s) e = go (eqb b k) (starts_long key s) e
  where
    go : (t : Bool) → (starts_with key s ≡ true → length key ≤ length s) → cond t (starts_with key s) false ≡ true → suc (length key) ≤ suc (length s)
    go true ih h = omega (arith, ih h)
    go false ih h = absurd (let z : ◌≡◌ {A = ℕ} 0 1 = cc in omega arith)

-- ---- words that are read as others, or are none
pub read_as : (ws vs : List (List ℕ)) (r : Result ℕ ℕ) (old new : List ℤ) → vs ≡ ws → r ≡ values_in 0 ws → new ≡ values_kept ws 0 old
    → (r ≡ values_in 0 vs) × (new ≡ values_kept vs 0 old)
read_as ws vs r old new e f p = (rw e f, rw e p)

pub read_none : (vs : List (List ℕ)) (old : List ℤ) → vs ≡ [] → (Ok 0 ≡ values_in 0 vs) × (old ≡ values_kept vs 0 old)
unfolding values_in values_kept
read_none vs old e = (rw e, rw e)

-- ---- a line
pub line_none : (s : List ℕ) → length s ≡ 0 → line_words s ≡ []
unfolding line_words
line_none s h = rw (eq-eqb (length s) 0 h)

pub line_cut : (s : List ℕ) → (length s ≡ 0 → ⊥) → get_or s (length s - 1) 0 ≡ space → line_words s ≡ split space (take (length s - 1) s)
unfolding line_words until_space
line_cut s n h = rw (ne_eqb (length s) 0 n, eq-eqb (get_or s (length s - 1) 0) space h)

pub line_whole : (s : List ℕ) → (length s ≡ 0 → ⊥) → (get_or s (length s - 1) 0 ≡ space → ⊥) → line_words s ≡ split space s
unfolding line_words until_space
line_whole s n h = rw (ne_eqb (length s) 0 n, ne_eqb (get_or s (length s - 1) 0) space h)

at_last : (s : List ℕ) → (length s ≡ 0 → ⊥) → length s - 1 < length s
at_last s n = omega arith

last_is : (s : List ℕ) → (length s ≡ 0 → ⊥) → pointwise eqb (drop (length s - 1) s) (space ∷ []) ≡ eqb (get_or s (length s - 1) 0) space
last_is s n =
    let d : drop (suc (length s - 1)) s ≡ [] = drop_of_length-le s {i = suc (length s - 1)} (omega arith) in
    ap (λ t. pointwise eqb t (space ∷ [])) (drop-cons s (length s - 1) 0 (at_last s n) ∙ ap (λ t. get_or s (length s - 1) 0 ∷ t) d) ∙ alone (eqb (get_or s (length s - 1) 0) space)
  where
    alone : (t : Bool) → (t && true) ≡ t
    alone true = refl
    alone false = refl

-- without the space that ends it, as `strip_suffix` gives it, or all
pub line_front : (s : Bor (List ℕ)) (r : Option (Bor (List ℕ))) → (length s.now ≡ 0 → ⊥)
    → MatchOption r (pointwise eqb (drop (length s.now - 1) s.now) (space ∷ []) ≡ false)
    (λ x. (pointwise eqb (drop (length s.now - 1) s.now) (space ∷ []) ≡ true) × (x.now ≡ take (length s.now - 1) s.now) × (length x.now + 1 ≡ length s.now))
    → line_words s.now ≡ split space (unwrap_or r s).now
line_front s None n h = line_whole s.now n (eqb-false _ _ (sym (last_is s.now n) ∙ h))
line_front s (Some x) n h = line_cut s.now n (eqb-true _ _ (sym (last_is s.now n) ∙ h.0)) ∙ ap (split space) (sym h.1)

-- ---- one word
pub comma_none : (w : List ℕ) → equals (minus ∷ []) w ≡ true → comma_words w ≡ []
unfolding comma_words
comma_none w h = rw h

pub comma_some : (w : List ℕ) → equals (minus ∷ []) w ≡ false → comma_words w ≡ split comma w
unfolding comma_words
comma_some w h = rw h
