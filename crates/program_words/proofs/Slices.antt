-- What `==`, `starts_with` and `split` of slices say, in the words of the rules. Assumes nothing.
use mathlib.Core.Path.{◌≡◌, refl, sym, ap, ◌∙◌}
use mathlib.Core.Bool.{Bool, true, false, cond, ◌&&◌}
use mathlib.Core.List.{List, [], ◌∷◌}
use Prim.Native.Nat.{ℕ, ◌<◌}
use denote.Ref.{Bor}
use denote.Param.Members.{Mut}
use lib.Dec.{eqb}
use lib.ListN.{length, take, get_or}
use Rattle.std.specs.Prelude.{Option, None, Some}
use Rattle.std.specs.Iterator.{Yields}
use Rattle.std.specs.Fn.{CalledAt}
use Rattle.std.specs.Slice.Iter as slice
use Rattle.std.proofs.lemmas.Iterator.Splits.{YieldsList-from_slice_split}
use Rattle.std.proofs.lemmas.Iterator.Consumers.{YieldsList-at, YieldsList-turn, YieldsList-end}
use Rattle.std.specs.Cmp.Lexicographic.{pointwise}
use Rattle.std.specs.List.{slice_split, onto_first, list_all}
use Rattle.std.specs.Char.{is_ascii_digit}
use Rattle.rules.specs.Text.{prefixed, split, starts_with, equals, is_digit, all_digits}

both_cond : (s t : Bool) → cond s t false ≡ (s && t)
both_cond true t = refl
both_cond false t = refl

pub equals_is : (k w : List ℕ) → equals k w ≡ pointwise eqb w k
unfolding equals
equals_is [] [] = refl
equals_is [] (b ∷ w) = refl
equals_is (k ∷ ks) [] = refl
equals_is (k ∷ ks) (b ∷ w) = both_cond (eqb b k) (equals ks w) ∙ ap (λ t. eqb b k && t) (equals_is ks w)

pub starts_is : (k s : List ℕ) → starts_with k s ≡ pointwise eqb (take (length k) s) k
unfolding starts_with
starts_is [] s = refl
starts_is (k ∷ ks) [] = refl
starts_is (k ∷ ks) (b ∷ s) = both_cond (eqb b k) (starts_with ks s) ∙ ap (λ t. eqb b k && t) (starts_is ks s)

prefixed_is : (x : ℕ) (ps : List (List ℕ)) → prefixed x ps ≡ onto_first x ps
unfolding prefixed
prefixed_is x [] = refl
prefixed_is x (p ∷ ps) = refl

pub split_is : (b : ℕ) (s : List ℕ) → split b s ≡ slice_split (λ x. eqb x b) s
unfolding split
split_is b [] = refl
split_is b (x ∷ s) = ap (λ ps. cond (eqb x b) ([] ∷ ps) (prefixed x ps)) (split_is b s)
    ∙ ap (cond (eqb x b) ([] ∷ slice_split (λ y. eqb y b) s)) (prefixed_is x (slice_split (λ y. eqb y b) s))

pub digits_are : (s : List ℕ) → list_all is_ascii_digit s ≡ all_digits s
unfolding all_digits is_digit
digits_are [] = refl
digits_are (b ∷ s) = ap (λ t. is_ascii_digit b && t) (digits_are s) ∙ go (is_ascii_digit b)
  where
    go : (t : Bool) → (t && all_digits s) ≡ cond t (all_digits s) false
    go true = refl
    go false = refl

-- ---- by what calls answer
pub word_is : (k w s : List ℕ) (r : Bool) → s ≡ k → r ≡ pointwise eqb w s → r ≡ equals k w
word_is k w s r e f = f ∙ ap (pointwise eqb w) e ∙ sym (equals_is k w)

-- the next word of a list that a `for` goes through by `split`
module _ {F : Type 0} {f : F} (b : ℕ) (list : List ℕ) (g : Mut F (Bor ℕ × Unit {0}) Bool) (s₀ s : _)
    (rest : slice.split_rest s₀ ≡ list) (done : slice.split_done s₀ ≡ false) (callee : slice.split_callee s₀ ≡ f) (same : s ≡ s₀)
    (xs : List (Bor (List ℕ))) (t : _) (y : Yields (slice.split_steps g) s xs t) (r : Option (Bor (List ℕ))) (u : _) (k : slice.split_steps g t r u)
    (calls : (x : ℕ) (c : Bool) (q : F) → CalledAt g f x c q → (q ≡ f) × (c ≡ eqb x b)) where
  pub word_turn : (x : Bor (List ℕ)) → r ≡ Some x → (length xs < length (split b list)) × (x.now ≡ get_or (split b list) (length xs) x.now)
  word_turn x e = rw (split_is b list) (YieldsList-turn (YieldsList-at same (YieldsList-from_slice_split g (λ z. eqb z b) list rest done callee calls)) xs t y r u x e k)

  pub words_end : r ≡ None → length xs ≡ length (split b list)
  words_end e = rw (split_is b list) ((YieldsList-end (YieldsList-at same (YieldsList-from_slice_split g (λ z. eqb z b) list rest done callee calls)) xs t y r u e k).1)
