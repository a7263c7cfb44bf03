-- A word that is a number or a variable is that constant or variable alone; any other word is neither.
use mathlib.Core.Path.{◌≡◌, refl, sym, ◌∙◌}
use mathlib.Core.Bool.{Bool, true, false, cond}
use mathlib.Core.List.{List, [], ◌∷◌}
use Prim.Native.Nat.{ℕ}
use native.Mathlib.Omega.{arith}
use lib.Dec.{eqb}
use lib.IntN.{ℤ}
use Rattle.rules.specs.declared.Word.{Word}
use Rattle.rules.specs.declared.Word.TheVariants.{Missing, Number, Variable, Compares, Keyword, Other}
use Rattle.rules.specs.Expressions.{Expr, constant, variable, group, apply}
use Rattle.rules.specs.Text.{is_digit, all_digits, is_natural, is_negative, is_variable, plain_word, word_of}
use Rattle.rules.specs.Parse.{Parsed, parsed, shapeless, then_parse, is_mark, up_to_mark, from_mark, leaf, atom, at_end, parse}
use Rattle.rules.proofs.Laws.{both}
use Rattle.expressions.proofs.LeavesLaws.{digit_mark, leaf_plain}
use Rattle.reader.proofs.Bare.{bare, bare_in, word_end}

-- what a word is read as
abbrev pub Alone : Word → Parsed → Type 0
Alone Missing p = bare_in p ≡ shapeless
Alone (Number z) p = p ≡ parsed (constant z) []
Alone (Variable v) p = p ≡ parsed (variable v) []
Alone (Compares c) p = bare_in p ≡ shapeless
Alone (Keyword n) p = bare_in p ≡ shapeless
Alone Other p = bare_in p ≡ shapeless

no_part : {A : Type 0} (x : Expr) → shapeless ≡ parsed x [] → A
no_part x e = absurd (let z : ◌≡◌ {A = ℕ} 0 1 = cc in omega arith)

-- what has no parts is read as it stands
itself : (p : Parsed) (x : Expr) → bare_in p ≡ parsed x [] → p ≡ parsed x []
unfolding bare_in bare
itself (parsed (constant k) s) x e = e
itself (parsed (variable w) s) x e = e
itself (parsed (group y) s) x e = no_part x e
itself (parsed (apply o y z) s) x e = no_part x e
itself shapeless x e = e

by_leaf : (w : Word) (p : Parsed) → bare_in p ≡ leaf w [] → Alone w p
by_leaf Missing p e = e
by_leaf (Number z) p e = itself p (constant z) e
by_leaf (Variable v) p e = itself p (variable v) e
by_leaf (Compares c) p e = e
by_leaf (Keyword n) p e = e
by_leaf Other p e = e

-- ---- a text without marks
no_mark : (s : List ℕ) → from_mark s ≡ [] → up_to_mark s ≡ s
unfolding up_to_mark from_mark
no_mark [] e = refl
no_mark (b ∷ s) e = go (is_mark b) e (λ f. no_mark s f)
  where
    go : (t : Bool) → cond t (b ∷ s) (from_mark s) ≡ [] → (from_mark s ≡ [] → up_to_mark s ≡ s) → cond t [] (b ∷ up_to_mark s) ≡ b ∷ s
    go true f ih = absurd (let z : ◌≡◌ {A = ℕ} 0 1 = cc in omega arith)
    go false f ih = rw (ih f)

digits_mark : (s : List ℕ) → all_digits s ≡ true → from_mark s ≡ []
unfolding all_digits from_mark
digits_mark [] e = refl
digits_mark (b ∷ s) e = let (d, f) = both (is_digit b) (all_digits s) e in rw (digit_mark b d) (digits_mark s f)

natural_rest : (b : ℕ) (s : List ℕ) → is_natural (b ∷ s) ≡ true → all_digits s ≡ true
unfolding is_natural all_digits
natural_rest b [] e = refl
natural_rest b (c ∷ s) e = go (eqb b 48) e
  where
    go : (t : Bool) → cond t false (cond (is_digit b) (all_digits (c ∷ s)) false) ≡ true → all_digits (c ∷ s) ≡ true
    go true f = absurd (let z : ◌≡◌ {A = ℕ} 0 1 = cc in omega arith)
    go false f = (both (is_digit b) (all_digits (c ∷ s)) f).1

natural_mark : (s : List ℕ) → is_natural s ≡ true → from_mark s ≡ []
unfolding is_natural from_mark
natural_mark [] e = refl
natural_mark (b ∷ []) e = rw (digit_mark b e)
natural_mark (b ∷ (c ∷ s)) e = go (eqb b 48) e
  where
    go : (t : Bool) → cond t false (all_digits (b ∷ (c ∷ s))) ≡ true → from_mark (b ∷ (c ∷ s)) ≡ []
    go true f = absurd (let z : ◌≡◌ {A = ℕ} 0 1 = cc in omega arith)
    go false f = digits_mark (b ∷ (c ∷ s)) f

-- ---- a word with a mark after its first byte is no number and no variable
false_of : (t : Bool) → (t ≡ true → ⊥) → t ≡ false
false_of true f = absurd (f refl)
false_of false f = refl

marked : (b : ℕ) (s : List ℕ) → (from_mark s ≡ [] → ⊥) → leaf (word_of (b ∷ s)) [] ≡ shapeless
unfolding word_of is_negative is_variable
marked b s n =
    let f : is_natural (b ∷ s) ≡ false = false_of _ (λ e. n (digits_mark s (natural_rest b s e))) in
    let g : is_natural s ≡ false = false_of _ (λ e. n (natural_mark s e)) in
    rw (f, g) (go (eqb b 45) (eqb b 118) _ _)
  where
    go : (t u : Bool) (z : ℤ) (v : ℕ) → leaf (cond (cond t false false) (Number z) (cond (cond u false false) (Variable v) (plain_word (b ∷ s)))) [] ≡ shapeless
    go true true z v = leaf_plain (b ∷ s) []
    go true false z v = leaf_plain (b ∷ s) []
    go false true z v = leaf_plain (b ∷ s) []
    go false false z v = leaf_plain (b ∷ s) []

leaf_all : (w : Word) → bare_in (then_parse (leaf w []) at_end) ≡ leaf w []
unfolding then_parse at_end bare_in bare
leaf_all Missing = refl
leaf_all (Number z) = refl
leaf_all (Variable v) = refl
leaf_all (Compares c) = refl
leaf_all (Keyword n) = refl
leaf_all Other = refl

leaf_more : (w : Word) (c : ℕ) (r : List ℕ) → bare_in (then_parse (leaf w (c ∷ r)) at_end) ≡ shapeless
unfolding then_parse at_end bare_in
leaf_more Missing c r = refl
leaf_more (Number z) c r = refl
leaf_more (Variable v) c r = refl
leaf_more (Compares d) c r = refl
leaf_more (Keyword n) c r = refl
leaf_more Other c r = refl

atom_all : (w : List ℕ) → bare_in (then_parse (atom w) at_end) ≡ leaf (word_of w) []
unfolding atom
atom_all [] = unfold then_parse bare_in word_of is_natural is_negative is_variable in sym (leaf_plain [] [])
atom_all (b ∷ s) = go (from_mark s) refl
  where
    go : (r : List ℕ) → from_mark s ≡ r → bare_in (then_parse (leaf (word_of (b ∷ up_to_mark s)) (from_mark s)) at_end) ≡ leaf (word_of (b ∷ s)) []
    go [] e = rw (no_mark s e, e) (leaf_all (word_of (b ∷ s)))
    go (c ∷ r) e = rw e (leaf_more (word_of (b ∷ up_to_mark s)) c r) ∙ sym (marked b s (λ (f : from_mark s ≡ []). let z : ◌≡◌ {A = ℕ} 0 1 = cc in omega arith))

pub alone : (w : List ℕ) → Alone (word_of w) (parse w)
alone w = by_leaf (word_of w) (parse w) (word_end w ∙ atom_all w)
