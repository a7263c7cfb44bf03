-- A word is a constant or a variable alone exactly if its first leaf is all of it.
use mathlib.Core.Path.{◌≡◌, refl, sym, ◌∙◌, ap}
use mathlib.Core.Bool.{Bool, true, false, cond}
use mathlib.Core.List.{List, [], ◌∷◌}
use Prim.Native.Nat.{ℕ, zero, suc}
use lib.Dec.{eqb}
use borrow.Author.Tests.{eqb-true}
use Rattle.rules.specs.declared.Operator.{Operator}
use Rattle.rules.specs.Expressions.{Expr, constant, variable, group, apply}
use Rattle.rules.specs.Parse.{Parsed, parsed, shapeless, then_parse, atom, Ahead, operator, other, ahead, after_term, after_factor, close, factor_of, expression, term, factor, read_expression, read_term, read_factor, at_end, parse}
use Rattle.rules.proofs.Parsing.{expression_is, term_is, factor_is}
use Rattle.expressions.proofs.LeavesLaws.{atom_open}

-- a constant or a variable alone, of what is read of a word; "an operator or a parenthesis makes it neither"
unfoldable pub bare : Expr → List ℕ → Parsed
bare (constant k) s = parsed (constant k) s
bare (variable w) s = parsed (variable w) s
bare (group x) s = shapeless
bare (apply o x y) s = shapeless

unfoldable pub bare_in : Parsed → Parsed
bare_in (parsed x s) = bare x s
bare_in shapeless = shapeless

-- ---- once an operator is read, it is neither
ahead_neither : (k : Ahead) (f : Operator → List ℕ → Parsed) (o : Operator) (l x : Expr) (r : List ℕ) → ((o : Operator) (t : List ℕ) → bare_in (f o t) ≡ shapeless) → bare_in (ahead k f (parsed (apply o l x) r)) ≡ shapeless
unfolding ahead bare_in bare
ahead_neither (operator p t) f o l x r h = h p t
ahead_neither other f o l x r h = refl

onward_neither : (p : Parsed) (k : Expr → List ℕ → Parsed) → ((x : Expr) (r : List ℕ) → bare_in (k x r) ≡ shapeless) → bare_in (then_parse p k) ≡ shapeless
unfolding then_parse bare_in
onward_neither (parsed x r) k h = h x r
onward_neither shapeless k h = refl

neither_expression : (n : ℕ) (o : Operator) (l : Expr) (s : List ℕ) → bare_in (expression n (apply o l) s) ≡ shapeless
unfolding expression bare_in
neither_expression zero o l s = refl
neither_expression (suc n) o l s = onward_neither (term n (λ x. x) s) _ λ x r. ahead_neither (after_term r) _ o l x r λ p t. neither_expression n p (apply o l x) t

neither_term : (n : ℕ) (o : Operator) (l : Expr) (s : List ℕ) → bare_in (term n (apply o l) s) ≡ shapeless
unfolding expression bare_in
neither_term zero o l s = refl
neither_term (suc n) o l s = onward_neither (factor n s) _ λ x r. ahead_neither (after_factor r) _ o l x r λ p t. neither_term n p (apply o l x) t

-- ---- one part, to the end
end_neither : (p : Parsed) → bare_in p ≡ shapeless → bare_in (then_parse p at_end) ≡ shapeless
unfolding then_parse at_end bare_in
end_neither (parsed x []) h = h
end_neither (parsed x (b ∷ r)) h = refl
end_neither shapeless h = refl

module _ (part : List ℕ → Parsed) (look : List ℕ → Ahead) (chain : (Expr → Expr) → List ℕ → Parsed)
    (is : (left : Expr → Expr) (s : List ℕ) → chain left s ≡ then_parse (part s) λ x r. ahead (look r) (λ o t. chain (apply o (left x)) t) (parsed (left x) r))
    (none : look [] ≡ other) (neither : (o : Operator) (l : Expr) (s : List ℕ) → bare_in (chain (apply o l) s) ≡ shapeless) where
  look_end : (k : Ahead) (x : Expr) (b : ℕ) (r : List ℕ) → bare_in (then_parse (ahead k (λ o t. chain (apply o x) t) (parsed x (b ∷ r))) at_end) ≡ shapeless
  unfolding ahead then_parse at_end bare_in
  look_end (operator o t) x b r = end_neither (chain (apply o x) t) (neither o x t)
  look_end other x b r = refl

  part_end : (p : Parsed) → bare_in (then_parse (then_parse p λ x r. ahead (look r) (λ o t. chain (apply o x) t) (parsed x r)) at_end) ≡ bare_in (then_parse p at_end)
  unfolding then_parse at_end bare_in
  part_end (parsed x []) = rw none (unfold ahead in refl)
  part_end (parsed x (b ∷ r)) = look_end (look (b ∷ r)) x b r
  part_end shapeless = refl

  chain_end : (w : List ℕ) → bare_in (then_parse (chain (λ x. x) w) at_end) ≡ bare_in (then_parse (part w) at_end)
  chain_end w = ap (λ p. bare_in (then_parse p at_end)) (is (λ x. x) w) ∙ part_end (part w)

look_term : after_term [] ≡ other
unfolding after_term
look_term = refl

look_factor : after_factor [] ≡ other
unfolding after_factor
look_factor = refl

neither_sum : (o : Operator) (l : Expr) (s : List ℕ) → bare_in (read_expression (apply o l) s) ≡ shapeless
unfolding read_expression
neither_sum o l s = neither_expression _ o l s

neither_product : (o : Operator) (l : Expr) (s : List ℕ) → bare_in (read_term (apply o l) s) ≡ shapeless
unfolding read_term
neither_product o l s = neither_term _ o l s

close_neither : (x : Expr) (r : List ℕ) → bare_in (close x r) ≡ shapeless
unfolding close bare_in bare
close_neither x [] = refl
close_neither x (b ∷ r) = by (eqb b 41)
  where
    by : (t : Bool) → bare_in (cond t (parsed (group x) r) shapeless) ≡ shapeless
    by true = refl
    by false = refl

factor_end : (w : List ℕ) → bare_in (then_parse (read_factor w) at_end) ≡ bare_in (then_parse (atom w) at_end)
unfolding bare_in then_parse
factor_end w = ap (λ p. bare_in (then_parse p at_end)) (factor_is w) ∙ by w
  where
    by : (w : List ℕ) → bare_in (then_parse (factor_of (λ r. read_expression (λ x. x) r) w) at_end) ≡ bare_in (then_parse (atom w) at_end)
    by [] = unfold factor_of atom in refl
    by (b ∷ s) = unfold factor_of in go (eqb b 40) refl
      where
        go : (t : Bool) → eqb b 40 ≡ t → bare_in (then_parse (cond t (then_parse (read_expression (λ x. x) s) close) (atom (b ∷ s))) at_end) ≡ bare_in (then_parse (atom (b ∷ s)) at_end)
        go true e = end_neither (then_parse (read_expression (λ x. x) s) close) (onward_neither (read_expression (λ x. x) s) close close_neither) ∙ ap (λ p. bare_in (then_parse p at_end)) (sym (atom_open b s (eqb-true b 40 e)))
        go false e = refl

pub word_end : (w : List ℕ) → bare_in (parse w) ≡ bare_in (then_parse (atom w) at_end)
unfolding parse
word_end w =
    chain_end (read_term (λ x. x)) after_term read_expression expression_is look_term neither_sum w
    ∙ chain_end read_factor after_factor read_term term_is look_factor neither_product w
    ∙ factor_end w
