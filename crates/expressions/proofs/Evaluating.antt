-- The evaluators' functions follow the three readers: what each has read so far, and what it comes to, in numbers of any kind.
use mathlib.Core.Path.{◌≡◌, refl, sym, ◌∙◌, ap, subst}
use mathlib.Core.Bool.{Bool, true, false, cond}
use mathlib.Core.List.{List, [], ◌∷◌}
use Prim.Native.Nat.{ℕ, suc, ◌≤◌, ◌<◌}
use native.Mathlib.Omega.{arith}
use lib.Dec.{eqb, ltb, leb}
use lib.ListN.{length, get_or, drop, drop_of_length-le, length-drop}
use lib.Seq.{drop-cons}
use lib.IntN.{pos, neg_ℤ}
use borrow.Author.Tests.{leb-true, leb-false, lt-ltb, eq-eqb, ne_eqb}
use Rattle.rules.specs.declared.Operator.TheVariants.{Add, Sub, Mul}
use Rattle.rules.specs.Expressions.{Expr, group, apply, Numbers, meaning}
use Rattle.rules.specs.Parse.{Parsed, parsed, shapeless, then_parse, atom, Ahead, operator, other, ahead, after_term, after_factor, close, factor_of, read_expression, read_factor}
use Rattle.rules.proofs.Parsing.{factor_is}
use Rattle.expressions.specs.declared.leaves.Leaf.{Leaf}
use Rattle.expressions.specs.declared.leaves.Digits.{Digits}
use Rattle.expressions.specs.declared.leaves.LeafFound.{LeafFound}
use Rattle.expressions.specs.Leaves.{cut_expr, cut_in, leaf_expr, variable_leaf, constant_leaf, negative_leaf, LeafAt}
use Rattle.expressions.specs.Operators.{joined_by}
use Rattle.std.specs.Prelude.{Option, None, Some}
use Rattle.std.specs.Option.{option_map, option_and_then}
use Rattle.rules.specs.declared.Operator.{Operator}
use Rattle.expressions.specs.Evaluating.{shut, Gives}

-- ---- what is read
not_parsed : {A : Type 0} (x : Expr) (s : List ℕ) → shapeless ≡ parsed x s → A
not_parsed x s e = absurd (let z : ◌≡◌ {A = ℕ} 0 1 = cc in omega arith)

record Onward (p : Parsed) (k : Expr → List ℕ → Parsed) (e : Expr) (s : List ℕ) : Type 0 where
  x : Expr
  r : List ℕ
  first : p ≡ parsed x r
  then : k x r ≡ parsed e s

onward_is : (p : Parsed) {k : Expr → List ℕ → Parsed} {e : Expr} {s : List ℕ} → then_parse p k ≡ parsed e s → Onward p k e s
unfolding then_parse
onward_is (parsed x r) h = record { x = x; r = r; first = refl; then = h }
onward_is shapeless {e = e} {s = s} h = not_parsed e s h

-- ---- leaves by their digits: what is none of them says nothing
module _ {A : Type 0} (n : Numbers A) (f : ℕ → A) (text : List ℕ) (at : ℕ) where
  pub no_leaf : {v : A} (k : ℕ) → at ≤ k → LeafAt text at None → Gives n f text (atom (drop at text)) at v k
  unfolding cut_in
  no_leaf k l h = record { from = l; same = λ x s e. not_parsed (cut_expr x) s (h.same ∙ ap cut_in e) }

  leaf_gives : (l : LeafFound) → LeafAt text at (Some l) → Gives n f text (atom (drop at text)) at (meaning n f (leaf_expr l.leaf)) l.next
  unfolding cut_in
  leaf_gives l h = record {
    from = h.from;
    same = λ x s e.
        let k : parsed (leaf_expr l.leaf) (drop l.next text) ≡ parsed (cut_expr x) s = h.same ∙ ap cut_in e in
        let c : leaf_expr l.leaf ≡ cut_expr x = cc in
        (ap (λ y. meaning n f y) c, cc);
  }

  module _ (d : Digits) (on : at ≤ d.next) where
    pub variable_gives : (r : Option Digits) → ((x : Digits) → r ≡ Some x → x ≡ d) → LeafAt text at (option_map variable_leaf r) → Gives n f text (atom (drop at text)) at (f d.value) d.next
    unfolding meaning
    variable_gives None q h = no_leaf d.next on h
    variable_gives (Some x) q h = subst (λ x. Gives n f text (atom (drop at text)) at (f x.value) x.next) (q x refl) (leaf_gives (variable_leaf x) h)

    pub constant_gives : (r : Option Digits) → ((x : Digits) → r ≡ Some x → x ≡ d) → LeafAt text at (option_map constant_leaf r) → Gives n f text (atom (drop at text)) at (n.of_constant (pos d.value)) d.next
    unfolding meaning
    constant_gives None q h = no_leaf d.next on h
    constant_gives (Some x) q h = subst (λ x. Gives n f text (atom (drop at text)) at (n.of_constant (pos x.value)) x.next) (q x refl) (leaf_gives (constant_leaf x) h)

    pub negative_gives : (r : Option Digits) → ((x : Digits) → r ≡ Some x → x ≡ d) → LeafAt text at (option_and_then negative_leaf r) → Gives n f text (atom (drop at text)) at (n.of_constant (neg_ℤ (pos d.value))) d.next
    unfolding meaning
    negative_gives None q h = no_leaf d.next on h
    negative_gives (Some x) q h = by (eqb x.value 0) h
      where
        by : (z : Bool) → LeafAt text at (cond z None (Some (record { leaf = Leaf.Constant (neg_ℤ (pos x.value)); next = x.next }))) → Gives n f text (atom (drop at text)) at (n.of_constant (neg_ℤ (pos d.value))) d.next
        by true k = no_leaf d.next on k
        by false k = subst (λ x. Gives n f text (atom (drop at text)) at (n.of_constant (neg_ℤ (pos x.value))) x.next) (q x refl) (leaf_gives (record { leaf = Leaf.Constant (neg_ℤ (pos x.value)); next = x.next }) k)

-- ---- the next byte
abbrev byte : List ℕ → ℕ → ℕ
byte text i = get_or text i 0

pub no_factor : (text : List ℕ) (i : ℕ) → (i < length text → byte text i ≡ 42 → ⊥) → after_factor (drop i text) ≡ other
unfolding after_factor
no_factor text i f = by (leb (length text) i) refl
  where
    by : (t : Bool) → leb (length text) i ≡ t → after_factor (drop i text) ≡ other
    by true e = rw (drop_of_length-le text (leb-true (length text) i e))
    by false e = let h = leb-false (length text) i e in rw (drop-cons text i 0 h, ne_eqb (byte text i) 42 (f h))

pub more_factor : (text : List ℕ) (i : ℕ) → i < length text → byte text i ≡ 42 → after_factor (drop i text) ≡ operator Mul (drop (suc i) text)
unfolding after_factor
more_factor text i h e = rw (drop-cons text i 0 h, eq-eqb (byte text i) 42 e)

pub end_term : (text : List ℕ) (i : ℕ) → length text ≤ i → after_term (drop i text) ≡ other
unfolding after_term
end_term text i h = rw (drop_of_length-le text h)

pub no_term : (text : List ℕ) (i : ℕ) → i < length text → (byte text i ≡ 43 → ⊥) → (byte text i ≡ 45 → ⊥) → after_term (drop i text) ≡ other
unfolding after_term
no_term text i h f g = rw (drop-cons text i 0 h, ne_eqb (byte text i) 43 f, ne_eqb (byte text i) 45 g)

pub plus_term : (text : List ℕ) (i : ℕ) → i < length text → byte text i ≡ 43 → after_term (drop i text) ≡ operator Add (drop (suc i) text)
unfolding after_term
plus_term text i h e = rw (drop-cons text i 0 h, eq-eqb (byte text i) 43 e)

pub minus_term : (text : List ℕ) (i : ℕ) → i < length text → byte text i ≡ 45 → after_term (drop i text) ≡ operator Sub (drop (suc i) text)
unfolding after_term
minus_term text i h e = rw (drop-cons text i 0 h, e)

-- ---- a factor
record GroupClosed (y : Expr) (r : List ℕ) (x : Expr) (s : List ℕ) : Type 0 where
  tree : group y ≡ x
  mark : ℕ
  after : r ≡ mark ∷ s

closed : (y : Expr) (r : List ℕ) (x : Expr) (s : List ℕ) → close y r ≡ parsed x s → GroupClosed y r x s
unfolding close
closed y [] x s e = not_parsed x s e
closed y (b ∷ t) x s e = by (eqb b 41) e
  where
    by : (q : Bool) → cond q (parsed (group y) t) shapeless ≡ parsed x s → GroupClosed y (b ∷ t) x s
    by true k = let c : t ≡ s = cc in record { tree = cc; mark = b; after = ap (λ l. b ∷ l) c }
    by false k = not_parsed x s k

-- a list that begins with a byte, from a place of a text
pub step_in_lem : (text : List ℕ) (i b : ℕ) (s : List ℕ) → drop i text ≡ b ∷ s → (i < length text) × (drop (suc i) text ≡ s)
step_in_lem text i b s e = (l, (let c : byte text i ∷ drop (suc i) text ≡ b ∷ s = sym (drop-cons text i 0 l) ∙ e in cc))
  where
    l : i < length text
    l = omega (arith, length-drop i text, ap length e)

group_is : (text : List ℕ) (at : ℕ) → at < length text → byte text at ≡ 40 → read_factor (drop at text) ≡ then_parse (read_expression (λ x. x) (drop (suc at) text)) close
unfolding factor_of
group_is text at h e = factor_is (drop at text) ∙ rw (drop-cons text at 0 h, eq-eqb (byte text at) 40 e)

module _ {A : Type 0} (n : Numbers A) (f : ℕ → A) (text : List ℕ) (at : ℕ) where
  pub factor_atom : {v : A} {k : ℕ} → (at < length text → byte text at ≡ 40 → ⊥) → Gives n f text (atom (drop at text)) at v k → Gives n f text (read_factor (drop at text)) at v k
  unfolding factor_of atom
  factor_atom {v = v} {k = k} h g = subst (λ p. Gives n f text p at v k) (sym (factor_is (drop at text) ∙ go (leb (length text) at) refl)) g
    where
      go : (b : Bool) → leb (length text) at ≡ b → factor_of (λ r. read_expression (λ x. x) r) (drop at text) ≡ atom (drop at text)
      go true e = rw (drop_of_length-le text (leb-true (length text) at e))
      go false e = let l = leb-false (length text) at e in rw (drop-cons text at 0 l, ne_eqb (byte text at) 40 (h l))

  pub factor_group : {v : A} {k : ℕ} → at < length text → byte text at ≡ 40 → Gives n f text (read_expression (λ x. x) (drop (suc at) text)) (suc at) v k → Gives n f text (read_factor (drop at text)) at v (shut k (length text))
  unfolding shut meaning cut_expr
  factor_group {k = k} h e i = record {
    from = by (ltb k (length text));
    same = λ x s q.
        let o = onward_is (read_expression (λ x. x) (drop (suc at) text)) (sym (group_is text at h e) ∙ q) in
        let (w, d) = i.same o.x o.r o.first in
        let c = closed o.x o.r x s o.then in
        let (l, j) = step_in_lem text k c.mark s (d ∙ c.after) in
        (w ∙ ap (λ y. meaning n f (cut_expr y)) c.tree, rw (lt-ltb k (length text) l) j);
  }
    where
      by : (b : Bool) → at ≤ cond b (suc k) k
      by true = omega (arith, i.from)
      by false = omega (arith, i.from)

-- ---- a term of factors, an expression of terms: `part` reads one, `look` the operator after it, `chain` all of them
module _ {A : Type 0} (n : Numbers A) (f : ℕ → A) (text : List ℕ) (part : List ℕ → Parsed) (look : List ℕ → Ahead) (chain : (Expr → Expr) → List ℕ → Parsed)
    (is : (left : Expr → Expr) (s : List ℕ) → chain left s ≡ then_parse (part s) λ x r. ahead (look r) (λ o t. chain (apply o (left x)) t) (parsed (left x) r)) where
  -- before a part: what stands before it with its operator, and the text from it on
  pub record Partly (e : Expr) (s : List ℕ) (before : Option (Operator × A)) (i : ℕ) : Type 0 where
    pub left : Expr → Expr
    pub value : (x : Expr) (v : A) → v ≡ meaning n f (cut_expr x) → joined_by n before v ≡ meaning n f (cut_expr (left x))
    pub rest : chain left (drop i text) ≡ parsed e s

  pub record ChainBegun (at : ℕ) (before : Option (Operator × A)) (i : ℕ) : Type 0 where
    pub from : at ≤ i
    pub same : (e : Expr) (s : List ℕ) → chain (λ x. x) (drop at text) ≡ parsed e s → Partly e s before i

  -- after a part: the tree read so far, and what is left to read
  record Tree (e : Expr) (s : List ℕ) (a : A) (i : ℕ) : Type 0 where
    tree : Expr
    value : a ≡ meaning n f (cut_expr tree)
    rest : ahead (look (drop i text)) (λ o t. chain (apply o tree) t) (parsed tree (drop i text)) ≡ parsed e s

  pub begins : (at : ℕ) → ChainBegun at None at
  begins at = record { from = omega arith; same = λ e s k. record { left = λ x. x; value = λ x v h. h; rest = k } }

  module _ {at : ℕ} {before : Option (Operator × A)} {i : ℕ} (b : ChainBegun at before i) {v : A} {k : ℕ} (g : Gives n f text (part (drop i text)) i v k) {w : A} (h : w ≡ joined_by n before v) where
    reads : (e : Expr) (s : List ℕ) → chain (λ x. x) (drop at text) ≡ parsed e s → Tree e s w k
    reads e s q =
        let p = b.same e s q in
        let o = onward_is (part (drop i text)) (sym (is p.left (drop i text)) ∙ p.rest) in
        let (u, d) = g.same o.x o.r o.first in
        record { tree = p.left o.x; value = h ∙ p.value o.x v u; rest = rw d o.then }

    pub goes : (o : Operator) → look (drop k text) ≡ operator o (drop (suc k) text) → ChainBegun at (Some (o, w)) (suc k)
    unfolding ahead meaning cut_expr
    goes o l = record {
      from = omega (arith, b.from, g.from);
      same = λ e s q.
          let p = reads e s q in
          record {
            left = apply o p.tree;
            value = λ x v u. λ t. n.of_operator o (p.value t) (u t);
            rest = rw l at p.rest;
          };
    }

    pub stops : look (drop k text) ≡ other → Gives n f text (chain (λ x. x) (drop at text)) at w k
    unfolding ahead
    stops l = record {
      from = omega (arith, b.from, g.from);
      same = λ e s q.
          let p = reads e s q in
          let r : parsed p.tree (drop k text) ≡ parsed e s = rw l at p.rest in
          let t : p.tree ≡ e = cc in
          (p.value ∙ ap (λ y. meaning n f (cut_expr y)) t, cc);
    }
