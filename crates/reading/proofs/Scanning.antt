-- A scan's steps are those of the walk.
use mathlib.Core.Path.{◌≡◌, refl, sym, ◌∙◌, ap, subst}
use mathlib.Core.Bool.{Bool, true, false, cond}
use mathlib.Core.List.{List, ◌∷◌}
use Prim.Native.Nat.{ℕ, zero, suc, max, ◌-◌, ◌≤◌, ◌<◌}
use native.Mathlib.Omega.{arith}
use lib.Dec.{eqb}
use lib.ListN.{length, get_or, drop, drop_of_length-le}
use lib.Seq.{drop-cons}
use borrow.Author.Tests.{eq-eqb, ne_eqb}
use Rattle.std.specs.Prelude.{None, Some}
use Rattle.rules.specs.Parse.{parsed, shapeless, atom}
use Rattle.rules.specs.File.{first_refusal, asks_leaves}
use Rattle.expressions.specs.declared.leaves.Leaf.{Leaf}
use Rattle.expressions.specs.declared.leaves.LeafFound.{LeafFound}
use Rattle.std.specs.Prelude.{Result}
use Rattle.reading.specs.declared.order.LineQuestion.{LineQuestion}
use Rattle.reading.specs.declared.questions.Scan.{Scan}
use Rattle.reading.specs.Answers.{answer_number}
use Rattle.expressions.specs.Leaves.{cut_in, leaf_expr, LeafAt}
use Rattle.expressions.specs.Operators.{is_sum}
use Rattle.reading.specs.Asking.{noted, one_more, sizes_from, due, shut, on, stop, goes, close_act, mark_act, act, end_question, word_question, sizes_of, scan_question, bytes_ahead, MayScan, ScanOn, operates}
use Rattle.reading.proofs.Asking.{follow, at_shut, leaf_steps}

pub at_the_end : (vars : ℕ) (word : List ℕ) (c : Scan) → length word ≤ c.at → end_question (cond c.due due shut) c.depth (sizes_of c) ≡ scan_question vars word c
unfolding scan_question word_question
at_the_end vars word c l = rw (drop_of_length-le word l)

module _ (vars : ℕ) (word : List ℕ) (c : Scan) (r : MayScan word c) where
  at_due_lem : c.due ≡ true → scan_question vars word c ≡ word_question vars due c.depth (sizes_of c) (get_or word c.at 0 ∷ drop (suc c.at) word)
  unfolding scan_question
  at_due_lem e = rw (e, drop-cons word c.at 0 r.within)

  at_shut_lem : c.due ≡ false → scan_question vars word c ≡ word_question vars shut c.depth (sizes_of c) (get_or word c.at 0 ∷ drop (suc c.at) word)
  unfolding scan_question
  at_shut_lem e = rw (e, drop-cons word c.at 0 r.within)

  -- where a factor is due
  opened_lem : c.due ≡ true → get_or word c.at 0 ≡ 40 → ScanOn vars word c (record { due = true; depth = suc c.depth; deep = c.deep; ops = c.ops; asks = c.asks; at = suc c.at })
  unfolding scan_question word_question act goes bytes_ahead
  opened_lem e b = record {
    same = sym (at_due_lem e ∙ rw (eq-eqb (get_or word c.at 0) 40 b));
    depth = omega (arith, r.depth);
    ops = omega (arith, r.ops);
    less = rw e (omega (arith, r.within));
  }

  pub opened : c.due ≡ true → get_or word c.at 0 ≡ 40 → ScanOn vars word c (record { due = c.due; depth = suc c.depth; deep = c.deep; ops = c.ops; asks = c.asks; at = suc c.at })
  opened e b = subst (λ t. ScanOn vars word c (record { due = t; depth = suc c.depth; deep = c.deep; ops = c.ops; asks = c.asks; at = suc c.at })) (sym e) (opened_lem e b)

  pub no_leaf : vars ≤ 16 → c.due ≡ true → (get_or word c.at 0 ≡ 40 → ⊥) → LeafAt word c.at None → 3 ≡ scan_question vars word c
  unfolding follow
  no_leaf f e b h = sym (at_due_lem e ∙ leaf_steps vars c.depth (sizes_of c) (get_or word c.at 0) (drop (suc c.at) word) f (ne_eqb (get_or word c.at 0) 40 b) shapeless (h.same ∙ ap (λ u. cut_in (atom u)) (drop-cons word c.at 0 r.within)))

  noted_leaf : (x : Leaf) → (m q : ℕ) → m ≡ max c.deep c.depth → q ≡ first_refusal (answer_number c.asks) (asks_leaves vars (leaf_expr x)) → sizes_from vars c.depth (leaf_expr x) (sizes_of c) ≡ record { deep = m; ops = c.ops; asks = q }
  unfolding sizes_from noted
  noted_leaf (Leaf.Constant z) m q e k = rw (e, k)
  noted_leaf (Leaf.Variable v) m q e k = rw (e, k)

  pub leafed : vars ≤ 16 → c.due ≡ true → (get_or word c.at 0 ≡ 40 → ⊥) → (l : LeafFound) → LeafAt word c.at (Some l) → (m : ℕ) (q : Result (Unit {0}) LineQuestion) → m ≡ max c.deep c.depth → answer_number q ≡ first_refusal (answer_number c.asks) (asks_leaves vars (leaf_expr l.leaf))
      → ScanOn vars word c (record { due = false; depth = c.depth; deep = m; ops = c.ops; asks = q; at = l.next })
  unfolding scan_question bytes_ahead follow
  leafed f e b l h m q i j = record {
    same = sym (at_due_lem e ∙ leaf_steps vars c.depth (sizes_of c) (get_or word c.at 0) (drop (suc c.at) word) f (ne_eqb (get_or word c.at 0) 40 b) (parsed (leaf_expr l.leaf) (drop l.next word)) (h.same ∙ ap (λ u. cut_in (atom u)) (drop-cons word c.at 0 r.within)) ∙ ap (λ a. at_shut vars c.depth a (drop l.next word)) (noted_leaf l.leaf m (answer_number q) i j));
    depth = omega (arith, r.depth, h.from);
    ops = omega (arith, r.ops, h.from);
    less = rw e (omega (arith, h.from));
  }

  -- after a factor
  pub operated : c.due ≡ false → operates (get_or word c.at 0) ≡ true → ScanOn vars word c (record { due = true; depth = c.depth; deep = c.deep; ops = suc c.ops; asks = c.asks; at = suc c.at })
  unfolding scan_question word_question act bytes_ahead one_more mark_act goes operates is_sum
  operated e o = record {
    same = sym (at_shut_lem e ∙ ap (λ x. goes x (λ m d a. word_question vars m d a (drop (suc c.at) word))) (by (eqb (get_or word c.at 0) 42) (eqb (get_or word c.at 0) 43) (eqb (get_or word c.at 0) 45) (eqb (get_or word c.at 0) 41) o));
    depth = omega (arith, r.depth);
    ops = omega (arith, r.ops);
    less = rw e (omega (arith, r.within));
  }
    where
      by : (p q u v : Bool) → cond p true (cond q true u) ≡ true → cond p (on due c.depth (one_more (sizes_of c))) (cond q (on due c.depth (one_more (sizes_of c))) (cond u (on due c.depth (one_more (sizes_of c))) (cond v (close_act c.depth (sizes_of c)) stop))) ≡ on due c.depth (one_more (sizes_of c))
      by true q u v k = refl
      by false true u v k = refl
      by false false true v k = refl
      by false false false v k = absurd (let z : ◌≡◌ {A = ℕ} 0 1 = cc in omega arith)

  closed_lem : c.due ≡ false → get_or word c.at 0 ≡ 41 → 0 < c.depth → ScanOn vars word c (record { due = false; depth = c.depth - 1; deep = c.deep; ops = c.ops; asks = c.asks; at = suc c.at })
  unfolding scan_question word_question act bytes_ahead mark_act goes close_act operates is_sum
  closed_lem e b h = record {
    same = sym (at_shut_lem e ∙ rw b (ap (λ x. goes x (λ m d a. word_question vars m d a (drop (suc c.at) word))) (by c.depth h)));
    depth = omega (arith, r.depth);
    ops = omega (arith, r.ops);
    less = rw e (omega (arith, r.within));
  }
    where
      by : (d : ℕ) → 0 < d → close_act d (sizes_of c) ≡ on shut (d - 1) (sizes_of c)
      by zero k = absurd (omega arith)
      by (suc d) k = let n : d ≡ suc d - 1 = omega arith in ap (λ x. on shut x (sizes_of c)) n

  pub closed : c.due ≡ false → get_or word c.at 0 ≡ 41 → 0 < c.depth → ScanOn vars word c (record { due = c.due; depth = c.depth - 1; deep = c.deep; ops = c.ops; asks = c.asks; at = suc c.at })
  closed e b h = subst (λ t. ScanOn vars word c (record { due = t; depth = c.depth - 1; deep = c.deep; ops = c.ops; asks = c.asks; at = suc c.at })) (sym e) (closed_lem e b h)

  pub too_closed : c.due ≡ false → get_or word c.at 0 ≡ 41 → c.depth ≤ 0 → 3 ≡ scan_question vars word c
  unfolding word_question act mark_act goes close_act operates is_sum
  too_closed e b h = sym (at_shut_lem e ∙ rw b (let z : c.depth ≡ 0 = omega arith in ap (λ d. goes (close_act d (sizes_of c)) (λ m d a. word_question vars m d a (drop (suc c.at) word))) z))

  pub no_mark : c.due ≡ false → operates (get_or word c.at 0) ≡ false → (get_or word c.at 0 ≡ 41 → ⊥) → 3 ≡ scan_question vars word c
  unfolding word_question act mark_act goes close_act operates is_sum
  no_mark e o b = sym (at_shut_lem e ∙ rw (ne_eqb (get_or word c.at 0) 41 b) (ap (λ x. goes x (λ m d a. word_question vars m d a (drop (suc c.at) word))) (by (eqb (get_or word c.at 0) 42) (eqb (get_or word c.at 0) 43) (eqb (get_or word c.at 0) 45) o)))
    where
      by : (p q u : Bool) → cond p true (cond q true u) ≡ false → cond p (on due c.depth (one_more (sizes_of c))) (cond q (on due c.depth (one_more (sizes_of c))) (cond u (on due c.depth (one_more (sizes_of c))) stop)) ≡ stop
      by true q u k = absurd (let z : ◌≡◌ {A = ℕ} 0 1 = cc in omega arith)
      by false true u k = absurd (let z : ◌≡◌ {A = ℕ} 0 1 = cc in omega arith)
      by false false true k = absurd (let z : ◌≡◌ {A = ℕ} 0 1 = cc in omega arith)
      by false false false k = refl
