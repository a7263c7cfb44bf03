-- Whether the tested variable and the limit close on each other.
use borrow.Author.Tests.{eq-eqb, ne_eqb}
use mathlib.Core.Path.{◌≡◌, refl, sym, ap, subst, ◌∙◌}
use mathlib.Core.Bool.{Bool, true, false, ◌&&◌}
use mathlib.Core.List.{List}
use Prim.Native.Nat.{ℕ}
use lib.Dec.{eqb}
use Rattle.rules.specs.declared.Row.{Row}
use Rattle.rules_steps.specs.declared.Step.{Step}
use Rattle.rules.specs.Steps.{is_add, step, difference}
use Rattle.rules_steps.specs.Ends.{EndsWithin}
use Rattle.rules.specs.Ranges.{ordered, sort}
use Rattle.rules.specs.Questions.{known}
use Rattle.analysis_steps.proofs.Ends.{difference_ends}
use Rattle.table.specs.Code.{kind_at}
use Rattle.analysis_steps.specs.Tree.{test_of}
use Rattle.analysis_steps.specs.Body.{body_at}
use Rattle.analysis_loops.specs.declared.ways.LoopTest.{LoopTest}
use Rattle.analysis_loops.specs.Ways.{ChaseAt}
use Rattle.analysis_loops.proofs.WaysLaws.{chase_way}
use Rattle.analysis_loops.proofs.ways.chased_way.Goals as goal

-- whether both steps and the comparison fit
fits : {text : List ℕ} {rows : List Row} {count i w : ℕ} {head : LoopTest} {st other : Step} {chases : Bool} → ChaseAt text rows count i head st w → other ≡ step w (body_at text rows count i)
    → chases ≡ (is_add other && (is_add st && ordered (sort head.comparison)))
    → chases ≡ (is_add (step w (body_at text rows count i)) && (is_add (step (test_of text (kind_at rows i)).tested (body_at text rows count i)) && ordered (sort (test_of text (kind_at rows i)).comparison)))
fits p e f = f ∙ (λ j. is_add (e j) && (is_add (p.own j) && ordered (sort (p.head.comparison j))))

pub returns-then-w-head : goal.returns-then-w-head
returns-then-w-head c = λ text p. record {
  value = chase_way _ _ _ p.form (ap known (sym p.own) ∙ p.sure) p.limit p.changed {p = true} (sym (eq-eqb _ _ c.if-w-head.true) ∙ ap (eqb c.args.w) p.head.tested) refl;
  small = tt;
  moves = tt;
}

pub returns-then-chases : goal.returns-then-chases
returns-then-chases c = λ text p.
    let body = c.body_moves-other.ensures text p.loop in
    record {
      value = chase_way _ _ _ p.form (ap known (sym p.own) ∙ p.sure) p.limit p.changed {p = false} {q = true} (sym (ne_eqb _ _ c.if-w-head.false) ∙ ap (eqb c.args.w) p.head.tested)
          (sym c.if-chases.true ∙ fits p body.moves c.chases.ensures);
      small = p.small;
      moves = (c.difference.ensures ∙ (λ j. difference (p.own j) (body.moves j)), subst (EndsWithin 512) (sym c.difference.ensures) (difference_ends 256 256 _ _ p.near body.near));
    }

pub returns-else-chases : goal.returns-else-chases
returns-else-chases c = λ text p. record {
  value = chase_way _ _ _ p.form (ap known (sym p.own) ∙ p.sure) p.limit p.changed {p = false} {q = false} (sym (ne_eqb _ _ c.if-w-head.false) ∙ ap (eqb c.args.w) p.head.tested)
      (sym c.if-chases.false ∙ fits p (c.body_moves-other.ensures text p.loop).moves c.chases.ensures);
  small = tt;
  moves = tt;
}
