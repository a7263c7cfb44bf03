-- The way by what the limit is.
use borrow.Author.Rules.{rules}
use mathlib.Core.Logic.{inl, inr}
use mathlib.Core.Path.{◌≡◌, refl, sym, ap, subst, ◌∙◌}
use mathlib.Core.Bool.{Bool, true, false, not}
use Rattle.rules.specs.Expressions.{Expr, variable}
use Rattle.rules.specs.Blocks.{expr_of, Block}
use Rattle.rules.specs.Written.{WrittenOperand}
use mathlib.Core.List.{List}
use Prim.Native.Nat.{ℕ}
use Rattle.rules.specs.Steps.{assigns}
use Rattle.rules.specs.Trips.{keeps}
use Rattle.rules.specs.Questions.{known}
use Rattle.rules.specs.declared.Row.{Row}
use Rattle.rules.specs.declared.Operand.TheVariants.{Variable}
use Rattle.rules_steps.specs.declared.Step.{Step}
use Rattle.table.specs.Code.{kind_at}
use Rattle.analysis_loops.specs.declared.ways.LoopTest.{LoopTest}
use Rattle.analysis_loops.specs.Heads.{HeadOf}
use Rattle.table.proofs.Laws.{row_in}
use Rattle.analysis_loops.specs.Ways.{ChaseAt, LimitAt}
use Rattle.analysis_loops.proofs.WaysLaws.{constant_way, composed_way}
use Rattle.analysis_loops.proofs.ways.limit_way.Goals as goal

-- question 10 has no of a variable: the body assigns it
not_kept : {o : Expr} (body : Block) {w : ℕ} → o ≡ variable w → keeps o body ≡ false → assigns w body ≡ true
unfolding keeps
not_kept body {w} e h = by (assigns w body) (rw e at h)
  where
    by : (b : Bool) → not b ≡ false → b ≡ true
    by true h = refl
    by false h = sym h

-- the limit is the variable w
chased : {text : List ℕ} {rows : List Row} {count i w : ℕ} {head : LoopTest} {step : Step} → HeadOf text (kind_at rows i) head → head.limit ≡ Variable w → LimitAt text rows count i step → ChaseAt text rows count i head step w
unfolding expr_of
chased {text} h o p =
    let e = sym h.limit ∙ ap (expr_of text) o in
    record {
      loop = p.loop;
      form = p.form;
      head = h;
      own = p.own;
      near = p.near;
      sure = p.sure;
      small = rw o at h.fine;
      limit = e;
      changed = not_kept _ e p.changed;
    }

pub kind_at-kind-requires : goal.kind_at-kind-requires
kind_at-kind-requires c = let (text, p) = c.requires in let l = p.loop in row_in c.args.rows.now _ (search rules)

pub chased_way-requires : goal.chased_way-requires
chased_way-requires c = let (text, p) = c.requires in (text, chased (rw c.kind_at-kind.ensures at (c.head_of-head.ensures text)) c.in-Variable.is p)

pub returns-in-Variable : goal.returns-in-Variable
returns-in-Variable c = λ text p. c.chased_way.ensures text (chased (rw c.kind_at-kind.ensures at (c.head_of-head.ensures text)) c.in-Variable.is p)

pub returns-in-Constant : goal.returns-in-Constant
unfolding expr_of
returns-in-Constant c = λ text p.
    let h = rw c.kind_at-kind.ensures at (c.head_of-head.ensures text) in
    elim c.in-Constant.is [
      | inl (n, e) ↦ record { value = constant_way _ _ _ p.form (ap known (sym p.own) ∙ p.sure) (sym h.limit ∙ ap (expr_of text) e); small = tt; moves = tt }
      | inr (at, n, e) ↦
          let w = subst (WrittenOperand text) e (h.written (p.loop.ready.written _ p.loop.inside)) in
          record { value = composed_way _ _ _ p.form (ap known (sym p.own) ∙ p.sure) (ap (expr_of text) (sym e) ∙ h.limit) w.composed; small = tt; moves = tt }
    ]
