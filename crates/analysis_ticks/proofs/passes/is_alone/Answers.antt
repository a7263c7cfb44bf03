-- An expression that is written as such is no variable alone.
use mathlib.Core.Logic.{inl, inr}
use mathlib.Core.Path.{◌≡◌, refl, subst}
use mathlib.Core.Bool.{false}
use Prim.Native.Nat.{ℕ}
use Rattle.rules.specs.Expressions.{Expr, constant, variable, group, apply}
use Rattle.rules.specs.Blocks.{expr_of}
use Rattle.rules.specs.Written.{Composed, WrittenOperand}
use Rattle.rules.specs.Passes.{is_alone}
use Rattle.analysis_ticks.proofs.passes.is_alone.Goals as goal

composed : (v : ℕ) (e : Expr) → Composed e → false ≡ is_alone v e
unfolding Composed
composed v (constant k) h = absurd h
composed v (variable w) h = absurd h
composed v (group x) h = refl
composed v (apply o x y) h = refl

pub returns-in-Variable : goal.returns-in-Variable
unfolding expr_of
returns-in-Variable c = λ text h. rw c.in-Variable.is

pub returns-in-Constant : goal.returns-in-Constant
unfolding expr_of
returns-in-Constant c = λ text h.
    elim c.in-Constant.is [
      | inl (n, e) ↦ rw e
      | inr (at, n, e) ↦ rw e (composed _ _ (subst (WrittenOperand text) e h).composed)
    ]
