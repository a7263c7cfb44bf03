-- An expression that is written as such is no constant.
use mathlib.Core.Path.{◌≡◌, refl}
use mathlib.Core.Bool.{false}
use mathlib.Core.List.{List}
use Prim.Native.Nat.{ℕ}
use lib.IntN.{ℤ}
use Rattle.rules.specs.declared.Operand.{Operand}
use Rattle.rules.specs.declared.Operand.TheVariants.{Constant, Variable, Expression}
use Rattle.rules.specs.Expressions.{Expr, constant, variable, group, apply}
use Rattle.rules.specs.Blocks.{expr_of, for}
use Rattle.rules.specs.Written.{Composed, WrittenOperand}
use Rattle.rules.specs.Passes.{from_constant}
use Rattle.analysis_ticks.proofs.passes.is_constant.Goals as goal

composed : (e : Expr) → Composed e → false ≡ from_constant (for e)
unfolding Composed
composed (constant k) h = absurd h
composed (variable w) h = absurd h
composed (group x) h = refl
composed (apply o x y) h = refl

other : (text : List ℕ) (x : Operand) → ((n : ℤ) → x ≡ Constant n → ⊥) → WrittenOperand text x → false ≡ from_constant (for (expr_of text x))
unfolding expr_of
other text (Constant n) f h = absurd (f n refl)
other text (Variable w) f h = refl
other text (Expression at n) f h = composed _ h.composed

pub returns-in-Constant : goal.returns-in-Constant
unfolding expr_of
returns-in-Constant c = λ text h. rw c.in-Constant.is

pub returns-in_default : goal.returns-in_default
returns-in_default c = λ text h. other text c.args.x c.in_default.not-Constant h
