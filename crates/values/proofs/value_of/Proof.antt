-- `values::value_of` meets its contract. Assumes nothing.
use mathlib.Core.Path.{◌≡◌, ap, subst, ◌∙◌}
use borrow.Author.Rules.{rules, sfits_of}
use lib.ListN.{length}
use mir.Facts.{to_z-of_z, sfits_widen}
use mir.Syntax.{w32, w64}
use mir.Val.{SFits}
use Rattle.rules.specs.declared.Operand.{Operand}
use Rattle.rules.specs.Expressions.{meaning}
use Rattle.rules.specs.Values.{number, value}
use Rattle.rules.specs.Blocks.{expr_of}
use Rattle.rules.specs.Scripts.{ExprBelow}
use Rattle.rules.specs.Written.{WrittenOperand}
use Rattle.values.proofs.Results.{in_number}
use Rattle.values.proofs.value_of.Statement.{statement}
use Rattle.values.proofs.value_of.Tie as tie

-- the operand, once it is known
known : (s : tie.Start) (x : Operand) → s.args.x ≡ x → WrittenOperand s.args.text.now x × ExprBelow (length s.args.store.now) (expr_of s.args.text.now x)
known s x e = subst (λ y. WrittenOperand s.args.text.now y × ExprBelow (length s.args.store.now) (expr_of s.args.text.now y)) e s.requires

cast-result : tie.Need-overflow_cast-result
cast-result c = let f : SFits w32 c.in-Constant.k = sfits_of c.in-Constant.known_told-in-Constant-1-own.given.0.1 in rw (to_z-of_z f) (sfits_widen tt f)

returns : tie.Need-returns-in-Expression
unfolding expr_of
returns c =
    let g : SFits w64 c.come_to.result = sfits_of c.come_to.type_inv in
    rw c.in-Expression.is (simp (to_z-of_z g) c.come_to.ensures)

returns_2 : tie.Need-returns-in-Constant
unfolding value meaning expr_of
returns_2 c =
    let f : SFits w32 c.in-Constant.k = sfits_of c.in-Constant.known_told-in-Constant-1-own.given.0.1 in
    let g : SFits w64 c.in-Constant.k = sfits_widen tt f in
    rw (c.in-Constant.is, to_z-of_z f, to_z-of_z g) (in_number _ f)

returns_3 : tie.Need-returns-in-Variable
unfolding value meaning expr_of
returns_3 c =
    let f : SFits w32 c.stored.result = sfits_of c.stored.type_inv in
    let g : SFits w64 c.stored.result = sfits_widen tt f in
    rw (c.in-Variable.is, to_z-of_z f, to_z-of_z g) (in_number _ f ∙ ap number c.stored.ensures)

pub value_of_spec : {M : Type 1} → statement M
unfolding expr_of ExprBelow
value_of_spec =
    tie.close
    (tie.spec
    (λ c. search rules)
    (λ c κs. (known c.before.before _ c.in-Expression.is).0)
    (λ c. search rules)
    cast-result
    (λ c. search rules)
    (λ c κs. (known c.before.before _ c.in-Variable.is).1)
    (λ c. let f : SFits w32 c.stored.result = sfits_of c.stored.type_inv in rw (to_z-of_z f) (sfits_widen tt f))
    returns
    returns_2
    returns_3)
