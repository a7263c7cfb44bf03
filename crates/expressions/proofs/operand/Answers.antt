use Rattle.std.proofs.Common.{add-one, rules, arith}
use mir.Syntax.{w32}
use mir.Facts.{to_z-of_z}
use mir.ValLaws.{to_z_pos}
use Rattle.expressions.proofs.LeavesLaws.{digits_whole, digits_small, minus_fits, minus_is, leaf_past, leaf_variable, leaf_negative, leaf_other}
use Rattle.expressions.proofs.Evaluating.{no_leaf, variable_gives, constant_gives, negative_gives}
use Rattle.expressions.proofs.operand.Goals as goal

pub returns-then-at-text : goal.returns-then-at-text
returns-then-at-text g c = no_leaf _ _ _ _ _ (omega arith) (leaf_past _ _ c.if-at-text.true)

pub overflow_cast-digits-in-45 : goal.overflow_cast-digits-in-45
overflow_cast-digits-in-45 g c = let h = digits_small _ _ _ c.digits_at-digits-in-45.ensures in search rules

pub overflow_sub-digits : goal.overflow_sub-digits
overflow_sub-digits g c = let h = digits_small _ _ _ c.digits_at-digits-in-45.ensures in rw (minus_is _ h) (minus_fits _ h)

pub overflow_cast-digits-in_default : goal.overflow_cast-digits-in_default
overflow_cast-digits-in_default g c = let h = digits_small _ _ _ c.digits_at-digits-in_default.ensures in search rules

pub returns-in-118 : goal.returns-in-118
returns-in-118 g c =
    let d = c.digits_at-digits in
    let e = rw add-one at d.ensures in
    let (r, w, k) = digits_whole _ _ d.result e in
    rw c.variable.ensures (variable_gives _ _ _ _ d.result (omega (arith, d.ensures.next)) r k (leaf_variable _ _ c.if-at-text.false c.in-118.is r w))

pub returns-in-45 : goal.returns-in-45
returns-in-45 g c =
    let d = c.digits_at-digits-in-45 in
    let h = digits_small _ _ _ d.ensures in
    let e = rw add-one at d.ensures in
    let (r, w, k) = digits_whole _ _ d.result e in
    rw (c.constant-in-45.ensures, minus_is _ h, to_z-of_z (minus_fits _ h)) (negative_gives _ _ _ _ d.result (omega (arith, d.ensures.next)) r k (leaf_negative _ _ c.if-at-text.false c.in-45.is r w))

pub returns-in_default : goal.returns-in_default
returns-in_default g c =
    let d = c.digits_at-digits-in_default in
    let h = digits_small _ _ _ d.ensures in
    let (r, w, k) = digits_whole _ _ d.result d.ensures in
    rw (c.constant-in_default.ensures, to_z_pos w32 d.result.value (omega (arith, h))) (constant_gives _ _ _ _ d.result (omega (arith, d.ensures.next)) r k (leaf_other _ _ c.if-at-text.false (search rules) (search rules) r w))
