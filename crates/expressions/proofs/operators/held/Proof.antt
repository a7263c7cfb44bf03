use mir.Syntax.{w32}
use mir.Val.{SFits}
use mir.Facts.{to_z-of_z}
use borrow.Author.Rules.{rules, sfits_of}
use Rattle.rules.specs.Evaluate.{clamped}
use Rattle.expressions.proofs.operators.held.Statement.{statement}
use Rattle.expressions.proofs.operators.held.Tie as tie

returns : tie.Need-returns
unfolding clamped
returns c =
    let f = c.ranges in
    let g0 : SFits w32 c.clamp.result = sfits_of c.clamp.type_inv in
    let g1 : SFits w32 c.clamp-2.result = sfits_of c.clamp-2.type_inv in
    rw (to_z-of_z g0, to_z-of_z g1, c.clamp.ensures, c.clamp-2.ensures, c.within.ensures, c.within-2.ensures) (simp (to_z-of_z f.least, to_z-of_z f.most))

pub held_spec : {M : Type 1} → statement M
held_spec = tie.close (tie.spec (λ c κs. search rules) (λ c κs. search rules) (λ c κs. search rules) (λ c κs. search rules) returns)
