use mathlib.Core.Path.{sym, ◌∙◌, subst}
use Rattle.std.proofs.Common.{rules}
use mir.Facts.{to_z-of_z, sfits_widen}
use mir.Syntax.{w32, w64}
use mir.Val.{SFits}
use Rattle.rules.specs.Written.{PassedWord}
use Rattle.values.proofs.Results.{in_number, in_past, part}
use Rattle.values.proofs.come_to.Goals as goal

pub value_in-requires : goal.value_in-requires
value_in-requires c = subst PassedWord (sym (part c.args.text.now c.args.at c.args.n)) c.requires.passed

pub returns-in-None : goal.returns-in-None
returns-in-None c = in_past ∙ rw (part c.args.text.now c.args.at c.args.n) at c.in-None.ensures

pub returns-in-Some : goal.returns-in-Some
returns-in-Some c =
    let f : SFits w32 c.in-Some.v = search rules in
    let g : SFits w64 c.in-Some.v = sfits_widen tt f in
    rw (to_z-of_z f, to_z-of_z g) (in_number _ f ∙ rw (part c.args.text.now c.args.at c.args.n) at c.in-Some.ensures)
