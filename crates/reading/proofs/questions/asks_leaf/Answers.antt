use Rattle.std.proofs.Common.{◌≡◌, sym, ◌∙◌, true, false, rules}
use borrow.Author.Tests.{lt-ltb, le-ltb}
use mir.Facts.{to_z-of_z, sfits_widen}
use mir.Syntax.{w32, w64}
use mir.Val.{SFits}
use Rattle.rules.specs.Values.{in_limits}
use Rattle.rules.specs.File.{asks_leaves}
use Rattle.reading.proofs.questions.asks_leaf.Goals as goal

pub returns-in-Variable : goal.returns-in-Variable
unfolding asks_leaves
returns-in-Variable c = rw (c.in-Variable.is, lt-ltb _ _ c.if-v-vars.true)

pub returns-in-Variable-2 : goal.returns-in-Variable-2
unfolding asks_leaves
returns-in-Variable-2 c = rw (c.in-Variable.is, le-ltb _ _ c.if-v-vars.false)

pub returns-in-Constant : goal.returns-in-Constant
unfolding asks_leaves
returns-in-Constant c =
    let f : SFits w32 c.in-Constant.k = search rules in
    let g : SFits w64 c.in-Constant.k = sfits_widen tt f in
    let e : in_limits c.in-Constant.k ≡ true = simp (to_z-of_z f, to_z-of_z g) at (sym c.within.ensures ∙ c.if-within.true) in
    rw (c.in-Constant.is, e)

pub returns-in-Constant-2 : goal.returns-in-Constant-2
unfolding asks_leaves
returns-in-Constant-2 c =
    let f : SFits w32 c.in-Constant.k = search rules in
    let g : SFits w64 c.in-Constant.k = sfits_widen tt f in
    let e : in_limits c.in-Constant.k ≡ false = simp (to_z-of_z f, to_z-of_z g) at (sym c.within.ensures ∙ c.if-within.false) in
    rw (c.in-Constant.is, e)
