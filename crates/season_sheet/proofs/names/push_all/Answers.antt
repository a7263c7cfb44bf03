-- `season_sheet::names::push_all` meets its contract.
use mathlib.Core.List.{append-nil, append_assoc}
use native.Mathlib.Numerals.{add-one}
use lib.Seq.{take-suc, take_all}
use Rattle.season_sheet.proofs.names.push_all.Goals as goal

pub loop-b-init : goal.loop-b-init
loop-b-init c = λ input h. rw append-nil h

pub loop-b-preserved : goal.loop-b-preserved
loop-b-preserved c =
    let block = c.args.block.now in
    let i = c.loop-b.b-index in
    λ input h. rw (add-one i, take-suc block i 0 c.loop-b-test.true, ← append_assoc) (c.push-line.ensures _ (c.loop-b.invariant input h))

pub returns : goal.returns
returns c = λ input h. rw (take_all c.loop-b.b-index c.args.block.now c.loop-b-test.false) at (c.loop-b.invariant input h)
