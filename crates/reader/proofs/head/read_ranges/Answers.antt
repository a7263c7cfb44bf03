use mathlib.Core.Path.{subst}
use lib.ListN.{drop, length-drop}
use mir.Facts.{to_z-of_z}
use mir.Syntax.{w32}
use mir.Val.{SFits}
use Rattle.reading.proofs.TextLaws.{part_rest}
use Rattle.reader.specs.Head.{ranges_of}
use Rattle.reader.specs.Lines.{RangeRead}
use Rattle.reader.proofs.FillRanges.{ranges_none, ranges_more, ranges_wrong, ranges_all}
use borrow.Author.Rules.{rules}
use Rattle.reader.proofs.head.read_ranges.Goals as goal
use Rattle.reader.proofs.head.read_ranges.Goals.{After-range_line}

-- the line that was read
line_read : (c : After-range_line) → RangeRead (drop c.loop-i.next c.args.file.now) c.range_line.result
line_read c = rw (part_rest c.args.file.now c.loop-i.next) at c.range_line.ensures

pub loop-i-init : goal.loop-i-init
loop-i-init c = ranges_none _ _ _ c.requires.0

pub slice_bounds-range_line-count : goal.slice_bounds-range_line-count
slice_bounds-range_line-count c = let h = c.loop-i.invariant.within in search rules

pub slice_bounds-range_line-start : goal.slice_bounds-range_line-start
slice_bounds-range_line-start c = let h = c.loop-i.invariant.within in search rules

pub bounds-ranges-i : goal.bounds-ranges-i
bounds-ranges-i c = let h = c.loop-i.invariant.pairs.long in let k = c.requires.1 in search rules

pub overflow_add-next : goal.overflow_add-next
overflow_add-next c =
    let f = (subst (RangeRead _) c.in-Ok.is (line_read (goal.at.overflow_add-next c).After-range_line)).within in
    let l = length-drop c.loop-i.next c.args.file.now in
    let w = c.loop-i.invariant.within in
    search rules

pub loop-i-preserved : goal.loop-i-preserved
loop-i-preserved c =
    let f : SFits w32 c.in-Ok.line.lo = search rules in
    let g : SFits w32 c.in-Ok.line.hi = search rules in
    simp (to_z-of_z f, to_z-of_z g) (ranges_more _ _ _ _ _ _ c.loop-i.invariant c.requires.1 c.loop-i-test.true _ _ _ (subst (RangeRead _) c.in-Ok.is (line_read (goal.at.loop-i-preserved c).After-range_line)))

pub returns-in-Err : goal.returns-in-Err
unfolding ranges_of
returns-in-Err c =
    let h = subst (RangeRead _) c.in-Err.is (line_read (goal.at.returns-in-Err c).After-range_line) in
    rw c.refused.ensures (record { all = ranges_wrong _ _ _ _ _ _ c.loop-i.invariant c.requires.1 c.loop-i-test.true _ h; within = tt })

pub returns : goal.returns
returns c = ranges_all _ _ _ _ _ _ c.loop-i.invariant c.loop-i-test.false
