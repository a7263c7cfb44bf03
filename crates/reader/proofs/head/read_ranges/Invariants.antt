use Rattle.reader.proofs.FillRanges.{RangesUpto}
use Rattle.reader.proofs.head.read_ranges.Given as goal

abbrev pub invariant-loop-i : goal.invariant-loop-i
invariant-loop-i l = RangesUpto l.file l.at l.n l.ranges l.next l.i
