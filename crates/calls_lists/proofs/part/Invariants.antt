use Rattle.std.proofs.Common.{◌≡◌, take}
use Rattle.rules_frames.specs.Frames.{total}
use Rattle.calls_lists.proofs.part.Given as goal

-- the lengths before this one are added up
abbrev pub invariant-loop-i : goal.invariant-loop-i
invariant-loop-i l = l.from ≡ total (take l.i l.lengths)
