use Rattle.std.proofs.Common.{◌≡◌, ◌+◌, take}
use Rattle.rules_frames.specs.Frames.{total}
use Rattle.calls_lists.proofs.covers.Given as goal

-- the lengths before this one are gone from n
abbrev pub invariant-loop-next : goal.invariant-loop-next
invariant-loop-next l = total (take l.next-index l.lengths) + l.left ≡ l.n
