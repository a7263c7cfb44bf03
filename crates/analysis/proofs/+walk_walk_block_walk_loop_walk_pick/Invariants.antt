use Prim.Native.Nat.{◌-◌, ◌+◌, ◌*◌}
use mathlib.Core.Path.{◌≡◌}
use lib.ListN.{length}
use Rattle.table.specs.Code.{rows_of}
use Rattle.analysis_intervals.specs.Env.{env_of}
use Rattle.analysis.specs.Tallies.{with_lent, tallied}
use Rattle.analysis.proofs.Going.{Going}
use Rattle.analysis.proofs.+walk_walk_block_walk_loop_walk_pick.Given as goal

-- the rows left; at the same row a walk calls a block's function, and that one the pick's or the loop's
abbrev pub decreases-walk : goal.decreases-walk
decreases-walk l = 3 * (l.script.count - l.from.next) + 2

abbrev pub decreases-walk_block : goal.decreases-walk_block
decreases-walk_block l = 3 * (l.script.count - l.t.next) + 1

abbrev pub decreases-walk_loop : goal.decreases-walk_loop
decreases-walk_loop l = 3 * (l.script.count - l.t.next)

abbrev pub decreases-walk_pick : goal.decreases-walk_pick
decreases-walk_pick l = 3 * (l.script.count - l.t.next)

abbrev pub invariant-walk-loop-t : goal.invariant-walk-loop-t
invariant-walk-loop-t l =
    (length l.own ≡ length l.initial.own) × Going l.text l.script.prices (rows_of l.rows) l.script.count l.round l.initial.t.next (tallied (with_lent l.initial.t l.initial.lines l.initial.own) (env_of l.initial.r)) (env_of l.r) (with_lent l.t l.lines l.own)

abbrev pub decreases-walk-loop-t : goal.decreases-walk-loop-t
decreases-walk-loop-t l = l.script.count - l.t.next
