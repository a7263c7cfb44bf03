-- `run_loops::loops_of` meets its contract. Assumes nothing.
use mathlib.Core.List.{List}
use Prim.Native.Nat.{ℕ, ◌+◌, ◌≤◌, ◌<◌}
use native.Mathlib.Omega.{arith}
use lib.ListN.{length}
use Rattle.rules.specs.Calls.{loop_rows}
use Rattle.run_actions.specs.States.{tally_of}
use Rattle.run_machine.specs.Steps.{script_in}
use Rattle.run_loops.specs.Loops.{Counted}
use Rattle.run_loops.proofs.Listing.{Listing, listing_none, listing_all, rows_are, no_loop_lem, number_in, one_loop}
use Rattle.run_loops.proofs.loops_of.Goals as goal
use Rattle.run_loops.proofs.loops_of.Goals.{Then-is_loop, then-is_loop, else-is_loop}

pub loop-j-init : goal.loop-j-init
loop-j-init c text g = listing_none _ _

pub is_loop-requires : goal.is_loop-requires
is_loop-requires c = let g = c.requires.1 in omega (arith, g.table.size, g.size, c.loop-j-test.true)

-- the loop that begins here is one of the 16
in_counts : (c : Then-is_loop) → (c.loop-j.k < length (loop_rows 0 (script_in c.requires.0 c.args.rows.now c.args.count))) × (c.loop-j.k < 16)
in_counts c = let l = c.loop-j in number_in c.requires.1 l.j l.k l.listed (l.invariant c.requires.0 c.requires.1) c.loop-j-test.true _ (c.is_loop.ensures c.requires.0) c.if-is_loop.true

pub offset_bounds-counts-k : goal.offset_bounds-counts-k
offset_bounds-counts-k c = omega (arith, (in_counts (goal.at.offset_bounds-counts-k c).Then-is_loop).1)

pub bounds-counts-k : goal.bounds-counts-k
bounds-counts-k c = (in_counts (goal.at.bounds-counts-k c).Then-is_loop).1

pub count_of-requires : goal.count_of-requires
count_of-requires c = c.requires.1.room.turn _ (in_counts (goal.at.count_of-requires c).Then-is_loop).0

pub offset_bounds-listed-k : goal.offset_bounds-listed-k
offset_bounds-listed-k c = omega (arith, (in_counts (goal.at.offset_bounds-listed-k c).Then-is_loop).1)

pub bounds-listed-k : goal.bounds-listed-k
bounds-listed-k c = (in_counts (goal.at.bounds-listed-k c).Then-is_loop).1

pub overflow_add-k : goal.overflow_add-k
overflow_add-k c = omega (arith, (in_counts (goal.at.overflow_add-k c).Then-is_loop).1)

-- row j is listed, or begins no loop
pub loop-j-preserved : goal.loop-j-preserved
loop-j-preserved c =
    let l = c.loop-j in
    let i = c.loop-j-test.true in
    let e = c.is_loop.ensures in
    elim c.if-is_loop.branch [
      | then-is_loop w ↦ λ text g. rw (w.listed-is, w.k-is) (one_loop g l.j l.k l.listed (l.invariant text g) i _ (e text) w.if-is_loop.true _ w.count_of.ensures)
      | else-is_loop w ↦ λ text g. rw (w.listed-is, w.k-is) (no_loop_lem g l.j l.k l.listed (l.invariant text g) i _ (e text) w.if-is_loop.false)
    ]

pub returns : goal.returns
returns c text g = let l = c.loop-j in listing_all _ _ l.j l.k l.listed (omega (arith, rows_are g, l.auto.j-end, c.loop-j-test.false)) (l.invariant text g)
