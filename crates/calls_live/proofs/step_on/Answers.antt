-- `calls_live::step_on` meets its contract. Assumes nothing.
use borrow.Author.Rules.{rules}
use native.Mathlib.Omega.{arith}
use Rattle.run_loops.specs.Loops.{Counted}
use Rattle.calls_live.proofs.Answering.{sixty_four, machine_asks, counts_asks, few_ticks, may_play, ticks_least, listed_few, answers}
use Rattle.calls_live.proofs.step_on.Goals as goal
use Rattle.calls_live.proofs.step_on.Goals.{After-play-stop}

-- the counts of the loops
counted : (c : After-play-stop) → Counted c.args.text.now c.args.rows.now c.args.script.count c.play-stop.new.counts
counted c = let g = c.requires.1 in record { size = g.runs.size; table = g.runs.table; room = c.play-stop.ensures.room }

pub bounds-state-3 : goal.bounds-state-3
bounds-state-3 c = omega (arith, sixty_four c.requires.1)

pub bounds-state-4 : goal.bounds-state-4
bounds-state-4 c = omega (arith, sixty_four c.requires.1)

pub bounds-state-5 : goal.bounds-state-5
bounds-state-5 c = omega (arith, sixty_four c.requires.1)

pub machine_in-from-requires : goal.machine_in-from-requires
machine_in-from-requires c = machine_asks c.requires.1

pub counts_in-counts-requires : goal.counts_in-counts-requires
counts_in-counts-requires c = counts_asks c.requires.1

pub play-stop-requires : goal.play-stop-requires
play-stop-requires c = may_play c.requires.1 _ c.counts_in-counts.ensures _ c.machine_in-from.ensures _

pub loops_of-listed-requires : goal.loops_of-listed-requires
loops_of-listed-requires c = (_, counted (goal.at.loops_of-listed-requires c).After-play-stop)

pub overflow_add-standing : goal.overflow_add-standing
overflow_add-standing c =
    let g = c.requires.1 in
    let a = ticks_least g _ c.counts_in-counts.ensures _ c.machine_in-from.ensures _ c.play-stop.result _ _ _ _ c.play-stop.ensures in
    omega (arith, (few_ticks g).0)

pub overflow_add-standing-2 : goal.overflow_add-standing-2
overflow_add-standing-2 c = let g = c.requires.1 in let k = c.well_formed.1.1.1.1.1.1.0 in omega (arith, (few_ticks g).1, c.play-stop.ensures.used)

pub write_state-requires : goal.write_state-requires
write_state-requires c =
    let g = c.requires.1 in (
      sixty_four g,
      listed_few g _ c.counts_in-counts.ensures _ c.machine_in-from.ensures _ c.play-stop.result _ _ _ _ c.play-stop.ensures _ (c.loops_of-listed.ensures _ (counted (goal.at.write_state-requires c).After-play-stop)),
      g.asked.long,
      c.play-stop.ensures.room.long,
    )

pub returns : goal.returns
returns c s g =
    answers g _ c.counts_in-counts.ensures _ c.machine_in-from.ensures _ c.play-stop.result _ _ _ _ c.play-stop.ensures c.loops_of-listed.result
    (c.loops_of-listed.ensures _ (counted (goal.at.returns c).After-play-stop)) c.settle-rest.result c.settle-rest.ensures _ c.write_state.ensures (search rules)
