-- `calls::run_accepted` meets its contract. Assumes nothing.
use Rattle.rules.specs.Calls.{store_after}
use Rattle.run_machine.specs.Steps.{script_in}
use Rattle.runner.specs.Answered.{run_of}
use Rattle.runner.proofs.Start.{cleared}
use Rattle.run_loops.specs.Loops.{Counted}
use Rattle.calls.proofs.Counts.{counts_are, counts_number}
use Rattle.calls.proofs.run_accepted.Goals as goal
use Rattle.calls.proofs.run_accepted.Goals.{After-run_rows-ran}

pub run_rows-ran-requires : goal.run_rows-ran-requires
run_rows-ran-requires c = (c.requires, cleared)

-- the counts of the run
counted : (c : After-run_rows-ran) → Counted c.args.text.now c.args.rows.now c.args.count c.run_rows-ran.new.counts
counted c = let g = c.requires.script in record { size = g.size; table = g.table; room = c.run_rows-ran.ensures.room }

pub loops_of-loops-requires : goal.loops_of-loops-requires
loops_of-loops-requires c = (_, counted (goal.at.loops_of-loops-requires c).After-run_rows-ran)

pub returns : goal.returns
unfolding store_after
returns c =
    let t = c.run_rows-ran.ensures.told in
    let l = c.loops_of-loops in
    let h = l.ensures c.args.text.now (counted (goal.at.returns c).After-run_rows-ran) in
    let a = run_of c.args.prices (script_in c.args.text.now c.args.rows.now c.args.count) c.args.store.now c.args.picks.now c.args.allowance in
    record {
      told = record {
        ending = t.ending;
        row = t.row;
        ticks = t.ticks;
        used = t.used;
        loops = counts_number a.entries _ t.sums t.mosts _ l.result h;
        counts = counts_are a.entries _ t.sums t.mosts _ l.result h;
        rest = h.rest;
      };
      store = t.final;
    }
