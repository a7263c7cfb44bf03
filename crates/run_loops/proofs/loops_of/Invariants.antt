use Rattle.std.proofs.Common.{List, ℕ}
use Rattle.rules.specs.Calls.{loop_rows}
use Rattle.run_actions.specs.States.{tally_of}
use Rattle.run_machine.specs.Steps.{script_in}
use Rattle.run_loops.specs.Loops.{Counted}
use Rattle.run_loops.proofs.Listing.{Listing}
use Rattle.run_loops.proofs.loops_of.Given as goal

-- the loops before row j are listed
abbrev pub invariant-loop-j : goal.invariant-loop-j
invariant-loop-j l =
    (text : List ℕ) → Counted text l.rows l.count l.counts → Listing (script_in text l.rows l.count) (tally_of (loop_rows 0 (script_in text l.rows l.count)) l.counts) l.j l.k l.listed
