-- A for's start assignment.
use Rattle.rules.specs.Ranges.{at_start}
use Rattle.rules.specs.Blocks.{view_of, kind_of}
use Rattle.analysis_steps.specs.Tree.{head_of}
use Rattle.analysis_intervals.specs.Env.{env_of}
use Rattle.analysis_ranges.proofs.Widening.{no_start}
use Rattle.analysis_ranges.proofs.transfer.at_start.Goals as goal

pub bounds-s-requires : goal.bounds-s-requires
bounds-s-requires c = let h = rw c.in-For.is at c.requires.0 in let w = rw c.in-For.is at c.requires.1 in (h.1, w.0)

pub put-requires : goal.put-requires
put-requires c = let h = rw c.in-For.is at c.requires.0 in h.0

pub returns-in-For : goal.returns-in-For
unfolding at_start head_of view_of kind_of
returns-in-For c = rw (c.put.ensures, c.bounds-s.ensures, c.in-For.is)

pub returns-in_default : goal.returns-in_default
returns-in_default c = no_start c.args.text.now (env_of c.args.r.now) c.args.kind c.in_default.not-For
