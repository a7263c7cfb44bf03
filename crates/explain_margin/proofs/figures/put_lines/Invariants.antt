use mathlib.Core.Path.{◌≡◌}
use lib.ListN.{length, take, drop}
use Rattle.analysis_lines.specs.Coded.{lines_in}
use Rattle.explain_margin.specs.Figures.{put_lines}
use Rattle.explain_margin.proofs.figures.put_lines.Given as goal

-- the lines from k on are still to be put
abbrev pub invariant-loop-k : goal.invariant-loop-k
invariant-loop-k l =
    (length l.figures ≡ 256) × (put_lines (drop l.k (take l.loops (lines_in l.lines))) l.figures ≡ put_lines (take l.loops (lines_in l.lines)) l.initial.figures)
