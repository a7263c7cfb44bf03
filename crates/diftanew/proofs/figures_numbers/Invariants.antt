use Rattle.std.proofs.Common.{[], ◌∷◌}
use Rattle.diftanew.proofs.Laid.{Lined}
use Rattle.diftanew.proofs.figures_numbers.Given as goal

-- the lines before this one lie there, after the first three numbers
abbrev pub invariant-loop-k : goal.invariant-loop-k
invariant-loop-k l = Lined (l.fn.f.ticks ∷ l.fn.f.vars ∷ l.loops ∷ []) l.lines l.k l.a
