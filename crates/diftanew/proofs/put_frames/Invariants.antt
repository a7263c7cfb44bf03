use Rattle.diftanew.proofs.Laid.{Laid}
use Rattle.diftanew.proofs.put_frames.Given as goal

-- the scripts before this one lie there, after the first number
abbrev pub invariant-loop-k : goal.invariant-loop-k
invariant-loop-k l = Laid l.most l.scripts l.k l.answer
