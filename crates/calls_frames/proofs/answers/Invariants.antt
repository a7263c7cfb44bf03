use Rattle.calls_frames.proofs.Answering.{Answering}
use Rattle.calls_frames.proofs.answers.Given as goal

-- the answers before this one are in the list
abbrev pub invariant-loop-k : goal.invariant-loop-k
invariant-loop-k l = Answering l.q l.fn.all l.tables l.progress l.counts l.k l.list
