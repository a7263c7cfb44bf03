-- `calls_frames::answers` meets its contract. Assumes nothing.
use mathlib.Core.List.{[]}
use Prim.Native.Nat.{◌≤◌, ◌<◌}
use native.Mathlib.Omega.{arith}
use lib.ListN.{get_or}
use borrow.Author.Rules.{rules}
use Rattle.calls_scripts.specs.Held.{slice_of, Inside, nobody}
use Rattle.calls_turns.specs.Progress.{start_progress}
use Rattle.calls_frames.specs.Answers.{Answerable}
use Rattle.calls_frames.proofs.Answering.{Answering, answering_none, answering_more, answering_all}
use Rattle.calls_frames.proofs.answers.Goals as goal
use Rattle.calls_frames.proofs.answers.Goals.{In-loop-k}

pub loop-k-init : goal.loop-k-init
loop-k-init c = answering_none _ _ _ _ _ _ c.nothing-none.ensures

-- script k is one of 8
one_of_8 : (c : In-loop-k) → c.loop-k.k < 8
one_of_8 c = omega (arith, c.loop-k-test.true, c.requires.0)

pub loop-k-preserved : goal.loop-k-preserved
loop-k-preserved c = let l = c.loop-k in answering_more _ _ _ _ _ l.k l.list (one_of_8 (goal.at.loop-k-preserved c).In-loop-k) l.invariant _ c.answer_of-a.ensures

pub returns : goal.returns
returns c = let l = c.loop-k in answering_all _ _ _ _ _ l.k l.list (omega (arith, c.loop-k-test.false, l.auto.k-end)) l.invariant
