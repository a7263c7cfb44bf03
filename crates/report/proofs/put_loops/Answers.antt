use borrow.Author.Rules.{rules}
use native.Mathlib.Omega.{arith}
use mathlib.Core.Path.{ap, ◌∙◌}
use Prim.Native.Nat.{◌+◌, ◌≤◌}
use lib.ListN.{length, length-drop}
use Rattle.rules.specs.Report.{joined, line_of, loop_line}
use Rattle.analysis_lines.proofs.Laws.{lent_room}
use Rattle.report.specs.Pieces.{piece_texts}
use Rattle.report.proofs.PiecesLaws.{writing_none, writing_room, writing_more, writing_all, part_rest}
use Rattle.report.specs.Lines.{loops_text}
use Rattle.report.proofs.Laws.{taken_loops, loop_taken}
use Rattle.report.proofs.put_loops.Goals as goal

pub loop-k-init : goal.loop-k-init
loop-k-init c = writing_none _ _

pub slice_bounds-put_line-count : goal.slice_bounds-put_line-count
unfolding loops_text
slice_bounds-put_line-count c =
    let n = taken_loops _ _ (lent_room _ _ c.requires.0) in
    let line = c.loop_line.ensures ∙ ap (λ l. loop_line (line_of l)) c.line_at.ensures ∙ loop_taken _ _ (lent_room _ _ c.requires.0) _ _ c.loop-k-test.true in
    let room : c.loop-k.at + length (joined (piece_texts c.loop_line.result)) ≤ length c.loop-k.buffer = rw line (writing_room _ _ _ _ _ c.loop-k.invariant (omega (arith, n)) c.requires.1) in
    omega (arith, room)

pub slice_bounds-put_line-start : goal.slice_bounds-put_line-start
unfolding loops_text
slice_bounds-put_line-start c =
    let n = taken_loops _ _ (lent_room _ _ c.requires.0) in
    let line = c.loop_line.ensures ∙ ap (λ l. loop_line (line_of l)) c.line_at.ensures ∙ loop_taken _ _ (lent_room _ _ c.requires.0) _ _ c.loop-k-test.true in
    let room : c.loop-k.at + length (joined (piece_texts c.loop_line.result)) ≤ length c.loop-k.buffer = rw line (writing_room _ _ _ _ _ c.loop-k.invariant (omega (arith, n)) c.requires.1) in
    let h : c.loop-k.at ≤ length c.loop-k.buffer = omega (arith, room) in
    search rules

pub put_line-at-requires : goal.put_line-at-requires
unfolding loops_text
put_line-at-requires c =
    let n = taken_loops _ _ (lent_room _ _ c.requires.0) in
    let line = c.loop_line.ensures ∙ ap (λ l. loop_line (line_of l)) c.line_at.ensures ∙ loop_taken _ _ (lent_room _ _ c.requires.0) _ _ c.loop-k-test.true in
    let room : c.loop-k.at + length (joined (piece_texts c.loop_line.result)) ≤ length c.loop-k.buffer = rw line (writing_room _ _ _ _ _ c.loop-k.invariant (omega (arith, n)) c.requires.1) in
    simp (part_rest, length-drop) (omega (arith, room))

pub overflow_add-at : goal.overflow_add-at
unfolding loops_text
overflow_add-at c =
    let n = taken_loops _ _ (lent_room _ _ c.requires.0) in
    let line = c.loop_line.ensures ∙ ap (λ l. loop_line (line_of l)) c.line_at.ensures ∙ loop_taken _ _ (lent_room _ _ c.requires.0) _ _ c.loop-k-test.true in
    let room : c.loop-k.at + length (joined (piece_texts c.loop_line.result)) ≤ length c.loop-k.buffer = rw line (writing_room _ _ _ _ _ c.loop-k.invariant (omega (arith, n)) c.requires.1) in
    omega (arith, room, c.put_line-at.ensures.count)

pub loop-k-preserved : goal.loop-k-preserved
unfolding loops_text
loop-k-preserved c =
    let n = taken_loops _ _ (lent_room _ _ c.requires.0) in
    let line = c.loop_line.ensures ∙ ap (λ l. loop_line (line_of l)) c.line_at.ensures ∙ loop_taken _ _ (lent_room _ _ c.requires.0) _ _ c.loop-k-test.true in
    writing_more _ _ _ _ _ _ _ c.loop-k.invariant (omega (arith, n)) c.requires.1 (rw line at c.put_line-at.ensures)

pub returns : goal.returns
unfolding loops_text
returns c = let n = taken_loops _ _ (lent_room _ _ c.requires.0) in writing_all _ _ _ _ _ c.loop-k.invariant (omega (arith, n))
