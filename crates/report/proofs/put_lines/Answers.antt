use borrow.Author.Rules.{rules}
use native.Mathlib.Omega.{arith}
use mathlib.Core.List.{[], ◌∷◌}
use Prim.Native.Nat.{◌≤◌}
use lib.ListN.{length, length-drop}
use Rattle.rules.specs.Report.{joined, key_line, ticks_key}
use Rattle.analysis_lines.specs.Coded.{lines_in}
use Rattle.analysis_lines.proofs.Laws.{lent_room}
use Rattle.report.specs.Lines.{head_text, loops_text}
use Rattle.report.proofs.Laws.{report_parts}
use Rattle.report.proofs.PiecesLaws.{first_room, second_room, third_room, third_written, writing_all, part_rest}
use Rattle.report.proofs.put_lines.Goals as goal

pub put_head-a-requires : goal.put_head-a-requires
put_head-a-requires c =
    let room : length (joined (head_text c.args.rows c.args.loops ∷ (loops_text (lines_in c.args.lines.now) c.args.loops ∷ (key_line ticks_key c.args.ticks ∷ [])))) ≤ length c.args.buffer.now = rw (report_parts _ _ (lent_room _ _ c.requires.0) c.args.rows c.args.ticks) at c.requires.1 in
    first_room _ _ _ c.args.buffer.now room

pub slice_bounds-put_loops-count : goal.slice_bounds-put_loops-count
slice_bounds-put_loops-count c =
    let room : length (joined (head_text c.args.rows c.args.loops ∷ (loops_text (lines_in c.args.lines.now) c.args.loops ∷ (key_line ticks_key c.args.ticks ∷ [])))) ≤ length c.args.buffer.now = rw (report_parts _ _ (lent_room _ _ c.requires.0) c.args.rows c.args.ticks) at c.requires.1 in
    let second = second_room _ _ _ _ room _ _ c.put_head-a.ensures in
    omega (arith, second)

pub slice_bounds-put_loops-start : goal.slice_bounds-put_loops-start
slice_bounds-put_loops-start c =
    let room : length (joined (head_text c.args.rows c.args.loops ∷ (loops_text (lines_in c.args.lines.now) c.args.loops ∷ (key_line ticks_key c.args.ticks ∷ [])))) ≤ length c.args.buffer.now = rw (report_parts _ _ (lent_room _ _ c.requires.0) c.args.rows c.args.ticks) at c.requires.1 in
    let second = second_room _ _ _ _ room _ _ c.put_head-a.ensures in
    let h : c.put_head-a.result ≤ length c.put_head-a.new.buffer = omega (arith, second) in
    search rules

pub put_loops-requires : goal.put_loops-requires
put_loops-requires c =
    let room : length (joined (head_text c.args.rows c.args.loops ∷ (loops_text (lines_in c.args.lines.now) c.args.loops ∷ (key_line ticks_key c.args.ticks ∷ [])))) ≤ length c.args.buffer.now = rw (report_parts _ _ (lent_room _ _ c.requires.0) c.args.rows c.args.ticks) at c.requires.1 in
    let second = second_room _ _ _ _ room _ _ c.put_head-a.ensures in
    (search rules, simp (part_rest, length-drop) (omega (arith, second)))

pub overflow_add-b : goal.overflow_add-b
overflow_add-b c =
    let room : length (joined (head_text c.args.rows c.args.loops ∷ (loops_text (lines_in c.args.lines.now) c.args.loops ∷ (key_line ticks_key c.args.ticks ∷ [])))) ≤ length c.args.buffer.now = rw (report_parts _ _ (lent_room _ _ c.requires.0) c.args.rows c.args.ticks) at c.requires.1 in
    let third = third_room _ _ _ _ room _ _ _ _ c.put_head-a.ensures c.put_loops.ensures in
    omega (arith, third)

pub slice_bounds-put_key-count : goal.slice_bounds-put_key-count
slice_bounds-put_key-count c =
    let room : length (joined (head_text c.args.rows c.args.loops ∷ (loops_text (lines_in c.args.lines.now) c.args.loops ∷ (key_line ticks_key c.args.ticks ∷ [])))) ≤ length c.args.buffer.now = rw (report_parts _ _ (lent_room _ _ c.requires.0) c.args.rows c.args.ticks) at c.requires.1 in
    let third = third_room _ _ _ _ room _ _ _ _ c.put_head-a.ensures c.put_loops.ensures in
    omega (arith, third)

pub slice_bounds-put_key-start : goal.slice_bounds-put_key-start
slice_bounds-put_key-start c =
    let room : length (joined (head_text c.args.rows c.args.loops ∷ (loops_text (lines_in c.args.lines.now) c.args.loops ∷ (key_line ticks_key c.args.ticks ∷ [])))) ≤ length c.args.buffer.now = rw (report_parts _ _ (lent_room _ _ c.requires.0) c.args.rows c.args.ticks) at c.requires.1 in
    let third = third_room _ _ _ _ room _ _ _ _ c.put_head-a.ensures c.put_loops.ensures in
    search rules

pub put_key-requires : goal.put_key-requires
put_key-requires c =
    let room : length (joined (head_text c.args.rows c.args.loops ∷ (loops_text (lines_in c.args.lines.now) c.args.loops ∷ (key_line ticks_key c.args.ticks ∷ [])))) ≤ length c.args.buffer.now = rw (report_parts _ _ (lent_room _ _ c.requires.0) c.args.rows c.args.ticks) at c.requires.1 in
    let third = third_room _ _ _ _ room _ _ _ _ c.put_head-a.ensures c.put_loops.ensures in
    simp (part_rest, length-drop) (omega (arith, third))

pub overflow_add-result : goal.overflow_add-result
overflow_add-result c =
    let room : length (joined (head_text c.args.rows c.args.loops ∷ (loops_text (lines_in c.args.lines.now) c.args.loops ∷ (key_line ticks_key c.args.ticks ∷ [])))) ≤ length c.args.buffer.now = rw (report_parts _ _ (lent_room _ _ c.requires.0) c.args.rows c.args.ticks) at c.requires.1 in
    let third = third_room _ _ _ _ room _ _ _ _ c.put_head-a.ensures c.put_loops.ensures in
    omega (arith, third, c.put_key.ensures.count)

pub returns : goal.returns
returns c =
    let room : length (joined (head_text c.args.rows c.args.loops ∷ (loops_text (lines_in c.args.lines.now) c.args.loops ∷ (key_line ticks_key c.args.ticks ∷ [])))) ≤ length c.args.buffer.now = rw (report_parts _ _ (lent_room _ _ c.requires.0) c.args.rows c.args.ticks) at c.requires.1 in
    rw (report_parts _ _ (lent_room _ _ c.requires.0) c.args.rows c.args.ticks) (writing_all _ _ _ _ _ (third_written _ _ _ _ room _ _ _ _ _ _ c.put_head-a.ensures c.put_loops.ensures c.put_key.ensures) (omega arith))
