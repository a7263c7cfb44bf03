use borrow.Author.Rules.{rules}
use native.Mathlib.Omega.{arith}
use mathlib.Core.List.{[], ◌∷◌}
use Prim.Native.Nat.{◌≤◌}
use lib.ListN.{length, length-drop}
use Rattle.rules.specs.Report.{joined, key_line, report_key, rows_key, loops_key}
use Rattle.report.specs.Lines.{head_text}
use Rattle.report.proofs.PiecesLaws.{first_room, second_room, third_room, third_written, writing_all, part_rest}
use Rattle.report.proofs.put_head.Goals as goal

pub put_key-a-requires : goal.put_key-a-requires
unfolding head_text
put_key-a-requires c =
    let room : length (joined (key_line report_key 1 ∷ (key_line rows_key c.args.rows ∷ (key_line loops_key c.args.loops ∷ [])))) ≤ length c.args.buffer.now = c.requires in
    first_room _ _ _ c.args.buffer.now room

pub slice_bounds-put_key-count : goal.slice_bounds-put_key-count
unfolding head_text
slice_bounds-put_key-count c =
    let room : length (joined (key_line report_key 1 ∷ (key_line rows_key c.args.rows ∷ (key_line loops_key c.args.loops ∷ [])))) ≤ length c.args.buffer.now = c.requires in
    let second = second_room _ _ _ _ room _ _ c.put_key-a.ensures in
    omega (arith, second)

pub slice_bounds-put_key-start : goal.slice_bounds-put_key-start
unfolding head_text
slice_bounds-put_key-start c =
    let room : length (joined (key_line report_key 1 ∷ (key_line rows_key c.args.rows ∷ (key_line loops_key c.args.loops ∷ [])))) ≤ length c.args.buffer.now = c.requires in
    let second = second_room _ _ _ _ room _ _ c.put_key-a.ensures in
    let h : c.put_key-a.result ≤ length c.put_key-a.new.out = omega (arith, second) in
    search rules

pub put_key-requires : goal.put_key-requires
unfolding head_text
put_key-requires c =
    let room : length (joined (key_line report_key 1 ∷ (key_line rows_key c.args.rows ∷ (key_line loops_key c.args.loops ∷ [])))) ≤ length c.args.buffer.now = c.requires in
    let second = second_room _ _ _ _ room _ _ c.put_key-a.ensures in
    simp (part_rest, length-drop) (omega (arith, second))

pub overflow_add-b : goal.overflow_add-b
unfolding head_text
overflow_add-b c =
    let room : length (joined (key_line report_key 1 ∷ (key_line rows_key c.args.rows ∷ (key_line loops_key c.args.loops ∷ [])))) ≤ length c.args.buffer.now = c.requires in
    let third = third_room _ _ _ _ room _ _ _ _ c.put_key-a.ensures c.put_key.ensures in
    omega (arith, third)

pub slice_bounds-put_key-count-2 : goal.slice_bounds-put_key-count-2
unfolding head_text
slice_bounds-put_key-count-2 c =
    let room : length (joined (key_line report_key 1 ∷ (key_line rows_key c.args.rows ∷ (key_line loops_key c.args.loops ∷ [])))) ≤ length c.args.buffer.now = c.requires in
    let third = third_room _ _ _ _ room _ _ _ _ c.put_key-a.ensures c.put_key.ensures in
    omega (arith, third)

pub slice_bounds-put_key-start-2 : goal.slice_bounds-put_key-start-2
unfolding head_text
slice_bounds-put_key-start-2 c =
    let room : length (joined (key_line report_key 1 ∷ (key_line rows_key c.args.rows ∷ (key_line loops_key c.args.loops ∷ [])))) ≤ length c.args.buffer.now = c.requires in
    let third = third_room _ _ _ _ room _ _ _ _ c.put_key-a.ensures c.put_key.ensures in
    search rules

pub put_key-requires-2 : goal.put_key-requires-2
unfolding head_text
put_key-requires-2 c =
    let room : length (joined (key_line report_key 1 ∷ (key_line rows_key c.args.rows ∷ (key_line loops_key c.args.loops ∷ [])))) ≤ length c.args.buffer.now = c.requires in
    let third = third_room _ _ _ _ room _ _ _ _ c.put_key-a.ensures c.put_key.ensures in
    simp (part_rest, length-drop) (omega (arith, third))

pub overflow_add-result : goal.overflow_add-result
unfolding head_text
overflow_add-result c =
    let room : length (joined (key_line report_key 1 ∷ (key_line rows_key c.args.rows ∷ (key_line loops_key c.args.loops ∷ [])))) ≤ length c.args.buffer.now = c.requires in
    let third = third_room _ _ _ _ room _ _ _ _ c.put_key-a.ensures c.put_key.ensures in
    omega (arith, third, c.put_key-2.ensures.count)

pub returns : goal.returns
unfolding head_text
returns c =
    let room : length (joined (key_line report_key 1 ∷ (key_line rows_key c.args.rows ∷ (key_line loops_key c.args.loops ∷ [])))) ≤ length c.args.buffer.now = c.requires in
    writing_all _ _ _ _ _ (third_written _ _ _ _ room _ _ _ _ _ _ c.put_key-a.ensures c.put_key.ensures c.put_key-2.ensures) (omega arith)
