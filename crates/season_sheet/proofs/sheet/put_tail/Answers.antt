use native.Mathlib.Omega.{arith}
use mathlib.Core.List.{List, [], ◌∷◌}
use Prim.Native.Nat.{ℕ, ◌≤◌}
use lib.ListN.{length, length-drop}
use Rattle.rules.specs.Report.{joined, key_line, ticks_key}
use Rattle.rules_season.specs.Season.{greatest_key, groups_key}
use Rattle.report.proofs.PiecesLaws.{first_room, second_room, third_room, third_written, writing_all, part_rest}
use Rattle.season_sheet.specs.Figures.{tail_text}
use Rattle.season_sheet.proofs.Texts.{tail_short}
use Rattle.season_sheet.proofs.sheet.put_tail.Goals as goal

-- room for the three lines
room : (t g k : ℕ) (out : List ℕ) → 85 ≤ length out → length (joined (key_line ticks_key t ∷ (key_line greatest_key g ∷ (key_line groups_key k ∷ [])))) ≤ length out
unfolding tail_text
room t g k out h = omega (arith, tail_short t g k)

pub put_entry-a-requires : goal.put_entry-a-requires
put_entry-a-requires c = first_room _ _ _ c.args.out.now (room c.args.sheet.ticks c.args.sheet.greatest c.args.sheet.groups c.args.out.now c.requires)

pub slice_bounds-put_entry-count : goal.slice_bounds-put_entry-count
slice_bounds-put_entry-count c = omega (arith, second_room _ _ _ _ (room c.args.sheet.ticks c.args.sheet.greatest c.args.sheet.groups c.args.out.now c.requires) _ _ c.put_entry-a.ensures)

pub slice_bounds-put_entry-start : goal.slice_bounds-put_entry-start
slice_bounds-put_entry-start c = omega (arith, second_room _ _ _ _ (room c.args.sheet.ticks c.args.sheet.greatest c.args.sheet.groups c.args.out.now c.requires) _ _ c.put_entry-a.ensures)

pub put_entry-requires : goal.put_entry-requires
put_entry-requires c = simp (part_rest, length-drop) (omega (arith, second_room _ _ _ _ (room c.args.sheet.ticks c.args.sheet.greatest c.args.sheet.groups c.args.out.now c.requires) _ _ c.put_entry-a.ensures))

pub overflow_add-b : goal.overflow_add-b
overflow_add-b c = omega (arith, third_room _ _ _ _ (room c.args.sheet.ticks c.args.sheet.greatest c.args.sheet.groups c.args.out.now c.requires) _ _ _ _ c.put_entry-a.ensures c.put_entry.ensures)

pub slice_bounds-put_entry-count-2 : goal.slice_bounds-put_entry-count-2
slice_bounds-put_entry-count-2 c = omega (arith, third_room _ _ _ _ (room c.args.sheet.ticks c.args.sheet.greatest c.args.sheet.groups c.args.out.now c.requires) _ _ _ _ c.put_entry-a.ensures c.put_entry.ensures)

pub slice_bounds-put_entry-start-2 : goal.slice_bounds-put_entry-start-2
slice_bounds-put_entry-start-2 c = omega (arith, third_room _ _ _ _ (room c.args.sheet.ticks c.args.sheet.greatest c.args.sheet.groups c.args.out.now c.requires) _ _ _ _ c.put_entry-a.ensures c.put_entry.ensures)

pub put_entry-requires-2 : goal.put_entry-requires-2
put_entry-requires-2 c = simp (part_rest, length-drop) (omega (arith, third_room _ _ _ _ (room c.args.sheet.ticks c.args.sheet.greatest c.args.sheet.groups c.args.out.now c.requires) _ _ _ _ c.put_entry-a.ensures c.put_entry.ensures))

pub overflow_add-result : goal.overflow_add-result
overflow_add-result c = omega (arith, third_room _ _ _ _ (room c.args.sheet.ticks c.args.sheet.greatest c.args.sheet.groups c.args.out.now c.requires) _ _ _ _ c.put_entry-a.ensures c.put_entry.ensures, c.put_entry-2.ensures.count)

pub shape_of-out : goal.shape_of-out
shape_of-out c = (third_written _ _ _ _ (room c.args.sheet.ticks c.args.sheet.greatest c.args.sheet.groups c.args.out.now c.requires) _ _ _ _ _ _ c.put_entry-a.ensures c.put_entry.ensures c.put_entry-2.ensures).same

pub returns : goal.returns
unfolding tail_text
returns c =
    let w = writing_all _ _ _ _ _ (third_written _ _ _ _ (room c.args.sheet.ticks c.args.sheet.greatest c.args.sheet.groups c.args.out.now c.requires) _ _ _ _ _ _ c.put_entry-a.ensures c.put_entry.ensures c.put_entry-2.ensures) (omega arith) in
    let s = c.args.sheet in
    (w, omega (arith, w.count, tail_short s.ticks s.greatest s.groups))
