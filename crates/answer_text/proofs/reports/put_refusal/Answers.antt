use native.Mathlib.Omega.{arith}
use lib.ListN.{length-drop}
use Rattle.report.proofs.PiecesLaws.{wrote_then, part_rest}
use Rattle.answer_text.proofs.ReportsLaws.{refusal_line, refusal_room}
use Rattle.answer_text.proofs.reports.put_refusal.Goals as goal

pub put_number-at-requires : goal.put_number-at-requires
put_number-at-requires c = omega (arith, refusal_room c.args.refusal.number c.args.refusal.place, c.requires)

pub slice_bounds-put_entry-count : goal.slice_bounds-put_entry-count
slice_bounds-put_entry-count c = omega (arith, refusal_room c.args.refusal.number c.args.refusal.place, c.requires, c.put_number-at.ensures.count)

pub slice_bounds-put_entry-start : goal.slice_bounds-put_entry-start
slice_bounds-put_entry-start c = omega (arith, refusal_room c.args.refusal.number c.args.refusal.place, c.requires, c.put_number-at.ensures.count)

pub put_entry-requires : goal.put_entry-requires
put_entry-requires c = simp (part_rest, length-drop) (omega (arith, refusal_room c.args.refusal.number c.args.refusal.place, c.requires, c.put_number-at.ensures.count))

pub overflow_add-result : goal.overflow_add-result
overflow_add-result c = omega (arith, refusal_room c.args.refusal.number c.args.refusal.place, c.requires, c.put_number-at.ensures.count, c.put_entry.ensures.count)

pub returns : goal.returns
returns c = rw refusal_line (wrote_then _ _ _ _ _ _ _ c.put_number-at.ensures c.put_entry.ensures)
