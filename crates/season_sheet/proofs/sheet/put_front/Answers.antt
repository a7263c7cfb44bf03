use native.Mathlib.Omega.{arith}
use Prim.Native.Nat.{ℕ, ◌≤◌}
use lib.ListN.{length, length-append, length-drop}
use Rattle.rules.specs.Report.{key_line}
use Rattle.rules_season.specs.Season.{accepted_key, refused_key}
use Rattle.rules.proofs.LongestReport.{key_short}
use Rattle.report.proofs.PiecesLaws.{wrote_then, wrote_length, part_rest}
use Rattle.season_sheet.specs.Figures.{front_text}
use Rattle.season_sheet.proofs.sheet.put_front.Goals as goal

-- room for both
room : (a r : ℕ) → (length (key_line accepted_key a) ≤ 30) × (length (key_line refused_key r) ≤ 29)
room a r = (key_short accepted_key a, key_short refused_key r)

pub put_entry-at-requires : goal.put_entry-at-requires
put_entry-at-requires c = omega (arith, room c.args.sheet.accepted c.args.sheet.refused)

pub slice_bounds-put_entry-count : goal.slice_bounds-put_entry-count
slice_bounds-put_entry-count c = omega (arith, room c.args.sheet.accepted c.args.sheet.refused, c.put_entry-at.ensures.count)

pub slice_bounds-put_entry-start : goal.slice_bounds-put_entry-start
slice_bounds-put_entry-start c = omega (arith, room c.args.sheet.accepted c.args.sheet.refused, c.put_entry-at.ensures.count)

pub put_entry-requires : goal.put_entry-requires
put_entry-requires c = simp (part_rest, length-drop) (omega (arith, room c.args.sheet.accepted c.args.sheet.refused, c.put_entry-at.ensures.count))

pub overflow_add-result : goal.overflow_add-result
overflow_add-result c = omega (arith, room c.args.sheet.accepted c.args.sheet.refused, c.put_entry-at.ensures.count, c.put_entry.ensures.count)

pub shape_of-out : goal.shape_of-out
shape_of-out c =
    let w = wrote_then _ _ _ _ _ _ _ c.put_entry-at.ensures c.put_entry.ensures in
    wrote_length _ _ _ _ (rw length-append (omega (arith, room c.args.sheet.accepted c.args.sheet.refused))) w

pub returns : goal.returns
unfolding front_text
returns c =
    let w = wrote_then _ _ _ _ _ _ _ c.put_entry-at.ensures c.put_entry.ensures in
    (w, omega (arith, c.put_entry-at.ensures.count, c.put_entry.ensures.count, room c.args.sheet.accepted c.args.sheet.refused))
