use Rattle.std.proofs.Common.{◌≤◌, length, get_or, arith, rules, length-take, length-drop}
use Rattle.program_words.proofs.Words.{part_rest}
use Rattle.season_sheet.proofs.GroupsLaws.{among_none, among_first, among_later, total_rest, total_also}
use Rattle.season_sheet.proofs.groups.+is_known.Goals as goal

pub returns-then-lengths-eq0 : goal.returns-then-lengths-eq0
returns-then-lengths-eq0 t c = λ ss s e f g h. among_none s ss _ _ c.if-lengths-eq0.true e

pub slice_bounds-same_group-end : goal.slice_bounds-same_group-end
slice_bounds-same_group-end t c = rw length-take (omega (arith, total_rest c.args.lengths.now c.if-lengths-eq0.false, c.requires.0))

pub slice_bounds-same_group-end-2 : goal.slice_bounds-same_group-end-2
slice_bounds-same_group-end-2 t c = rw length-take (omega (arith, total_also c.args.lengths.now c.args.counts.now c.if-lengths-eq0.false c.requires.1, c.requires.2))

pub returns-then-same_group : goal.returns-then-same_group
returns-then-same_group t c = λ ss s e f g h. among_first s _ _ _ _ c.if-lengths-eq0.false c.requires.1 (λ a j k. c.same_group.ensures a s j g k h) ss e f c.if-same_group.true

pub slice_bounds-is_known-count-2 : goal.slice_bounds-is_known-count-2
slice_bounds-is_known-count-2 t c = omega (arith, total_rest c.args.lengths.now c.if-lengths-eq0.false, c.requires.0)

pub slice_bounds-is_known-start-2 : goal.slice_bounds-is_known-start-2
slice_bounds-is_known-start-2 t c = omega (arith, total_rest c.args.lengths.now c.if-lengths-eq0.false, c.requires.0)

pub offset_bounds-fired-m : goal.offset_bounds-fired-m
offset_bounds-fired-m t c =
    let h : get_or c.args.counts.now 0 0 ≤ length c.args.fired.now = omega (arith, total_also c.args.lengths.now c.args.counts.now c.if-lengths-eq0.false c.requires.1, c.requires.2) in search rules

pub slice_bounds-is_known-count-4 : goal.slice_bounds-is_known-count-4
slice_bounds-is_known-count-4 t c = omega (arith, total_also c.args.lengths.now c.args.counts.now c.if-lengths-eq0.false c.requires.1, c.requires.2)

pub slice_bounds-is_known-start-4 : goal.slice_bounds-is_known-start-4
slice_bounds-is_known-start-4 t c = omega (arith, total_also c.args.lengths.now c.args.counts.now c.if-lengths-eq0.false c.requires.1, c.requires.2)

pub is_known-requires : goal.is_known-requires
is_known-requires t c = (
  rw part_rest (simp length-drop (omega (arith, c.if-lengths-eq0.false, c.decreases))),
  (
    rw (part_rest, part_rest) (simp length-drop (omega (arith, total_rest c.args.lengths.now c.if-lengths-eq0.false, c.requires.0))),
    rw (part_rest, part_rest) (simp length-drop (omega (arith, c.requires.1))),
    rw (part_rest, part_rest) (simp length-drop (omega (arith, total_also c.args.lengths.now c.args.counts.now c.if-lengths-eq0.false c.requires.1, c.requires.2))),
  ),
)

pub returns : goal.returns
returns t c = λ ss s e f g h.
    among_later s _ _ _ _ c.if-lengths-eq0.false c.requires.1 (λ a j k. c.same_group.ensures a s j g k h) ss e f c.if-same_group.false (λ ts j k. c.is_known.ensures ts s (rw (part_rest, part_rest) j) (rw (part_rest, part_rest) k) g h)
