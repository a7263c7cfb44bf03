use Rattle.std.proofs.Common.{◌∙◌, ◌≤◌, sym, arith, rules}
use lib.ListN.{length}
use mir.Facts.{to_z-of_z}
use borrow.Author.Rules.{sfits_of}
use Rattle.reading.proofs.TextLaws.{stop_within, plain_first, plain_none, plain_zero, marked_small, marked_within, reads_variable, reads_negative}
use Rattle.reading.proofs.text.marked.Goals as goal
use Rattle.reading.proofs.text.marked.Goals.{in_default-via-in-Some-2+else-digits-ne0, in_default-via-in_default}

pub bounds-s-0 : goal.bounds-s-0
bounds-s-0 c = omega (arith, c.requires.0, stop_within c.args.s.now)

pub other_word-requires : goal.other_word-requires
other_word-requires c = plain_first _ c.requires.0 c.requires.1 (sym c.marks.ensures ∙ c.if-not-marks.true)

pub slice_bounds-natural-count : goal.slice_bounds-natural-count
slice_bounds-natural-count c = omega (arith, c.requires.0, stop_within c.args.s.now)

pub slice_bounds-natural-start : goal.slice_bounds-natural-start
slice_bounds-natural-start c = let h : 1 ≤ length c.args.s.now = omega (arith, c.requires.0, stop_within c.args.s.now) in search rules

pub signed-requires : goal.signed-requires
signed-requires c = marked_small _ c.requires.0 c.requires.1 _ c.natural.ensures _ c.in-Some.is

pub overflow_add-result : goal.overflow_add-result
overflow_add-result c = let h = marked_within _ c.requires.0 c.requires.1 _ c.natural.ensures _ c.in-Some.is in search rules

pub signed-requires-in-Some-2 : goal.signed-requires-in-Some-2
signed-requires-in-Some-2 c = marked_small _ c.requires.0 c.requires.1 _ c.natural.ensures _ c.in-Some.is

pub overflow_add-result-in-Some-2 : goal.overflow_add-result-in-Some-2
overflow_add-result-in-Some-2 c = let h = marked_within _ c.requires.0 c.requires.1 _ c.natural.ensures _ c.in-Some.is in search rules

pub other_word-requires-in_default : goal.other_word-requires-in_default
other_word-requires-in_default c =
    elim c.in_default.branch [
      | in_default-via-in-Some-2+else-digits-ne0 w ↦ plain_zero _ c.requires.0 c.requires.1 _ c.natural.ensures _ w.in-Some.is (sym c.marks.ensures ∙ c.if-not-marks.false) w.if-first-eq118.false w.if-digits-ne0.false
      | in_default-via-in_default w ↦ plain_none _ c.requires.0 c.requires.1 _ c.natural.ensures w.in_default.is
    ]

pub returns-in-Some : goal.returns-in-Some
returns-in-Some c = rw (to_z-of_z (sfits_of c.signed.type_inv), c.signed.ensures) (reads_variable _ c.requires.0 c.requires.1 _ c.natural.ensures _ c.in-Some.is c.if-first-eq118.true)

pub returns-in-Some-2 : goal.returns-in-Some-2
returns-in-Some-2 c =
    rw (to_z-of_z (sfits_of c.signed-in-Some-2.type_inv), c.signed-in-Some-2.ensures)
    (reads_negative _ c.requires.0 c.requires.1 _ c.natural.ensures _ c.in-Some.is (sym c.marks.ensures ∙ c.if-not-marks.false) c.if-first-eq118.false c.if-digits-ne0.true)
