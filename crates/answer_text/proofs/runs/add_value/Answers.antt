use mathlib.Core.Bool.{true, false}
use mir.Facts.{to_z-of_z}
use mir.Syntax.{w64}
use mir.Val.{SFits}
use native.Mathlib.Omega.{arith}
use Rattle.ints.proofs.Parts.{ints}
use Rattle.answer_text.proofs.RunsLaws.{adds_is, value_below, value_above}
use Rattle.answer_text.proofs.runs.add_value.Goals as goal

pub overflow_cast-v : goal.overflow_cast-v
overflow_cast-v c = let f = c.ranges.v in rw (to_z-of_z f) (omega ints)

pub returns-then-v-lt0 : goal.returns-then-v-lt0
returns-then-v-lt0 c =
    let f = c.ranges.v in
    let v = c.args.v in
    let g : SFits w64 v = omega (ints, f) in
    (adds_is (value_below _ true v _ c.if-first.true (simp (to_z-of_z f) at c.if-v-lt0.true) (simp (to_z-of_z f, to_z-of_z g) at c.size-n.ensures)) c.add_number.ensures.0, omega (arith, c.add_number.ensures.1))

pub returns-then-first : goal.returns-then-first
returns-then-first c =
    let f = c.ranges.v in
    let v = c.args.v in
    let g : SFits w64 v = omega (ints, f) in
    (adds_is (value_above _ true v _ c.if-first.true (simp (to_z-of_z f) at c.if-v-lt0.false) (simp (to_z-of_z f, to_z-of_z g) at c.size-n.ensures)) c.add_number-then-first.ensures.0, omega (arith, c.add_number-then-first.ensures.1))

pub returns-then-v-lt0-2 : goal.returns-then-v-lt0-2
returns-then-v-lt0-2 c =
    let f = c.ranges.v in
    let v = c.args.v in
    let g : SFits w64 v = omega (ints, f) in
    (adds_is (value_below _ false v _ c.if-first.false (simp (to_z-of_z f) at c.if-v-lt0-2.true) (simp (to_z-of_z f, to_z-of_z g) at c.size-n.ensures)) c.add_number-then-v-lt0-2.ensures.0, omega (arith, c.add_number-then-v-lt0-2.ensures.1))

pub returns : goal.returns
returns c =
    let f = c.ranges.v in
    let v = c.args.v in
    let g : SFits w64 v = omega (ints, f) in
    (adds_is (value_above _ false v _ c.if-first.false (simp (to_z-of_z f) at c.if-v-lt0-2.false) (simp (to_z-of_z f, to_z-of_z g) at c.size-n.ensures)) c.add_number-2.ensures.0, omega (arith, c.add_number-2.ensures.1))
