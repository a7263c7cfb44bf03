-- By what is known in the first pass.
use borrow.Author.Rules.{rules}
use mathlib.Core.Path.{sym, ap, ◌∙◌}
use mir.Syntax.{w32}
use mir.Val.{SFits}
use mir.Facts.{to_z-of_z}
use Rattle.analysis_steps.specs.Tree.{form_of, test_of}
use Rattle.analysis_loops.specs.Found.{trip_of}
use Rattle.analysis_ticks.specs.Capped.{capped}
use Rattle.analysis_ticks.proofs.Values.{walked_unknown, walked_none, walked_same, walked_sum, rises}
use Rattle.analysis_ticks.proofs.passes.walked.Goals as goal
use Rattle.analysis_ticks.proofs.passes.walked.Goals.{in-Some+else-kept, else-kept-via-then-kept+else-triangle, else-kept-via-else-kept, in_default}

pub summed-requires : goal.summed-requires
summed-requires c =
    let a = c.args in
    let (text, w) = c.requires.3 in
    (rises a.trip (form_of text a.kind) (test_of text a.kind).limit a.round.v c.requires.0 (c.requires.1 0) (sym (c.triangle.ensures text w) ∙ c.if-triangle.true), c.requires.2)

pub returns-then-triangle : goal.returns-then-triangle
returns-then-triangle c = λ text h.
    let a = c.args in
    let f : SFits w32 c.in-Some.x = search rules in
    let s = simp (to_z-of_z f) at c.summed.ensures in
    c.cap.ensures ∙ ap capped (s ∙ sym (walked_sum (form_of text a.kind) (test_of text a.kind).limit (trip_of a.trip) a.turns a.round a.kept c.in-Some.x c.in-Some.is c.if-kept.true (sym (c.triangle.ensures text h) ∙ c.if-triangle.true)))

pub returns : goal.returns
returns c = λ text h.
    let a = c.args in
    c.times.ensures ∙ ap capped (elim c.match-round.branch [
      | in-Some+else-kept w ↦ elim w.else-kept.branch [
        | else-kept-via-then-kept+else-triangle u ↦ sym (walked_same (form_of text a.kind) (test_of text a.kind).limit (trip_of a.trip) a.turns a.round a.kept w.in-Some.x w.in-Some.is u.if-kept.true (sym (u.triangle.ensures text h) ∙ u.if-triangle.false))
        | else-kept-via-else-kept u ↦ sym (walked_none (form_of text a.kind) (test_of text a.kind).limit (trip_of a.trip) a.turns a.round a.kept w.in-Some.x w.in-Some.is u.if-kept.false)
      ]
      | in_default w ↦ sym (walked_unknown (form_of text a.kind) (test_of text a.kind).limit (trip_of a.trip) a.turns a.round a.kept w.in_default.is)
    ])
