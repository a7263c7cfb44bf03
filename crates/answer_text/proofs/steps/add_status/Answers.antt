use native.Mathlib.Omega.{arith}
use mathlib.Core.Path.{ap}
use mathlib.Core.List.{◌++◌}
use Rattle.rules.specs.Report.{decimal}
use Rattle.answer_text.proofs.RunsLaws.{adds_is}
use Rattle.answer_text.proofs.StepTexts.{going_word_lem, waits_word_lem, full_word_lem, ended_word_lem, range_word_lem}
use Rattle.answer_text.proofs.steps.add_status.Goals as goal

pub returns-then-status-eq-GOING : goal.returns-then-status-eq-GOING
returns-then-status-eq-GOING c = (adds_is (ap (λ w. w ++ decimal c.args.row) (going_word_lem _ c.if-status-eq-GOING.true)) c.add_number.ensures.0, omega (arith, c.add_number.ensures.1))

pub returns-then-status-eq-WAITS : goal.returns-then-status-eq-WAITS
returns-then-status-eq-WAITS c = (adds_is (ap (λ w. w ++ decimal c.args.row) (waits_word_lem _ c.if-status-eq-WAITS.true)) c.add_number-then-status-eq-WAITS.ensures.0, omega (arith, c.add_number-then-status-eq-WAITS.ensures.1))

pub returns-then-status-eq-FULL : goal.returns-then-status-eq-FULL
returns-then-status-eq-FULL c = (adds_is (ap (λ w. w ++ decimal c.args.row) (full_word_lem _ c.if-status-eq-FULL.true)) c.add_number-then-status-eq-FULL.ensures.0, omega (arith, c.add_number-then-status-eq-FULL.ensures.1))

pub returns-then-status-eq-ENDED : goal.returns-then-status-eq-ENDED
returns-then-status-eq-ENDED c = (adds_is (ap (λ w. w ++ decimal c.args.row) (ended_word_lem _ c.if-status-eq-ENDED.true)) c.add_number-then-status-eq-ENDED.ensures.0, omega (arith, c.add_number-then-status-eq-ENDED.ensures.1))

pub returns : goal.returns
returns c = (adds_is (ap (λ w. w ++ decimal c.args.row) (range_word_lem _ c.if-status-eq-GOING.false c.if-status-eq-WAITS.false c.if-status-eq-FULL.false c.if-status-eq-ENDED.false)) c.add_number-2.ensures.0, omega (arith, c.add_number-2.ensures.1))
