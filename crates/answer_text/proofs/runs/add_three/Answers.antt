use Rattle.std.proofs.Common.{arith}
use Rattle.answer_text.proofs.RunsLaws.{adds_is, adds_join, three_text_lem}
use Rattle.answer_text.proofs.runs.add_three.Goals as goal

pub returns : goal.returns
returns c =
    let a = c.add_number-a.ensures in
    let b = c.add_number-b.ensures in
    let d = c.add_number-c.ensures in (
      adds_is (three_text_lem _ _ _ _) (adds_join _ _ _ _ _ _ _ _ (adds_join _ _ _ _ _ _ _ _ (adds_join _ _ _ _ _ _ _ _ a.0 b.0) d.0) c.end_line.ensures),
      omega (arith, a.1, b.1, d.1, c.end_line.ensures.count),
    )
