use mathlib.Core.Path.{ap, ◌∙◌}
use lib.IntN.{ℤ}
use Rattle.rules.specs.Report.{sign, size, decimal}
use Rattle.report.proofs.Laws.{loop_spelled}
use Rattle.report.proofs.loop_line.Goals as goal

pub returns : goal.returns
returns c =
    let e = c.both_ends-a.ensures in
    loop_spelled _ _ _ _ _ _ _ c.step_name.ensures
    (c.end_sign.ensures ∙ ap sign e.0)
    (c.end_size.ensures ∙ ap (λ (z : ℤ). decimal (size z)) e.0)
    (c.end_sign-2.ensures ∙ ap sign e.1)
    (c.end_size-2.ensures ∙ ap (λ (z : ℤ). decimal (size z)) e.1)
    c.exact_name.ensures
