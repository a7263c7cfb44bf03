use native.Mathlib.Omega.{arith}
use Prim.Native.Nat.{◌≤◌}
use Rattle.answer_text.proofs.RunsLaws.{adds_whole}
use Rattle.answer_text.proofs.steps.put_cue.Goals as goal

pub returns : goal.returns
returns c =
    let a = c.add_three.ensures in
    let short : c.add_three.result ≤ 67 = omega (arith, a.1) in
    (adds_whole _ _ _ _ (omega (arith, a.0.count, c.requires, short)) a.0, short)
