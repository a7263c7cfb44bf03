-- `runs::put_run` meets its contract.
use native.Mathlib.Omega.{arith}
use Prim.Native.Nat.{◌≤◌}
use Rattle.answer_text.proofs.RunsLaws.{adds_is, adds_join, adds_whole, run_text_lem}
use Rattle.answer_text.proofs.runs.put_run.Goals as goal

pub returns : goal.returns
returns c =
    let text = adds_is (run_text_lem _ _ _ _ _ _) (adds_join _ _ _ _ _ _ _ _ (adds_join _ _ _ _ _ _ _ _ (adds_join _ _ _ _ _ _ _ _ c.add_front-a.ensures.0 c.add_values-b.ensures.0) c.end_line-c.ensures) c.add_counts.ensures.0) in
    let short : c.add_counts.result ≤ 2_048 = omega (arith, c.add_front-a.ensures.1, c.add_values-b.ensures.1, c.end_line-c.ensures.count, c.add_counts.ensures.1) in
    (adds_whole _ _ _ _ (omega (arith, text.count, c.requires.2, short)) text, short)
