use mathlib.Core.Path.{sym, ◌∙◌}
use Prim.Native.Nat.{◌-◌}
use lib.ListN.{length}
use Rattle.reader.proofs.NextLine.{found_line}
use Rattle.reading.specs.Words.{before}
use borrow.Author.Tests.{lt-ltb, eqb-true, ltb-true}
use native.Mathlib.Omega.{arith}
use Rattle.reader.proofs.lines.has_line.Goals as goal
use Rattle.reader.proofs.lines.has_line.Goals.{then-n-gt0, else-n-gt0}

-- src/lines.rt:11:1
pub returns-then-rest-n-eq10 : goal.returns-then-rest-n-eq10
returns-then-rest-n-eq10 c =
    let s = c.args.rest.now in
    elim c.if-n-gt0.branch [
      | then-n-gt0 w ↦
          c.if-rest-n-eq10.true ∙ sym (lt-ltb (before 10 s) (length s) (omega (arith, w.if-n-gt0.true, found_line s (length s - 1) (omega (arith, w.if-n-gt0.true)) (eqb-true _ _ (sym w.value-is ∙ c.if-rest-n-eq10.true)))))
      | else-n-gt0 w ↦ absurd (omega (arith, w.if-n-gt0.false, ltb-true 0 (length s) (sym w.value-is ∙ c.if-rest-n-eq10.true)))
    ]
