-- `answer_text::runs::add_number` meets its contract. Assumes nothing.
use borrow.Author.Rules.{rules}
use native.Mathlib.Omega.{arith}
use Prim.Native.Nat.{◌+◌, ◌≤◌}
use mathlib.Core.List.{◌++◌}
use lib.ListN.{length, length-append, length-drop}
use Rattle.rules.specs.Report.{decimal}
use Rattle.rules.proofs.LongestReport.{decimal_short}
use Rattle.report.proofs.PiecesLaws.{part_rest}
use Rattle.answer_text.proofs.RunsLaws.{adds_part}
use Rattle.answer_text.proofs.runs.add_number.Statement.{statement}
use Rattle.answer_text.proofs.runs.add_number.Tie as tie

room : (c : tie.Start) → c.args.at + length (c.args.key.now ++ decimal c.args.n) ≤ length c.args.out.now
room c = simp length-append (omega (arith, c.requires, decimal_short c.args.n))

pub add_number_spec : {M : Type 1} → statement M
add_number_spec = tie.close (tie.spec
    (λ c. omega (arith, room c.before.before))
    (λ c. omega (arith, room c.before.before))
    (λ c. search rules)
    (λ c κs. simp (part_rest, length-drop) (omega (arith, room c.before.before.before)))
    (λ c. omega (arith, room c.before.before.before.before.before.before, c.put_number.ensures.count))
    (λ c. (adds_part _ _ _ _ _ (room c.before.before.before.before.before.before) c.put_number.ensures).long)
    (λ c. (adds_part _ _ _ _ _ (room c.before.before.before.before.before.before) c.put_number.ensures, omega (arith, decimal_short c.args.n, simp length-append at c.put_number.ensures.count))))
