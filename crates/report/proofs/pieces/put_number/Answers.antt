use native.Mathlib.Omega.{arith}
use mathlib.Core.Path.{refl}
use Prim.Native.Nat.{◌+◌, ◌≤◌}
use lib.ListN.{length, length-append, length-drop}
use Rattle.rules.specs.Report.{decimal_in, decimal}
use Rattle.report.specs.Pieces.{Wrote}
use Rattle.report.proofs.PiecesLaws.{wrote_then, wrote_copy, part_rest}
use Rattle.report.proofs.pieces.put_number.Goals as goal

pub put_digits-requires : goal.put_digits-requires
unfolding decimal
put_digits-requires c =
    let keyed : Wrote c.args.key.now c.args.out.now c.copy-at.new.to c.copy-at.result = wrote_copy _ _ _ _ _ refl c.copy-at.ensures.count c.copy-at.ensures.bytes in
    let room : length c.args.key.now + length (decimal_in 20 c.args.n) ≤ length c.args.out.now = rw length-append at c.requires in
    simp (part_rest, length-drop) (omega (arith, room, keyed.count))

pub overflow_add-result : goal.overflow_add-result
unfolding decimal
overflow_add-result c =
    let keyed : Wrote c.args.key.now c.args.out.now c.copy-at.new.to c.copy-at.result = wrote_copy _ _ _ _ _ refl c.copy-at.ensures.count c.copy-at.ensures.bytes in
    let room : length c.args.key.now + length (decimal_in 20 c.args.n) ≤ length c.args.out.now = rw length-append at c.requires in
    omega (arith, room, keyed.count, c.put_digits.ensures.count)

pub returns : goal.returns
unfolding decimal
returns c =
    let keyed : Wrote c.args.key.now c.args.out.now c.copy-at.new.to c.copy-at.result = wrote_copy _ _ _ _ _ refl c.copy-at.ensures.count c.copy-at.ensures.bytes in
    wrote_then _ _ _ _ _ _ _ keyed c.put_digits.ensures
