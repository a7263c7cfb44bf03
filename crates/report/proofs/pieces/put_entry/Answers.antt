use native.Mathlib.Omega.{arith}
use mathlib.Core.Path.{◌≡◌}
use mathlib.Core.List.{◌++◌}
use Prim.Native.Nat.{◌+◌, ◌≤◌}
use lib.ListN.{length, length-append}
use Rattle.rules.specs.Report.{decimal}
use Rattle.report.proofs.PiecesLaws.{key_parts, wrote_byte, wrote_length}
use Rattle.report.proofs.pieces.put_entry.Goals as goal

pub put_number-at-requires : goal.put_number-at-requires
unfolding decimal
put_number-at-requires c =
    let room : length (c.args.key.now ++ decimal c.args.n) + 1 ≤ length c.args.out.now = rw (key_parts c.args.key.now c.args.n, length-append) at c.requires in
    omega (arith, room)

pub bounds-out-at : goal.bounds-out-at
unfolding decimal
bounds-out-at c =
    let room : length (c.args.key.now ++ decimal c.args.n) + 1 ≤ length c.args.out.now = rw (key_parts c.args.key.now c.args.n, length-append) at c.requires in
    let same : length c.put_number-at.new.out ≡ length c.args.out.now = wrote_length _ _ _ _ (omega (arith, room)) c.put_number-at.ensures in
    omega (arith, room, same, c.put_number-at.ensures.count)

pub overflow_add-result : goal.overflow_add-result
unfolding decimal
overflow_add-result c =
    let room : length (c.args.key.now ++ decimal c.args.n) + 1 ≤ length c.args.out.now = rw (key_parts c.args.key.now c.args.n, length-append) at c.requires in
    omega (arith, room, c.put_number-at.ensures.count)

pub returns : goal.returns
unfolding decimal
returns c =
    let room : length (c.args.key.now ++ decimal c.args.n) + 1 ≤ length c.args.out.now = rw (key_parts c.args.key.now c.args.n, length-append) at c.requires in
    rw (key_parts c.args.key.now c.args.n) (wrote_byte _ _ _ _ _ (omega (arith, room)) c.put_number-at.ensures)
