-- `season_sheet::sheet::put_pair` meets its contract. Assumes nothing.
use borrow.Author.Rules.{rules}
use native.Mathlib.Omega.{arith}
use mathlib.Core.List.{◌++◌}
use Prim.Native.Nat.{◌+◌, ◌≤◌}
use lib.ListN.{length, length-append, length-drop}
use Rattle.rules.specs.Report.{decimal, key_line}
use Rattle.report.proofs.PiecesLaws.{wrote_then, wrote_length, part_rest}
use Rattle.season_sheet.proofs.sheet.put_pair.Statement.{statement}
use Rattle.season_sheet.proofs.sheet.put_pair.Tie as tie

-- room for both
room : (c : tie.Start) → length (c.args.first.now ++ decimal c.args.x) + length (key_line c.args.second.now c.args.y) ≤ length c.args.out.now
room c = rw (length-append (c.args.first.now ++ decimal c.args.x)) at c.requires

same_length : tie.Need-shape_of-out
same_length c =
    let w = wrote_then _ _ _ _ _ _ _ c.put_number-at.ensures c.put_entry.ensures in
    wrote_length _ _ _ _ (rw (length-append (c.args.first.now ++ decimal c.args.x)) (room c.before.before.before.before.before.before.before.before.before.before.before)) w

returns : tie.Need-returns
returns c = wrote_then _ _ _ _ _ _ _ c.put_number-at.ensures c.put_entry.ensures

pub put_pair_spec : {M : Type 1} → statement M
put_pair_spec = tie.close (tie.spec
    (λ c κs. omega (arith, room c.before.before.before.before))
    (λ c. omega (arith, room c.before.before.before.before.before.before.before, c.put_number-at.ensures.count))
    (λ c. omega (arith, room c.before.before.before.before.before.before.before, c.put_number-at.ensures.count))
    (λ c. search rules)
    (λ c κs. simp (part_rest, length-drop) (omega (arith, room c.before.before.before.before.before.before.before.before, c.put_number-at.ensures.count)))
    (λ c. omega (arith, room c.before.before.before.before.before.before.before.before.before.before.before, c.put_number-at.ensures.count, c.put_entry.ensures.count))
    same_length
    returns)
