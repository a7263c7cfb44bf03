-- Document 01's worked example, run by the machine over the rows.
use mathlib.Core.Path.{◌≡◌, refl}
use mathlib.Core.List.{List, [], ◌∷◌}
use Prim.Native.Nat.{ℕ}
use lib.IntN.{pos}
use Rattle.rules.specs.Expressions.{meaning}
use Rattle.rules.specs.Values.{lowest, highest, value, applied, compares, tried, decide}
use Rattle.rules.specs.Blocks.{view_of}
use Rattle.rules.specs.Figures.{ones}
use Rattle.rules.specs.Run.{choose, charge, write, result, exec}
use Rattle.rules.specs.Scripts.{store_of}
use Rattle.rules.proofs.Examples.{rows}
use Rattle.rules_machine.specs.RowMachine.{Next, more, over, steps, next, on_end, tests, paid, outcome, begin, turn, start, pairs, pair_row, push}
use Rattle.rules_machine.specs.RowMachine

-- document 01's run by the machine over the rows, with the tables of one pass: ended at row 6, no tick of 32 left, turns 2 and 7, most 2 and 6
abbrev read_over : Next → List ℕ
read_over (more m) = []
read_over (over e i s c) = i ∷ (s.left ∷ (c.sum 0 ∷ (c.sum 1 ∷ (c.most 0 ∷ (c.most 1 ∷ [])))))

the_row_run : read_over (steps ones rows (pairs rows 6).end (pairs rows 6).head 60 (more (start (record { store = store_of (pos 0 ∷ (pos 1 ∷ [])); left = 32; picks = [] }))))
    ≡ 6 ∷ (0 ∷ (2 ∷ (7 ∷ (2 ∷ (6 ∷ [])))))
unfolding view_of steps next RowMachine.on_row on_end tests paid outcome begin turn pairs pair_row push RowMachine.closes_row exec charge choose write value result applied compares lowest highest meaning tried decide
the_row_run = refl
