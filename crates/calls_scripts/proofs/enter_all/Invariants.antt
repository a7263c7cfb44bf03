use Rattle.std.proofs.Common.{List, ℕ}
use Rattle.calls_lists.specs.Parts.{lent_of}
use Rattle.calls_scripts.proofs.Entering.{Entering}
use Rattle.calls_scripts.proofs.enter_all.Given as goal

-- the scripts before this one have entered, each in its table
abbrev pub invariant-loop-k : goal.invariant-loop-k
invariant-loop-k l =
    (picks : List ℕ) → Entering l.prices (lent_of l.files l.file_lengths l.stores l.store_lengths picks l.pick_lengths) l.k l.tables l.each
