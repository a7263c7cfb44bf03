use mathlib.Core.List.{List, ◌++◌}
use Prim.Native.Nat.{ℕ}
use lib.ListN.{take}
use Rattle.season_sheet.specs.Kept.{NamesKept}
use Rattle.season_sheet.proofs.names.push_all.Given as goal

-- the bytes passed are kept
abbrev pub invariant-loop-b : goal.invariant-loop-b
invariant-loop-b l = (input : List ℕ) → NamesKept input l.at l.initial.names l.initial.lengths → NamesKept (input ++ take l.b-index l.block) l.line l.names l.lengths
