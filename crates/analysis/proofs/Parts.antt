-- One line more in the table.
use mathlib.Core.Path.{◌≡◌, refl, ap}
use mathlib.Core.List.{List, [], ◌∷◌, ◌++◌}
use Prim.Native.Nat.{ℕ, zero, suc, ◌+◌, ◌<◌}
use native.Mathlib.Omega.{arith}
use native.Mathlib.Numerals.{add-one}
use lib.ListN.{length, take, set}
use Rattle.rules.specs.declared.LoopLine.{LoopLine}
use Rattle.rules.specs.Report.{line_of, lines_of}

line_next : (l : LoopLine) (ls : List LoopLine) (k : ℕ) → k < length ls → lines_of (take (suc k) (set ls k l)) ≡ lines_of (take k ls) ++ (line_of l ∷ [])
unfolding lines_of
line_next l [] k h = absurd (omega arith)
line_next l (x ∷ ls) zero h = refl
line_next l (x ∷ ls) (suc k) h = ap (λ r. line_of x ∷ r) (line_next l ls k (omega arith))

pub line_set : (ls : List LoopLine) (k : ℕ) (l : LoopLine) → k < length ls → lines_of (take (k + 1) (set ls k l)) ≡ lines_of (take k ls) ++ (line_of l ∷ [])
line_set ls k l h = rw (add-one k) (line_next l ls k h)
