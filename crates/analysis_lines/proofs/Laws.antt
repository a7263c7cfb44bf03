-- A table's lines, one by one.
use mathlib.Core.Path.{◌≡◌, refl, ap}
use mathlib.Core.List.{List, [], ◌∷◌}
use native.Mathlib.Omega.{arith}
use Prim.Native.Nat.{ℕ, zero, suc, ◌≤◌}
use lib.ListN.{length, set, length-map}
use Rattle.analysis_lines.specs.Coded.{line_in, lines_in, LineTable}

-- a line put into the table
pub lines_set : (t : List (List ℕ)) (k : ℕ) (e : List ℕ) → lines_in (set t k e) ≡ set (lines_in t) k (line_in e)
lines_set [] k e = refl
lines_set (x ∷ t) zero e = refl
lines_set (x ∷ t) (suc k) e = ap (λ (l : List _). line_in x ∷ l) (lines_set t k e)

pub lent_room : (loops : ℕ) (t : List (List ℕ)) → LineTable loops t → loops ≤ length (lines_in t)
lent_room loops t l = rw (length-map t line_in) (omega arith)
