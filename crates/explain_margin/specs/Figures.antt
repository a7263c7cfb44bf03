-- The figures of the margin by row, four to a row: turns, total, exact or most, ticks of one pass.
use Rattle.std.specs.Prelude.{Bool, true, false, List, [], ◌∷◌, ℕ, zero, suc, max, get_or, set}
use Rattle.rules.specs.declared.LoopLine.{LoopLine}
use Rattle.table.specs.declared.Shape.{Shape}
use Rattle.table.specs.declared.Shape.TheVariants.{Plain, Branch, Loop, Close}

-- 2 stands for exact, 1 for most; 0 at a row that is no loop's head
abbrev pub exact_mark : Bool → ℕ
exact_mark true = 2
exact_mark false = 1

-- a report line's figures; the ticks are put later
abbrev pub line_figures : LoopLine → List ℕ
line_figures l = l.turns ∷ l.total ∷ exact_mark l.exact ∷ 0 ∷ []

-- each at the row of its loop's head
unfoldable pub put_lines : List LoopLine → List (List ℕ) → List (List ℕ)
put_lines [] t = t
put_lines (l ∷ ls) t = put_lines ls (set t l.row (line_figures l))

-- the ticks beside the other figures
abbrev pub ticks_beside : List ℕ → ℕ → List ℕ
ticks_beside f ticks = get_or f 0 0 ∷ get_or f 1 0 ∷ get_or f 2 0 ∷ ticks ∷ []

-- the first n rows have their ticks beside their other figures
unfoldable pub put_ticks : List ℕ → ℕ → List (List ℕ) → List (List ℕ)
put_ticks own zero t = t
put_ticks own (suc n) t = let u = put_ticks own n t in set u n (ticks_beside (get_or u n []) (get_or own n 0))

-- a loop or a pick begins
abbrev pub is_head : Shape → Bool
is_head Plain = false
is_head Branch = true
is_head Loop = true
is_head Close = false

-- the greatest figure of a column
unfoldable pub most_in : ℕ → List (List ℕ) → ℕ
most_in column [] = 0
most_in column (f ∷ fs) = max (get_or f column 0) (most_in column fs)
