-- What a walk over the rows tells apart, by the view of a row.
use Rattle.std.specs.Prelude.{◌≡◌, Bool, ◌&&◌, List, [], ℕ, ◌+◌, eqb}
use Rattle.rules.specs.declared.Kind.{Kind}
use Rattle.rules.specs.Blocks.{Plain, cue, Last, no_step, step_by, View, is_plain, is_pick, is_else, is_end, is_loop, view_of, kind_of}
use Rattle.rules.specs.Steps.{sets}
use Rattle.table.specs.declared.Shape.{Shape}
use Rattle.table.specs.Code.{variable_in, numbers_at, rows_of, kind_at}

-- the four shapes of rows
abbrev pub shape_by : View → Shape
shape_by (is_plain p) = Shape.Plain
shape_by is_pick = Shape.Branch
shape_by is_else = Shape.Close
shape_by is_end = Shape.Close
shape_by (is_loop form test last) = Shape.Loop

-- it does not hang on the text
abbrev pub shape_of : Kind → Shape
shape_of k = shape_by (view_of (kind_of [] k))

-- a body's last row; none gives what is not read
abbrev pub last_row : Last → Plain
last_row no_step = cue 0
last_row (step_by p) = p

-- the plain row that a row stands for, or a for's step row; any other row gives what is not read
abbrev pub plain_by : View → Plain
plain_by (is_plain p) = p
plain_by is_pick = cue 0
plain_by is_else = cue 0
plain_by is_end = cue 0
plain_by (is_loop form test last) = last_row last

-- the plain row of a kind that is one
abbrev pub plain_of : List ℕ → Kind → Plain
plain_of text k = plain_by (view_of (kind_of text k))

-- the row after an else; any other row stays
abbrev pub past_by : View → ℕ → ℕ
past_by (is_plain p) i = i
past_by is_pick i = i
past_by is_else i = i + 1
past_by is_end i = i
past_by (is_loop form test last) i = i

-- by the kind of the row
abbrev pub past_else : Kind → ℕ → ℕ
past_else k i = past_by (view_of (kind_of [] k)) i

-- whether row i assigns its variable: a set, a change, an off, or a for's step row
abbrev pub Assigns : List ℕ → ℕ → Bool → Type 0
Assigns t i r = (text : List ℕ) (w : ℕ) → sets w (plain_of text (kind_at (rows_of t) i)) ≡ (r && eqb w (variable_in (numbers_at t i)))
