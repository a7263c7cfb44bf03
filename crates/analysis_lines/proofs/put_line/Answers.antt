use mathlib.Core.Path.{◌≡◌, refl}
use mathlib.Core.Bool.{Bool, true, false}
use lib.Dec.{eqb}
use mir.Val.{bool_byte}
use Rattle.analysis_lines.specs.Coded.{line_in}
use Rattle.analysis_lines.proofs.Laws.{lines_set}
use Rattle.analysis_lines.proofs.put_line.Goals as goal

is_one : (b : Bool) → eqb (bool_byte b) 1 ≡ b
is_one true = refl
is_one false = refl

pub returns : goal.returns
unfolding line_in
returns c = rw (lines_set, c.step_code-s.ensures, c.from-exact.ensures, is_one)
