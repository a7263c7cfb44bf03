use mathlib.Core.Path.{◌≡◌}
use mathlib.Core.List.{◌++◌, map}
use lib.ListN.{take, drop}
use Rattle.explain_margin.specs.Places.{shown_byte}
use Rattle.explain_margin.proofs.place.put_shown.Given as goal

-- the bytes passed are shown
abbrev pub invariant-loop-i : goal.invariant-loop-i
invariant-loop-i l = l.out ≡ map shown_byte (take l.i l.text) ++ drop l.i l.initial.out
