use mathlib.Core.Path.{◌≡◌}
use mathlib.Core.List.{map}
use lib.ListN.{take}
use Rattle.program_words.specs.Lists.{price_of}
use Rattle.program_words.proofs.lists.put_five.Given as goal

-- the numbers passed are put
abbrev pub invariant-loop-i : goal.invariant-loop-i
invariant-loop-i l = take l.i l.prices ≡ map price_of (take l.i l.values)
