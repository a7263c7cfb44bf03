use mathlib.Core.Path.{◌≡◌}
use lib.ListN.{length}
use Rattle.rules.specs.Text.{split}
use Rattle.program_words.proofs.ListsLaws.{ValuesRead}
use Rattle.program_words.proofs.lists.read_values.Given as goal

-- the words passed are values, and are kept
abbrev pub invariant-loop-word : goal.invariant-loop-word
invariant-loop-word l = (l.count ≡ length l.yielded) × ValuesRead (split l.fn.separator l.fn.list) l.fn.store l.store l.count
