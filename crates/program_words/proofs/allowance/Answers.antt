-- `program_words::allowance` meets its contract.
use mathlib.Core.Path.{sym}
use Rattle.program_words.specs.Words.{plan_word, allowance_in}
use Rattle.program_words.proofs.Slices.{word_is}
use Rattle.program_words.proofs.allowance.Goals as goal

pub returns-then-eq : goal.returns-then-eq
unfolding allowance_in
returns-then-eq c = rw (sym (word_is plan_word _ _ _ c.as_slice.ensures c.eq.ensures), c.if-eq.true)

pub returns-else-eq : goal.returns-else-eq
unfolding allowance_in
returns-else-eq c = rw (sym (word_is plan_word _ _ _ c.as_slice.ensures c.eq.ensures), c.if-eq.false) c.read_number.ensures
