use borrow.Author.Rules.{rules}
use mathlib.Core.Path.{sym}
use lib.Seq.{set_out}
use Rattle.analysis.proofs.tallies.put_own.Goals as goal

pub returns-else-i-own : goal.returns-else-i-own
returns-else-i-own c = sym (set_out _ _ _ (search rules))
