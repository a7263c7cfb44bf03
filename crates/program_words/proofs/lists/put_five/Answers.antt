-- `program_words::lists::put_five` meets its contract.
use native.Mathlib.Omega.{arith}
use borrow.Author.Rules.{rules}
use Rattle.program_words.proofs.Prices.{back, price_put, prices_put}
use Rattle.program_words.proofs.lists.put_five.Goals as goal

pub loop-i-preserved : goal.loop-i-preserved
loop-i-preserved c =
    price_put _ _ _ _ c.loop-i.invariant c.loop-i-test.true (omega arith) (back _ _ (search rules) c.as_price.ensures)

pub returns : goal.returns
returns c = prices_put _ _ _ c.loop-i.invariant c.loop-i-test.false (omega arith)
