-- `program_words::lists::keep_prices` meets its contract.
use native.Mathlib.Omega.{arith}
use Rattle.std.proofs.lemmas.Result.{err_from_is_err_and}
use Rattle.program_words.proofs.Prices.{list_lent}
use Rattle.program_words.proofs.lists.keep_prices.Goals as goal

pub returns-in_err-kept : goal.returns-in_err-kept
returns-in_err-kept c =
    let r = c.in_err-kept.ensures in
    let p = err_from_is_err_and c.from_residual.result c.from_residual.ensures.1 in
    rw (p.1, p.2) (list_lent _ _ _ _ r.value r.store_after c.put_five.ensures (omega arith))

pub returns : goal.returns
returns c =
    let r = c.in_ok-kept.ensures in
    rw c.min.ensures (list_lent _ _ _ _ r.value r.store_after c.put_five.ensures (omega arith))
