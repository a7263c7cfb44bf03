-- `program_words::lists::lend_prices` meets its contract.
use mathlib.Core.Path.{◌∙◌}
use Rattle.std.proofs.lemmas.Result.{err_from_is_err_and}
use Rattle.program_words.specs.Lists.{prices_key}
use Rattle.program_words.proofs.Slices.{starts_is}
use Rattle.program_words.proofs.Prices.{word_lent, none_lent}
use Rattle.program_words.proofs.lists.lend_prices.Goals as goal

pub returns-in_default : goal.returns-in_default
returns-in_default c = none_lent _ _ (starts_is prices_key _ ∙ c.in_default.ensures.cases) c.requires

pub returns-in_err-keep_prices : goal.returns-in_err-keep_prices
returns-in_err-keep_prices c =
    let k = c.in-Some.ensures.cases in
    let p = err_from_is_err_and c.from_residual.result c.from_residual.ensures.1 in
    rw (p.1, p.2) (word_lent _ _ _ _ _ (starts_is prices_key _ ∙ k.0) k.1 c.in_err-keep_prices.ensures)

pub returns : goal.returns
returns c =
    let k = c.in-Some.ensures.cases in
    word_lent _ _ _ _ _ (starts_is prices_key _ ∙ k.0) k.1 c.in_ok-keep_prices.ensures
