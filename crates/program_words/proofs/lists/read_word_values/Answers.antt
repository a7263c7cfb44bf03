-- `program_words::lists::read_word_values` meets its contract.
use mathlib.Core.Path.{sym, ◌∙◌}
use mathlib.Core.List.{[], ◌∷◌}
use Rattle.rules.specs.Text.{minus}
use Rattle.program_words.proofs.Slices.{word_is}
use Rattle.program_words.proofs.ListWords.{read_as, read_none, comma_none, comma_some}
use Rattle.program_words.proofs.lists.read_word_values.Goals as goal

pub returns-then-eq : goal.returns-then-eq
returns-then-eq c =
    let e = word_is (minus ∷ []) _ _ _ c.as_slice.ensures c.eq.ensures in
    let r = read_none _ c.args.store.now (comma_none _ (sym e ∙ c.if-eq.true)) in
    record { value = r.0; store_after = r.1 }

pub returns : goal.returns
returns c =
    let e = word_is (minus ∷ []) _ _ _ c.as_slice.ensures c.eq.ensures in
    let r = c.read_values.ensures in
    let k = read_as _ _ _ _ _ (comma_some _ (sym e ∙ c.if-eq.false)) r.value r.store_after in
    record { value = k.0; store_after = k.1 }
