-- `program_words::lists::read_line_values` meets its contract.
use mathlib.Core.Path.{sym, ap, ◌∙◌}
use borrow.Author.Tests.{eqb-true, eqb-false}
use Rattle.rules.specs.Text.{space, split}
use Rattle.program_words.proofs.ListWords.{read_as, read_none, line_none, line_front}
use Rattle.program_words.proofs.lists.read_line_values.Goals as goal

pub returns-then-is_empty-clause-value : goal.returns-then-is_empty-clause-value
returns-then-is_empty-clause-value c = (read_none _ c.args.store.now (line_none _ (eqb-true _ _ (sym c.if-is_empty.ensures)))).0

pub returns-then-is_empty-clause-store_after : goal.returns-then-is_empty-clause-store_after
returns-then-is_empty-clause-store_after c = (read_none _ c.args.store.now (line_none _ (eqb-true _ _ (sym c.if-is_empty.ensures)))).1

pub returns-clause-value : goal.returns-clause-value
returns-clause-value c =
    let e = line_front c.args.words _ (eqb-false _ _ (sym c.if-is_empty.ensures)) c.strip_suffix.ensures.cases in
    let r = c.read_values.ensures in
    (read_as _ _ _ _ _ (e ∙ ap (λ x. split space x.now) (sym c.unwrap_or.ensures)) r.value r.store_after).0

pub returns-clause-store_after : goal.returns-clause-store_after
returns-clause-store_after c =
    let e = line_front c.args.words _ (eqb-false _ _ (sym c.if-is_empty.ensures)) c.strip_suffix.ensures.cases in
    let r = c.read_values.ensures in
    (read_as _ _ _ _ _ (e ∙ ap (λ x. split space x.now) (sym c.unwrap_or.ensures)) r.value r.store_after).1
