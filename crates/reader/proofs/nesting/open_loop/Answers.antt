use Rattle.std.proofs.Common.{◌∙◌, sym, ap, rules}
use Rattle.rules.proofs.PassedOn.{passed_on}
use Rattle.reader.specs.Open.{nested_of}
use Rattle.reader.proofs.NestingLaws.{loop_opens, loop_deep, too_many}
use Rattle.reader.proofs.nesting.open_loop.Goals as goal

pub returns-then-b-eq-MOST_LOOPS-clause-nests : goal.returns-then-b-eq-MOST_LOOPS-clause-nests
returns-then-b-eq-MOST_LOOPS-clause-nests c = too_many c.args.b (search rules)

pub returns-in_err-after-clause-nests : goal.returns-in_err-after-clause-nests
returns-in_err-after-clause-nests c =
    rw (passed_on c.from_residual.result c.in_err-after.field-0.0 c.from_residual.ensures)
    (loop_deep c.args.b c.in_err-after.field-0.0 (search rules) (sym (ap nested_of c.in_err-after.was) ∙ c.opened.ensures.nests))

pub returns-clause-nests : goal.returns-clause-nests
returns-clause-nests c = loop_opens c.args.b c.in_ok-after.after (search rules) (sym (ap nested_of c.in_ok-after.was) ∙ c.opened.ensures.nests)
