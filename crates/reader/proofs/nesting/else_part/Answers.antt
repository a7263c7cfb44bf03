use Rattle.std.proofs.Common.{rules}
use Rattle.reader.proofs.NestingLaws.{else_fits, else_first, else_wrong}
use Rattle.reader.proofs.nesting.else_part.Goals as goal
use Rattle.reader.proofs.nesting.else_part.Goals.{then-b-eq0-via-then-b-eq0, then-b-eq0-via-else-b-eq0+then-ne}

pub returns-then-b-eq0-clause-nests : goal.returns-then-b-eq0-clause-nests
returns-then-b-eq0-clause-nests c =
    elim c.then-b-eq0.branch [
      | then-b-eq0-via-then-b-eq0 w ↦ else_first c.args.b w.if-b-eq0.true
      | then-b-eq0-via-else-b-eq0+then-ne w ↦ else_wrong c.args.b (search rules)
    ]

pub returns-clause-nests : goal.returns-clause-nests
returns-clause-nests c = else_fits c.args.b c.if-b-eq0.false (search rules) (search rules)
