use Rattle.reader.proofs.NestingLaws.{end_fits, end_first}
use Rattle.reader.proofs.nesting.end_block.Goals as goal

pub returns-then-b-eq0-clause-nests : goal.returns-then-b-eq0-clause-nests
returns-then-b-eq0-clause-nests c = end_first c.args.b c.if-b-eq0.true

pub returns-clause-nests : goal.returns-clause-nests
returns-clause-nests c = end_fits c.args.b c.if-b-eq0.false
