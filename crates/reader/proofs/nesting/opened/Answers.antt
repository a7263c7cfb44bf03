use Rattle.std.proofs.Common.{rules}
use Rattle.reader.proofs.NestingLaws.{block_opens}
use Rattle.reader.proofs.nesting.opened.Goals as goal

pub returns-clause-nests : goal.returns-clause-nests
returns-clause-nests c = block_opens c.args.b c.args.block (search rules) (search rules)
