use mathlib.Core.Path.{ap}
use Rattle.rules.proofs.PassedOn.{passed_on}
use Rattle.reader.specs.Head.{head_answer}
use Rattle.reader.proofs.Heads.{until_within, ranges_refused, ranges_then}
use Rattle.reader.proofs.head.load_ranges.Goals as goal

pub load_count-requires : goal.load_count-requires
load_count-requires c = (until_within c.read_ranges.ensures c.in_ok-next.was, c.requires.1)

pub returns-in_err-next : goal.returns-in_err-next
returns-in_err-next c = ranges_refused c.read_ranges.ensures c.in_err-next.was (ap head_answer (passed_on c.from_residual.result c.in_err-next.field-0.0 c.from_residual.ensures))

pub returns : goal.returns
returns c = ranges_then c.read_ranges.ensures c.in_ok-next.was c.load_count.ensures
