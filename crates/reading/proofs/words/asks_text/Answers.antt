use Rattle.reading.proofs.WordsLaws.{no_text}
use Rattle.std.proofs.Common.{rules}
use Rattle.reading.proofs.words.asks_text.Goals as goal

pub returns : goal.returns
returns c = let a = c.args in no_text a.s.now a.at a.end a.vars (search rules)
