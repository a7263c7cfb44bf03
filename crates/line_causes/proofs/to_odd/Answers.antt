-- `line_causes::to_odd` meets its contract.
use mathlib.Core.Path.{ap, ◌∙◌}
use mathlib.Core.Bool.{not, cond}
use lib.Dec.{ltb}
use lib.ListN.{length}
use borrow.Author.Rules.{rules}
use Rattle.std.proofs.Common.{tests, None, Some}
use Rattle.std.specs.Char.{is_ascii_graphic}
use Rattle.std.proofs.lemmas.Iterator.{YieldsList-from_slice}
use Rattle.std.proofs.lemmas.Iterator.Search.{position_from_yields_List}
use Rattle.line_causes.proofs.Laws.{odds_are}
use Rattle.line_causes.proofs.to_odd.Goals as goal

pub returns : goal.returns
returns c =
    position_from_yields_List (λ b. not (is_ascii_graphic b)) _ _ _ c.position.ensures.ran (YieldsList-from_slice _ c.iter.ensures.rest) (λ x b q k. search (rules, tests))
    ∙ ap (λ n. cond (ltb n (length c.args.s.now)) (Some n) None) (odds_are c.args.s.now)
