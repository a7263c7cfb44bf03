-- `season_sheet::names::holds_zero` meets its contract.
use mathlib.Core.Path.{◌∙◌}
use borrow.Author.Rules.{rules}
use lib.Dec.{eqb}
use Rattle.std.proofs.lemmas.Iterator.{YieldsList-from_slice}
use Rattle.std.proofs.lemmas.Iterator.Search.{any_from_yields_List}
use Rattle.std.proofs.Common.{tests}
use Rattle.season_sheet.proofs.NamesLaws.{zeros_are}
use Rattle.season_sheet.proofs.names.holds_zero.Goals as goal

pub returns : goal.returns
returns c = any_from_yields_List (λ b. eqb b 0) _ _ _ c.any.ensures.ran (YieldsList-from_slice _ c.iter.ensures.rest) (λ x b q k. search (rules, tests)) ∙ zeros_are _
