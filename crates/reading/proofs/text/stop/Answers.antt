use Rattle.std.proofs.Common.{◌≡◌, ◌∙◌, rules, tests, sym}
use Rattle.std.specs.List.{position}
use Rattle.std.proofs.lemmas.Iterator.{YieldsList-from_slice}
use Rattle.std.proofs.lemmas.Iterator.Search.{position_from_yields_List}
use Rattle.reading.specs.Words.{stops}
use Rattle.reading.proofs.TextLaws.{stop_position, position_found}
use Rattle.reading.proofs.text.stop.Goals as goal

pub returns : goal.returns
returns c =
    let is : c.position.result ≡ position stops c.args.s.now = position_from_yields_List stops _ _ c.position.result c.position.ensures.ran (YieldsList-from_slice _ c.iter.ensures.rest) (λ x b q k. search (rules, tests)) in
    c.unwrap_or.ensures ∙ position_found stops c.args.s.now c.position.result is ∙ sym (stop_position c.args.s.now)
