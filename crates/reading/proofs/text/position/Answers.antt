use Rattle.std.proofs.Common.{◌≡◌, ◌∙◌, rules, tests, sym, eqb}
use Rattle.std.specs.List.{position}
use Rattle.std.proofs.lemmas.Iterator.{YieldsList-from_slice}
use Rattle.std.proofs.lemmas.Iterator.Search.{position_from_yields_List}
use Rattle.reading.proofs.TextLaws.{before_position, position_found}
use Rattle.reading.proofs.text.position.Goals as goal

pub returns : goal.returns
returns c =
    let is : c.position.result ≡ position (λ x. eqb x c.args.b) c.args.s.now = position_from_yields_List (λ x. eqb x c.args.b) _ _ c.position.result c.position.ensures.ran (YieldsList-from_slice _ c.iter.ensures.rest) (λ x b q k. search (rules, tests)) in
    c.unwrap_or.ensures ∙ position_found (λ x. eqb x c.args.b) c.args.s.now c.position.result is ∙ sym (before_position c.args.b c.args.s.now)
