use Rattle.std.proofs.Common.{◌≡◌, ◌∙◌, sym, arith, rules, tests}
use lib.ListN.{length}
use mir.Facts.{to_z-of_z}
use borrow.Author.Rules.{sfits_of}
use Rattle.reading.specs.Words.{stop, front}
use Rattle.reading.proofs.TextLaws.{natural_small, not_natural, is_natural_lem, word_none, word_number, front_length, stop_end, stop_here, stop_on}
use Rattle.reading.proofs.text.word_of.Goals as goal
use Rattle.reading.proofs.text.word_of.Goals.{then-is_empty-via-then-is_empty, then-is_empty-via-else-is_empty+then-stops}

pub signed-requires : goal.signed-requires
signed-requires c = natural_small _ _ (sym c.natural.ensures ∙ c.in-Some.is)

pub returns-in-Some : goal.returns-in-Some
returns-in-Some c =
    let e = sym c.natural.ensures ∙ c.in-Some.is in
    let (_, _, n) = is_natural_lem _ _ e in
    record { word = rw (to_z-of_z (sfits_of c.signed.type_inv), c.signed.ensures) (word_number _ _ e); end = n ∙ front_length c.args.s.now }

pub returns-then-is_empty : goal.returns-then-is_empty
returns-then-is_empty c =
    let s = c.args.s.now in
    let z : stop s ≡ 0 =
    elim c.then-is_empty.branch [
      | then-is_empty-via-then-is_empty w ↦ stop_end s 0 (let h : length s ≡ 0 = search (rules, tests) in omega arith)
      | then-is_empty-via-else-is_empty+then-stops w ↦ stop_here s 0 (let h : length s ≡ 0 → ⊥ = search (rules, tests) in omega arith) (sym w.stops.ensures ∙ w.if-stops.true)
    ]
    in
    record { word = word_none (front s) (front_length s ∙ z); end = sym z }

pub marked-requires : goal.marked-requires
marked-requires c =
    let s = c.args.s.now in
    (omega (arith, stop_on s 0 (let h : length s ≡ 0 → ⊥ = search (rules, tests) in omega arith) (sym c.stops.ensures ∙ c.if-stops.false)), not_natural _ (sym c.natural.ensures ∙ c.in_default.is))
