-- `season_sheet::groups::keep_first` meets its contract. Assumes nothing.
use mathlib.Core.Path.{sym, ap, ◌∙◌}
use mathlib.Core.Bool.{not}
use native.Mathlib.Omega.{arith}
use lib.ListN.{length-take}
use borrow.Author.Rules.{rules}
use Rattle.season_sheet.proofs.GroupsLaws.{known_is, known_yes, known_no}
use Rattle.season_sheet.proofs.groups.keep_first.Statement.{statement}
use Rattle.season_sheet.proofs.groups.keep_first.Tie as tie

is_known_requires : tie.Need-is_known-requires
is_known_requires c κs =
    let p = c.requires in
    (rw length-take (omega (arith, p.text, p.bytes)), rw (length-take, length-take) (omega (arith, p.same)), rw length-take (omega (arith, p.numbers, p.room)))

returns : tie.Need-returns-then-is_known
returns c = λ ss s h e l f m.
    let k = known_is ss s _ _ _ _ _ _ _ h e f c.is_known.ensures in
    let y = sym k ∙ c.if-is_known.true in
    (ap not (sym y), known_yes ss s _ _ _ _ _ h y c.args.len c.args.count)

returns_2 : tie.Need-returns
returns_2 c = λ ss s h e l f m.
    let k = known_is ss s _ _ _ _ _ _ _ h e f c.is_known.ensures in
    let n = sym k ∙ c.if-is_known.false in
    (ap not (sym n), known_no ss s _ _ _ _ _ h n _ _ c.requires.place c.requires.same e l f m)

pub keep_first_spec : {M : Type 1} → statement M
keep_first_spec = tie.close (tie.spec
    (λ c. omega (arith, c.requires.bytes))
    (λ c. omega (arith, c.requires.room))
    (λ c. omega (arith, c.requires.place))
    (λ c. rw length-take (omega (arith, c.requires.place)))
    (λ c. rw length-take (omega (arith, c.requires.bytes)))
    (λ c. omega (arith, c.requires.place, c.requires.same))
    (λ c. rw length-take (omega (arith, c.requires.place, c.requires.same)))
    (λ c. rw length-take (omega (arith, c.requires.room)))
    (λ c. search rules) (λ c. search rules)
    (λ c. omega (arith, c.requires.bytes))
    (λ c. search rules) (λ c. search rules) (λ c. search rules)
    (λ c. omega (arith, c.requires.room))
    is_known_requires
    (λ c. search rules) (λ c. search rules)
    returns
    (λ c. search rules)
    (λ c. omega (arith, c.requires.place))
    (λ c. search rules)
    (λ c. omega (arith, c.requires.place, c.requires.same))
    (λ c. search rules) (λ c. search rules)
    returns_2)
