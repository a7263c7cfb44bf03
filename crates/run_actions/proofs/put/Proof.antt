-- `run_actions::put` meets its contract. Assumes nothing.
use Rattle.run_actions.proofs.Laws.{limits_fit}
use Rattle.rules.specs.Values.{in_limits}
use mir.Facts.{to_z-of_z}
use mathlib.Core.Bool.{true, false}
use Rattle.run_actions.proofs.Laws.{put_spent, put_range, put_done}
use mathlib.Core.Path.{◌≡◌, sym, ◌∙◌}
use borrow.Author.Rules.{rules}
use borrow.Author.Tests.{not-true, not-false}
use Rattle.run_actions.proofs.put.Statement.{statement}
use Rattle.run_actions.proofs.put.Tie as tie

returns : tie.Need-returns-then-left-price
returns c = λ picks d. rw c.ended.ensures (put_spent _ _ _ _ _ _ _ _ _ c.args.testing c.if-left-price.true)

returns_2 : tie.Need-returns-then-not-within
returns_2 c =
    let s = c in
    let f = s.ranges.z in
    let no : in_limits s.args.z ≡ false = simp (to_z-of_z f) at (sym c.within.ensures ∙ not-true _ c.if-not-within.true-raw) in
    λ picks d. rw c.ended-then-not-within.ensures (put_range _ _ _ _ _ _ _ _ _ s.args.testing c.if-left-price.false no)

cast-store : tie.Need-overflow_cast-store
cast-store c =
    let f = c.ranges.z in
    rw (to_z-of_z f) (limits_fit _ (simp (to_z-of_z f) at (sym c.within.ensures ∙ not-false _ c.if-not-within.false-raw)))

returns_3 : tie.Need-returns
returns_3 c =
    let s = c in
    let f = s.ranges.z in
    let yes : in_limits s.args.z ≡ true = simp (to_z-of_z f) at (sym c.within.ensures ∙ not-false _ c.if-not-within.false-raw) in
    λ picks d. rw (c.on.ensures, to_z-of_z f, to_z-of_z (limits_fit _ yes)) (put_done _ s.args.store.now _ _ _ _ _ _ _ s.args.testing c.if-left-price.false yes s.requires)

pub put_spec : {M : Type 1} → statement M
put_spec =
    tie.close
    (tie.spec
    (λ c κs. search rules)
    returns
    (λ c κs. search rules) (λ c κs. search rules)
    returns_2
    cast-store
    (λ c. search rules) (λ c. search rules) (λ c κs. search rules) (λ c. search rules)
    returns_3)
