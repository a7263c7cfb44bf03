-- `calls_live::play` meets its contract. Assumes nothing.
use mathlib.Core.Path.{refl, sym, ◌∙◌}
use borrow.Author.Tests.{not-true, not-false}
use Rattle.calls_live.proofs.Playing.{at_pick, stays_over, may_go, goes_far}
use borrow.Author.Rules.{rules}
use Rattle.calls_live.proofs.play.Statement.{statement}
use Rattle.calls_live.proofs.play.Tie as tie

pub play_spec : {M : Type 1} → statement M
play_spec =
    tie.close
    (tie.spec
    (λ c κs. let g = c.requires in (at_pick g, g.runs.table.size, g.unused))
    (λ c κs. search rules)
    (λ c. stays_over c.requires _ c.ready-m.ensures _ (sym c.going.ensures ∙ not-true _ c.if-not-going.true-raw))
    (λ c κs. may_go c.requires _ c.ready-m.ensures (sym c.going.ensures ∙ not-false _ c.if-not-going.false-raw))
    (λ c. search rules) (λ c. search rules)
    (λ c. goes_far c.requires _ c.ready-m.ensures (sym c.going.ensures ∙ not-false _ c.if-not-going.false-raw) _ _ _ _ _ (c.go_on.ensures.live refl)))
