-- `live_state::ends_loop` meets its contract. Assumes nothing.
use borrow.Author.Tests.{not-true, not-false}
use Rattle.live_state.proofs.StateLaws.{no_end, head_below, some_end}
use borrow.Author.Rules.{rules}
use native.Mathlib.Omega.{arith}
use Rattle.live_state.proofs.ends_loop.Statement.{statement}
use Rattle.live_state.proofs.ends_loop.Tie as tie

kind-at-requires : tie.Need-kind_at-requires
kind-at-requires c κs = let g = c.requires.0.1 in omega (arith, c.requires.1, g.size, g.table.size)

returns : tie.Need-returns-then-not-is_end
returns c script g = no_end g _ c.requires.1 _ c.kind_at.ensures _ c.is_end.ensures (not-true _ c.if-not-is_end.true-raw)

partner-at-requires : tie.Need-partner_at-requires
partner-at-requires c κs = let g = c.requires.0.1 in omega (arith, c.requires.1, g.size, g.table.size)

is-loop-requires : tie.Need-is_loop-requires
is-loop-requires c κs =
    let g = c.requires.0.1 in
    omega (arith, head_below g _ c.requires.1 _ c.kind_at.ensures _ c.is_end.ensures (not-false _ c.if-not-is_end.false-raw), c.partner_at.ensures, g.size, g.table.size)

returns_2 : tie.Need-returns
returns_2 c script g =
    some_end g _ c.requires.1 _ c.kind_at.ensures _ c.is_end.ensures (not-false _ c.if-not-is_end.false-raw) _ c.partner_at.ensures _ c.is_loop.ensures

pub ends_loop_spec : {M : Type 1} → statement M
ends_loop_spec = tie.close (tie.spec kind-at-requires (λ c κs. search rules) returns partner-at-requires is-loop-requires returns_2)
