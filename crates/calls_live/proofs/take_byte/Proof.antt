-- `calls_live::take_byte` meets its contract. Assumes nothing.
use mathlib.Core.Path.{sym}
use Rattle.calls_live.proofs.Playing.{no_byte, one_byte}
use borrow.Author.Rules.{rules}
use native.Mathlib.Omega.{arith}
use Rattle.calls_live.proofs.take_byte.Statement.{statement}
use Rattle.calls_live.proofs.take_byte.Tie as tie

pub take_byte_spec : {M : Type 1} → statement M
take_byte_spec =
    tie.close
    (tie.spec
    (λ c. no_byte _ _ _ c.if-picks-eq0.true c.requires.2)
    (λ c κs. let p = c.requires in omega (arith, p.0.row, p.1))
    (λ c. let p = c.requires in omega (arith, p.0.partner, c.partner_at-other.ensures))
    (λ c. omega (arith, c.if-picks-eq0.false))
    (λ c. let p = c.requires in omega (arith, p.0.row))
    (λ c κs. search rules)
    (λ c. one_byte _ _ _ c.if-picks-eq0.false _ (rw (sym c.partner_at-other.ensures) c.branch-picks.ensures)))
