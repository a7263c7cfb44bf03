-- `explain_margin::columns::share` meets its contract. Assumes nothing.
use borrow.Author.Rules.{rules}
use native.Mathlib.Omega.{arith}
use native.Mathlib.Nat.{mul-le-mul, min-eq_left, min-eq_right}
use borrow.Author.Tests.{eq-eqb, ne_eqb}
use Rattle.explain_margin.proofs.columns.share.Statement.{statement}
use Rattle.explain_margin.proofs.columns.share.Tie as tie

returns : tie.Need-returns-then-whole-eq0
returns c = rw (eq-eqb _ _ c.if-whole-eq0.true)

mul-result : tie.Need-overflow_mul-result
mul-result c =
    let s = c in
    record { fits = omega (arith, mul-le-mul {n₁ = s.args.part} {n₂ = 1_000_000_000_001} (omega arith) s.requires.1) }

returns_2 : tie.Need-returns-then-part-whole
returns_2 c =
    let s = c.args in
    rw (ne_eqb _ _ c.if-whole-eq0.false, min-eq_left {n = s.part} {m = s.whole} (omega arith))

mul-result-2 : tie.Need-overflow_mul-result-2
mul-result-2 c = let s = c in record { fits = omega (arith, mul-le-mul s.requires.0 s.requires.1) }

returns_3 : tie.Need-returns
returns_3 c =
    let s = c.args in
    rw (ne_eqb _ _ c.if-whole-eq0.false, min-eq_right {n = s.whole} {m = s.part} (omega arith))

pub share_spec : {M : Type 1} → statement M
share_spec = tie.close (tie.spec returns mul-result (λ c. search rules) returns_2 mul-result-2 (λ c. search rules) returns_3)
