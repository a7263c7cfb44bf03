-- `calls::figures::twos_complement` meets its contract. Assumes nothing.
use mathlib.Core.Path.{◌≡◌, ◌∙◌}
use Prim.Native.Nat.{◌-◌, ◌≤◌}
use native.Mathlib.Omega.{arith}
use mir.Facts.{to_z-of_z}
use borrow.Author.Rules.{rules}
use Rattle.calls.specs.Figures.{twos}
use Rattle.calls.proofs.Laws.{twos_below, twos_above}
use Rattle.calls.proofs.figures.twos_complement.Statement.{statement}
use Rattle.calls.proofs.figures.twos_complement.Tie as tie

known : (c : tie.Then-a-lt0) → (1 ≤ c.size-n.result) × (18_446_744_073_709_551_615 - (c.size-n.result - 1) ≡ twos c.args.a)
known c = let f = c.ranges.a in twos_below _ (simp (to_z-of_z f) at c.if-a-lt0.true) _ (simp (to_z-of_z f) at c.size-n.ensures)

pub twos_complement_spec : {M : Type 1} → statement M
twos_complement_spec =
    tie.close
    (tie.spec
    (λ c κs. search rules)
    (λ c. (known c).0)
    (λ c. let k : c.size-n.result ≤ 18_446_744_073_709_551_615 = search rules in omega arith)
    (λ c. (known c).1)
    (λ c. let f = c.ranges.a in simp (to_z-of_z f) at c.size-n.ensures ∙ twos_above _ (simp (to_z-of_z f) at c.if-a-lt0.false)))
