-- The sum over the first v variables.
use mathlib.Core.Path.{◌≡◌, sym, ap, ◌∙◌}
use mathlib.Core.Bool.{cond}
use native.Mathlib.Omega.{arith}
use Rattle.analysis_intervals.specs.Env.{env_of}
use Rattle.analysis.specs.Known.{is_full, bit_of, not_known}
use Rattle.analysis.proofs.Bits.{bit_small, bit_none, bit_more, known_none, known_more}
use Rattle.analysis.proofs.entries.not_known.Goals as goal
use Rattle.analysis.proofs.entries.not_known.Goals.{then-is_full, else-is_full}

pub loop-v-init : goal.loop-v-init
loop-v-init c = (omega arith, bit_none, known_none _, omega arith)

pub overflow_add-sum : goal.overflow_add-sum
overflow_add-sum c = let l = c.loop-v in omega (arith, l.invariant.1, bit_small l.v l.invariant.0, l.invariant.3)

pub overflow_mul-bit : goal.overflow_mul-bit
overflow_mul-bit c = let l = c.loop-v in omega (arith, l.invariant.1, bit_small l.v l.invariant.0)

pub loop-v-preserved : goal.loop-v-preserved
loop-v-preserved c =
    let l = c.loop-v in
    let ρ = env_of c.args.r.now in
    let full : c.is_full.result ≡ is_full (ρ l.v) = c.is_full.ensures ∙ ap is_full c.interval_at.ensures in
    let m = bit_more l.v in
    let k = known_more l.v ρ in
    let small = bit_small l.v l.invariant.0 in
    let t = c.loop-v-test.true in
    elim c.if-is_full.branch [
      | then-is_full w ↦
          let e : cond (is_full (ρ l.v)) (bit_of l.v) 0 ≡ bit_of l.v = ap (λ b. cond b (bit_of l.v) 0) (sym full ∙ w.if-is_full.true) in
          (omega arith, omega (arith, l.invariant.1, m), omega (arith, w.sum-is, l.invariant.1, l.invariant.2, e, k), omega (arith, w.sum-is, l.invariant.3))
      | else-is_full w ↦
          let e : cond (is_full (ρ l.v)) (bit_of l.v) 0 ≡ 0 = ap (λ b. cond b (bit_of l.v) 0) (sym full ∙ w.if-is_full.false) in
          (omega arith, omega (arith, l.invariant.1, m), omega (arith, w.sum-is, l.invariant.2, e, k), omega (arith, w.sum-is, l.invariant.3))
    ]

pub returns : goal.returns
returns c =
    let l = c.loop-v in
    let e : l.v ≡ 16 = omega (arith, c.loop-v-test.false, l.invariant.0) in
    l.invariant.2 ∙ ap (λ n. not_known n (env_of c.args.r.now)) e
