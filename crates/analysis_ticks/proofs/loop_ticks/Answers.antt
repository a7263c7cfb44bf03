-- What n entries take is few.
use mathlib.Core.Path.{◌≡◌, ap}
use mathlib.Core.List.{[]}
use Prim.Native.Nat.{◌*◌, ◌≤◌}
use native.Mathlib.Nat.{mul-le-mul}
use native.Mathlib.Omega.{arith}
use Rattle.analysis_steps.specs.Tree.{form_of}
use Rattle.analysis_ticks.specs.Capped.{once}
use Rattle.analysis_ticks.proofs.Caps.{times_cap, once_small}
use Rattle.analysis_ticks.proofs.loop_ticks.Goals as goal

pub overflow_mul-n : goal.overflow_mul-n
overflow_mul-n c =
    let z : c.besides.result ≤ 2_000 = omega (arith, c.besides.ensures [], once_small c.requires.0 (form_of [] c.args.kind)) in
    let h = mul-le-mul c.requires.1 z in
    omega arith

pub plus-requires : goal.plus-requires
plus-requires c =
    let z : c.besides.result ≤ 2_000 = omega (arith, c.besides.ensures [], once_small c.requires.0 (form_of [] c.args.kind)) in
    let h = mul-le-mul c.requires.1 z in
    omega (arith, c.times.ensures)

pub returns : goal.returns
returns c = λ text B e.
    let a = c.args in
    let n = a.n * c.besides.result in
    let k : a.n * c.besides.result ≡ a.n * once a.prices (form_of text a.kind) = ap (λ z. a.n * z) (c.besides.ensures text) in
    let t = rw e at c.times.ensures in
    omega (arith, c.plus.ensures, times_cap a.m B n)
