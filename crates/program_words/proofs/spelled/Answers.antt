-- `program_words::spelled` meets its contract.
use native.Mathlib.Numerals.{add-one}
use native.Mathlib.Omega.{arith}
use mathlib.Core.Path.{◌≡◌}
use Prim.Native.Nat.{◌+◌, ◌*◌}
use Rattle.program_words.proofs.Digits.{digit_none, digit_some, spelling_stops, spelling_more, spelling_past, spelling_ends}
use Rattle.program_words.proofs.spelled.Goals as goal

pub returns-in_err-d : goal.returns-in_err-d
returns-in_err-d c = rw c.from_residual.ensures (spelling_stops _ _ _ c.loop-b.invariant.0 c.loop-b-test.true (digit_none _ c.in_err-d.ensures))

pub returns-in_err-checked_mul : goal.returns-in_err-checked_mul
returns-in_err-checked_mul c =
    let d = digit_some _ _ c.in_ok-d.ensures in
    rw c.from_residual-in_err-checked_mul.ensures (spelling_past _ _ _ c.loop-b.invariant.0 c.loop-b-test.true _ d (omega (arith, c.in_err-checked_mul.ensures)))

pub returns-in_err-n : goal.returns-in_err-n
returns-in_err-n c =
    let d = digit_some _ _ c.in_ok-d.ensures in
    rw c.from_residual-in_err-n.ensures (spelling_past _ _ _ c.loop-b.invariant.0 c.loop-b-test.true _ d (omega (arith, c.in_err-n.ensures, c.in_ok-checked_mul.ensures, c.from.ensures)))

pub loop-b-preserved : goal.loop-b-preserved
loop-b-preserved c =
    let d = digit_some _ _ c.in_ok-d.ensures in
    let e : c.in_ok-n.n ≡ c.loop-b.n * 10 + c.in_ok-d.d = omega (arith, c.in_ok-n.ensures, c.in_ok-checked_mul.ensures, c.from.ensures) in
    (rw (e, add-one) (spelling_more _ _ _ c.loop-b.invariant.0 c.loop-b-test.true _ d), omega (arith, c.in_ok-n.ensures))

pub returns : goal.returns
returns c = spelling_ends _ _ _ c.loop-b.invariant.0 c.loop-b-test.false c.loop-b.invariant.1
