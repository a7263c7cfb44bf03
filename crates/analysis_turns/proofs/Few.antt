-- The turns of a loop of Add are few.
use Prim.Native.Nat.{ℕ, ◌+◌, ◌*◌, ◌≤◌}
use lib.IntN.{ℤ, pos, negsuc, nat_abs, ◌-ℤ◌}
use native.Mathlib.Omega.{arith}
use Rattle.rules.specs.declared.AddLoop.{AddLoop}
use Rattle.rules_steps.specs.Ends.{Near}
use Rattle.rules.specs.Turns.{from_zero, by_one, turns_to, climb}
use Rattle.ints.proofs.Parts.{ints, minus_parts, neg_parts, lone}
use Rattle.ints.proofs.Scale.{floor_within}

last : (s e : ℕ) (l : AddLoop) → Near s l.start → Near e l.limit → Near (s + e) (by_one (from_zero l)).limit
last s e l h k =
    let d = l.limit -ℤ l.start in
    let n : ℕ → ℤ = λ m. pos (m * 1_000_000_000) in
    omega (ints, neg_parts (n s), neg_parts (n e), neg_parts (n (s + e)), minus_parts l.limit l.start, lone d, floor_within d (nat_abs l.step))

few : (m : ℕ) (n : ℤ) → Near m n → turns_to n ≤ m * 1_000_000_000 + 1
few m (pos n) h = omega ints
few m (negsuc n) h = omega arith

pub climb_few : (s e : ℕ) (l : AddLoop) → Near s l.start → Near e l.limit → climb l ≤ (s + e) * 1_000_000_000 + 1
unfolding climb
climb_few s e l h k = few (s + e) _ (last s e l h k)
