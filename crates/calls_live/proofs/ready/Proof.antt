-- `calls_live::ready` meets its contract. Assumes nothing.
use mathlib.Core.Path.{◌≡◌}
use Prim.Native.Nat.{ℕ}
use Rattle.calls_live.proofs.Playing.{with_ending, ready_going, ready_over, ready_byte}
use borrow.Author.Rules.{rules}
use native.Mathlib.Omega.{arith}
use Rattle.calls_live.proofs.ready.Statement.{statement}
use Rattle.calls_live.proofs.ready.Tie as tie

returns : tie.Need-returns-in-Going
returns c = ready_going _ _ _ c.requires.2 c.in-Going.is

take-byte-requires : tie.Need-take_byte-requires
take-byte-requires c κs = let p = c.requires in (p.0 _ (with_ending c.in-Over.is c.in-NoPick.is), p.1, p.2)

returns_2 : tie.Need-returns-in-NoPick
returns_2 c = ready_byte _ _ _ _ c.requires.2 _ (with_ending c.in-Over.is c.in-NoPick.is) c.take_byte.ensures

returns_3 : tie.Need-returns-in-Ended
returns_3 c = ready_over _ _ _ c.requires.2 _ _ c.in-Over.is (λ e. let q = c.in-Ended.is in let z : ◌≡◌ {A = ℕ} 0 1 = cc in omega arith)

returns-4 : tie.Need-returns-in-Range
returns-4 c = ready_over _ _ _ c.requires.2 _ _ c.in-Over.is (λ e. let q = c.in-Range.is in let z : ◌≡◌ {A = ℕ} 0 1 = cc in omega arith)

returns-5 : tie.Need-returns-in-Spent
returns-5 c = ready_over _ _ _ c.requires.2 _ _ c.in-Over.is (λ e. let q = c.in-Spent.is in let z : ◌≡◌ {A = ℕ} 0 1 = cc in omega arith)

pub ready_spec : {M : Type 1} → statement M
ready_spec =
    tie.close
    (tie.spec
    (λ c. search rules) (λ c. search rules) (λ c. search rules)
    take-byte-requires
    (λ c. search rules) (λ c. search rules) (λ c. search rules)
    returns
    returns_2
    returns_3
    returns-4
    returns-5)
