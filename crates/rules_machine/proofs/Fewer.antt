-- No run gains ticks.
use mathlib.Core.List.{List}
use Prim.Native.Nat.{ℕ, zero, suc, ◌+◌, ◌-◌, ◌≤◌}
use native.Mathlib.Omega.{arith}
use lib.Dec.{leb, leb→le}
use Rattle.rules.specs.Blocks.{Plain, assign, cue, Test, Form, while, do_while, for, Block, done, plain, pick, loop, hold}
use Rattle.rules.specs.declared.Prices.{Prices}
use Rattle.rules.specs.Run.{State, Entry, Out, charge, exec, holds, iter, starting, turning, enter, run}
use Rattle.rules.proofs.Outcomes.{decide_elim, Thru, went, ended, at, thru_bind, thru_choose, thru_taken, thru_closing, thru_write}

module _ (π : Prices) (l : ℕ) where
  unfoldable pub Fewer : State → Type 0
  Fewer t = t.left ≤ l

  charge_less : (c i : ℕ) (es : List Entry) (s : State) (k : State → Out) → s.left ≤ l
      → ((n : ℕ) → n + c ≤ l → Thru Fewer (k (at s n s.picks))) → Thru Fewer (charge c i es s k)
  unfolding charge
  charge_less c i es s k h f = thru_choose (leb c s.left) (λ t. f (s.left - c) (omega (arith, leb→le))) (λ _. ended)

  pub exec_less : (i : ℕ) (p : Plain) (s : State) → s.left ≤ l → Thru Fewer (exec π i p s)
  unfolding exec Fewer
  exec_less i (assign v x) s h = charge_less _ i _ s _ h λ n e. thru_write i v _ _ λ _ _ _. omega arith
  exec_less i (cue m) s h = charge_less _ i _ s _ h λ n e. went (omega arith)

  module _ (i : ℕ) (t : Test) (body : State → Out) (ih : (s : State) → s.left ≤ l → Thru Fewer (body s)) where
    iter_less : (fuel k : ℕ) (s : State) → s.left ≤ l → Thru Fewer (iter π i t body fuel k s)
    unfolding iter Fewer
    iter_less zero k s h = ended
    iter_less (suc fuel) k s h =
        charge_less _ i _ s _ h λ n e.
        decide_elim (Thru Fewer) (holds t s.store) (λ _. thru_bind (thru_closing _ (ih _ (omega arith))) (λ u j. iter_less fuel (suc k) u j)) (λ _. went (omega arith)) ended

    enter_less : (form : Form) (s : State) → s.left ≤ l → Thru Fewer (enter π form i t body s)
    unfolding enter starting turning Fewer
    enter_less while s h = thru_bind {Q = Fewer} (thru_closing _ (went h)) (λ u j. iter_less _ 0 u j)
    enter_less hold s h = thru_bind {Q = Fewer} (thru_closing _ (went h)) (λ u j. iter_less _ 0 u j)
    enter_less (for x) s h = thru_bind (thru_closing _ (exec_less i _ s h)) (λ u j. iter_less _ 0 u j)
    enter_less do_while s h = thru_bind {Q = Fewer} (thru_closing _ (went h)) (λ u j. thru_bind (thru_closing _ (ih u j)) (λ w m. iter_less _ 1 w m))

  pub run_less : (b : Block) (s : State) → s.left ≤ l → Thru Fewer (run π b s)
  unfolding run Fewer
  run_less done s h = went h
  run_less (plain i p rest) s h = thru_bind (exec_less i p s h) (λ t j. run_less rest t j)
  run_less (pick i e a b rest) s h =
      thru_bind (charge_less _ i _ s _ h λ n e. thru_taken i s.picks _ _ _ (λ bs. run_less a (at s n bs) (omega arith)) (λ bs. run_less b (at s n bs) (omega arith)))
      (λ t j. run_less rest t j)
  run_less (loop i e form t body rest) s h = thru_bind (enter_less i t (λ u. run π body u) (λ u j. run_less body u j) form s h) (λ u j. run_less rest u j)
