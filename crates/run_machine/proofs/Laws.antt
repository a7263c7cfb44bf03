-- Each row does in memory what `rules` says of it. Assumes nothing.
use mathlib.Core.Path.{◌≡◌, refl, sym, ◌∙◌, ap}
use mathlib.Core.Bool.{Bool, true, false, cond}
use mathlib.Core.List.{List, []}
use Prim.Native.Nat.{ℕ, ◌+◌, ◌-◌, ◌≤◌, ◌<◌}
use native.Mathlib.Numerals.{add-one}
use native.Mathlib.Omega.{arith}
use borrow.Author.Tests.{le-leb, lt-leb}
use lib.IntN.{ℤ, pos}
use Rattle.ints.specs.Ints.{eq_z}
use Rattle.ints.proofs.Parts.{eq_z_true}
use Rattle.rules.specs.declared.Ending.{Ending}
use Rattle.rules.specs.declared.Ending.TheVariants.{Spent}
use Rattle.rules.specs.declared.Comparison.{Comparison}
use Rattle.rules.specs.declared.Change.{Change}
use Rattle.rules.specs.declared.Prices.{Prices}
use Rattle.rules.specs.Values.{lowest, highest, Result, number, past, value, applied, compares, tried, passes, fails, beyond, decide}
use Rattle.rules.specs.Blocks.{Source, from, changed, assign, Test}
use Rattle.rules.specs.Expressions.{Expr}
use Rattle.rules.specs.Run.{State, Out, go, halt, choose, charge, write, result, exec, holds}
use Rattle.rules.specs.Scripts.{store_of}
use Rattle.rules.proofs.Laws.{no_true}
use Rattle.rules_machine.specs.RowMachine.{TurnCounts, Next, turn, testing, to, chosen, outcome, paid, tests}
use Rattle.values.specs.Results.{result_in}
use Rattle.run_actions.specs.declared.Machine.{Machine}
use Rattle.run_actions.specs.declared.Status.{Status}
use Rattle.run_actions.specs.declared.Status.TheVariants.{Going, Over}
use Rattle.run_actions.specs.States.{phase_of, state_of, by_status, is_going, over_at, on_at, plain_to, put_to, Acts}
use Rattle.run_actions.proofs.Laws.{going_not, range_not}

-- the same step in other words
pub acts_as : {m r : Machine} {store : List ℤ} {picks : List ℕ} {c c' : TurnCounts} {x y : Next} → c ≡ c' → x ≡ y → Acts m r store picks c x → Acts m r store picks c' y
acts_as e q a = rw (← e, ← q) a

-- on without a tick
pub passed : (m : Machine) (store : List ℤ) (picks : List ℕ) (c : TurnCounts) (j : ℕ) (b : Bool) → Acts m (on_at m m.left j b) store picks c (to j (phase_of b) (state_of m store picks) c)
passed m store picks c j b = record { same = refl; left = omega arith; used = λ h. h; rests = λ i q. going_not q }

-- ---- a variable gets a result
-- a number past ±L is written as a result past ±L is
far : (i v : ℕ) (s : State) → write i v (number (pos 4_000_000_000)) s ≡ write i v past s
unfolding write choose lowest highest
far i v s = refl

write_in : (i v : ℕ) (z : ℤ) (s : State) → write i v (number z) s ≡ write i v (result_in z) s
unfolding result_in
write_in i v z s = by (eq_z z (pos 4_000_000_000)) (eq_z_true z (pos 4_000_000_000))
  where
    by : (b : Bool) → (b ≡ true → z ≡ pos 4_000_000_000) → write i v (number z) s ≡ write i v (cond b past (number z)) s
    by false e = refl
    by true e = ap (λ y. write i v (number y) s) (e refl) ∙ far i v s

-- a plain row that assigns
module _ (π : Prices) {m r : Machine} (store : List ℤ) {store' : List ℤ} {picks : List ℕ} {c : TurnCounts} {at at' v v' j j' : ℕ} (b : Bool) (q : at ≡ at') (n : v ≡ v') (g : j ≡ j') where
  pub put_plain : (source : Source) (z : ℤ) (y : Result) → ((i w : ℕ) (s : State) → write i w (number z) s ≡ write i w y s) → y ≡ result source (store_of store v') (store_of store)
      → Acts m r store' picks c (put_to π.arithmetic at v z j b (state_of m store picks) c) → Acts m r store' picks c (plain_to π at' (assign v' source) j' b (state_of m store picks) c)
  unfolding exec charge
  put_plain source z y w e a =
      let s = state_of m store picks in
      acts_as refl
      ((λ i. outcome (charge π.arithmetic at [] s (λ t. w at v t i)) c (λ u. to j (phase_of b) u c))
      ∙ (λ i. outcome (charge π.arithmetic (q i) [] s (λ t. write (q i) (n i) (e i) t)) c (λ u. to (g i) (phase_of b) u c)))
      a

  pub put_value : (z : ℤ) (x : Expr) → result_in z ≡ value x (store_of store) → Acts m r store' picks c (put_to π.arithmetic at v z j b (state_of m store picks) c)
      → Acts m r store' picks c (plain_to π at' (assign v' (from x)) j' b (state_of m store picks) c)
  unfolding result
  put_value z x e a = put_plain (from x) z (result_in z) (λ i w. write_in i w z) e a

  pub put_change : (z : ℤ) (d : Change) → z ≡ applied d (store_of store v') → Acts m r store' picks c (put_to π.arithmetic at v z j b (state_of m store picks) c)
      → Acts m r store' picks c (plain_to π at' (assign v' (changed d)) j' b (state_of m store picks) c)
  unfolding result
  put_change z d e a = put_plain (changed d) z (number z) (λ i w s. refl) (ap number e) a

-- ---- a for's entry, which begins once its start has succeeded
module _ (m n : Machine) (store : List ℤ) (picks : List ℕ) (c d : TurnCounts) (j : ℕ) where
  by_going : (s : Status) → is_going s ≡ true → (o : Out) → by_status s n store picks d ≡ outcome o d (λ u. to j testing u d) → by_status s n store picks d ≡ outcome o c (λ u. to j testing u d)
  unfolding outcome
  by_going s g (go u es) q = q
  by_going Going g (halt a i u es) q = absurd (let z : ◌≡◌ {A = ℕ} 0 1 = cc in omega arith)
  by_going (Over a i) g (halt a' i' u es) q = no_true g

  by_over : (s : Status) → is_going s ≡ false → (o : Out) → by_status s n store picks c ≡ outcome o c (λ u. to j testing u c) → by_status s n store picks c ≡ outcome o c (λ u. to j testing u d)
  unfolding outcome
  by_over s g (halt a i u es) q = q
  by_over Going g (go u es) q = no_true (sym g)
  by_over (Over a i) g (go u es) q = absurd (let z : ◌≡◌ {A = ℕ} 0 1 = cc in omega arith)

  pub for_begins : (o : Out) → is_going n.status ≡ true → Acts m n store picks d (outcome o d (λ u. to j testing u d)) → Acts m n store picks d (outcome o c (λ u. to j testing u d))
  for_begins o g a = record { same = by_going n.status g o a.same; left = a.left; used = a.used; rests = a.rests }

  pub for_stops : (o : Out) → is_going n.status ≡ false → Acts m n store picks c (outcome o c (λ u. to j testing u c)) → Acts m n store picks c (outcome o c (λ u. to j testing u d))
  for_stops o g a = record { same = by_over n.status g o a.same; left = a.left; used = a.used; rests = a.rests }

-- ---- the test of a loop
module _ (π : Prices) (m : Machine) (store : List ℤ) (picks : List ℕ) (c : TurnCounts) (h e : ℕ) (t : Test) where
  abbrev Tests : Machine → TurnCounts → Type 0
  Tests r c' = Acts m r store picks c' (tests π h e t (state_of m store picks) c)

  pub test_spent : m.left < π.test → Tests (over_at m m.left Spent h) c
  unfolding tests paid chosen
  test_spent q = record { same = rw (lt-leb π.test m.left q); left = omega arith; used = λ h. h; rests = λ at q. (refl, refl) }

  pub test_passed : (c' : TurnCounts) → π.test ≤ m.left → holds t (store_of store) ≡ passes → c' ≡ turn h c → Tests (on_at m (m.left - π.test) (h + 1) false) c'
  unfolding tests paid chosen decide
  test_passed c' q y f = record { same = rw (le-leb π.test m.left q, y, f, add-one); left = omega arith; used = λ h. h; rests = λ at q. going_not q }

  pub test_failed : π.test ≤ m.left → holds t (store_of store) ≡ fails → Tests (on_at m (m.left - π.test) (e + 1) false) c
  unfolding tests paid chosen decide
  test_failed q n = record { same = rw (le-leb π.test m.left q, n, add-one); left = omega arith; used = λ h. h; rests = λ at q. going_not q }

  pub test_beyond : π.test ≤ m.left → holds t (store_of store) ≡ beyond → Tests (over_at m (m.left - π.test) Ending.Range h) c
  unfolding tests paid chosen decide
  test_beyond q n = record { same = rw (le-leb π.test m.left q, n); left = omega arith; used = λ h. h; rests = λ at q. range_not q }

-- by its limit as one number
pub tried_past : (k : Comparison) (x z : ℤ) (y : Result) → eq_z z (pos 4_000_000_000) ≡ true → result_in z ≡ y → tried k x y ≡ beyond
unfolding tried result_in
tried_past k x z y n e = rw (← e, n)

pub tried_number : (k : Comparison) (x z : ℤ) (y : Result) (b : Bool) → eq_z z (pos 4_000_000_000) ≡ false → result_in z ≡ y → b ≡ compares k x z → tried k x y ≡ choose b passes fails
unfolding tried result_in
tried_number k x z y b n e q = rw (← e, n, q)
