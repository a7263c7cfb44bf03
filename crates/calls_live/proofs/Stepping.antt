-- A step of the definitions is the step in code. Assumes nothing.
use mathlib.Core.Path.{◌≡◌, refl, sym, ◌∙◌, ap, subst}
use mathlib.Core.Bool.{Bool, true, false, not}
use mathlib.Core.List.{List, [], ◌∷◌}
use Prim.Native.Nat.{ℕ, zero, suc, ◌+◌, ◌-◌, ◌≤◌}
use native.Mathlib.Omega.{arith}
use borrow.Author.Tests.{ne_eqb}
use lib.Dec.{eqb}
use lib.IntN.{ℤ}
use lib.ListN.{length, drop}
use lib.Seq.{length-take-le}
use Rattle.rules.specs.declared.Ending.{Ending}
use Rattle.rules.specs.declared.Ending.TheVariants.{Ended, Spent, NoPick}
use Rattle.rules.specs.declared.Prices.{Prices}
use Rattle.rules.specs.Scripts.{Script, store_of}
use Rattle.rules.proofs.Laws.{no_true}
use Rattle.rules_machine.specs.RowMachine.{TurnCounts, Place, more, picked, chosen, next}
use Rattle.rules_live.specs.Live.{Stand, waits, finished, Stop, stops_here, having, StepLent, Stepped, left_at, unused_at, keeps, stepped_to, lent_to, runs_on, by_byte, answered, step, step_of, matching_end, matching_head, store_at, counts_at_stand, row_of_next, row_at, status_number}
use Rattle.rules_live.specs.LiveState.{phase_in, stand_in, place_row, phase_at, carried_at}
use Rattle.run_actions.specs.declared.Machine.{Machine}
use Rattle.run_actions.specs.declared.Status.{Status}
use Rattle.run_actions.specs.declared.Status.TheVariants.{Going, Over}
use Rattle.run_actions.specs.States.{phase_of, place_of, is_going}
use Rattle.runner.specs.Goes.{stood_by}
use Rattle.live_state.specs.Numbers.{due_in, status_in, given_at}
use Rattle.calls_live.specs.Plays.{ready_by, stop_from, row_stopped}

-- ---- a standing by its machine
module _ (m : Machine) (store : List ℤ) (picks : List ℕ) (c : TurnCounts) where
  pub left_of_lem : (b : Bool) (z : Status) → left_at (stood_by b z m store picks c) ≡ m.left
  unfolding left_at stops_here
  left_of_lem true z = refl
  left_of_lem false Going = refl
  left_of_lem false (Over Ended i) = refl
  left_of_lem false (Over Spent i) = refl
  left_of_lem false (Over Ending.Range i) = refl
  left_of_lem false (Over NoPick i) = refl

  pub unused_of : (b : Bool) (z : Status) → unused_at (stood_by b z m store picks c) ≡ drop m.used picks
  unfolding unused_at stops_here
  unused_of true z = refl
  unused_of false Going = refl
  unused_of false (Over Ended i) = refl
  unused_of false (Over Spent i) = refl
  unused_of false (Over Ending.Range i) = refl
  unused_of false (Over NoPick i) = refl

  pub store_of_lem : (k : ℕ) (b : Bool) (z : Status) → store_at (keeps k (stood_by b z m store picks c)) ≡ store_of store
  unfolding store_at keeps stops_here
  store_of_lem k true z = refl
  store_of_lem k false Going = refl
  store_of_lem k false (Over Ended i) = refl
  store_of_lem k false (Over Spent i) = refl
  store_of_lem k false (Over Ending.Range i) = refl
  store_of_lem k false (Over NoPick i) = refl

  pub counts_of_lem : (k : ℕ) (b : Bool) (z : Status) → counts_at_stand (keeps k (stood_by b z m store picks c)) ≡ c
  unfolding counts_at_stand keeps stops_here
  counts_of_lem k true z = refl
  counts_of_lem k false Going = refl
  counts_of_lem k false (Over Ended i) = refl
  counts_of_lem k false (Over Spent i) = refl
  counts_of_lem k false (Over Ending.Range i) = refl
  counts_of_lem k false (Over NoPick i) = refl

  pub row_of : (π : Prices) (script : Script) (k : ℕ) (b : Bool) (z : Status) → (b ≡ false → is_going z ≡ false)
      → ((i : ℕ) → z ≡ Over Spent i → row_of_next (next π script.rows (matching_end script) (matching_head script) (place_of m store picks c)) ≡ i)
      → row_stopped b z m ≡ row_at π script (keeps k (stood_by b z m store picks c))
  unfolding row_at keeps stops_here
  row_of π script k true z f g = refl
  row_of π script k false Going f g = no_true (sym (f refl))
  row_of π script k false (Over Ended i) f g = refl
  row_of π script k false (Over Spent i) f g = sym (g i refl)
  row_of π script k false (Over Ending.Range i) f g = refl
  row_of π script k false (Over NoPick i) f g = refl

-- two standings that say the same
pub record Same (π : Prices) (script : Script) (a b : Stand) : Type 0 where
  pub status : status_number a ≡ status_number b
  pub place : place_row a ≡ place_row b
  pub phase : phase_at a ≡ phase_at b
  pub carried : carried_at a ≡ carried_at b
  pub row : row_at π script a ≡ row_at π script b
  pub store : store_at a ≡ store_at b
  pub counts : counts_at_stand a ≡ counts_at_stand b

same_by : (π : Prices) (script : Script) {a b : Stand} → a ≡ b → Same π script a b
same_by π script e = record {
  status = ap status_number e;
  place = ap place_row e;
  phase = ap phase_at e;
  carried = ap carried_at e;
  row = ap (row_at π script) e;
  store = ap store_at e;
  counts = ap counts_at_stand e;
}

-- what the step says of where it stopped: S the standing, l what is lent, x what was carried, y what it had
pub record StepSays (π : Prices) (script : Script) (picks : List ℕ) (x y : ℕ) (S : Stand) (cues : List ℕ) (s : Stepped) : Type 0 where
  pub stand : Same π script s.stand (keeps x S)
  pub ticks : s.ticks ≡ y - left_at S
  pub used : length s.used ≡ length picks - length (unused_at S)
  pub cues_are : s.cues ≡ cues

phase_is : (n : ℕ) → phase_of (due_in n) ≡ phase_in n
unfolding phase_in
phase_is zero = refl
phase_is (suc n) = ap (λ b. phase_of (not b)) (ne_eqb (suc n) 0 (λ e. omega arith))

module _ (π : Prices) (script : Script) (q : ℕ) (picks : List ℕ) (room : ℕ) (i due x : ℕ) (store : List ℤ) (c : TurnCounts) where
  abbrev lent : StepLent
  lent = record { q = q; picks = picks; room = room }

  abbrev from : Place
  from = record { row = i; phase = phase_in due; now = record { store = store_of store; left = x; picks = [] }; tally = c }

  abbrev machine : ℕ → Machine
  machine z = record { row = i; testing = due_in due; left = x + given_at z q; used = 0; status = status_in z i }

  -- the step from a standing of status z
  abbrev of : ℕ → Stepped
  of z = step_of π script lent (stand_in z from)

  -- where the code stops
  abbrev stop_of : ℕ → Stop
  stop_of z = stop_from π script.rows room (ready_by (suc (matching_end script i)) (status_in z i) (place_of (machine z) store picks c))

  place_is : place_of (record { row = i; testing = due_in due; left = x + q; used = 0; status = Going }) store picks c ≡ lent_to lent from
  place_is = λ j. record { row = i; phase = phase_is due j; now = record { store = store_of store; left = x + q; picks = picks }; tally = c }

  module _ (S : Stand) (cues : List ℕ) where
    -- it began at `from` and went on to S
    went : (b : Stop) → b ≡ record { stand = S; cues = cues } → StepSays π script picks x (x + q) S cues (stepped_to lent from b)
    unfolding stepped_to
    went b e = subst (λ b. StepSays π script picks x (x + q) S cues (stepped_to lent from b)) (sym e) (record {
      stand = same_by π script refl;
      ticks = refl;
      used = length-take-le (length picks - length (unused_at S)) picks (omega arith);
      cues_are = refl;
    })

    -- without a byte it waits on
    by_byte_lem : due ≡ 0 → by_byte π script.rows (matching_end script) (matching_head script) room (lent_to lent from) (answered π script.rows (matching_end script) (matching_head script) (lent_to lent from))
        ≡ stop_from π script.rows room (picked i (suc (matching_end script i)) picks (record { store = store_of store; left = x + q; picks = picks }) c)
    unfolding by_byte stop_from picked chosen stops_here phase_in
    by_byte_lem e = by picks
      where
        choice : (b : Bool) (m : Place) (u w : Place) → by_byte π script.rows (matching_end script) (matching_head script) room m (chosen b (more u) (more w)) ≡ stop_from π script.rows room (chosen b (more u) (more w))
        choice true m u w = refl
        choice false m u w = refl

        by : (r : List ℕ) → by_byte π script.rows (matching_end script) (matching_head script) room (having from (x + q) r) (picked i (suc (matching_end script i)) r (record { store = store_of store; left = x + q; picks = r }) c)
            ≡ stop_from π script.rows room (picked i (suc (matching_end script i)) r (record { store = store_of store; left = x + q; picks = r }) c)
        by [] = λ j. record { stand = waits (record { row = i; phase = phase_in (e j); now = record { store = store_of store; left = x + q; picks = [] }; tally = c }); cues = [] }
        by (y ∷ r) = choice (eqb y 0) _ _ _

    -- a finished one stays
    stayed : (e : Ending) → ◌≡◌ {A = Stop} (record { stand = finished e i (record { store = store_of store; left = x + 0; picks = picks }) c; cues = [] }) (record { stand = S; cues = cues })
        → StepSays π script picks x (x + 0) S cues (record { stand = finished e i (record { store = store_of store; left = x; picks = [] }) c; ticks = 0; used = []; cues = [] })
    unfolding left_at unused_at keeps status_number place_row phase_at carried_at row_at store_at counts_at_stand
    stayed e q = subst (λ (b : Stop). StepSays π script picks x (x + 0) b.stand b.cues (record { stand = finished e i (record { store = store_of store; left = x; picks = [] }) c; ticks = 0; used = []; cues = [] })) q (record {
      stand = record { status = by e; place = refl; phase = refl; carried = refl; row = refl; store = refl; counts = refl };
      ticks = omega arith;
      used = omega arith;
      cues_are = refl;
    })
      where
        by : (e : Ending) → status_number (finished e i (record { store = store_of store; left = x; picks = [] }) c) ≡ status_number (finished e i (record { store = store_of store; left = x + 0; picks = picks }) c)
        by Ended = refl
        by Spent = refl
        by Ending.Range = refl
        by NoPick = refl

    pub step_says : (z : ℕ) → z ≤ 4 → (z ≡ 1 → due ≡ 0) → stop_of z ≡ record { stand = S; cues = cues } → StepSays π script picks x (machine z).left S cues (of z)
    unfolding status_in given_at stand_in step ready_by stop_from stops_here
    step_says zero h f e = went _ (ap (runs_on π script.rows (matching_end script) (matching_head script) room []) (sym place_is) ∙ e)
    step_says (suc zero) h f e = went _ (by_byte_lem (f refl) ∙ e)
    step_says (suc (suc zero)) h f e = went _ (ap (runs_on π script.rows (matching_end script) (matching_head script) room []) (sym place_is) ∙ e)
    step_says (suc (suc (suc zero))) h f e = stayed Ended e
    step_says (suc (suc (suc (suc zero)))) h f e = stayed Ending.Range e
    step_says (suc (suc (suc (suc (suc n))))) h f e = absurd (omega arith)
