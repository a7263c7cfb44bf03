-- The loop over the steps of the machine: what a step keeps, and what it comes to. Assumes nothing.
use mathlib.Core.Path.{◌≡◌, refl, sym, ◌∙◌, ap, subst}
use mathlib.Core.Bool.{Bool, true, false}
use mathlib.Core.List.{List, []}
use Prim.Native.Nat.{ℕ, suc, ◌+◌, ◌≤◌, ◌<◌, ◌^◌}
use native.Mathlib.Omega.{arith}
use lib.ListN.{length, get_or}
use lib.IntN.{ℤ}
use Rattle.rules.specs.declared.Ending.{Ending}
use Rattle.rules.specs.declared.Ending.TheVariants.{Ended, Spent, NoPick}
use Rattle.rules.specs.declared.Prices.{Prices}
use Rattle.rules.specs.Blocks.{RowKind, expr_of, view_at}
use Rattle.rules.specs.Calls.{loop_rows}
use Rattle.rules.proofs.Laws.{kinds_first}
use Rattle.rules.proofs.TreeOf.{tree_of_lem}
use Rattle.rules_machine.specs.RowMachine.{TurnCounts, testing, Place, Next, more, over, steps, Partners, pairs, rank}
use Rattle.rules_machine.proofs.PairsIn.{partners}
use Rattle.rules.proofs.Rows.{block_loop}
use Rattle.rules_machine.proofs.RowMachineRuns.{falls_more, next_past, head_in}
use Rattle.rules_frames.specs.Frames.{stopped, runs_on}
use Rattle.rules_frames.proofs.Resumed.{Above, above, above_same, steps_room, step_more, over_keeps, runs_on_is}
use Rattle.table.specs.Code.{rows_of, partner_in, limit_in}
use Rattle.table.proofs.Laws.{rows_length}
use Rattle.table.proofs.Pairing.{heads_rise}
use Rattle.run_actions.specs.declared.Machine.{Machine}
use Rattle.run_actions.specs.declared.Status.{Status}
use Rattle.run_actions.specs.declared.Status.TheVariants.{Going, Over}
use Rattle.run_actions.specs.States.{count_in, loop_counts, tally_of, phase_of, state_of, place_of, by_status, next_of, is_going, over_at, Acts}
use Rattle.run_actions.proofs.Heads.{counts_at_lem}
use Rattle.run_machine.specs.Steps.{Runnable, script_in, Runs, Room, step_of, EndsLoop, AtRow, AtTest, Stepped}
use Rattle.run_machine.specs.Rows.{row_of}
use Rattle.run_machine.specs.Limits.{KeptAt, TestKept}
use Rattle.run_machine.proofs.Rows.{at_a_test as tested}
use Rattle.runner.proofs.Limits.{LimitsKept, in_keeps, limit_of, after_a_row, after_test}
use Rattle.runner.specs.Runs.{place_in, RoomToEnd, MayGo, stand_by, WentOn}
use Rattle.runner.proofs.Tests.{tests_at}

pub going_is : (s : Status) → is_going s ≡ true → s ≡ Going
going_is Going e = refl
going_is (Over x i) e = absurd (let z : ◌≡◌ {A = ℕ} 0 1 = cc in omega arith)

-- a script in a table has all its rows
pub size_of : {text t : List ℕ} {count vars : ℕ} → Runs text t count vars → length (script_in text t count) ≡ count
size_of {text} {t} {count} s = kinds_first text count (rows_of t) (omega (arith, s.size, s.table.size, rows_length t))

-- a machine that stops waits at its own row and phase
stops_there : (w p : Place) (e : Ending) (i : ℕ) → (e ≡ Spent → (p.row ≡ w.row) × (p.phase ≡ w.phase)) → stopped p e i p.now p.tally ≡ stopped w e i p.now p.tally
unfolding stopped
stops_there w p Ended i f = refl
stops_there w p Spent i f = let (a, b) = f refl in λ k. more (record { row = a k; phase = b k; now = p.now; tally = p.tally })
stops_there w p Ending.Range i f = refl
stops_there w p NoPick i f = refl

module _ {text : List ℕ} (π : Prices) (t : List ℕ) (count : ℕ) (picks : List ℕ) (m₀ : Machine) (store₀ : List ℤ) (counts₀ : List (List ℕ)) (ready : MayGo text π t count m₀ store₀ picks counts₀) where
  abbrev rows : List RowKind
  rows = script_in text t count

  abbrev matching_end_lem : ℕ → ℕ
  matching_end_lem = (pairs rows (length rows)).end

  abbrev matching_head_lem : ℕ → ℕ
  matching_head_lem = (pairs rows (length rows)).head

  abbrev heads : List ℕ
  heads = loop_rows 0 rows

  fit : Partners rows matching_end_lem matching_head_lem
  fit = let (n, closed) = ready.script.runs.closed in let (tree, whole) = tree_of_lem rows n closed in partners rows tree whole

  -- the sum of a loop by its number
  sum_at_lem : (counts : List (List ℕ)) → length counts ≡ 16 → (k : ℕ) → k < length heads → (tally_of heads counts).sum (get_or heads k 0) ≡ count_in counts k 1 + count_in counts k 0
  sum_at_lem counts long k l = let few = ready.script.table.few in ap (λ c. get_or c 1 0 + get_or c 0 0) (counts_at_lem heads counts (λ a b. heads_rise rows 0 a b) k l (omega arith))

  abbrev start : Place
  start = place_in rows m₀ store₀ picks counts₀

  -- what the loop keeps: the machine is going, and its place is reached from the start
  pub record Reached (m : Machine) (store : List ℤ) (counts : List (List ℕ)) : Type 0 where
    pub vars : length store ≡ length store₀
    pub long : length counts ≡ 16
    pub going : m.status ≡ Going
    pub n : ℕ
    pub same : steps π rows matching_end_lem matching_head_lem n (more start) ≡ more (place_in rows m store picks counts)
    pub waits : m.testing ≡ true → EndsLoop rows m.row
    pub left : m.left ≤ m₀.left
    pub used : m.used ≤ length picks

  pub reached_start : Reached m₀ store₀ counts₀
  unfolding steps
  reached_start = record { vars = refl; long = ready.long; going = ready.going; n = 0; same = refl; waits = ready.waits; left = omega arith; used = ready.used }

  module _ (m : Machine) (store : List ℤ) (counts : List (List ℕ)) (now : Reached m store counts) where
    abbrev here : Place
    here = place_in rows m store picks counts

    script : Runs text t count (length store)
    script = subst (Runs text t count) (sym now.vars) ready.script

    -- the counts have risen by no more than the rank has fallen
    room : Room rows counts
    room = record { long = now.long; turn = λ k l. by k l (steps_room π ready.price rows matching_end_lem matching_head_lem fit now.n start here now.same start.tally 0 (above_same start.tally)) }
      where
        by : (k : ℕ) → k < length heads → (j : ℕ) × Above j start.tally here.tally × (j + rank (length rows) here ≤ 0 + rank (length rows) start) → count_in counts k 1 + count_in counts k 0 < 2 ^ 63
        by k l (j, above f, r) = let p = get_or heads k 0 in omega (arith, (f p).1, (ready.room p).1, sum_at_lem counts now.long k l)

    pub at_row : m.testing ≡ false → m.row < count → AtRow text t count m store counts
    at_row e l = record { script = script; row = l; fresh = e; room = room }

    pub at_a_test : m.testing ≡ true → AtTest text t count m store counts
    at_a_test e = record { script = script; ends = now.waits e; testing = e; room = room }

    -- one step
    module _ (r : Machine) (store' : List ℤ) (counts' : List (List ℕ)) (kept : length store' ≡ length store) (done : Stepped π rows m r store store' picks counts counts') where
      step_is : (s : Status) → r.status ≡ s → step_of π rows here ≡ by_status s r store' picks (tally_of heads counts')
      step_is s e = sym done.acts.same ∙ ap (λ z. by_status z r store' picks (tally_of heads counts')) e

      came : steps π rows matching_end_lem matching_head_lem (suc now.n) (more start) ≡ step_of π rows here
      came = step_more π ready.price rows matching_end_lem matching_head_lem fit now.n (more start) here now.same

      -- it goes on
      pub goes_on : is_going r.status ≡ true → Reached r store' counts' × (rank (length rows) (place_in rows r store' picks counts') < rank (length rows) here)
      goes_on on =
          let g = going_is r.status on in
          let (n, closed) = ready.script.runs.closed in
          let (tree, whole) = tree_of_lem rows n closed in (
            record {
              vars = kept ∙ now.vars;
              long = done.long;
              going = g;
              n = suc now.n;
              same = came ∙ step_is Going g;
              waits = λ e. tests_at π rows tree whole here (place_in rows r store' picks counts') (step_is Going g) (ap phase_of e);
              left = omega (arith, now.left, done.acts.left);
              used = done.acts.used now.used;
            },
            (falls_more π ready.price rows matching_end_lem matching_head_lem fit here (place_in rows r store' picks counts') (step_is Going g)).1,
          )

      stands : (s : Status) → r.status ≡ s → is_going s ≡ false → stand_by s r store' picks (tally_of heads counts') ≡ runs_on π rows matching_end_lem matching_head_lem start
      stands Going e f = absurd (let z : ◌≡◌ {A = ℕ} 0 1 = cc in omega arith)
      stands (Over x i) e f =
          stops_there here (place_in rows r store' picks counts') x i (λ h. let (a, b) = done.acts.rests i (e ∙ ap (λ z. Over z i) h) in (a, ap phase_of b))
          ∙ sym (runs_on_is π ready.price rows matching_end_lem matching_head_lem fit now.n start here x i (state_of r store' picks) (tally_of heads counts') now.same (step_is (Over x i) e))

      -- it has the counts of the last place
      still_room : (s : Status) → r.status ≡ s → is_going s ≡ false → Room rows counts'
      still_room Going e f = absurd (let z : ◌≡◌ {A = ℕ} 0 1 = cc in omega arith)
      still_room (Over x i) e f =
          let c : tally_of heads counts' ≡ tally_of heads counts = over_keeps π rows matching_end_lem matching_head_lem here x i (state_of r store' picks) (tally_of heads counts') (step_is (Over x i) e) in
          record {
            long = done.long;
            turn = λ k l. omega (arith, room.turn k l, sum_at_lem counts' done.long k l, sum_at_lem counts now.long k l, ap (λ (z : TurnCounts). z.sum (get_or heads k 0)) c);
          }

      -- it is over
      pub is_over : is_going r.status ≡ false → WentOn π rows m₀ r store₀ store' picks counts₀ counts'
      is_over off = record {
        n = suc now.n;
        same = came ∙ sym done.acts.same;
        over = off;
        stand = stands r.status refl off;
        waits = λ i e b. let (x, y) = done.acts.rests i e in subst (EndsLoop rows) (sym x) (now.waits (sym y ∙ b));
        left = omega (arith, now.left, done.acts.left);
        used = done.acts.used now.used;
        room = still_room r.status refl off;
      }

    -- what is kept before a test
    module _ (limits : List ℤ) (long : length limits ≡ 16) (kept : LimitsKept rows m.row store limits) where
      pub kept_at : m.testing ≡ true → KeptAt text t m store limits
      kept_at e =
          let k = tested (at_a_test e) in
          record { long = long; kept = in_keeps (kept _ k.loop.few k.form _ k.last (ap (view_at rows) k.loop.place ∙ k.view)) }

      -- and after it, or after a row
      pub test_limits : (r : Machine) (counts' : List (List ℕ)) (limits' : List ℤ) → m.testing ≡ true → Stepped π rows m r store store picks counts counts'
          → TestKept text t m r store limits limits' → is_going r.status ≡ true → LimitsKept rows r.row store limits'
      test_limits r counts' limits' e done told on =
          let (n, closed) = ready.script.runs.closed in
          let (tree, whole) = tree_of_lem rows n closed in
          let k = tested (at_a_test e) in
          after_test π rows tree whole ready.script.runs.unchanged _ (partner_in (row_of t m)) k.loop.few k.loop.place (expr_of text (limit_in (row_of t m)))
          here (place_in rows r store picks counts') store limits limits' (step_is r store counts' refl done Going (going_is r.status on)) refl refl (sym k.head)
          (block_loop rows tree whole _ (head_in rows _ k.form _ k.last k.view) k.form _ k.last k.view).past
          (λ f x l v. ap limit_of (sym v ∙ k.view)) told.others (told.own on) kept

      pub row_limits : (r : Machine) (store' : List ℤ) (counts' : List (List ℕ)) → length store' ≡ length store → m.testing ≡ false → Stepped π rows m r store store' picks counts counts'
          → is_going r.status ≡ true → LimitsKept rows r.row store' limits
      row_limits r store' counts' same e done on =
          let (n, closed) = ready.script.runs.closed in
          let (tree, whole) = tree_of_lem rows n closed in
          after_a_row π rows tree whole ready.script.runs.unchanged here (place_in rows r store' picks counts') store store' limits
          (step_is r store' counts' same done Going (going_is r.status on)) (ap phase_of e) refl refl kept

    -- past the last row
    pub past_end : count ≤ m.row → WentOn π rows m₀ (over_at m m.left Ended count) store₀ store picks counts₀ counts
    past_end l =
        let n = size_of ready.script in
        is_over (over_at m m.left Ended count) store counts refl
        (record {
          acts = record {
            same = sym (next_past π rows matching_end_lem matching_head_lem m.row _ _ _ (omega arith) ∙ ap (λ k. over Ended k (state_of m store picks) (tally_of heads counts)) n);
            left = omega arith;
            used = λ u. u;
            rests = λ i q. absurd (let z : ◌≡◌ {A = ℕ} 0 1 = cc in omega arith);
          };
          long = now.long;
        }) refl
