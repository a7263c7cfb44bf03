-- The start of a run and its answer. Assumes nothing.
use mathlib.Core.Path.{◌≡◌, refl, sym, ◌∙◌, ap}
use mathlib.Core.Bool.{false}
use mathlib.Core.List.{List}
use Prim.Native.Nat.{ℕ, zero, suc, ◌+◌, ◌*◌, ◌≤◌, max}
use native.Mathlib.Nat.{mul-le-mul}
use native.Mathlib.Omega.{arith}
use lib.ListN.{length, get_or, replicate, length-drop}
use lib.IntN.{ℤ}
use Rattle.rules.specs.declared.Prices.{Prices}
use Rattle.rules.specs.Blocks.{RowKind}
use Rattle.rules.specs.Answers.{store_list}
use Rattle.rules.specs.Calls.{loop_rows}
use Rattle.rules.specs.Scripts.{Script, Accepted, store_of}
use Rattle.rules.proofs.Laws.{list_of_store}
use Rattle.rules.proofs.TreeOf.{tree_of_lem}
use Rattle.rules_machine.specs.RowMachine.{more, over, steps, start, rank, pairs}
use Rattle.rules_machine.proofs.LimitsKept.{limit_keeps}
use Rattle.rules_machine.proofs.PairsIn.{partners}
use Rattle.rules_machine.proofs.RowMachineRuns.{row_answer}
use Rattle.run_actions.specs.declared.Machine.{Machine}
use Rattle.run_actions.specs.declared.Status.{Status}
use Rattle.run_actions.specs.declared.Status.TheVariants.{Going, Over}
use Rattle.run_actions.specs.States.{count_in, tally_of, state_of, place_of, by_status, is_going}
use Rattle.run_actions.proofs.Heads.{none_counted}
use Rattle.run_machine.specs.Steps.{Runnable, script_in}
use Rattle.runner.specs.Runs.{place_in, MayGo, WentOn}
use Rattle.runner.specs.Answered.{run_of, Cleared, ran_by, MayRun, AnsweredBy, Answered}
use Rattle.runner.proofs.Loop.{size_of}

-- an accepted script may run
pub runnable : {π : Prices} (script : Script) → Accepted π script → Runnable (length script.ranges) script.rows
runnable script ok =
    let (n, closed) = ok.legal.closed in
    let (tree, whole) = tree_of_lem script.rows n closed in
    record { limits = ok.legal.numbers.1; below = ok.legal.variables; closed = ok.legal.closed; unchanged = limit_keeps script ok tree whole }

-- an array of counts as it is made
pub cleared : Cleared (replicate 16 (replicate 3 0))
cleared = record { zero = λ k j. row 16 k j; long = refl }
  where
    column : (n j : ℕ) → ◌≡◌ {A = ℕ} (get_or (replicate n 0) j 0) 0
    column zero j = refl
    column (suc n) zero = refl
    column (suc n) (suc j) = column n j

    row : (n k j : ℕ) → ◌≡◌ {A = ℕ} (count_in (replicate n (replicate 3 0)) k j) 0
    row zero k j = refl
    row (suc n) zero j = column 3 j
    row (suc n) (suc k) j = row n k j

-- the tally of such counts
pub no_turns : (heads : List ℕ) (counts : List (List ℕ)) → Cleared counts → tally_of heads counts ≡ record { turns = λ _. 0; sum = λ _. 0; most = λ _. 0 }
no_turns heads counts clear =
    let z = none_counted heads counts clear.zero in
    λ i. record { turns = λ p. z p 0 i; sum = λ p. z p 1 i + z p 0 i; most = λ p. max (z p 2 i) (z p 0 i) }

abbrev pub start_of : ℕ → Machine
start_of allowance = record { row = 0; testing = false; left = allowance; used = 0; status = Going }

module _ {text : List ℕ} (π : Prices) (t : List ℕ) (count : ℕ) (store : List ℤ) (picks : List ℕ) (allowance : ℕ) (given : MayRun text π t count store allowance) (counts : List (List ℕ)) (clear : Cleared counts) where
  abbrev rows : List RowKind
  rows = script_in text t count

  abbrev heads : List ℕ
  heads = loop_rows 0 rows

  pub ready : MayGo text π t count (start_of allowance) store picks counts
  unfolding rank
  ready =
      let n = size_of given.script in
      let few : 2 * length rows + 2 ≤ 514 = omega (arith, given.script.size) in
      let most-steps = mul-le-mul given.ticks few in
      record {
        script = given.script;
        price = given.price;
        going = refl;
        waits = λ e. absurd (let z : ◌≡◌ {A = ℕ} 0 1 = cc in omega arith);
        used = omega arith;
        long = clear.long;
        room = λ p. let z = none_counted heads counts clear.zero p in (omega (arith, z 0), omega (arith, z 0, z 1));
      }

  -- ---- the answer
  module _ (r : Machine) (store' : List ℤ) (counts' : List (List ℕ)) (same : length store' ≡ length store) (done : WentOn π rows (start_of allowance) r store store' picks counts counts') where
    abbrev answered : Status → Type 0
    answered s = AnsweredBy (run_of π rows store picks allowance) (ran_by s r allowance) (length store) store' (tally_of heads counts')

    by_status_lem : (s : Status) → r.status ≡ s → is_going s ≡ false → answered s
    by_status_lem Going e f = absurd (let z : ◌≡◌ {A = ℕ} 0 1 = cc in omega arith)
    by_status_lem (Over x i) e f =
        let matching_end_lem = (pairs rows (length rows)).end in
        let matching_head_lem = (pairs rows (length rows)).head in
        let (n, closed) = given.script.runs.closed in
        let (tree, whole) = tree_of_lem rows n closed in
        let begins : more (place_in rows (start_of allowance) store picks counts) ≡ more (start (record { store = store_of store; left = allowance; picks = picks }))
        = ap (λ c. more (place_of (start_of allowance) store picks c)) (no_turns heads counts clear) in
        let over-at : steps π rows matching_end_lem matching_head_lem done.n (more (start (record { store = store_of store; left = allowance; picks = picks }))) ≡ over x i (state_of r store' picks) (tally_of heads counts')
        = ap (steps π rows matching_end_lem matching_head_lem done.n) (sym begins) ∙ done.same ∙ ap (λ z. by_status z r store' picks (tally_of heads counts')) e in
        let a = row_answer π given.price rows matching_end_lem matching_head_lem (partners rows tree whole) tree whole (store_of store) picks allowance done.n x i (state_of r store' picks) (tally_of heads counts') over-at in
        record {
          ending = a.ending;
          row = a.row;
          ticks = a.ticks;
          used = omega (arith, a.used, length-drop r.used picks, done.used);
          final = sym (list_of_store store') ∙ (λ k. store_list (same k) (a.store k));
          sums = a.sums;
          mosts = a.mosts;
        }

    pub answers : Answered π rows allowance picks (ran_by r.status r allowance) store store' counts'
    answers = record { told = by_status_lem r.status refl done.over; room = done.room }
