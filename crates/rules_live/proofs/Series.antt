-- A series of steps: the run is the run, and no frame is long.
use mathlib.Core.Path.{◌≡◌, refl, sym, ◌∙◌, ap, subst}
use mathlib.Core.List.{List, [], ◌∷◌, append-nil}
use Prim.Native.Nat.{ℕ, suc, ◌+◌, ◌-◌, ◌≤◌}
use native.Mathlib.Omega.{arith}
use lib.IntN.{ℤ}
use lib.ListN.{length}
use Rattle.rules.specs.declared.Ending.{Ending}
use Rattle.rules.specs.declared.Ending.TheVariants.{Ended, Spent, NoPick}
use Rattle.rules.specs.Values.{Store}
use Rattle.rules.specs.Blocks.{RowKind}
use Rattle.rules.specs.declared.Prices.{Prices}
use Rattle.rules.specs.Scripts.{Script, report_ticks}
use Rattle.rules.specs.Answers.{Answer}
use Rattle.rules.specs.Calls.{loop_rows, run_script}
use Rattle.rules.specs.Claim.{Unspent, Demand3}
use Rattle.rules.proofs.Demand3.{demand3}
use Rattle.rules.proofs.Demand3File.{file_accepted, fine_prices, store_in}
use Rattle.rules_machine.specs.RowMachine.{TurnCounts, Next, over, picked, counts_of, Replies}
use Rattle.rules_frames.proofs.FramesAsAlone.{counts_same, agree}
use Rattle.rules_live.specs.Cues.{cues_to}
use Rattle.rules_live.specs.Live.{matching_end, matching_head, Stand, going, waits, full, finished, StepLent, Live, beginning, joined, step_of, steps_from, store_at, counts_at_stand, row_of_next, row_at}
use Rattle.rules_live.specs.LiveRuns.{CanStand, StepLeaves, EveryStart, StartAccepts, Closes, ending_at, allowance_at, IsTheRun, RunIsTheRun, NoLongFrame}
use Rattle.rules_live.proofs.Acts.{state}
use Rattle.rules_live.proofs.Comes.{fits, Stands, stands_is, stands_next, stands_paid, stands_byte, stands_start, Comes, comes_answer, comes_next, cues_flat}
use Rattle.rules_live.proofs.AnyStep.{can_proper, leaves}
use Rattle.rules_live.proofs.OneStep.{reach, Rests, going_rests, full_rests, waits_rests, finished_rests, Does, step_does}

-- an ending that finishes is not spent
closes_unspent : (e : Ending) → Closes e → Unspent e
closes_unspent Ended h = tt
closes_unspent Ending.Range h = tt
closes_unspent Spent h = absurd h
closes_unspent NoPick h = absurd h

module _ (π : Prices) (script : Script) (store : List ℤ) (accepts : StartAccepts π script store) where
  abbrev rows : List RowKind
  rows = script.rows

  abbrev Known : ℕ → List ℕ → List ℕ → (ℕ → List ℕ → Next) → Type 0
  Known t u cues a = Stands π script store accepts t u cues a

  abbrev runs : List ℕ → ℕ → Answer
  runs picks n = run_script π script store picks n

  -- a step of a run of which this is known
  pub does_step : {t : ℕ} {u cues : List ℕ} (l : StepLent) (a : Stand) → Known t u cues (reach (matching_end script) a) → CanStand π rows a
      → Does π rows (matching_end script) (matching_head script) (Stands π script store accepts) t u cues l a (step_of π script l a)
  does_step l a h p =
      step_does π rows (matching_end script) (matching_head script) accepts.prices (fits π script store accepts) (Stands π script store accepts)
      (record {
        equal = λ t u cues a b e k. stands_is π script store accepts e k;
        on = λ t u cues m k. stands_next π script store accepts m k;
        pays = λ t u cues p i f c k of l d h. stands_paid π script store accepts p i f c k of l d h;
        takes = λ t u cues i j f c b k. stands_byte π script store accepts i j f c b k;
      })
      l a h (can_proper π rows (matching_end script) (matching_head script) a p)

  pub step_leaves : {t : ℕ} {u cues : List ℕ} (l : StepLent) (a : Stand) → Known t u cues (reach (matching_end script) a) → CanStand π rows a → StepLeaves π rows l a (step_of π script l a)
  step_leaves l a h c = leaves π rows (matching_end script) (matching_head script) (Stands π script store accepts) _ _ _ l a c (does_step l a h c)

  -- a live run after n steps
  pub record Goes (n : ℕ) (l : Live) : Type 0 where
    pub known : Known l.ticks l.used l.cues (reach (matching_end script) l.stand)
    pub can_stand : CanStand π rows l.stand
    pub rests : 1 ≤ n → Rests π rows (matching_end script) (matching_head script) l.stand

  pub goes_start : Goes 0 (beginning store)
  unfolding reach
  goes_start = record { known = stands_start π script store accepts; can_stand = (omega arith, omega (arith, accepts.prices.test.some)); rests = λ l. absurd (omega arith) }

  pub goes_step : (n : ℕ) (l : Live) (s : StepLent) → Goes n l → Goes (suc n) (joined l (step_of π script s l.stand))
  unfolding joined
  goes_step n l s h =
      let d = does_step s l.stand h.known h.can_stand in
      record { known = d.known; can_stand = (step_leaves s l.stand h.known h.can_stand).can_stand; rests = λ _. d.rests }

  pub goes : (n : ℕ) (l : Live) (ls : List StepLent) → Goes n l → Goes (n + length ls) (steps_from π script l ls)
  unfolding steps_from
  goes n l [] h = let e : n ≡ n + 0 = omega arith in subst (λ k. Goes k l) e h
  goes n l (s ∷ ls) h =
      let e : suc n + length ls ≡ n + suc (length ls) = omega arith in
      subst (λ k. Goes k (steps_from π script l (s ∷ ls))) e (goes (suc n) _ ls (goes_step n l s h))

  -- where the run with these ticks and bytes has come to with none left
  cut : {t : ℕ} {u : List ℕ} {a : ℕ → List ℕ → Next} → Comes π script store accepts t u a → (e : Ending) (i : ℕ) (f : Store) (c : TurnCounts) → a 0 [] ≡ over e i (state f 0 []) c
      → Replies (runs u t) t u e i (state f 0 []) c
  cut {t} {u} h e i f c q =
      let none : t + 0 ≡ t = omega arith in
      subst (λ n. Replies (runs u n) n u e i (state f 0 []) c) none
      (subst (λ l. Replies (runs l (t + 0)) (t + 0) l e i (state f 0 []) c) (append-nil u) (comes_answer π script store accepts h 0 [] e i (state f 0 []) c q))

  -- the cues with just these bytes
  cut_cues : {t : ℕ} {u cues : List ℕ} {a : ℕ → List ℕ → Next} → Known t u cues a → cues ≡ cues_to π script store u t
  cut_cues {t} {u} h = sym (h.cued []) ∙ ap (λ l. cues_to π script store l t) (append-nil u)

  -- a standing with the answer of a run and its cues
  is_run : (t : ℕ) (u cues : List ℕ) (held : ℕ) (a : Stand) (n : ℕ) (e : Ending) (i : ℕ) (f : Store) (c : TurnCounts) → Replies (runs u n) t u e i (state f 0 []) c
      → ending_at a ≡ e → row_at π script a ≡ i → store_at a ≡ f → counts_at_stand a ≡ c → cues ≡ cues_to π script store u n
      → IsTheRun π script (record { stand = a; ticks = t; used = u; cues = cues; held = held }) (runs u n) (cues_to π script store u n)
  is_run t u cues held a n e i f c r at-ending at_row at_store at-counts same = record {
    ending = at-ending ∙ r.ending;
    row = at_row ∙ r.row;
    ticks = omega (arith, r.ticks);
    used = omega (arith, r.used);
    store = at_store ∙ r.store;
    counts = ap (λ c. counts_of c (loop_rows 0 rows)) at-counts ∙ counts_same c (runs u n).entries (loop_rows 0 rows) r.sums r.mosts;
    same_cues = same;
  }

  -- T ticks are enough for a run, which takes no more
  run_total : (u : List ℕ) → Unspent (runs u (report_ticks π script)).ending × ((runs u (report_ticks π script)).ticks ≤ report_ticks π script)
  unfolding run_script Demand3
  run_total u = let d = demand3 π accepts.prices.test.some script accepts.script_accepted store accepts.inside u (report_ticks π script) (omega arith) in (d.unspent, d.few_ticks)

  -- a run that is finished after t ticks is the run with T ticks, and so are its cues
  closed : (t : ℕ) (u : List ℕ) (e : Ending) (i : ℕ) (f : Store) (c : TurnCounts) → Closes e → Comes π script store accepts t u (λ x r. over e i (state f x r) c)
      → (runs u t ≡ runs u (report_ticks π script)) × (t ≤ report_ticks π script) × (cues_to π script store u t ≡ cues_to π script store u (report_ticks π script))
  closed t u e i f c z h =
      let r = cut h e i f c refl in
      let (unspent, few) = run_total u in
      let same : runs u t ≡ runs u (report_ticks π script)
      = agree π accepts.prices.test.some script accepts.script_accepted store accepts.inside u t (report_ticks π script) (subst Unspent r.ending (closes_unspent e z)) unspent in
      let below : t ≤ report_ticks π script = omega (arith, r.ticks, ap (λ (a : Answer). a.ticks) same) in
      let sum : t + (report_ticks π script - t) ≡ report_ticks π script = omega arith in
      let later : (y : ℕ) → (runs u (t + y)).ticks ≡ t
      = λ y. let a = comes_answer π script store accepts h y [] e i (state f y []) c refl in omega (arith, a.ticks, ap (λ l. (runs l (t + y)).ticks) (append-nil u)) in
      (same, below, sym (cues_flat rows (runs u) t (report_ticks π script - t) (λ y _. later y)) ∙ ap (cues_to π script store u) sum)

  as_run : (t : ℕ) (u cues : List ℕ) (held : ℕ) (a : Stand) → Known t u cues (reach (matching_end script) a) → Rests π rows (matching_end script) (matching_head script) a
      → let n : ℕ = allowance_at (report_ticks π script) t a in
      IsTheRun π script (record { stand = a; ticks = t; used = u; cues = cues; held = held }) (runs u n) (cues_to π script store u n)
  unfolding ending_at row_at row_of_next store_at counts_at_stand allowance_at reach picked
  as_run t u cues held _ h (going_rests {m = m} i f l) =
      is_run t u cues held (going m) t Spent i _ _ (cut (comes_next π script store accepts m h.comes) Spent i _ _ (f 0 [] (omega arith))) refl
      (ap row_of_next (f m.now.left m.now.picks (omega arith))) refl refl (cut_cues h)
  as_run t u cues held _ h (full_rests {m = m} z f) =
      is_run t u cues held (full m) t Spent m.row _ _ (cut (comes_next π script store accepts m h.comes) Spent m.row _ _ (f [])) refl refl refl refl (cut_cues h)
  as_run t u cues held _ h (waits_rests {m = m} v z) = is_run t u cues held (waits m) t NoPick m.row _ _ (cut h.comes NoPick m.row _ _ refl) refl refl refl refl (cut_cues h)
  as_run t u cues held _ h (finished_rests {e = e} {i = i} {s = s} {c = c} z) =
      let (same, _, fired) = closed t u e i s.store c z h.comes in
      is_run t u cues held (finished e i s c) (report_ticks π script) e i _ _
      (subst (λ a. Replies a t u e i (state s.store 0 []) c) same (cut h.comes e i s.store c refl)) refl refl refl refl (cut_cues h ∙ fired)

pub run_is_the_run : RunIsTheRun
unfolding RunIsTheRun
run_is_the_run π script store accepts ls some =
    let h = goes π script store accepts 0 (beginning store) ls (goes_start π script store accepts) in
    as_run π script store accepts _ _ _ _ _ h.known (h.rests (omega arith))

pub no_long_frame : NoLongFrame
unfolding NoLongFrame
no_long_frame π script store accepts ls l =
    let h = goes π script store accepts 0 (beginning store) ls (goes_start π script store accepts) in
    step_leaves π script store accepts l _ h.known h.can_stand

pub every_start : EveryStart
unfolding EveryStart
every_start prices scratch file script e store v =
    let f = file_accepted prices scratch file script e in
    record { prices = fine_prices prices f.priced; script_accepted = f.script_accepted; inside = store_in script store v }
