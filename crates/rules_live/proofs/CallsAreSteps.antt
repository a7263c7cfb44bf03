-- A series of calls is the definition's series of steps: "Nothing is kept between calls but what the caller holds".
use mathlib.Core.Path.{◌≡◌, refl, sym, ◌∙◌, ap, subst}
use mathlib.Core.Bool.{Bool, true, false, cond}
use mathlib.Core.List.{List, [], ◌∷◌, ◌++◌, append_assoc, append-nil}
use Prim.Native.Nat.{ℕ, zero, suc, ◌+◌, ◌≤◌, min}
use native.Mathlib.Omega.{arith}
use lib.Dec.{T, eqb, leb, le→leb}
use lib.IntN.{ℤ}
use lib.Signed.{le_z}
use Rattle.ints.proofs.Diffs.{of, ◌≼◌, and_in}
use Rattle.ints.proofs.Parts.{le_z_yes! }
use lib.ListN.{length, drop, length-append}
use Rattle.rules.specs.declared.Ending.{Ending}
use Rattle.rules.specs.declared.Ending.TheVariants.{Ended, Spent, NoPick}
use Rattle.rules.specs.declared.LoopCount.{LoopCount}
use Rattle.rules.specs.declared.Prices.{Prices}
use Rattle.rules.specs.Verdicts.{passed, refused}
use Rattle.rules.specs.Blocks.{RowKind}
use Rattle.rules.specs.Values.{lowest, highest, in_limits, Store}
use Rattle.rules.specs.Run.{Entry}
use Rattle.rules.specs.Answers.{store_list, sum_at, most_at}
use Rattle.rules.specs.Scripts.{All, none, some, Script, store_of, report_ticks}
use Rattle.rules.specs.Calls.{accepted, prices_of, store_verdict, loop_rows, counts_at}
use Rattle.rules.proofs.Demand3.{in_ranges}
use Rattle.rules.proofs.TreeOf.{tree_of_lem}
use Rattle.rules_machine.specs.RowMachine.{TurnCounts, fresh, testing, Place, Next, more, over, counts_of}
use Rattle.rules_live.specs.Cues.{cue_of}
use Rattle.rules_live.specs.Live.{Stand, going, waits, full, finished, StepLent, Stepped, left_at, unused_at, keeps, stepped_to, lent_to, by_byte, answered, step, Live, beginning, joined, matching_end, matching_head, step_of, steps_from, after_steps, store_at, counts_at_stand, status_number, row_at, step_answer}
use Rattle.rules_live.specs.LiveRuns.{StartAccepts, EveryStart, RunIsTheRun, CanStand, StateHolds, StateOfSeries}
use Rattle.rules_live.specs.LiveState.{state_size, at, state_stand, place_row, phase_at, carried_at, state_numbers}
use Rattle.rules_live.specs.LiveCalls.{and_then, size_verdict, start_state, started_by, start_reply, state_started, stepped, wide_verdict, ticks_verdict, step_verdict, after_step, stepped_by, step_reply, store_stepped, state_stepped, Holding, holding_after, calls_from, holding_started, holding_of, CallsAreSteps}
use Rattle.rules_live.proofs.PlacesFit.{NoCounts, Limited}
use Rattle.rules_live.proofs.StandsFit.{StandFits, step_fits}
use Rattle.rules_live.proofs.StateNumbers.{numbers_pass}
use Rattle.rules_live.proofs.StateStands.{past_end, wide_passes}
use Rattle.rules_live.proofs.StateBack.{kept, Ordered, stand_back}
use Rattle.rules_live.proofs.WrittenPasses.{stand_limited, Asked, asked_passes}
use Rattle.rules_live.proofs.Series.{run_is_the_run, every_start}
use Rattle.rules_live.proofs.StateOfSeries.{state_of_series}

-- ---- a step from what a state keeps
module _ (π : Prices) (script : Script) where
  abbrev rows : List RowKind
  rows = script.rows

  abbrev vars : ℕ
  vars = length script.ranges

  abbrev Fits : Stand → Type 0
  Fits = StandFits vars rows (matching_head script)

  -- it answers the same, and leaves the same but for what a state does not keep
  pub record SameStep (s t : Stepped) : Type 0 where
    pub stand : kept s.stand ≡ kept t.stand
    pub ticks : s.ticks ≡ t.ticks
    pub used : s.used ≡ t.used
    pub answer : (ticks used : ℕ) → step_answer π script ticks used s ≡ step_answer π script ticks used t

  -- full, it stands before a cue, where no test is due
  same_step : (l : StepLent) (a : Stand) → CanStand π rows a → Fits a → SameStep (step_of π script l (kept a)) (step_of π script l a)
  unfolding step kept stepped_to by_byte keeps left_at unused_at cue_of step_answer row_at status_number counts_at_stand
  same_step l (going m) can h = record { stand = refl; ticks = refl; used = refl; answer = λ t u. refl }
  same_step l (waits m) can h = by (answered π rows (matching_end script) (matching_head script) (lent_to l m))
    where
      byte : Next → Place → Stepped
      byte a m = stepped_to l m (by_byte π rows (matching_end script) (matching_head script) l.room (lent_to l m) a)

      by : (a : Next) → SameStep (byte a (record { row = m.row; phase = fresh; now = record { store = m.now.store; left = m.now.left; picks = [] }; tally = m.tally })) (byte a m)
      by (more p) = record { stand = refl; ticks = refl; used = refl; answer = λ t u. refl }
      by (over e i s c) = record { stand = refl; ticks = refl; used = refl; answer = λ t u. refl }
  same_step l (full m) (v, k) h = by m.phase refl
    where
      by : (ph : _) → m.phase ≡ ph → SameStep (step_of π script l (kept (full m))) (step_of π script l (full m))
      by fresh e = subst (λ p. SameStep (step_of π script l (kept (full m))) (step_of π script l (full (record { row = m.row; phase = p; now = m.now; tally = m.tally })))) (sym e)
          (record { stand = refl; ticks = refl; used = refl; answer = λ t u. refl })
      by testing e = absurd (omega (arith, v, ap (λ w. length (cue_of w)) (h.test e).end))
  same_step l (finished Ended i s c) can h = record { stand = refl; ticks = refl; used = refl; answer = λ t u. refl }
  same_step l (finished Ending.Range i s c) can h = record { stand = refl; ticks = refl; used = refl; answer = λ t u. refl }
  same_step l (finished Spent i s c) can h = record { stand = refl; ticks = refl; used = refl; answer = λ t u. refl }
  same_step l (finished NoPick i s c) can h = record { stand = refl; ticks = refl; used = refl; answer = λ t u. refl }

-- ---- what a state keeps is all that is written and answered
numbers_kept : (π : Prices) (script : Script) (ticks used : ℕ) (a : Stand) → state_numbers π script ticks used (kept a) ≡ state_numbers π script ticks used a
unfolding state_numbers kept status_number place_row phase_at carried_at counts_at_stand
numbers_kept π script ticks used (going m) = refl
numbers_kept π script ticks used (waits m) = refl
numbers_kept π script ticks used (full m) = refl
numbers_kept π script ticks used (finished Ended i s c) = refl
numbers_kept π script ticks used (finished Ending.Range i s c) = refl
numbers_kept π script ticks used (finished Spent i s c) = refl
numbers_kept π script ticks used (finished NoPick i s c) = refl

store_kept : (a : Stand) → store_at (kept a) ≡ store_at a
unfolding store_at kept
store_kept (going m) = refl
store_kept (waits m) = refl
store_kept (full m) = refl
store_kept (finished e i s c) = refl

list_length : (n : ℕ) (f : Store) → length (store_list n f) ≡ n
unfolding store_list
list_length zero f = refl
list_length (suc n) f = ap suc (list_length n (λ w. f (suc w)))

list_of : (xs : List ℤ) → store_list (length xs) (store_of xs) ≡ xs
unfolding store_list
list_of [] = refl
list_of (x ∷ xs) = ap (λ l. x ∷ l) (list_of xs)

-- ---- counts in order
most_sum : (p : ℕ) (es : List Entry) → most_at p es ≤ sum_at p es
unfolding most_at sum_at
most_sum p [] = omega arith
most_sum p (e ∷ es) = let l = most_sum p es in omega arith

-- the counts of a run's entries
ordered : (c : TurnCounts) (es : List Entry) (hs : List ℕ) → counts_of c hs ≡ counts_at es hs → ((p : ℕ) → c.turns p ≤ c.most p) → Ordered c hs
unfolding counts_of counts_at
ordered c es [] e f = none
ordered c es (p ∷ hs) e f =
    let all : c.sum p ≡ sum_at p es = ap (λ l. (first l).all) e in
    let most : c.most p ≡ most_at p es = ap (λ l. (first l).most) e in
    some (f p, omega (arith, most_sum p es)) (ordered c es hs (ap (drop 1) e) f)
  where
    first : List LoopCount → LoopCount
    first [] = record { row = p; all = 0; most = 0 }
    first (x ∷ l) = x

-- no counts yet
ordered_none : (hs : List ℕ) → Ordered (record { turns = λ _. 0; sum = λ _. 0; most = λ _. 0 }) hs
ordered_none [] = none
ordered_none (p ∷ hs) = some (omega arith, omega arith) (ordered_none hs)

-- ---- a series
module _ (π : Prices) (script : Script) (store : List ℤ) (accepts : StartAccepts π script store) where
  series_fits : (ls : List StepLent) (l : Live) → ((ks : List StepLent) → CanStand π script.rows (steps_from π script l ks).stand) → Fits π script l.stand → Fits π script (steps_from π script l ls).stand
  unfolding steps_from joined
  series_fits [] l can h = h
  series_fits (s ∷ ls) l can h =
      let ok = accepts.script_accepted in
      let (tree, whole) = tree_of_lem script.rows _ ok.legal.closed.1 in
      series_fits ls _ (λ ks. can (s ∷ ks)) (step_fits π accepts.prices (length script.ranges) script.rows ok.legal.variables tree whole s l.stand (can []) h)

  -- the store at the start
  limited_start : Limited (vars π script) script.rows (matching_head script) (store_of store)
  limited_start =
      let (rl, _) = accepts.script_accepted.legal.numbers in
      let inside = in_ranges script.ranges store rl accepts.inside.whole accepts.inside.each in
      record { within = λ w. in_limits_lem (store_of store w) (inside w).least (inside w).most; beyond = λ w g. past_end store w (omega (arith, accepts.inside.whole)) }
    where
      in_limits_lem : (x : ℤ) → of lowest ≼ of x → of x ≼ of highest → T (in_limits x)
      in_limits_lem x a b = and_in (le_z lowest x) (le_z x highest) (subst T (sym (le_z_yes! lowest x a)) tt) (subst T (sym (le_z_yes! x highest b)) tt)

  start_fits : Fits π script (beginning store).stand
  start_fits = record { test = λ e. absurd (let z : ◌≡◌ {A = ℕ} 0 1 = cc in omega arith); counts = record { turns = λ p e. refl; sum = λ p e. refl; most = λ p e. refl }; store = limited_start }

  -- what is known of a live run
  record Known (l : Live) : Type 0 where
    holds : StateHolds π script l
    fits : Fits π script l.stand
    in_order : Ordered (counts_at_stand l.stand) (loop_rows 0 script.rows)

  known : (ls : List StepLent) → Known (after_steps π script store ls)
  unfolding StateOfSeries RunIsTheRun steps_from counts_at_stand
  known ls =
      let h = state_of_series π script store accepts in
      record { holds = h ls; fits = series_fits ls (beginning store) (λ ks. (h ks).can_stand) start_fits; in_order = by ls (h ls) }
    where
      by : (ls : List StepLent) → StateHolds π script (after_steps π script store ls) → Ordered (counts_at_stand (after_steps π script store ls).stand) (loop_rows 0 script.rows)
      by [] h = ordered_none (loop_rows 0 script.rows)
      by (s ∷ ls) h = ordered _ _ _ (run_is_the_run π script store accepts (s ∷ ls) (omega arith)).counts h.turns

  -- a call of `step` with what a live run holds
  module _ (l : Live) (k : Known l) where
    abbrev ns : List ℕ
    ns = state_numbers π script l.ticks (length l.used) l.stand

    abbrev held : List ℤ
    held = store_list (length store) (store_at l.stand)

    ticks_held : at ns 4 ≡ l.ticks
    unfolding state_numbers
    ticks_held = let h = k.holds.ticks in let e : min l.ticks (report_ticks π script) ≡ l.ticks = omega arith in e

    used_held : at ns 5 ≡ length l.used
    unfolding state_numbers
    used_held = let h = k.holds.ticks in let u = k.holds.used in let e : min (length l.used) (min l.ticks (report_ticks π script)) ≡ length l.used = omega arith in e

    asks : (q : ℕ) → q ≤ 1_000_000 → Asked π script held ns q
    unfolding wide_verdict ticks_verdict
    asks q few = record {
      wide = subst (λ n. wide_verdict script (store_list n (store_at l.stand)) ≡ passed) (sym accepts.inside.whole)
          (wide_passes 0 script.ranges _ (stand_limited _ _ _ l.stand k.fits).within);
      state = numbers_pass π script accepts.script_accepted.legal _ _ l.stand k.holds.can_stand k.fits;
      ticks = by (leb q 1_000_000) (le→leb _ _ few);
    }
      where
        by : (b : Bool) → T b → cond b passed (refused 22 0) ≡ passed
        by true t = refl
        by false t = absurd t

    stands_there : state_stand script held ns ≡ kept l.stand
    unfolding counts_at_stand
    stands_there =
        ap (λ n. state_stand script (store_list n (store_at l.stand)) ns) accepts.inside.whole
        ∙ stand_back π script l.ticks (length l.used) l.stand k.holds.can_stand k.holds.counts k.in_order (counted l.stand k.fits)
        (stand_limited _ _ _ l.stand k.fits)
      where
        counted : (a : Stand) → Fits π script a → NoCounts (vars π script) script.rows (matching_head script) (counts_at_stand a)
        counted (going m) h = h.counts
        counted (waits m) (z, s) = z
        counted (full m) h = h.counts
        counted (finished e i s c) (r, z, f) = z

    call_is_step : (t : StepLent) → t.q ≤ 1_000_000
        → stepped_by π script held ns t (step_verdict π script held ns t.q)
        ≡ stepped (step_answer π script l.ticks (length l.used) (step_of π script t l.stand))
        (holding_of π script (length store) (joined l (step_of π script t l.stand))).store (holding_of π script (length store) (joined l (step_of π script t l.stand))).state
    unfolding stepped_by after_step holding_of joined
    call_is_step t few =
        let s = step_of π script t (kept l.stand) in
        let r = step_of π script t l.stand in
        let same = same_step π script t l.stand k.holds.can_stand k.fits in
        ap (stepped_by π script held ns t) (asked_passes π script held ns t.q (asks t.q few))
        ∙ ap (λ a. after_step π script held ns (step_of π script t a)) stands_there
        ∙ (λ i. stepped (step_answer π script (ticks_held i) (used_held i) s) (store_list (length held) (store_at s.stand)) (state_numbers π script (ticks_held i + s.ticks) (used_held i + length s.used) s.stand))
        ∙ (λ i. stepped (same.answer l.ticks (length l.used) i) (store_list (long_held i) (stores same i)) (numbers same i))
      where
        long_held : length held ≡ length store
        long_held = list_length (length store) (store_at l.stand)

        stores : {s r : Stepped} → SameStep π script s r → store_at s.stand ≡ store_at r.stand
        stores {s} {r} same = sym (store_kept s.stand) ∙ ap store_at same.stand ∙ store_kept r.stand

        numbers : {s r : Stepped} → SameStep π script s r
            → state_numbers π script (l.ticks + s.ticks) (length l.used + length s.used) s.stand ≡ state_numbers π script (l.ticks + r.ticks) (length (l.used ++ r.used)) r.stand
        numbers {s} {r} same =
            (λ i. state_numbers π script (l.ticks + same.ticks i) (length l.used + length (same.used i)) s.stand)
            ∙ ap (λ n. state_numbers π script (l.ticks + r.ticks) n s.stand) (sym (length-append l.used r.used))
            ∙ sym (numbers_kept π script _ _ s.stand) ∙ ap (state_numbers π script (l.ticks + r.ticks) (length (l.used ++ r.used))) same.stand ∙ numbers_kept π script _ _ r.stand

  -- a series after a series
  steps_on : (l : Live) (ks ls : List StepLent) → steps_from π script (steps_from π script l ks) ls ≡ steps_from π script l (ks ++ ls)
  unfolding steps_from
  steps_on l [] ls = refl
  steps_on l (k ∷ ks) ls = steps_on (joined l (step_of π script k l.stand)) ks ls

-- ---- a series of calls
module _ (prices : List ℕ) (script : Script) (store : List ℤ) (accepts : StartAccepts (prices_of prices) script store) where
  abbrev π : Prices
  π = prices_of prices

  abbrev after : List StepLent → Live
  after ls = after_steps π script store ls

  abbrev held_after : Live → Holding
  held_after l = holding_of π script (length store) l

  -- a step more
  after_step_lem : (ks : List StepLent) (l : StepLent) → joined (after ks) (step_of π script l (after ks).stand) ≡ after (ks ++ (l ∷ []))
  unfolding steps_from
  after_step_lem ks l = steps_on π script store accepts (beginning store) ks (l ∷ [])

  reply_is : (ks : List StepLent) (l : StepLent) → l.q ≤ 1_000_000 → step_reply prices (accepted script) (held_after (after ks)).store (held_after (after ks)).state l
      ≡ stepped (step_answer π script (after ks).ticks (length (after ks).used) (step_of π script l (after ks).stand))
      (held_after (joined (after ks) (step_of π script l (after ks).stand))).store (held_after (joined (after ks) (step_of π script l (after ks).stand))).state
  unfolding step_reply holding_of
  reply_is ks l few = call_is_step π script store accepts (after ks) (known π script store accepts ks) l few

  calls_on : (ks ls : List StepLent) → All (λ l. l.q ≤ 1_000_000) ls → calls_from prices (accepted script) (held_after (after ks)) ls ≡ held_after (after (ks ++ ls))
  unfolding calls_from holding_after store_stepped state_stepped
  calls_on ks [] h = ap (λ l. held_after (after l)) (sym (append-nil ks))
  calls_on ks (l ∷ ls) (some few h) =
      ap (λ r. calls_from prices (accepted script) (holding_after (held_after (after ks)) r) ls) (reply_is ks l few)
      ∙ ap (λ a. calls_from prices (accepted script) (held_after a) ls) (after_step_lem ks l) ∙ calls_on (ks ++ (l ∷ [])) ls h
      ∙ ap (λ l. held_after (after l)) (append_assoc ks (l ∷ []) ls)

  start_is : (ns : List ℕ) → store_verdict 0 script.ranges store ≡ passed → length ns ≡ state_size → holding_started prices (accepted script) store ns ≡ held_after (after [])
  unfolding holding_started start_reply started_by and_then size_verdict state_started start_state holding_of steps_from store_at
  start_is ns v n =
      ap (λ w. record { store = store; state = state_started (started_by π script store (and_then w (size_verdict ns))) ns }) v
      ∙ ap (λ w. record { store = store; state = state_started (started_by π script store w) ns }) (by (eqb (length ns) state_size) (subst (λ k. T (eqb k state_size)) (sym n) tt))
      ∙ ap (λ l. record { store = l; state = start_state π script store }) (sym (list_of store))
    where
      by : (b : Bool) → T b → cond b passed (refused 21 state_size) ≡ passed
      by true t = refl
      by false t = absurd t

pub calls_are_steps : CallsAreSteps
unfolding CallsAreSteps EveryStart
calls_are_steps prices scratch file script e store v ns n ls few =
    let accepts = every_start prices scratch file script e store v in
    let same = ap (λ h. calls_from prices (accepted script) h ls) (start_is prices script store accepts ns v n) ∙ calls_on prices script store accepts [] ls few in
    (same, λ l q. ap (λ h. step_reply prices (accepted script) h.store h.state l) same ∙ reply_is prices script store accepts ls l q)
