-- What the state of a series holds: every byte that is used has cost a tick, and no entry has more turns than the most in one.
use mathlib.Core.Path.{◌≡◌, refl, sym, ◌∙◌, ap, subst}
use mathlib.Core.Bool.{Bool, true, false, not}
use mathlib.Core.List.{List, [], ◌∷◌, ◌++◌}
use Prim.Native.Nat.{ℕ, suc, ◌+◌, ◌-◌, ◌≤◌, ◌<◌}
use native.Mathlib.Omega.{arith}
use lib.Dec.{T, leb, eqb, leb→le, nleb→lt}
use lib.IntN.{ℤ}
use lib.ListN.{length, length-append}
use Rattle.rules.specs.Values.{Store}
use Rattle.rules.specs.Blocks.{RowKind, view_at}
use Rattle.rules.specs.declared.Prices.{Prices}
use Rattle.rules.specs.Bounds.{FinePrices}
use Rattle.rules.specs.Scripts.{Pairwise, Script, report_ticks, report_lines}
use Rattle.rules.specs.Answers.{sum_at, most_at}
use Rattle.rules.specs.Calls.{loop_rows}
use Rattle.rules.specs.Claim.{Counts-fit}
use Rattle.rules_frames.proofs.FramesAsAlone.{counts_same}
use Rattle.rules.specs.Run.{State}
use Rattle.rules_machine.specs.RowMachine.{TurnCounts, Place, Next, more, over, picked, next, counts_of, chosen}
use Rattle.rules_live.specs.Cues.{cue_of}
use Rattle.rules_live.specs.Live.{Stand, going, waits, full, finished, having, StepLent, Live, beginning, joined, matching_end, matching_head, step_of, steps_from, after_steps, counts_at_stand}
use Rattle.rules_live.specs.LiveRuns.{StartAccepts, CanStand, StateOfSeries, CutRunKeeps, LiveKeeps}
use Rattle.rules_live.proofs.Acts.{Fitted, fitted, state, Paid, moves, leaves, asks, Act, free, ends, priced, act_next}
use Rattle.rules_live.proofs.Comes.{fits, paid_fits, paid_not}
use Rattle.rules_live.proofs.CutRun.{Short}
use Rattle.rules_live.proofs.LiveKeeps.{short_fit, cut_run_keeps, live_keeps}
use Rattle.rules_live.proofs.OneStep.{reach, Walks, step_does}
use Rattle.rules_live.proofs.AnyStep.{can_proper, leaves as step_leaves}

-- from so many bytes and ticks: a byte that is gone has cost a tick, and the turns fit
abbrev Sound : ℕ → ℕ → State → TurnCounts → Type 0
Sound bytes ticks s c = (s.left ≤ ticks) × (bytes + s.left ≤ length s.picks + ticks) × Fitted c

-- the same of a step's outcome
abbrev Holds : ℕ → ℕ → Next → Type 0
Holds bytes ticks (more m) = Sound bytes ticks m.now m.tally
Holds bytes ticks (over e i s c) = Sound bytes ticks s c

-- a byte that is taken, once a tick more is gone than bytes are
picked_holds : (bytes ticks i j : ℕ) (l : List ℕ) (f : Store) (x : ℕ) (c : TurnCounts) → x ≤ ticks → bytes + suc x ≤ length l + ticks → Fitted c → Holds bytes ticks (picked i j l (state f x l) c)
unfolding picked chosen
picked_holds bytes ticks i j [] f x c l h z = (l, omega arith, z)
picked_holds bytes ticks i j (b ∷ r) f x c l h z = by (eqb b 0) _ _ (l, omega arith, z) (l, omega arith, z)
  where
    by : (b : Bool) (m w : Place) → Sound bytes ticks m.now m.tally → Sound bytes ticks w.now w.tally → Holds bytes ticks (chosen b (more m) (more w))
    by true m w h k = h
    by false m w h k = k

module _ (π : Prices) (fine : FinePrices π) (rows : List RowKind) (matching_end_lem matching_head_lem : ℕ → ℕ) where
  next_holds : (bytes ticks : ℕ) (m : Place) → Sound bytes ticks m.now m.tally → Holds bytes ticks (next π rows matching_end_lem matching_head_lem m)
  next_holds bytes ticks m (l, h, z) = by (act_next π fine rows matching_end_lem matching_head_lem m)
    where
      after : (p i : ℕ) (of : List ℕ) (k : State → Next) → 1 ≤ p → p ≤ m.now.left → Paid rows matching_end_lem m.now.store m.tally of i (λ x r. k (state m.now.store x r))
          → Holds bytes ticks (k (state m.now.store (m.now.left - p) m.now.picks))
      after p i of k some le (moves w g e) = subst (Holds bytes ticks) (sym (e _ _)) (omega arith, omega arith, g z)
      after p i of k some le (leaves none e) = subst (Holds bytes ticks) (sym (e _ _)) (omega arith, omega arith, z)
      after p i of k some le (asks v none e) = subst (Holds bytes ticks) (sym (e _ _)) (picked_holds bytes ticks i _ m.now.picks _ _ _ (omega arith) (omega arith) z)

      by : Act π fine rows matching_end_lem matching_head_lem m.now.store m.tally m.row (cue_of (view_at rows m.row)) (λ x r. next π rows matching_end_lem matching_head_lem (having m x r))
          → Holds bytes ticks (next π rows matching_end_lem matching_head_lem m)
      by (free none w g e) = subst (Holds bytes ticks) (sym (e _ _)) (l, h, g z)
      by (ends none e) = subst (Holds bytes ticks) (sym (e _ _)) (l, h, z)
      by (priced p i k some most same cue-price d e) = at (leb p m.now.left) (leb→le p m.now.left) (nleb→lt p m.now.left)
        where
          at : (b : Bool) → (T b → p ≤ m.now.left) → (T (not b) → m.now.left < p) → Holds bytes ticks (next π rows matching_end_lem matching_head_lem m)
          at true f g = subst (Holds bytes ticks) (sym (e _ _ ∙ paid_fits p i _ _ _ _ k (f tt))) (after p i _ k some (f tt) d)
          at false f g = subst (Holds bytes ticks) (sym (e _ _ ∙ paid_not p i _ _ _ _ k (g tt))) (l, h, z)

-- of the run that comes to a with t ticks and the bytes u, whatever it has beyond them
abbrev Kept : ℕ → List ℕ → List ℕ → (ℕ → List ℕ → Next) → Type 0
Kept t u cues a = (x : ℕ) (r : List ℕ) → Holds (length u + length r) (t + x) (a x r)

walks_kept : (π : Prices) → FinePrices π → (rows : List RowKind) (matching_end_lem matching_head_lem : ℕ → ℕ) → Walks π rows matching_end_lem matching_head_lem Kept
walks_kept π fine rows matching_end_lem matching_head_lem = record {
  equal = λ t u cues a b e h x r. subst (Holds (length u + length r) (t + x)) (e x r) (h x r);
  on = λ t u cues m h x r. next_holds π fine rows matching_end_lem matching_head_lem (length u + length r) (t + x) (having m x r) (h x r);
  pays = λ t u cues p i f c k of l d h x r.
      let same : t + (p + x) ≡ t + p + x = omega arith in
      let rest : p + x - p ≡ x = omega arith in
      subst (λ n. Holds (length u + length r) n (k (state f x r))) same
      (subst (Holds (length u + length r) (t + (p + x))) (paid_fits p i f (p + x) r c k (omega arith) ∙ ap (λ n. k (state f n r)) rest) (h (p + x) r));
  takes = λ t u cues i j f c b h x r.
      let same : length u + suc (length r) ≡ length (u ++ (b ∷ [])) + length r = omega (arith, length-append u (b ∷ [])) in
      subst (λ n. Holds n (t + x) (picked i j (b ∷ r) (state f x (b ∷ r)) c)) same (h x (b ∷ r));
}

module _ (π : Prices) (script : Script) (store : List ℤ) (accepts : StartAccepts π script store) where
  -- a live run
  record Lives (l : Live) : Type 0 where
    kept : Kept l.ticks l.used l.cues (reach (matching_end script) l.stand)
    can_stand : CanStand π script.rows l.stand

  lives_step : (l : Live) (s : StepLent) → Lives l → Lives (joined l (step_of π script s l.stand))
  unfolding joined
  lives_step l s h =
      let d = step_does π script.rows (matching_end script) (matching_head script) accepts.prices (fits π script store accepts) Kept
      (walks_kept π accepts.prices script.rows (matching_end script) (matching_head script))
      {t = l.ticks} {u = l.used} {cues = l.cues} s l.stand h.kept
      (can_proper π script.rows (matching_end script) (matching_head script) l.stand h.can_stand) in
      record { kept = d.known; can_stand = (step_leaves π script.rows (matching_end script) (matching_head script) Kept _ _ _ s l.stand h.can_stand d).can_stand }

  lives : (l : Live) (ls : List StepLent) → Lives l → Lives (steps_from π script l ls)
  unfolding steps_from
  lives l [] h = h
  lives l (s ∷ ls) h = lives (joined l (step_of π script s l.stand)) ls (lives_step l s h)

  lives_start : Lives (beginning store)
  unfolding reach
  lives_start = record {
    kept = λ x r. (omega arith, omega arith, fitted λ p. omega arith);
    can_stand = (omega arith, omega (arith, accepts.prices.test.some));
  }

  -- with no tick and no byte beyond
  now_holds : (t : ℕ) (u cues : List ℕ) (a : Stand) → Kept t u cues (reach (matching_end script) a) → (length u ≤ t) × Fitted (counts_at_stand a)
  unfolding reach counts_at_stand picked
  now_holds t u cues (going m) h = let (x, y, z) = h 0 [] in (omega arith, z)
  now_holds t u cues (full m) h = let (x, y, z) = h 0 [] in (omega arith, z)
  now_holds t u cues (waits m) h = let (x, y, z) = h 0 [] in (omega arith, z)
  now_holds t u cues (finished e i s c) h = let (x, y, z) = h 0 [] in (omega arith, z)

  fitted_at : {c : TurnCounts} → Fitted c → (p : ℕ) → c.turns p ≤ c.most p
  fitted_at (fitted f) p = f p

  -- ticks and counts within the report, after no step and after some
  counts_hold : (ls : List StepLent) → let l : Live = after_steps π script store ls in
      (l.ticks ≤ report_ticks π script) × Pairwise Counts-fit (report_lines script) (counts_of (counts_at_stand l.stand) (loop_rows 0 script.rows))
  unfolding steps_from counts_at_stand LiveKeeps CutRunKeeps sum_at most_at
  counts_hold [] = (
    omega arith,
    subst (Pairwise Counts-fit (report_lines script)) (sym (counts_same _ [] (loop_rows 0 script.rows) (λ p. refl) (λ p. refl)))
        (short_fit Short.none (report_lines script) (loop_rows 0 script.rows)
        (cut_run_keeps π accepts.prices.test.some script accepts.script_accepted store accepts.inside [] 0).counted),
  )
  counts_hold (s ∷ ls) = let k = live_keeps π script store accepts (s ∷ ls) (omega arith) in (k.few_ticks, k.counted)

pub state_of_series : StateOfSeries
unfolding StateOfSeries
state_of_series π script store accepts ls =
    let l = after_steps π script store ls in
    let h = lives π script store accepts (beginning store) ls (lives_start π script store accepts) in
    let (used, turns) = now_holds π script store accepts l.ticks l.used l.cues l.stand h.kept in
    let (ticks, counts) = counts_hold π script store accepts ls in
    record { can_stand = h.can_stand; ticks = ticks; used = used; counts = counts; turns = fitted_at π script store accepts turns }
