-- In time: a live run with the same q in all steps is finished once as many steps as are due did not end in "waits" or "full".
use mathlib.Core.Path.{◌≡◌, sym, subst}
use mathlib.Core.Bool.{Bool, true, false, not}
use mathlib.Core.List.{List, [], ◌∷◌}
use Prim.Native.Nat.{ℕ, suc, ◌+◌, ◌-◌, ◌*◌, ◌≤◌, ◌<◌}
use native.Mathlib.Omega.{arith}
use native.Mathlib.Nat.{mul-le-mul_right}
use lib.Dec.{T, leb, leb→le, nleb→lt}
use lib.IntN.{ℤ}
use lib.ListN.{length}
use Rattle.rules.specs.declared.Ending.TheVariants.{Spent}
use Rattle.rules.specs.Blocks.{RowKind}
use Rattle.rules.specs.declared.Prices.{Prices}
use Rattle.rules.specs.Scripts.{All, none, some, Script, report_ticks}
use Rattle.rules.specs.Claim.{Unspent}
use Rattle.rules_machine.specs.RowMachine.{Place, more, over, next}
use Rattle.rules_frames.specs.Frames.{due}
use Rattle.rules_frames.proofs.FramesAsAlone.{due_enough, enough}
use Rattle.rules_live.specs.Live.{matching_end, matching_head, Stand, going, waits, full, finished, having, StepLent, left_at, step, Live, is_held, beginning, joined, step_of, steps_from, after_steps}
use Rattle.rules_live.specs.LiveRuns.{CanStand, StartAccepts, IsFinished, LiveInTime}
use Rattle.rules_live.proofs.Acts.{state}
use Rattle.rules_live.proofs.Comes.{Stands, comes_answer, comes_next}
use Rattle.rules_live.proofs.OneStep.{reach, Rests, going_rests, full_rests, waits_rests, finished_rests, Carries, Does}
use Rattle.rules_live.proofs.Series.{does_step, Goes, goes_start, goes_step, goes}

module _ (π : Prices) (script : Script) (store : List ℤ) (accepts : StartAccepts π script store) (q : ℕ) where
  abbrev rows : List RowKind
  rows = script.rows

  abbrev total : ℕ
  total = report_ticks π script

  -- where it is spent it has not had the report's ticks
  spent_before : {t : ℕ} {u cues : List ℕ} (m : Place) (i : ℕ) → Stands π script store accepts t u cues (λ x r. more (having m x r))
      → next π script.rows (matching_end script) (matching_head script) (having m m.now.left [])
      ≡ over Spent i (state m.now.store m.now.left []) m.tally
      → t + m.now.left < total
  spent_before {t} {u} m i h e = by (leb total (t + m.now.left)) (leb→le total (t + m.now.left)) (nleb→lt total (t + m.now.left))
    where
      by : (b : Bool) → (T b → total ≤ t + m.now.left) → (T (not b) → t + m.now.left < total) → t + m.now.left < total
      by true f g =
          absurd (subst Unspent (sym (comes_answer π script store accepts (comes_next π script store accepts m h.comes) m.now.left [] Spent i _ _ e).ending)
          (enough π accepts.prices.test.some script accepts.script_accepted store accepts.inside _ (t + m.now.left) (f tt)))
      by false f g = g tt

  -- g steps did not end in "waits" or "full": it has had their ticks, and they were not enough
  abbrev Behind : ℕ → ℕ → Stand → Type 0
  Behind g t (going m) = (g * q ≤ t + m.now.left) × (1 ≤ g → g * q < total)
  Behind g t (waits m) = (g * q ≤ t + m.now.left) × (1 ≤ g → g * q < total)
  Behind g t (full m) = (g * q ≤ t + m.now.left) × (1 ≤ g → g * q < total)
  Behind g t (finished e i s c) = Unit {0}

  -- one step, before which it had carried so much
  behind_to : (g t carried ticks n : ℕ) {u cues : List ℕ} {b : Stand} → Stands π script store accepts (t + ticks) u cues (reach (matching_end script) b)
      → Rests π rows (matching_end script) (matching_head script) b → Carries n carried ticks b → n ≡ q → (g * q ≤ t + carried) × (1 ≤ g → g * q < total)
      → Behind (g + (1 - is_held b)) (t + ticks) b
  unfolding is_held reach
  behind_to g t carried ticks n h (going_rests {m = m} i f l) c e (a, b) =
      let before : t + ticks + m.now.left < total = spent_before m i h (f m.now.left [] (omega arith)) in
      (omega arith, λ _. omega arith)
  behind_to g t carried ticks n h (full_rests z f) (c, d) e (a, b) = let same : g + 0 ≡ g = omega arith in rw same (omega arith, b)
  behind_to g t carried ticks n h (waits_rests v z) (c, d) e (a, b) = let same : g + 0 ≡ g = omega arith in rw same (omega arith, b)
  behind_to g t carried ticks n h (finished_rests z) c e (a, b) = tt

  behind_step : (g : ℕ) (s : StepLent) (a : Stand) (t : ℕ) {u cues : List ℕ} → s.q ≡ q → Does π rows (matching_end script) (matching_head script) (Stands π script store accepts) t u cues s a (step_of π script s a) → Behind g t a
      → Behind (g + (1 - is_held (step_of π script s a).stand)) (t + (step_of π script s a).ticks) (step_of π script s a).stand
  unfolding step left_at
  behind_step g s (going m) t e d b = behind_to g t _ _ _ d.known d.rests d.carries e b
  behind_step g s (waits m) t e d b = behind_to g t _ _ _ d.known d.rests d.carries e b
  behind_step g s (full m) t e d b = behind_to g t _ _ _ d.known d.rests d.carries e b
  behind_step g s (finished f i z c) t e d b = tt

  held_one : (a : Stand) → is_held a ≤ 1
  unfolding is_held
  held_one (going m) = omega arith
  held_one (waits m) = omega arith
  held_one (full m) = omega arith
  held_one (finished e i s c) = omega arith

  behind : (n : ℕ) (l : Live) (ls : List StepLent) → All (λ s. s.q ≡ q) ls → Goes π script store accepts n l → l.held ≤ n → Behind (n - l.held) l.ticks l.stand
      → Behind (n + length ls - (steps_from π script l ls).held) (steps_from π script l ls).ticks (steps_from π script l ls).stand
  unfolding steps_from joined
  behind n l [] none h k b = let e : n + 0 - l.held ≡ n - l.held = omega arith in rw e b
  behind n l (s ∷ ls) (some same rest) h k b =
      let a : Stand = (step_of π script s l.stand).stand in
      let one = held_one a in
      let e : n - l.held + (1 - is_held a) ≡ suc n - (l.held + is_held a) = omega arith in
      let d = does_step π script store accepts s l.stand h.known h.can_stand in
      let last = joined l (step_of π script s l.stand) in
      let f : suc n + length ls ≡ n + suc (length ls) = omega arith in
      subst (λ k. Behind (k - (steps_from π script last ls).held) (steps_from π script last ls).ticks (steps_from π script last ls).stand) f
      (behind (suc n) last ls rest (goes_step π script store accepts n l s h) (omega arith)
      (subst (λ g. Behind g (l.ticks + (step_of π script s l.stand).ticks) a) e (behind_step (n - l.held) s l.stand l.ticks same d b)))

  -- as many steps as are due have had the report's ticks
  enough_steps : 1 ≤ q → (g t : ℕ) (a : Stand) → due q total ≤ g → CanStand π rows a → Behind g t a → IsFinished a
  enough_steps tick g t a l p b =
      let (frames, ticks) = due_enough q total tick in
      let had : due q total * q ≤ g * q = mul-le-mul_right q l in
      by a p b (omega arith) (omega arith)
    where
      by : (a : Stand) → CanStand π rows a → Behind g t a → 1 ≤ g → total ≤ g * q → IsFinished a
      by (going m) p (b, c) l h = absurd (omega (arith, c l))
      by (waits m) p (b, c) l h = absurd (omega (arith, c l))
      by (full m) p (b, c) l h = absurd (omega (arith, c l))
      by (finished e i s c) p b l h = p

pub live_in_time : LiveInTime
unfolding LiveInTime
live_in_time π script store accepts q tick ls same l =
    let start = goes_start π script store accepts in
    let h = goes π script store accepts 0 (beginning store) ls start in
    let a = after_steps π script store ls in
    enough_steps π script store accepts q tick (0 + length ls - a.held) a.ticks a.stand (omega arith) h.can_stand
    (behind π script store accepts q 0 (beginning store) ls same start (omega arith) (omega arith, λ k. absurd (omega arith)))
