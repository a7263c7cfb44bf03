-- What a step leaves, from any standing that it may find.
use mathlib.Core.Path.{◌≡◌, refl, sym}
use mathlib.Core.Bool.{Bool, true, false, not}
use mathlib.Core.List.{List, []}
use Prim.Native.Nat.{ℕ, ◌-◌, ◌≤◌, ◌<◌}
use native.Mathlib.Omega.{arith}
use lib.Dec.{T, leb, leb→le, nleb→lt}
use lib.ListN.{length, drop, take-append-drop}
use Rattle.rules.specs.declared.Ending.TheVariants.{Spent}
use Rattle.rules.specs.Blocks.{RowKind}
use Rattle.rules.specs.declared.Prices.{Prices}
use Rattle.rules.proofs.TreeOf.{tree_of_lem}
use Rattle.rules_machine.specs.RowMachine.{Place, Next, over, next}
use Rattle.rules_machine.proofs.PairsIn.{partners}
use Rattle.rules_machine.proofs.RowMachineRuns.{next_past}
use Rattle.rules_frames.specs.InTime.{dearest}
use Rattle.rules_live.specs.Live.{Stand, going, waits, full, finished, Stop, StepLent, left_at, unused_at, stepped_to, step, matching_end, matching_head}
use Rattle.rules_live.specs.LiveRuns.{Begins, CanStand, StepLeaves, StepFromAny}
use Rattle.rules_live.proofs.OneStep.{Carries, Proper, Rests, going_rests, full_rests, waits_rests, finished_rests, Does, step_does, Anything, walks_any}

module _ (π : Prices) (rows : List RowKind) (matching_end_lem matching_head_lem : ℕ → ℕ) where
  -- what is spent is at a row
  spent_row : (m : Place) (i : ℕ) → next π rows matching_end_lem matching_head_lem m ≡ over Spent i m.now m.tally → m.row ≤ length rows
  spent_row m i e = by (leb m.row (length rows)) (leb→le m.row (length rows)) (nleb→lt m.row (length rows))
    where
      by : (b : Bool) → (T b → m.row ≤ length rows) → (T (not b) → length rows < m.row) → m.row ≤ length rows
      by true f g = f tt
      by false f g =
          let past = next_past π rows matching_end_lem matching_head_lem m.row m.phase m.now m.tally (omega (arith, g tt)) in
          absurd (let z : ◌≡◌ {A = ℕ} 0 1 = cc in omega arith)

  pub can_proper : (a : Stand) → CanStand π rows a → Proper rows a
  can_proper (going m) h = tt
  can_proper (waits m) (v, l) = v
  can_proper (full m) h = tt
  can_proper (finished e i s c) h = h

  -- where a step stops, n carried into it
  rests_can : (q n ticks : ℕ) {b : Stand} → n < dearest π → Rests π rows matching_end_lem matching_head_lem b → Carries q n ticks b → CanStand π rows b
  rests_can q n ticks l (going_rests {m = m} i f k) c = (spent_row m i (f m.now.left m.now.picks (omega arith)), k)
  rests_can q n ticks l (full_rests z f) (c, d) = (z, omega arith)
  rests_can q n ticks l (waits_rests v e) (c, d) = (v, omega arith)
  rests_can q n ticks l (finished_rests h) c = h

  -- the used bytes come first
  stepped_uses : (l : StepLent) (m : Place) (b : Stop) → Begins (stepped_to l m b).used l.picks
  unfolding stepped_to
  stepped_uses l m b = (drop (length l.picks - length (unused_at b.stand)) l.picks, sym (take-append-drop (length l.picks - length (unused_at b.stand)) l.picks))

  pub leaves : (Known : ℕ → List ℕ → List ℕ → (ℕ → List ℕ → Next) → Type 0) (t : ℕ) (u cues : List ℕ) (l : StepLent) (a : Stand) → CanStand π rows a
      → Does π rows matching_end_lem matching_head_lem Known t u cues l a (step π rows matching_end_lem matching_head_lem l a) → StepLeaves π rows l a (step π rows matching_end_lem matching_head_lem l a)
  unfolding step left_at
  leaves Known t u cues l (going m) (r, k) d = record { can_stand = rests_can _ _ _ k d.rests d.carries; ticks = omega (arith, d.most); used = stepped_uses l m _; cues = d.fitting; held_up = d.held_up }
  leaves Known t u cues l (waits m) (r, k) d = record { can_stand = rests_can _ _ _ k d.rests d.carries; ticks = omega (arith, d.most); used = stepped_uses l m _; cues = d.fitting; held_up = d.held_up }
  leaves Known t u cues l (full m) (r, k) d = record { can_stand = rests_can _ _ _ k d.rests d.carries; ticks = omega (arith, d.most); used = stepped_uses l m _; cues = d.fitting; held_up = d.held_up }
  leaves Known t u cues l (finished e i s c) h d = record { can_stand = h; ticks = omega arith; used = (l.picks, refl); cues = omega arith; held_up = tt }

pub step_from_any : StepFromAny
unfolding StepFromAny
step_from_any π fine script ok l a h =
    let (tree, whole) = tree_of_lem script.rows _ ok.legal.closed.1 in
    leaves π script.rows (matching_end script) (matching_head script) Anything 0 [] [] l a h
    (step_does π script.rows (matching_end script) (matching_head script) fine (partners script.rows tree whole) Anything
    (walks_any π script.rows (matching_end script) (matching_head script)) l a tt (can_proper π script.rows (matching_end script) (matching_head script) a h))
