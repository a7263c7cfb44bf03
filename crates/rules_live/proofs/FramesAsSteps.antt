-- A script in the frames of request 14 stands where a live run stands that is lent all its bytes and room for all its cues.
use mathlib.Core.Path.{◌≡◌, refl, sym, ◌∙◌, ap, subst}
use mathlib.Core.Bool.{Bool, true, false, not, ◌&&◌}
use mathlib.Core.List.{List, [], ◌∷◌, ◌++◌, append-nil}
use Prim.Native.Nat.{ℕ, zero, suc, ◌+◌, ◌-◌, ◌*◌, ◌≤◌, ◌<◌}
use native.Mathlib.Omega.{arith}
use lib.Dec.{T, leb, leb→le, nleb→lt}
use lib.IntN.{ℤ}
use lib.ListN.{length, take, drop, length-append}
use lib.Seq.{drop-drop, drop_at, take_at}
use Rattle.rules.specs.declared.Ending.{Ending}
use Rattle.rules.specs.declared.Ending.TheVariants.{NoPick}
use Rattle.rules.specs.Blocks.{RowKind, view_at}
use Rattle.rules.specs.declared.Prices.{Prices}
use Rattle.rules.specs.Scripts.{Script, report_ticks}
use Rattle.rules.specs.Run.{State}
use Rattle.rules.specs.Calls.{run_script}
use Rattle.rules_machine.specs.RowMachine.{TurnCounts, Place, Next, more, over, picked, next}
use Rattle.rules_frames.specs.Frames.{stopped, Progress, frame_from, frame_of, after_frames}
use Rattle.rules_frames.specs.Frames
use Rattle.rules_frames.specs.InTime.{dearest, StandsAs, FramesAsAlone}
use Rattle.rules_frames.proofs.FramesAsAlone.{enough, agree, frames_as_alone}
use Rattle.rules.specs.Claim.{Unspent}
use Rattle.rules.specs.Answers.{Answer}
use Rattle.rules_live.specs.Cues.{cue_of}
use Rattle.rules_live.specs.Live.{matching_end, matching_head, Stand, going, waits, finished, stops_here, having, StepLent, Stepped, unused_at, keeps, stepped_to, blocked, onward, runs_on, step, Live, beginning, joined, step_of}
use Rattle.rules_live.specs.LiveRuns.{CanStand, StartAccepts, frames_as_steps, StandAlike, at_place, at_the_end, FramesAsSteps}
use Rattle.rules_live.proofs.Acts.{state, Paid, moves, leaves, asks, Act, free, ends, priced, act_next}
use Rattle.rules_live.proofs.Comes.{fits, paid_fits, paid_not}
use Rattle.rules_live.proofs.Series.{Goes, goes_start, goes_step}
use Rattle.rules_live.proofs.OneStep.{cue_one, byte_goes, uses_first}

-- a script that is finished for want of a byte
abbrev Lacking : Next → Type 0
Lacking (more m) = ⊥
Lacking (over e i s c) = e ≡ NoPick

module _ (π : Prices) (script : Script) (store : List ℤ) (accepts : StartAccepts π script store) where
  abbrev rows : List RowKind
  rows = script.rows

  abbrev next_of : Place → Next
  next_of m = next π rows (matching_end script) (matching_head script) m

  -- a frame and a step stop alike; without a byte the script is finished in frames, and waits in steps
  data Stops : Next → Stand → Type 0 where
    on : {m : Place} → Stops (more m) (going m)
    off : {e : Ending} {i : ℕ} {s : State} {c : TurnCounts} → Stops (over e i s c) (finished e i s c)
    lacks : {i : ℕ} {s : State} {c : TurnCounts} {m : Place} → Stops (over NoPick i s c) (waits m)

  -- every cue takes a tick, so that a list with room for all ticks that are left is not full
  not_full : (room : ℕ) (cues : List ℕ) (m : Place) → length cues + m.now.left ≤ room → blocked π rows (matching_end script) (matching_head script) room cues m ≡ false
  unfolding blocked
  not_full room cues m l = by (leb 1 (length (cue_of (view_at rows m.row)))) (leb room (length cues)) (leb π.cue m.now.left) (leb→le _ _) (leb→le _ _)
    where
      by : (a b c : Bool) → (T b → room ≤ length cues) → (T c → π.cue ≤ m.now.left) → (a && (b && c)) ≡ false
      by true true true f g = absurd (omega (arith, f tt, g tt, accepts.prices.cue.some))
      by true true false f g = refl
      by true false c f g = refl
      by false b c f g = refl

  module _ (room n : ℕ) (cues : List ℕ) (m : Place) (l : length cues + m.now.left ≤ room)
      (ih : (w : Place) (more : List ℕ) → length more + w.now.left ≤ room
      → Stops (Frames.onward π rows (matching_end script) (matching_head script) n w (next_of w))
      (onward π rows (matching_end script) (matching_head script) n room more w (blocked π rows (matching_end script) (matching_head script) room more w) (next_of w)).stand) where
    -- after the step that gives a
    abbrev Both : Next → Type 0
    Both a = Stops (Frames.onward π rows (matching_end script) (matching_head script) (suc n) m a) (onward π rows (matching_end script) (matching_head script) (suc n) room cues m false a).stand

    goes_on : (w : Place) → next_of m ≡ more w → length (cue_of (view_at rows m.row)) + w.now.left ≤ m.now.left → Both (next_of m)
    unfolding Frames.onward onward
    goes_on w e f = subst Both (sym e) (ih w (cues ++ cue_of (view_at rows m.row)) (omega (arith, length-append cues (cue_of (view_at rows m.row)))))

    both_paid : (p i : ℕ) (k : State → Next) → 1 ≤ p → p ≤ m.now.left → next_of m ≡ k (state m.now.store (m.now.left - p) m.now.picks)
        → Paid rows (matching_end script) m.now.store m.tally (cue_of (view_at rows m.row)) i (λ x r. k (state m.now.store x r)) → Both (next_of m)
    unfolding Frames.onward onward stopped stops_here picked
    both_paid p i k some fits e (moves w z g) = goes_on _ (e ∙ g _ _) (omega (arith, cue_one (view_at rows m.row)))
    both_paid p i k some fits e (leaves none g) = subst Both (sym (e ∙ g _ _)) off
    both_paid p i k some fits e (asks v none g) = by m.now.picks (e ∙ g _ _)
      where
        by : (bytes : List ℕ) → next_of m ≡ picked i (suc ((matching_end script) i)) bytes (state m.now.store (m.now.left - p) m.now.picks) m.tally → Both (next_of m)
        by [] q = subst Both (sym q) lacks
        by (b ∷ r) q =
            let (w, h) = byte_goes i (suc ((matching_end script) i)) b m.now.store m.tally in
            goes_on (having w (m.now.left - p) r) (q ∙ h (m.now.left - p) r m.now.picks) (omega (arith, ap length none))

    both_act : Act π accepts.prices rows (matching_end script) (matching_head script) m.now.store m.tally m.row (cue_of (view_at rows m.row)) (λ x r. next_of (having m x r)) → Both (next_of m)
    unfolding Frames.onward onward stopped stops_here
    both_act (free none w z e) = goes_on _ (e _ _) (omega (arith, ap length none))
    both_act (ends none e) = subst Both (sym (e _ _)) off
    both_act (priced p i k some most same cue-price d e) = by (leb p m.now.left) (leb→le p m.now.left) (nleb→lt p m.now.left)
      where
        by : (b : Bool) → (T b → p ≤ m.now.left) → (T (not b) → m.now.left < p) → Both (next_of m)
        by true f g = both_paid p i k some (f tt) (e _ _ ∙ paid_fits p i _ _ _ _ k (f tt)) d
        by false f g = subst Both (sym (e _ _ ∙ paid_not p i _ _ _ _ k (g tt))) on

  in_step : (room n : ℕ) (cues : List ℕ) (m : Place) → length cues + m.now.left ≤ room
      → Stops (Frames.onward π rows (matching_end script) (matching_head script) n m (next_of m)) (onward π rows (matching_end script) (matching_head script) n room cues m (blocked π rows (matching_end script) (matching_head script) room cues m) (next_of m)).stand
  unfolding Frames.onward onward
  in_step room zero cues m l = on
  in_step room (suc n) cues m l =
      subst (λ b. Stops (Frames.onward π rows (matching_end script) (matching_head script) (suc n) m (next_of m)) (onward π rows (matching_end script) (matching_head script) (suc n) room cues m b (next_of m)).stand)
      (sym (not_full room cues m l)) (both_act room n cues m l (λ w more. in_step room n more w) (act_next π accepts.prices rows (matching_end script) (matching_head script) m))

  module _ (picks : List ℕ) (q room : ℕ) (roomy : q + dearest π ≤ room) where
    -- a script in frames and a live run that has used these bytes: at one place with the same bytes to come, or finished alike
    data Pair : Next → Stand → List ℕ → Type 0 where
      placed : {m : Place} {u : List ℕ} → drop (length u) picks ≡ m.now.picks → Pair (more m) (going m) u
      closed : {e : Ending} {i : ℕ} {s : State} {c : TurnCounts} {u : List ℕ} → Pair (over e i s c) (finished e i s c) u

    -- what a step leaves of the bytes
    bytes_left : (u lent v rest : List ℕ) → drop (length u) picks ≡ lent → lent ≡ v ++ rest → drop (length (u ++ take (length lent - length rest) lent)) picks ≡ rest
    bytes_left u lent v rest e d =
        let n : length v ≡ length lent - length rest = omega (arith, ap length d, length-append v rest) in
        let front : take (length lent - length rest) lent ≡ v = ap (take (length lent - length rest)) d ∙ take_at v rest _ n in
        let far : length (u ++ take (length lent - length rest) lent) ≡ length u + length v = length-append u _ ∙ ap (λ l. length u + length l) front in
        ap (λ n. drop n picks) far ∙ sym (drop-drop (length v) (length u) picks) ∙ ap (drop (length v)) (e ∙ d) ∙ drop_at v rest _ refl

    -- a frame from place m, with the bytes that are left
    frame_step : (u : List ℕ) (m : Place) → m.now.left < dearest π → (lent : List ℕ) → drop (length u) picks ≡ lent → let w : Place = having m (m.now.left + q) lent in
        (Lacking (Frames.runs_on π rows (matching_end script) (matching_head script) w) → ⊥)
        → let s : Stepped = stepped_to (record { q = q; picks = lent; room = room }) m (runs_on π rows (matching_end script) (matching_head script) room [] w) in
        Pair (Frames.runs_on π rows (matching_end script) (matching_head script) w) s.stand (u ++ s.used)
    unfolding Frames.runs_on runs_on stepped_to keeps unused_at
    frame_step u m l lent e no-lack =
        let had : ℕ = m.now.left + q in
        let (v, d) = uses_first π rows (matching_end script) (matching_head script) accepts.prices (fits π script store accepts) room (having m had lent) in
        by _ _ (in_step room _ [] (having m had lent) (omega arith)) no-lack v d
      where
        by : (x : Next) (a : Stand) → Stops x a → (Lacking x → ⊥) → (v : List ℕ) → lent ≡ v ++ unused_at a → Pair x (keeps m.now.left a) (u ++ take (length lent - length (unused_at a)) lent)
        by _ _ on no-lack v d = placed (bytes_left u lent v _ e d)
        by _ _ off no-lack v d = closed
        by _ _ lacks no-lack v d = absurd (no-lack refl)

    -- the same of a script in progress
    data Paired : Progress → Stand → List ℕ → Type 0 where
      paired : {x : Next} {a : Stand} {u : List ℕ} {f : ℕ} → Pair x a u → Paired (record { script = script; picks = picks; stand = x; frame = f }) a u

    -- what the next step is lent
    abbrev lends : List ℕ → StepLent
    lends u = record { q = q; picks = drop (length u) picks; room = room }

    pair_first : (Lacking (frame_of π q 1 (Frames.beginning script store picks)).stand → ⊥)
        → Paired (frame_of π q 1 (Frames.beginning script store picks)) (step_of π script (lends []) (beginning store).stand).stand ([] ++ (step_of π script (lends []) (beginning store).stand).used)
    unfolding frame_from step
    pair_first no-lack = paired (frame_step [] _ (omega (arith, accepts.prices.test.some)) picks refl no-lack)

    pair_step : (n : ℕ) (p : Progress) {u : List ℕ} {a : Stand} → Paired p a u → CanStand π rows a
        → (Lacking (frame_of π q n p).stand → ⊥) → Paired (frame_of π q n p) (step_of π script (lends u) a).stand (u ++ (step_of π script (lends u) a).used)
    unfolding frame_from step
    pair_step n _ {u = u} (paired (placed {m = m} e)) l no-lack =
        paired (subst (λ bytes. Pair (Frames.runs_on π rows (matching_end script) (matching_head script) (having m (m.now.left + q) bytes)) (step_of π script (lends u) (going m)).stand
        (u ++ (step_of π script (lends u) (going m)).used)) e
        (frame_step u m l.1 (drop (length u) picks) refl (subst (λ bytes. Lacking (Frames.runs_on π rows (matching_end script) (matching_head script) (having m (m.now.left + q) bytes)) → ⊥) (sym e) no-lack)))
    pair_step n _ {u = u} (paired closed) l no-lack = subst (Paired _ _) (sym (append-nil u)) (paired closed)

    -- no frame leaves a script that lacks a byte
    module _ (no-lack : (n : ℕ) → Lacking (after_frames π q (Frames.beginning script store picks) (suc n)).stand → ⊥) where
      -- the live run
      abbrev played : ℕ → Live
      played n = frames_as_steps π script store picks q room n

      goes_so : (n : ℕ) → Goes π script store accepts n (played n)
      unfolding frames_as_steps
      goes_so zero = goes_start π script store accepts
      goes_so (suc n) = goes_step π script store accepts n (played n) (lends (played n).used) (goes_so n)

      alike_after : (n : ℕ) → Paired (after_frames π q (Frames.beginning script store picks) (suc n)) (played (suc n)).stand (played (suc n)).used
      unfolding after_frames frames_as_steps joined
      alike_after zero = pair_first (no-lack 0)
      alike_after (suc n) = pair_step (suc (suc n)) _ (alike_after n) (goes_so (suc n)).can_stand (no-lack (suc n))

      pub stand_alike : (n : ℕ) → StandAlike (after_frames π q (Frames.beginning script store picks) (suc n)).stand (played (suc n)).stand
      stand_alike n = by (alike_after n)
        where
          by : {p : Progress} {a : Stand} {u : List ℕ} → Paired p a u → StandAlike p.stand a
          by (paired (placed e)) = at_place
          by (paired closed) = at_the_end

  -- a script that lacks no byte in its run lacks none in a frame
  no_byte_lacks : (picks : List ℕ) → ((run_script π script store picks (report_ticks π script)).ending ≡ NoPick → ⊥) → (n : ℕ) (frame : ℕ) (a : Next)
      → StandsAs π rows (run_script π script store picks n) frame picks a → Lacking a → ⊥
  no_byte_lacks picks never n frame (more m) h lack = lack
  no_byte_lacks picks never n frame (over e i s c) (u, r) lack =
      let same = agree π accepts.prices.test.some script accepts.script_accepted store accepts.inside picks n (report_ticks π script) (subst Unspent r.ending u)
      (enough π accepts.prices.test.some script accepts.script_accepted store accepts.inside picks (report_ticks π script) (omega arith)) in
      never (ap (λ (a : Answer). a.ending) (sym same) ∙ sym r.ending ∙ lack)

pub frames_as_steps_lem : FramesAsSteps
unfolding FramesAsSteps FramesAsAlone
frames_as_steps_lem π script store accepts picks never q room zero tick fits l = absurd (omega arith)
frames_as_steps_lem π script store accepts picks never q room (suc n) tick fits l =
    stand_alike π script store accepts picks q room fits
    (λ k lack.
    let p = after_frames π q (Frames.beginning script store picks) (suc k) in
    no_byte_lacks π script store accepts picks never (suc k * q) (p.frame * q) p.stand
    ((frames_as_alone π accepts.prices.test.some script accepts.script_accepted store accepts.inside picks q (suc k) tick).stands (omega arith)) lack) n
