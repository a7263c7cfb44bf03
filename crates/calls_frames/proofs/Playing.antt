-- All scripts in their frames: what the loop over frames and scripts keeps. Assumes nothing.
use mathlib.Core.Path.{◌≡◌, refl, sym, ◌∙◌, ap, subst}
use mathlib.Core.Bool.{Bool, true, false, ◌||◌}
use mathlib.Core.List.{List, [], ◌∷◌}
use Prim.Native.Nat.{ℕ, zero, suc, ◌+◌, ◌*◌, ◌≤◌, ◌<◌, max}
use native.Mathlib.Nat.{mul-le-mul_left, mul-le-mul_right, suc-mul}
use native.Mathlib.Numerals.{add-one}
use native.Mathlib.Decide.{ℕ_discrete}
use native.Mathlib.Omega.{arith}
use lib.IntN.{ℤ}
use lib.ListN.{length, get_or, set, take, length-set, get_or-replicate, length-replicate, replicate}
use lib.Seq.{get_or-set_same, get_or-set_other, take_all}
use Rattle.rules.specs.declared.Prices.{Prices}
use Rattle.rules_machine.specs.RowMachine.{more}
use Rattle.rules.specs.Calls.{prices_of, scratch_size, loop_rows}
use Rattle.rules.specs.Scripts.{Accepted, StoreIn}
use Rattle.rules_frames.specs.Frames
use Rattle.rules_frames.specs.Frames.{after_frames, together, most, ticks_in, Lent, ScriptPart, parts_of}
use Rattle.rules_frames.specs.InTime.{Done, Accepts}
use Rattle.rules_frames.proofs.FramesAsAlone.{cast_accepts}
use Rattle.rules.proofs.Demand3File.{file_accepted, test_priced, store_in}
use Rattle.rules_frames.proofs.Cut.{part_at, cut_length, cut_at}
use Rattle.run_actions.specs.declared.Machine.{Machine}
use Rattle.run_actions.specs.States.{place_of}
use Rattle.run_machine.specs.Steps.{script_in}
use Rattle.runner.specs.Runs.{with_ticks, WentOn}
use Rattle.runner.specs.Answered.{Cleared}
use Rattle.runner.proofs.Start.{no_turns}
use Rattle.calls_lists.specs.Parts.{part_of}
use Rattle.calls_lists.proofs.Extents.{part_length}
use Rattle.calls_scripts.specs.declared.Held.{Held}
use Rattle.calls_scripts.specs.declared.HeldScripts.{HeldScripts}
use Rattle.calls_scripts.specs.Held.{no_part, no_progress, nobody, table_lengths, HeldAt}
use Rattle.calls_scripts.proofs.Readiness.{Plays, plays_at, plays_all}
use Rattle.calls_turns.specs.declared.Progress.{Progress}
use Rattle.calls_turns.specs.declared.Frame.{Frame}
use Rattle.calls_turns.specs.declared.AfterTurn.{AfterTurn}
use Rattle.calls_turns.specs.Progress.{is_waiting, start_progress, FrameFits, new_frame, turn_to, MayTurn, Turned, Stands}
use Rattle.calls_frames.specs.Playing.{FramesReady, Uncounted, PlayedOut}
use Rattle.calls_turns.proofs.Turning.{may_turn, went_on, stores_long, others_keep}
use Rattle.calls_turns.proofs.Standing.{is_done, stands_still, takes_still, not_done, stands_on, takes_on, not_due, may_run_on}

-- one script more
module _ (π : Prices) (q n : ℕ) where
  together_suc : (ps : List Frames.Progress) (k : ℕ) → k < length ps → together π q (take (suc k) ps) n ≡ together π q (take k ps) n + ticks_in π q (get_or ps k no_progress) n
  unfolding together
  together_suc [] k h = absurd (omega arith)
  together_suc (p ∷ ps) zero h = omega arith
  together_suc (p ∷ ps) (suc k) h = omega (arith, together_suc ps k (omega arith))

  together_more : (ps : List Frames.Progress) (k : ℕ) → k < length ps → together π q (take (k + 1) ps) n ≡ together π q (take k ps) n + ticks_in π q (get_or ps k no_progress) n
  together_more ps k h = rw add-one (together_suc ps k h)

module _ (prices : List ℕ) (l : Lent) (q : ℕ) (ps : List Frames.Progress) (tables : List ℕ) (all : HeldScripts) (on : FramesReady prices l q ps tables all) where
  abbrev pub π : Prices
  π = prices_of prices

  abbrev pub N : ℕ
  N = length l.file_lengths

  -- ---- script j
  abbrev pub role : ℕ → Frames.Progress
  role j = get_or ps j no_progress

  accepts : Accepts prices scratch_size (parts_of l) ps
  accepts = cast_accepts prices scratch_size (parts_of l) ps on.ready

  parts_count : length (parts_of l) ≡ N
  parts_count = cut_length l.file_lengths l.store_lengths l.pick_lengths l.files l.stores l.picks on.fits.stores on.fits.picks

  pub scripts_count : length ps ≡ N
  scripts_count = plays_all accepts ∙ parts_count

  module _ (j : ℕ) (h : j < N) where
    abbrev pub part : ScriptPart
    part = part_at l.file_lengths l.store_lengths l.pick_lengths l.files l.stores l.picks j

    is_part : get_or (parts_of l) j no_part ≡ part
    is_part = cut_at l.file_lengths l.store_lengths l.pick_lengths l.files l.stores l.picks on.fits.stores on.fits.picks j h no_part

    pub plays : Plays prices scratch_size part (role j)
    plays = subst (λ z. Plays prices scratch_size z (role j)) is_part (plays_at accepts j (omega (arith, parts_count)))

    pub held_at : HeldAt l tables j (role j).script (get_or all.each j nobody)
    held_at = on.holds j h

    accepted_at : Accepted π (role j).script
    accepted_at = (file_accepted prices scratch_size part.file (role j).script plays.yes_13).script_accepted

    pub inside_at : StoreIn (role j).script part.store
    inside_at = store_in (role j).script part.store plays.yes_15

    -- a part of the stores is as long as it was
    pub part_same : (stores : List ℤ) → length stores ≡ length l.stores → length (part_of l.store_lengths j stores) ≡ length part.store
    part_same stores e =
        let i : j < length l.store_lengths = omega (arith, on.fits.stores) in
        part_length l.store_lengths stores j i (on.fits.store_sum ∙ sym e) ∙ sym (part_length l.store_lengths l.stores j i on.fits.store_sum)

  one : 1 ≤ π.test
  one = test_priced prices on.priced

  -- ---- some script waits after the frame, of the first k
  pub data Waits (n k : ℕ) : Bool → Type 0 where
    none_waits : ((j : ℕ) → j < k → Done (after_frames π q (role j) (suc n)).stand) → Waits n k false
    one_waits : (j : ℕ) → j < k → (Done (after_frames π q (role j) (suc n)).stand → ⊥) → Waits n k true

  done_more : (n k : ℕ) → ((j : ℕ) → j < k → Done (after_frames π q (role j) (suc n)).stand) → Done (after_frames π q (role k) (suc n)).stand → (j : ℕ) → j < k + 1 → Done (after_frames π q (role j) (suc n)).stand
  done_more n k f d j h = by (ℕ_discrete j k)
    where
      by : Dec (j ≡ k) → Done (after_frames π q (role j) (suc n)).stand
      by (yes e) = subst (λ z. Done (after_frames π q (role z) (suc n)).stand) (sym e) d
      by (no e) = f j (omega (arith, e))

  waits_still : (n k : ℕ) {b : Bool} → Waits n k b → Done (after_frames π q (role k) (suc n)).stand → Waits n (k + 1) b
  waits_still n k (none_waits f) d = none_waits (done_more n k f d)
  waits_still n k (one_waits j h f) d = one_waits j (omega arith) f

  waits_more : (n k : ℕ) {b : Bool} → Waits n k b → (w : Bool) → (w ≡ false → Done (after_frames π q (role k) (suc n)).stand) → (w ≡ true → Done (after_frames π q (role k) (suc n)).stand → ⊥) → Waits n (k + 1) (b || w)
  waits_more n k (none_waits f) true g h = one_waits k (omega arith) (h refl)
  waits_more n k (none_waits f) false g h = none_waits (done_more n k f (g refl))
  waits_more n k (one_waits j e f) w g h = one_waits j (omega arith) f

  -- ---- what the loop keeps: the first k scripts have had frame n + 1, the others not
  abbrev pub Here : List ℤ → List (List (List ℕ)) → List Progress → ℕ → ℕ → Type 0
  Here stores counts xs j n = Stands π q (role j) n (get_or xs j start_progress) (part_of l.store_lengths j stores) (part_of l.pick_lengths j l.picks) (get_or counts j [])

  pub record Playing (stores : List ℤ) (counts : List (List (List ℕ))) (xs : List Progress) (m : ℕ) (f : Frame) (k : ℕ) : Type 0 where
    pub frames : f.earlier * q ≤ 1_000_000_000_000
    pub upto : k ≤ N
    pub sizes : (length xs ≡ 8) × (length counts ≡ 8) × (length stores ≡ length l.stores)
    pub had : (j : ℕ) → j < k → Here stores counts xs j (suc f.earlier)
    pub due : (j : ℕ) → k ≤ j → j < N → Here stores counts xs j f.earlier
    pub taken : f.ticks ≡ together π q (take k ps) f.earlier
    pub few : f.ticks ≤ k * 1_000_001_000_000
    pub most : m ≡ most π q ps f.earlier
    pub waits : Waits f.earlier k f.waits

  pub playing_late : {stores : List ℤ} {counts : List (List (List ℕ))} {xs : List Progress} {m : ℕ} {f : Frame} {k : ℕ} → Playing stores counts xs m f k → f.earlier ≤ 1_000_000_000_000
  playing_late {f = f} h = omega (arith, h.frames, mul-le-mul_left f.earlier on.fits.tick)

  starts : (counts : List (List ℕ)) → Cleared counts → (j : ℕ) → j < N → Stands π q (role j) 0 start_progress (part_of l.store_lengths j l.stores) (part_of l.pick_lengths j l.picks) counts
  unfolding after_frames
  starts counts z j h =
      let e = (plays j h).is in
      record {
        stand = ap (λ (p : Frames.Progress). p.stand) e ∙ ap (λ c. more (place_of start_progress.machine (part_of l.store_lengths j l.stores) (part_of l.pick_lengths j l.picks) c)) (sym (no_turns (loop_rows 0 (role j).script.rows) counts z));
        waits = λ a b. absurd (let y : ◌≡◌ {A = ℕ} 0 1 = cc in omega arith);
        frame = ap (λ (p : Frames.Progress). p.frame) e;
        late = omega arith;
        left = omega arith;
        used = omega arith;
        room = record { long = z.long; turn = λ k i. omega (arith, z.zero k 1, z.zero k 0) };
      }

  pub playing_start : (counts : List (List (List ℕ))) → Uncounted counts → Playing l.stores counts (replicate 8 start_progress) 0 (new_frame 0) 0
  unfolding most together
  playing_start counts (long, clear) = record {
    frames = omega arith;
    upto = omega arith;
    sizes = (length-replicate 8 start_progress, long, refl);
    had = λ j h. absurd (omega arith);
    due = λ j g h. rw (get_or-replicate 8 j start_progress start_progress (omega (arith, on.fits.few))) (starts (get_or counts j []) (clear j (omega (arith, on.fits.few))) j h);
    taken = refl;
    few = omega arith;
    most = refl;
    waits = none_waits λ j h. absurd (omega arith);
  }

  module _ (stores : List ℤ) (counts : List (List (List ℕ))) (xs : List Progress) (m : ℕ) (f : Frame) (k : ℕ) (h : Playing stores counts xs m f k) where
    abbrev n : ℕ
    n = f.earlier

    pub countable : FrameFits f
    countable = record { earlier = omega (arith, playing_late h); ticks = omega (arith, h.few, h.upto, on.fits.few) }

    -- ---- script k
    module _ (inside : k < N) where
      abbrev pub x : Progress
      x = get_or xs k start_progress

      here : Here stores counts xs k n
      here = h.due k (omega arith) inside

      -- its ticks so far are few
      pub few_left : x.machine.left ≤ 1_000_000_000_000
      few_left = omega (arith, here.left, mul-le-mul_right q here.late, h.frames)

      next_taken : (r : ℕ) → ticks_in π q (role k) n ≡ r → f.ticks + r ≡ together π q (take (k + 1) ps) n
      next_taken r e = omega (arith, h.taken, together_more π q n ps k (omega (arith, scripts_count)))

      -- it is finished
      pub playing_still : is_waiting x.machine.status ≡ false → Playing stores counts xs m f (k + 1)
      playing_still s = record {
        frames = h.frames;
        upto = omega arith;
        sizes = h.sizes;
        had = λ j g. by j g (ℕ_discrete j k);
        due = λ j g i. h.due j (omega arith) i;
        taken = omega (arith, next_taken 0 (takes_still π q (role k) n x _ _ _ here s));
        few = omega (arith, h.few);
        most = h.most;
        waits = waits_still n k h.waits (is_done π q (role k) (suc n) x _ _ _ (stands_still π q (role k) n x _ _ _ here s) s);
      }
        where
          by : (j : ℕ) → j < k + 1 → Dec (j ≡ k) → Here stores counts xs j (suc n)
          by j g (yes z) = subst (λ i. Here stores counts xs i (suc n)) (sym z) (stands_still π q (role k) n x _ _ _ here s)
          by j g (no z) = h.had j (omega (arith, z))

      -- it waits
      module _ (s : is_waiting x.machine.status ≡ true) where
        abbrev h_k : Held
        h_k = get_or all.each k nobody

        pub ready_to_turn : MayTurn π l.files tables stores l.picks h_k (with_ticks q x.machine) (get_or counts k [])
        ready_to_turn =
            let at = held_at k inside in
            may_turn π l q on.fits tables on.eight stores h.sizes.2 k inside h_k at.places _ _
            (may_run_on π one (role k) (accepted_at k inside) _ (inside_at k inside) _ (plays k inside).is q on.fits.tick on.fits.small n h.frames x _ _ here s (part_same k inside stores h.sizes.2) _ _ _ at.held)

        module _ (r : Machine) (stores' : List ℤ) (table : List (List ℕ)) (turned : Turned π l.files tables stores stores' l.picks h_k (with_ticks q x.machine) r (get_or counts k []) table)
            (a : AfterTurn) (turn : a ≡ turn_to x.machine r q f) where
          abbrev pub x' : Progress
          x' = record { machine = r; frame = n + 1 }

          went : WentOn π (script_in (part_of l.file_lengths k l.files) (part_of table_lengths k tables) h_k.count) (with_ticks q x.machine) r (part_of l.store_lengths k stores) (part_of l.store_lengths k stores') (part_of l.pick_lengths k l.picks) (get_or counts k []) table
          went = went_on π l q on.fits tables on.eight stores h.sizes.2 k inside h_k (held_at k inside).places _ _ stores' r table turned

          now_here : Stands π q (role k) (suc n) x' (part_of l.store_lengths k stores') (part_of l.pick_lengths k l.picks) table
          now_here = stands_on π q (role k) n x _ _ _ here s _ (held_at k inside).held.rows _ _ x' went refl

          -- the others
          other : (j i : ℕ) → j < N → (j ≡ k → ⊥) → Here stores counts xs j i → Here stores' (set counts k table) (set xs k x') j i
          other j i g f z =
              rw (
                get_or-set_other xs k j x' start_progress f,
                get_or-set_other counts k j table [] f,
                others_keep π l q on.fits tables on.eight stores h.sizes.2 k inside h_k (held_at k inside).places _ _ stores' r table turned j (omega (arith, on.fits.stores)) f,
              )
              z

          this : Here stores' (set counts k table) (set xs k x') k (suc n)
          this = rw (get_or-set_same xs k x' start_progress (omega (arith, h.sizes.0, on.fits.few)), get_or-set_same counts k table [] (omega (arith, h.sizes.1, on.fits.few))) now_here

          pub playing_on : Playing stores' (set counts k table) (set xs k a.progress) m a.frame (k + 1)
          playing_on = rw turn (record {
            frames = h.frames;
            upto = omega arith;
            sizes = (
              length-set xs k x' ∙ h.sizes.0,
              length-set counts k table ∙ h.sizes.1,
              stores_long π l q on.fits tables on.eight stores h.sizes.2 k inside h_k (held_at k inside).places _ _ stores' r table turned ∙ h.sizes.2,
            );
            had = λ j g. by j g (ℕ_discrete j k);
            due = λ j g i. other j n i (λ z. omega arith) (h.due j (omega arith) i);
            taken = next_taken _ (takes_on π q (role k) n x _ _ _ here s _ (held_at k inside).held.rows _ _ x' went);
            few = omega (arith, h.few, few_left, on.fits.small);
            most = h.most;
            waits = waits_more n k h.waits (is_waiting r.status) (is_done π q (role k) (suc n) x' _ _ _ now_here) (not_done π q (role k) (suc n) x' _ _ _ now_here);
          })
            where
              by : (j : ℕ) → j < k + 1 → Dec (j ≡ k) → Here stores' (set counts k table) (set xs k x') j (suc n)
              by j g (yes z) = subst (λ i. Here stores' (set counts k table) (set xs k x') i (suc n)) (sym z) this
              by j g (no z) = other j (suc n) (omega (arith, h.upto, z)) z (h.had j (omega (arith, z)))

    -- ---- the end of a frame
    module _ (past : N ≤ k) where
      frame_most : (a : ℕ) → a ≡ max m f.ticks → a ≡ most π q ps (suc n)
      unfolding most
      frame_most a e =
          let whole : together π q (take k ps) n ≡ together π q ps n = ap (λ z. together π q z n) (take_all k ps (omega (arith, scripts_count))) in
          omega (arith, h.most, h.taken)

      -- all are finished
      pub playing_out : f.waits ≡ false → (a : ℕ) → a ≡ max m f.ticks → PlayedOut prices l q ps (record { progress = xs; most = a }) stores counts
      playing_out e a g = record {
        n = suc n;
        few = omega (arith, h.frames, on.fits.small, suc-mul n q);
        done = none h.waits e;
        most = frame_most a g;
        long = h.sizes.2;
        each = λ j g. h.had j (omega arith);
      }
        where
          none : {b : Bool} → Waits n k b → b ≡ false → (j : ℕ) → j < N → Done (after_frames π q (role j) (suc n)).stand
          none (none_waits g) z j i = g j (omega arith)
          none (one_waits i u g) z j e = absurd (let y : ◌≡◌ {A = ℕ} 0 1 = cc in omega arith)

      -- one waits: the next frame
      pub playing_frame : f.waits ≡ true → (a : ℕ) → a ≡ max m f.ticks → Playing stores counts xs a (new_frame (n + 1)) 0
      unfolding together
      playing_frame e a g = record {
        frames = one_more_lem h.waits e;
        upto = omega arith;
        sizes = h.sizes;
        had = λ j g. absurd (omega arith);
        due = λ j g i. rw add-one (h.had j (omega arith));
        taken = refl;
        few = omega arith;
        most = rw add-one (frame_most a g);
        waits = none_waits λ j g. absurd (omega arith);
      }
        where
          one_more_lem : {b : Bool} → Waits n k b → b ≡ true → (n + 1) * q ≤ 1_000_000_000_000
          one_more_lem (none_waits g) z = absurd (let y : ◌≡◌ {A = ℕ} 0 1 = cc in omega arith)
          one_more_lem (one_waits j i g) z =
              rw add-one
              (not_due π one (role j) (accepted_at j (omega (arith, h.upto))) _ (inside_at j (omega (arith, h.upto))) _ (plays j (omega (arith, h.upto))).is q on.fits.tick on.fits.small (suc n) (omega arith) g)
