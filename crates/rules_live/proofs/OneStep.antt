-- One step of a live run: it comes where the run comes with its ticks and bytes, it stops as it should, and its cues fit the list.
use mathlib.Core.Path.{◌≡◌, refl, sym, ◌∙◌, ap, subst}
use mathlib.Core.Bool.{Bool, true, false, not, ◌&&◌}
use mathlib.Core.List.{List, [], ◌∷◌, ◌++◌, append_assoc, append-nil}
use Prim.Native.Nat.{ℕ, zero, suc, ◌+◌, ◌-◌, ◌≤◌, ◌<◌}
use native.Mathlib.Omega.{arith}
use lib.Dec.{T, leb, eqb, le→leb, leb→le, nleb→lt}
use lib.ListN.{length, take, length-append}
use lib.Seq.{take_at, take_all}
use Rattle.ints.proofs.Diffs.{both}
use Rattle.rules.specs.declared.Ending.{Ending}
use Rattle.rules.specs.declared.Ending.TheVariants.{Ended, Spent, NoPick}
use Rattle.rules.specs.Values.{Store}
use Rattle.rules.specs.Blocks.{RowKind, View, is_plain, is_pick, is_else, is_end, is_loop, assign, cue, view_at}
use Rattle.rules.specs.declared.Prices.{Prices}
use Rattle.rules.specs.Bounds.{FinePrices}
use Rattle.rules.specs.Run.{State}
use Rattle.rules_machine.specs.RowMachine.{TurnCounts, fresh, Place, Next, more, over, paid, picked, next, rank, Partners, chosen}
use Rattle.rules_machine.proofs.RowMachineRuns.{falls_more}
use Rattle.rules_frames.specs.InTime.{dearest}
use Rattle.rules_live.specs.Cues.{cue_of}
use Rattle.rules_live.specs.Live.{Stand, going, waits, full, finished, Stop, stops_here, having, StepLent, Stepped, left_at, unused_at, keeps, stepped_to, lent_to, blocked, onward, runs_on, by_byte, answered, step}
use Rattle.rules_live.specs.LiveRuns.{Closes, HeldUp}
use Rattle.rules_live.proofs.Acts.{state, Paid, moves, leaves, asks, Act, free, ends, priced, act_next}
use Rattle.rules_live.proofs.Comes.{paid_not, paid_fits}

-- a row has one cue at most
pub cue_one : (v : View) → length (cue_of v) ≤ 1
unfolding cue_of
cue_one (is_plain (assign v x)) = omega arith
cue_one (is_plain (cue n)) = omega arith
cue_one is_pick = omega arith
cue_one is_else = omega arith
cue_one is_end = omega arith
cue_one (is_loop form test last) = omega arith

-- a cue that fits and is not blocked finds room
has_room : (cues length room price left : ℕ) → T (not (leb 1 cues && (leb room length && leb price left))) → 1 ≤ cues → price ≤ left → length < room
has_room cues length room price left h l m = by (leb 1 cues) (leb room length) (leb price left) (le→leb 1 cues l) (nleb→lt room length) (le→leb price left m) h
  where
    by : (a b c : Bool) → T a → (T (not b) → length < room) → T c → T (not (a && (b && c))) → length < room
    by true true true x y z n = absurd n
    by true true false x y z n = absurd z
    by true false c x y z n = y tt
    by false b c x y z n = absurd x

-- a byte leads on to a row
pub byte_goes : (i j b : ℕ) (f : Store) (c : TurnCounts) → (w : Place) × ((x : ℕ) (r l : List ℕ) → picked i j (b ∷ r) (state f x l) c ≡ more (having w x r))
unfolding picked chosen
byte_goes i j b f c = by (eqb b 0)
  where
    at : ℕ → Place
    at k = record { row = k; phase = fresh; now = state f 0 []; tally = c }

    by : (b : Bool) → (w : Place) × ((x : ℕ) (r l : List ℕ) → chosen b (more (having (at j) x r)) (more (having (at (suc i)) x r)) ≡ more (having w x r))
    by true = (at j, λ x r l. refl)
    by false = (at (suc i), λ x r l. refl)

-- a standing with other ticks and bytes
unfoldable pub reach : (ℕ → ℕ) → Stand → ℕ → List ℕ → Next
reach matching_end_lem (going m) x r = more (having m x r)
reach matching_end_lem (full m) x r = more (having m x r)
reach matching_end_lem (waits m) x r = picked m.row (suc (matching_end_lem m.row)) r (state m.now.store x r) m.tally
reach matching_end_lem (finished e i s c) x r = over e i (state s.store x r) c

-- what is left is as it should be: all of what it had and got, or no more than it had carried
abbrev pub Carries : ℕ → ℕ → ℕ → Stand → Type 0
Carries q carried ticks (going m) = carried + q ≡ ticks + m.now.left
Carries q carried ticks (waits m) = (m.now.left ≤ carried) × (carried ≤ ticks + m.now.left)
Carries q carried ticks (full m) = (m.now.left ≤ carried) × (carried ≤ ticks + m.now.left)
Carries q carried ticks (finished e i s c) = Unit {0}

-- a waiting script is at a pick, and a finished one has ended or is out of range
abbrev pub Proper : List RowKind → Stand → Type 0
Proper rows (going m) = Unit {0}
Proper rows (waits m) = view_at rows m.row ≡ is_pick
Proper rows (full m) = Unit {0}
Proper rows (finished e i s c) = Closes e

-- a list is full, and the price of a cue fits
abbrev Crowded : Prices → ℕ → List ℕ → Stand → Type 0
Crowded π room cues (going m) = Unit {0}
Crowded π room cues (waits m) = Unit {0}
Crowded π room cues (full m) = (room ≤ length cues) × (π.cue ≤ m.now.left)
Crowded π room cues (finished e i s c) = Unit {0}

module _ (π : Prices) (rows : List RowKind) (matching_end_lem matching_head_lem : ℕ → ℕ) where
  abbrev next_of : Place → Next
  next_of m = next π rows matching_end_lem matching_head_lem m

  -- A standing in which a step stops. Going: with these ticks or less it is spent; full: with no tick it is.
  pub data Rests : Stand → Type 0 where
    going_rests : {m : Place} (i : ℕ) → ((x : ℕ) (r : List ℕ) → x ≤ m.now.left → next_of (having m x r) ≡ over Spent i (state m.now.store x r) m.tally)
        → m.now.left < dearest π → Rests (going m)
    full_rests : {m : Place} → 1 ≤ length (cue_of (view_at rows m.row)) → ((r : List ℕ) → next_of (having m 0 r) ≡ over Spent m.row (state m.now.store 0 r) m.tally) → Rests (full m)
    waits_rests : {m : Place} → view_at rows m.row ≡ is_pick → m.now.picks ≡ [] → Rests (waits m)
    finished_rests : {e : Ending} {i : ℕ} {s : State} {c : TurnCounts} → Closes e → Rests (finished e i s c)

  -- What a step does from standing a, with what is known of ticks, bytes, cues and where the run has come: it was known with t, u and cues.
  pub record Does (Known : ℕ → List ℕ → List ℕ → (ℕ → List ℕ → Next) → Type 0) (t : ℕ) (u cues : List ℕ) (l : StepLent) (a : Stand) (s : Stepped) : Type 0 where
    pub known : Known (t + s.ticks) (u ++ s.used) (cues ++ s.cues) (reach matching_end_lem s.stand)
    pub rests : Rests s.stand
    pub fitting : length s.cues ≤ l.room
    pub held_up : HeldUp π l (left_at a) s s.stand
    pub carries : Carries l.q (left_at a) s.ticks s.stand
    pub most : s.ticks ≤ left_at a + l.q

  -- what is known is kept by an equal outcome, a step, a price that is paid and a byte that is taken
  pub record Walks (Known : ℕ → List ℕ → List ℕ → (ℕ → List ℕ → Next) → Type 0) : Type 0 where
    pub equal : (t : ℕ) (u cues : List ℕ) (a b : ℕ → List ℕ → Next) → ((x : ℕ) (r : List ℕ) → a x r ≡ b x r) → Known t u cues a → Known t u cues b
    pub on : (t : ℕ) (u cues : List ℕ) (m : Place) → Known t u cues (λ x r. more (having m x r)) → Known t u cues (λ x r. next_of (having m x r))
    pub pays : (t : ℕ) (u cues : List ℕ) (p i : ℕ) (f : Store) (c : TurnCounts) (k : State → Next) (of : List ℕ) → 1 ≤ p → Paid rows matching_end_lem f c of i (λ x r. k (state f x r))
        → Known t u cues (λ x r. paid p i (state f x r) c k) → Known (t + p) u (cues ++ cue_of (view_at rows i)) (λ x r. k (state f x r))
    pub takes : (t : ℕ) (u cues : List ℕ) (i j : ℕ) (f : Store) (c : TurnCounts) (b : ℕ) → Known t u cues (λ x r. picked i j r (state f x r) c)
        → Known t (u ++ (b ∷ [])) cues (λ x r. picked i j (b ∷ r) (state f x (b ∷ r)) c)

module _ (π : Prices) (rows : List RowKind) (matching_end_lem matching_head_lem : ℕ → ℕ) (fine : FinePrices π) (partners : Partners rows matching_end_lem matching_head_lem)
    (Known : ℕ → List ℕ → List ℕ → (ℕ → List ℕ → Next) → Type 0) (walks : Walks π rows matching_end_lem matching_head_lem Known) where
  -- a step of which these were before it: ticks, bytes, cues; it had so many ticks and was lent these bytes
  module _ (t : ℕ) (u cues : List ℕ) (had : ℕ) (lent : List ℕ) where
    -- in the step, with these ticks left, these bytes to come and these cues done, it has come to a
    pub record Within (left : ℕ) (rest done : List ℕ) (a : ℕ → List ℕ → Next) : Type 0 where
      pub used : List ℕ
      pub split : lent ≡ used ++ rest
      pub less : left ≤ had
      pub known : Known (t + (had - left)) (u ++ used) (cues ++ done) a

    within_is : {left : ℕ} {rest done : List ℕ} {a b : ℕ → List ℕ → Next} → ((x : ℕ) (r : List ℕ) → a x r ≡ b x r) → Within left rest done a → Within left rest done b
    within_is e h = record { used = h.used; split = h.split; less = h.less; known = walks.equal _ _ _ _ _ e h.known }

    within_next : {left : ℕ} {rest done : List ℕ} (m : Place) → Within left rest done (λ x r. more (having m x r)) → Within left rest done (λ x r. next_of π rows matching_end_lem matching_head_lem (having m x r))
    within_next m h = record { used = h.used; split = h.split; less = h.less; known = walks.on _ _ _ m h.known }

    within_paid : {left : ℕ} {rest done : List ℕ} (p i : ℕ) (f : Store) (c : TurnCounts) (k : State → Next) (of : List ℕ) → 1 ≤ p → p ≤ left
        → Paid rows matching_end_lem f c of i (λ x r. k (state f x r)) → Within left rest done (λ x r. paid p i (state f x r) c k) → Within (left - p) rest (done ++ cue_of (view_at rows i)) (λ x r. k (state f x r))
    within_paid {left} {rest} {done} p i f c k of l fits d h =
        let ticks : t + (had - left) + p ≡ t + (had - (left - p)) = omega (arith, h.less) in
        record {
          used = h.used;
          split = h.split;
          less = omega (arith, h.less);
          known = subst (λ n. Known n (u ++ h.used) (cues ++ (done ++ cue_of (view_at rows i))) (λ x r. k (state f x r))) ticks
              (subst (λ l. Known (t + (had - left) + p) (u ++ h.used) l (λ x r. k (state f x r))) (append_assoc cues done _)
              (walks.pays _ _ _ p i f c k of l d h.known));
        }

    within_byte : {left : ℕ} {rest done : List ℕ} (i j : ℕ) (f : Store) (c : TurnCounts) (b : ℕ) → Within left (b ∷ rest) done (λ x r. picked i j r (state f x r) c)
        → Within left rest done (λ x r. picked i j (b ∷ r) (state f x (b ∷ r)) c)
    within_byte {left} {rest} {done} i j f c b h = record {
      used = h.used ++ (b ∷ []);
      split = h.split ∙ sym (append_assoc h.used (b ∷ []) rest);
      less = h.less;
      known = subst (λ l. Known (t + (had - left)) l (cues ++ done) (λ x r. picked i j (b ∷ r) (state f x (b ∷ r)) c)) (append_assoc u h.used (b ∷ []))
          (walks.takes _ _ _ i j f c b h.known);
    }

    -- where a step stops
    pub record Stopped (room : ℕ) (s : Stop) : Type 0 where
      pub within : Within (left_at s.stand) (unused_at s.stand) s.cues (reach matching_end_lem s.stand)
      pub rests : Rests π rows matching_end_lem matching_head_lem s.stand
      pub fitting : length s.cues ≤ room
      pub crowded : Crowded π room s.cues s.stand

    -- the place where a run goes on
    abbrev Here : Place → List ℕ → Type 0
    Here m done = Within m.now.left m.now.picks done (λ x r. more (having m x r))

    module _ (room n : ℕ) (done : List ℕ) (m : Place) (l : rank (length rows) m < suc n) (fit : length done ≤ room) (here : Here m done)
        (ih : (w : Place) (more : List ℕ) → rank (length rows) w < n → length more ≤ room → Here w more
        → Stopped room (onward π rows matching_end_lem matching_head_lem n room more w (blocked π rows matching_end_lem matching_head_lem room more w) (next_of π rows matching_end_lem matching_head_lem w))) where
      -- it goes on to place w, and a cue is done
      goes_on : (w : Place) → next_of π rows matching_end_lem matching_head_lem m ≡ more w → length (done ++ cue_of (view_at rows m.row)) ≤ room → Here w (done ++ cue_of (view_at rows m.row))
          → Stopped room (onward π rows matching_end_lem matching_head_lem (suc n) room done m false (next_of π rows matching_end_lem matching_head_lem m))
      unfolding onward
      goes_on w e f h =
          let (_, g) = falls_more π fine.test.some rows matching_end_lem matching_head_lem partners m w e in
          subst (λ a. Stopped room (onward π rows matching_end_lem matching_head_lem (suc n) room done m false a)) (sym e) (ih w _ (omega arith) f h)

      -- it stops
      stops_at : (e : Ending) (i : ℕ) (s : State) (c : TurnCounts) → next_of π rows matching_end_lem matching_head_lem m ≡ over e i s c → Stopped room (record { stand = stops_here m e i s c; cues = done })
          → Stopped room (onward π rows matching_end_lem matching_head_lem (suc n) room done m false (next_of π rows matching_end_lem matching_head_lem m))
      unfolding onward
      stops_at e i s c q h = subst (λ a. Stopped room (onward π rows matching_end_lem matching_head_lem (suc n) room done m false a)) (sym q) h

      -- a row without a cue adds none
      same_cues : {left : ℕ} {rest : List ℕ} {a : ℕ → List ℕ → Next} → cue_of (view_at rows m.row) ≡ [] → Within left rest (done ++ cue_of (view_at rows m.row)) a → Within left rest done a
      same_cues {left} {rest} {a} none h = subst (λ l. Within left rest l a) (ap (λ l. done ++ l) none ∙ append-nil done) h

      no_cues : {left : ℕ} {rest : List ℕ} {a : ℕ → List ℕ → Next} → cue_of (view_at rows m.row) ≡ [] → Within left rest done a → Within left rest (done ++ cue_of (view_at rows m.row)) a
      no_cues {left} {rest} {a} none h = subst (λ l. Within left rest l a) (sym (ap (λ l. done ++ l) none ∙ append-nil done)) h

      still_fit : cue_of (view_at rows m.row) ≡ [] → length (done ++ cue_of (view_at rows m.row)) ≤ room
      still_fit none = omega (arith, length-append done (cue_of (view_at rows m.row)), ap length none)

      -- a cue that is not blocked
      cue_fit : T (not (blocked π rows matching_end_lem matching_head_lem room done m)) → (1 ≤ length (cue_of (view_at rows m.row)) → π.cue ≤ m.now.left)
          → length (done ++ cue_of (view_at rows m.row)) ≤ room
      unfolding blocked
      cue_fit free-room pays =
          by (leb 1 (length (cue_of (view_at rows m.row)))) (leb→le 1 (length (cue_of (view_at rows m.row)))) (nleb→lt 1 (length (cue_of (view_at rows m.row))))
        where
          by : (b : Bool) → (T b → 1 ≤ length (cue_of (view_at rows m.row))) → (T (not b) → length (cue_of (view_at rows m.row)) < 1) → length (done ++ cue_of (view_at rows m.row)) ≤ room
          by true f g =
              omega (
                arith,
                length-append done (cue_of (view_at rows m.row)),
                cue_one (view_at rows m.row),
                has_room (length (cue_of (view_at rows m.row))) (length done) room π.cue m.now.left free-room (f tt) (pays (f tt)),
              )
          by false f g = omega (arith, length-append done (cue_of (view_at rows m.row)), g tt)

      -- at a pick whose price is taken
      asks_for_lem : (i : ℕ) (f : Store) (c : TurnCounts) (left : ℕ) (l : List ℕ) → view_at rows i ≡ is_pick → cue_of (view_at rows m.row) ≡ [] → next_of π rows matching_end_lem matching_head_lem m ≡ picked i (suc (matching_end_lem i)) l (state f left l) c
          → Within left l done (λ x r. picked i (suc (matching_end_lem i)) r (state f x r) c) → Stopped room (onward π rows matching_end_lem matching_head_lem (suc n) room done m false (next_of π rows matching_end_lem matching_head_lem m))
      unfolding stops_here left_at unused_at reach picked
      asks_for_lem i f c left [] v none e h = stops_at NoPick i (state f left []) c e (record { within = h; rests = waits_rests v refl; fitting = fit; crowded = tt })
      asks_for_lem i f c left (b ∷ r) v none e h =
          let (w, g) = byte_goes i (suc (matching_end_lem i)) b f c in
          goes_on (having w left r) (e ∙ g left r (b ∷ r)) (still_fit none) (no_cues none (within_is (λ x r. g x r (b ∷ r)) (within_byte i (suc (matching_end_lem i)) f c b h)))

      -- once its price is paid
      onward_paid : (p i : ℕ) (k : State → Next) → p ≤ m.now.left → cue_of (view_at rows i) ≡ cue_of (view_at rows m.row) → next_of π rows matching_end_lem matching_head_lem m ≡ k (state m.now.store (m.now.left - p) m.now.picks)
          → length (done ++ cue_of (view_at rows m.row)) ≤ room → Within (m.now.left - p) m.now.picks (done ++ cue_of (view_at rows m.row)) (λ x r. k (state m.now.store x r))
          → Paid rows matching_end_lem m.now.store m.tally (cue_of (view_at rows m.row)) i (λ x r. k (state m.now.store x r))
          → Stopped room (onward π rows matching_end_lem matching_head_lem (suc n) room done m false (next_of π rows matching_end_lem matching_head_lem m))
      unfolding stops_here left_at unused_at reach
      onward_paid p i k l same e f h (moves w z g) = goes_on (having w (m.now.left - p) m.now.picks) (e ∙ g _ _) f (within_is g h)
      onward_paid p i k l same e f h (leaves none g) =
          stops_at Ending.Range i _ _ (e ∙ g _ _) (record { within = within_is g (same_cues none h); rests = finished_rests tt; fitting = fit; crowded = tt })
      onward_paid p i k l same e f h (asks v none g) = asks_for_lem i _ _ _ m.now.picks v none (e ∙ g _ _) (within_is g (same_cues none h))

      -- by what the next step is
      onward_act : Act π fine rows matching_end_lem matching_head_lem m.now.store m.tally m.row (cue_of (view_at rows m.row)) (λ x r. next_of π rows matching_end_lem matching_head_lem (having m x r))
          → T (not (blocked π rows matching_end_lem matching_head_lem room done m)) → Stopped room (onward π rows matching_end_lem matching_head_lem (suc n) room done m false (next_of π rows matching_end_lem matching_head_lem m))
      unfolding stops_here left_at unused_at reach
      onward_act (free none w z e) free-room = goes_on (having w m.now.left m.now.picks) (e _ _) (still_fit none) (no_cues none (within_is e (within_next m here)))
      onward_act (ends none e) free-room =
          stops_at Ended (length rows) _ _ (e _ _) (record { within = within_is e (within_next m here); rests = finished_rests tt; fitting = fit; crowded = tt })
      onward_act (priced p i k some most same cue-price d e) free-room = by (leb p m.now.left) (leb→le p m.now.left) (nleb→lt p m.now.left)
        where
          by : (b : Bool) → (T b → p ≤ m.now.left) → (T (not b) → m.now.left < p) → Stopped room (onward π rows matching_end_lem matching_head_lem (suc n) room done m false (next_of π rows matching_end_lem matching_head_lem m))
          by true f g =
              onward_paid p i k (f tt) same (e _ _ ∙ paid_fits p i _ _ _ _ k (f tt)) (cue_fit free-room λ l. omega (arith, f tt, (cue-price l).0))
              (subst (λ l. Within (m.now.left - p) m.now.picks (done ++ l) (λ x r. k (state m.now.store x r))) same
              (within_paid p i _ _ k _ some (f tt) d (within_is e (within_next m here))))
              d
          by false f g =
              stops_at Spent i _ _ (e _ _ ∙ paid_not p i _ _ _ _ k (g tt))
              (record {
                within = here;
                rests = going_rests i (λ x r l. e x r ∙ paid_not p i _ x r _ k (omega (arith, l, g tt))) (omega (arith, g tt, most));
                fitting = fit;
                crowded = tt;
              })

      -- the list is full
      onward_full : Act π fine rows matching_end_lem matching_head_lem m.now.store m.tally m.row (cue_of (view_at rows m.row)) (λ x r. next_of π rows matching_end_lem matching_head_lem (having m x r))
          → T (blocked π rows matching_end_lem matching_head_lem room done m) → Stopped room (onward π rows matching_end_lem matching_head_lem (suc n) room done m true (next_of π rows matching_end_lem matching_head_lem m))
      unfolding blocked onward left_at unused_at reach
      onward_full act stop =
          let a-cue : 1 ≤ length (cue_of (view_at rows m.row)) = leb→le 1 _ (both (leb 1 (length (cue_of (view_at rows m.row)))) (leb room (length done) && leb π.cue m.now.left) stop).0 in
          let (no_room, pays) = both (leb room (length done)) (leb π.cue m.now.left) (both (leb 1 (length (cue_of (view_at rows m.row)))) (leb room (length done) && leb π.cue m.now.left) stop).1 in
          record { within = here; rests = by act a-cue; fitting = fit; crowded = (leb→le room (length done) no_room, leb→le π.cue m.now.left pays) }
        where
          by : Act π fine rows matching_end_lem matching_head_lem m.now.store m.tally m.row (cue_of (view_at rows m.row)) (λ x r. next_of π rows matching_end_lem matching_head_lem (having m x r))
              → 1 ≤ length (cue_of (view_at rows m.row)) → Rests π rows matching_end_lem matching_head_lem (full m)
          by (free none w z e) l = absurd (omega (arith, ap length none))
          by (ends none e) l = absurd (omega (arith, ap length none))
          by (priced p i k some most same cue-price d e) l =
              full_rests l (λ r. e 0 r ∙ paid_not p i _ 0 r _ k some ∙ ap (λ j. over Spent j (state m.now.store 0 r) m.tally) (cue-price l).1)

    onward_stops : (room n : ℕ) (done : List ℕ) (m : Place) → rank (length rows) m < n → length done ≤ room → Here m done
        → Stopped room (onward π rows matching_end_lem matching_head_lem n room done m (blocked π rows matching_end_lem matching_head_lem room done m) (next_of π rows matching_end_lem matching_head_lem m))
    onward_stops room zero done m l f h = absurd (omega arith)
    onward_stops room (suc n) done m l f h = by (blocked π rows matching_end_lem matching_head_lem room done m) (λ t. t) (λ t. t) (λ w more. onward_stops room n more w)
      where
        by : (b : Bool) → (T b → T (blocked π rows matching_end_lem matching_head_lem room done m)) → (T (not b) → T (not (blocked π rows matching_end_lem matching_head_lem room done m)))
            → ((w : Place) (more : List ℕ) → rank (length rows) w < n → length more ≤ room → Here w more
            → Stopped room (onward π rows matching_end_lem matching_head_lem n room more w (blocked π rows matching_end_lem matching_head_lem room more w) (next_of π rows matching_end_lem matching_head_lem w)))
            → Stopped room (onward π rows matching_end_lem matching_head_lem (suc n) room done m b (next_of π rows matching_end_lem matching_head_lem m))
        by true t s ih = onward_full room n done m l f h ih (act_next π fine rows matching_end_lem matching_head_lem m) (t tt)
        by false t s ih = onward_act room n done m l f h ih (act_next π fine rows matching_end_lem matching_head_lem m) (s tt)

    pub runs_on_lem : (room : ℕ) (m : Place) → Here m [] → Stopped room (runs_on π rows matching_end_lem matching_head_lem room [] m)
    unfolding runs_on
    runs_on_lem room m h = onward_stops room (suc (rank (length rows) m)) [] m (omega arith) (omega arith) h

    -- at its first action
    pub within_start : {a : ℕ → List ℕ → Next} → Known t u cues a → Within had lent [] a
    within_start {a} h =
        let ticks : t ≡ t + (had - had) = omega arith in
        record {
          used = [];
          split = refl;
          less = omega arith;
          known = subst (λ n. Known n (u ++ []) (cues ++ []) a) ticks
              (subst (λ l. Known t l (cues ++ []) a) (sym (append-nil u)) (subst (λ l. Known t u l a) (sym (append-nil cues)) h));
        }

    -- a pick gets its byte, or waits on
    by_byte_lem : (room : ℕ) (m : Place) (l : List ℕ) → view_at rows m.row ≡ is_pick → Within m.now.left l [] (λ x r. reach matching_end_lem (waits m) x r)
        → Stopped room (by_byte π rows matching_end_lem matching_head_lem room (having m m.now.left l) (answered π rows matching_end_lem matching_head_lem (having m m.now.left l)))
    unfolding by_byte reach picked left_at unused_at
    by_byte_lem room m [] v h = record { within = h; rests = waits_rests v refl; fitting = omega arith; crowded = tt }
    by_byte_lem room m (b ∷ r) v h =
        let (w, g) = byte_goes m.row (suc (matching_end_lem m.row)) b m.now.store m.tally in
        subst (λ a. Stopped room (by_byte π rows matching_end_lem matching_head_lem room (having m m.now.left (b ∷ r)) a)) (sym (g m.now.left r (b ∷ r)))
        (runs_on_lem room (having w m.now.left r) (within_is (λ x r. g x r (b ∷ r)) (within_byte m.row _ m.now.store m.tally b h)))

    -- what a step adds
    within_end : {left : ℕ} {rest done : List ℕ} {a : ℕ → List ℕ → Next} → Within left rest done a
        → Known (t + (had - left)) (u ++ take (length lent - length rest) lent) (cues ++ done) a
    within_end {left} {rest} {done} {a} h =
        let n : length h.used ≡ length lent - length rest = omega (arith, ap length h.split, length-append h.used rest) in
        let same : take (length lent - length rest) lent ≡ h.used = ap (take (length lent - length rest)) h.split ∙ take_at h.used rest _ n in
        subst (λ l. Known (t + (had - left)) (u ++ l) (cues ++ done) a) (sym same) h.known

  -- keeping less ticks is no other standing
  kept_known : {t : ℕ} {u cues : List ℕ} (n : ℕ) (a : Stand) → Known t u cues (reach matching_end_lem a) → Known t u cues (reach matching_end_lem (keeps n a))
  unfolding keeps reach
  kept_known n (going m) h = h
  kept_known n (waits m) h = h
  kept_known n (full m) h = h
  kept_known n (finished e i s c) h = h

  kept_rests : (n : ℕ) (a : Stand) → Rests π rows matching_end_lem matching_head_lem a → Rests π rows matching_end_lem matching_head_lem (keeps n a)
  unfolding keeps
  kept_rests n _ (going_rests i f l) = going_rests i f l
  kept_rests n _ (full_rests l f) = full_rests l f
  kept_rests n _ (waits_rests v e) = waits_rests v e
  kept_rests n _ (finished_rests e) = finished_rests e

  stepped_carries : (l : StepLent) (m : Place) (a : Stand) (cues : List ℕ) → left_at a ≤ m.now.left + l.q
      → let s : Stepped = stepped_to l m (record { stand = a; cues = cues }) in Carries l.q m.now.left s.ticks s.stand
  unfolding stepped_to keeps left_at
  stepped_carries l m (going w) cues h = omega arith
  stepped_carries l m (waits w) cues h = (omega arith, omega arith)
  stepped_carries l m (full w) cues h = (omega arith, omega arith)
  stepped_carries l m (finished e i s c) cues h = tt

  stepped_held : (l : StepLent) (m : Place) (a : Stand) (cues : List ℕ) (carried : ℕ) → carried ≡ m.now.left → left_at a ≤ m.now.left + l.q → Rests π rows matching_end_lem matching_head_lem a
      → length cues ≤ l.room → Crowded π l.room cues a
      → let s : Stepped = stepped_to l m (record { stand = a; cues = cues }) in HeldUp π l carried s s.stand
  unfolding stepped_to keeps left_at unused_at
  stepped_held l m _ cues carried e k (going_rests i f d) h c = tt
  stepped_held l m _ cues carried e k (full_rests z f) h (c, d) = (omega arith, omega arith)
  stepped_held l m _ cues carried e k (waits_rests {m = w} v none) h c =
      take_all (length l.picks - length w.now.picks) l.picks (omega (arith, ap length none))
  stepped_held l m _ cues carried e k (finished_rests z) h c = tt

  stepped_does : (t : ℕ) (u cues : List ℕ) (l : StepLent) (a : Stand) (m : Place) (b : Stop) → left_at a ≡ m.now.left
      → Stopped t u cues (m.now.left + l.q) l.picks l.room b → Does π rows matching_end_lem matching_head_lem Known t u cues l a (stepped_to l m b)
  unfolding stepped_to
  stepped_does t u cues l a m b e h = record {
    known = kept_known m.now.left b.stand (within_end t u cues (m.now.left + l.q) l.picks h.within);
    rests = kept_rests m.now.left b.stand h.rests;
    fitting = h.fitting;
    held_up = stepped_held l m b.stand b.cues (left_at a) e h.within.less h.rests h.fitting h.crowded;
    carries = subst (λ n. Carries l.q n (m.now.left + l.q - left_at b.stand) (keeps m.now.left b.stand)) (sym e) (stepped_carries l m b.stand b.cues h.within.less);
    most = omega arith;
  }

  -- a step from any standing
  pub step_does : {t : ℕ} {u cues : List ℕ} (l : StepLent) (a : Stand) → Known t u cues (reach matching_end_lem a) → Proper rows a → Does π rows matching_end_lem matching_head_lem Known t u cues l a (step π rows matching_end_lem matching_head_lem l a)
  unfolding step reach left_at
  step_does {t} {u} {cues} l (going m) h p =
      stepped_does t u cues l (going m) m _ refl (runs_on_lem t u cues (m.now.left + l.q) l.picks l.room _ (within_start t u cues (m.now.left + l.q) l.picks h))
  step_does {t} {u} {cues} l (full m) h p =
      stepped_does t u cues l (full m) m _ refl (runs_on_lem t u cues (m.now.left + l.q) l.picks l.room _ (within_start t u cues (m.now.left + l.q) l.picks h))
  step_does {t} {u} {cues} l (waits m) h p =
      stepped_does t u cues l (waits m) m _ refl
      (by_byte_lem t u cues (m.now.left + l.q) l.picks l.room (lent_to l m) l.picks p (within_start t u cues (m.now.left + l.q) l.picks h))
  step_does {t} {u} {cues} l (finished e i s c) h p =
      let ticks : t ≡ t + 0 = omega arith in
      record {
        known = subst (λ n. Known n (u ++ []) (cues ++ []) (reach matching_end_lem (finished e i s c))) ticks
            (subst (λ l. Known t l (cues ++ []) (reach matching_end_lem (finished e i s c))) (sym (append-nil u)) (subst (λ l. Known t u l (reach matching_end_lem (finished e i s c))) (sym (append-nil cues)) h));
        rests = finished_rests p;
        fitting = omega arith;
        held_up = tt;
        carries = tt;
        most = omega arith;
      }

-- of a step from any standing nothing need be known
abbrev pub Anything : ℕ → List ℕ → List ℕ → (ℕ → List ℕ → Next) → Type 0
Anything t u cues a = Unit {0}

pub walks_any : (π : Prices) (rows : List RowKind) (matching_end_lem matching_head_lem : ℕ → ℕ) → Walks π rows matching_end_lem matching_head_lem Anything
walks_any π rows matching_end_lem matching_head_lem = record {
  equal = λ t u cues a b e h. tt;
  on = λ t u cues m h. tt;
  pays = λ t u cues p i f c k of l d h. tt;
  takes = λ t u cues i j f c b h. tt;
}

-- the bytes that a run uses come first
pub uses_first : (π : Prices) (rows : List RowKind) (matching_end_lem matching_head_lem : ℕ → ℕ) → FinePrices π → Partners rows matching_end_lem matching_head_lem → (room : ℕ) (m : Place)
    → (v : List ℕ) × (m.now.picks ≡ v ++ unused_at (runs_on π rows matching_end_lem matching_head_lem room [] m).stand)
uses_first π rows matching_end_lem matching_head_lem fine partners room m =
    let any = walks_any π rows matching_end_lem matching_head_lem in
    let h = runs_on_lem π rows matching_end_lem matching_head_lem fine partners Anything any 0 [] [] m.now.left m.now.picks room m
    (within_start π rows matching_end_lem matching_head_lem fine partners Anything any 0 [] [] m.now.left m.now.picks tt) in
    (h.within.used, h.within.split)
