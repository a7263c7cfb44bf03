-- The loop of a live run: what a step keeps, and where it stops. Assumes nothing.
use mathlib.Core.Path.{◌≡◌, refl, sym, ◌∙◌, ap, subst}
use mathlib.Core.Bool.{Bool, true, false, not, cond}
use mathlib.Core.List.{List, [], ◌∷◌, ◌++◌, append-nil}
use Prim.Native.Nat.{ℕ, zero, suc, ◌+◌, ◌-◌, ◌≤◌, ◌<◌}
use native.Mathlib.Omega.{arith}
use lib.Dec.{T, leb, ltb, ltb→lt, nltb→le, leb→le, nleb→lt}
use lib.ListN.{length, get_or, take, drop, set, length-set, length-take, get_or-eq_default}
use lib.Seq.{take-suc, take-set-le, drop-set-lt, drop-drop, get_or-set_same}
use native.Mathlib.Numerals.{add-one}
use lib.IntN.{ℤ}
use Rattle.ints.proofs.Diffs.{cond_elim}
use Rattle.rules.specs.declared.Ending.{Ending}
use Rattle.rules.specs.declared.Ending.TheVariants.{Ended, Spent, NoPick}
use Rattle.rules.specs.declared.Prices.{Prices}
use Rattle.rules.specs.Blocks.{RowKind, End, is_plain, is_end, cue, view_of, kind_of, view_at}
use Rattle.rules.specs.Calls.{loop_rows}
use Rattle.rules.specs.Run.{State, go, halt, exec, charge, choose}
use Rattle.rules_machine.specs.RowMachine.{TurnCounts, fresh, testing, Place, Next, more, over, to, outcome, on_row, next, Partners, pairs}
use Rattle.rules.proofs.TreeOf.{tree_of_lem}
use Rattle.rules_machine.proofs.PairsIn.{partners}
use Rattle.rules_machine.proofs.RowMachineRuns.{next_row, next_past}
use Rattle.rules_live.specs.Live.{Stand, going, full, Stop, stops_here, cue_at, blocked, runs_on, row_of_next}
use Rattle.rules_live.specs.Cues.{cue_of}
use Rattle.rules_live.proofs.Laws.{runs_more, runs_over, runs_full, blocked_none, blocked_room, blocked_dear, blocked_full}
use Rattle.table.specs.declared.Tag.{Tag}
use Rattle.table.specs.Code.{number, op_in, tag_in, kind_by, kind_in, numbers_at}
use Rattle.run_actions.specs.declared.Machine.{Machine}
use Rattle.run_actions.specs.declared.Status.{Status}
use Rattle.run_actions.specs.declared.Status.TheVariants.{Going, Over}
use Rattle.run_actions.specs.States.{tally_of, phase_of, state_of, place_of, by_status, is_going, over_at}
use Rattle.run_machine.specs.Rows.{row_of}
use Rattle.run_machine.specs.Steps.{script_in, Runs, Room, step_of, Stepped}
use Rattle.run_machine.proofs.Rows.{kind_op, row_is, size_is}
use Rattle.rules.proofs.Laws.{no_true}
use Rattle.rules_frames.proofs.Resumed.{waits_next}
use Rattle.runner.specs.Runs.{place_in, MayGo, WentOn}
use Rattle.runner.specs.declared.live.Stop.{Stop as Stop'}
use Rattle.runner.specs.Goes.{WentLive, cue_op, CuePut, no_cue, unlisted, dear, last, no_room, stood_by}

-- ---- the cue of a row, by its op
not_cue : (text : List ℕ) (op : ℕ) (n : List ℕ) → (op ≡ cue_op → ⊥) → cue_of (view_of (kind_of text (kind_by (tag_in op) n))) ≡ []
unfolding cue_of view_of kind_of kind_by
not_cue text op n f =
    cond_elim P (ltb op 3) _ _ (λ _. refl) λ _. cond_elim P (ltb op 4) _ _ (λ _. refl) λ _. cond_elim P (ltb op 7) _ _ (λ _. refl) λ _. cond_elim P (ltb op 8) _ _ (λ _. refl) λ _.
    cond_elim P (ltb op 11) _ _ (λ _. refl) λ a. cond_elim P (ltb op 12) _ _ (λ b. absurd (f (omega (arith, nltb→le op 11 a, ltb→lt op 12 b)))) λ _.
    cond_elim P (ltb op 16) _ _ (λ _. refl) λ _. cond_elim P (ltb op 17) _ _ (λ _. refl) λ _. cond_elim P (ltb op 18) _ _ (λ _. refl) λ _. cond_elim P (ltb op 19) _ _ (λ _. refl) λ _. refl
  where
    P : Tag → Type 0
    P g = cue_of (view_of (kind_of text (kind_by g n))) ≡ []

module _ {text t : List ℕ} {count vars : ℕ} (s : Runs text t count vars) (i : ℕ) (l : i < count) where
  pub cue_view : op_in (numbers_at t i) ≡ cue_op → view_at (script_in text t count) i ≡ is_plain (cue (number (numbers_at t i) 3))
  unfolding view_of kind_of kind_by
  cue_view q = (row_is s i l _ (kind_op (numbers_at t i) cue_op q Tag.Cue refl)).view

  pub no_cue_view : (op_in (numbers_at t i) ≡ cue_op → ⊥) → cue_of (view_at (script_in text t count) i) ≡ []
  unfolding kind_in
  no_cue_view f = ap cue_of (row_is s i l _ refl).view ∙ not_cue text (op_in (numbers_at t i)) (numbers_at t i) f

-- a cue row: its price does not fit, or it goes on
module _ (π : Prices) (rows : List RowKind) (matching_end_lem matching_head_lem : ℕ → ℕ) (m : Place) (n : ℕ) (inside : m.row < length rows) (v : view_at rows m.row ≡ is_plain (cue n)) where
  -- by whether its price fits
  abbrev by_fit : Bool → Next
  by_fit b =
      outcome (choose b (go (record { store = m.now.store; left = m.now.left - π.cue; picks = m.now.picks }) []) (halt Spent m.row m.now []))
      m.tally (λ u. to (suc m.row) fresh u m.tally)

  at_cue : next π rows matching_end_lem matching_head_lem m ≡ by_fit (leb π.cue m.now.left)
  unfolding on_row exec charge
  at_cue = next_row π rows matching_end_lem matching_head_lem m.row _ m.phase m.now m.tally inside v

  pub cue_dear : m.now.left < π.cue → (w : Place) → next π rows matching_end_lem matching_head_lem m ≡ more w → ⊥
  unfolding choose outcome
  cue_dear l w e = by (leb π.cue m.now.left) (leb→le π.cue m.now.left) (sym at_cue ∙ e)
    where
      by : (b : Bool) → (T b → π.cue ≤ m.now.left) → by_fit b ≡ more w → ⊥
      by true f q = omega (arith, f tt)
      by false f q = let y : ◌≡◌ {A = ℕ} 0 1 = cc in omega arith

  pub cue_fits : π.cue ≤ m.now.left → (e : Ending) (i : ℕ) (s : State) (c : TurnCounts) → next π rows matching_end_lem matching_head_lem m ≡ over e i s c → ⊥
  unfolding choose outcome
  cue_fits l e i s c q = by (leb π.cue m.now.left) (nleb→lt π.cue m.now.left) (sym at_cue ∙ q)
    where
      by : (b : Bool) → (T (not b) → m.now.left < π.cue) → by_fit b ≡ over e i s c → ⊥
      by false f z = omega (arith, f tt)
      by true f z = let y : ◌≡◌ {A = ℕ} 0 1 = cc in omega arith

-- ---- what the loop keeps: so many cues are in the list, the others as they were, and what is to come is what was to come at the start
pub record Firing (π : Prices) (rows : List RowKind) (start here : Place) (cues₀ cues : List ℕ) (fired : ℕ) : Type 0 where
  pub few : fired ≤ length cues₀
  pub long : length cues ≡ length cues₀
  pub rest : drop fired cues ≡ drop fired cues₀
  pub same : runs_on π rows (pairs rows (length rows)).end (pairs rows (length rows)).head (length cues₀) [] start
      ≡ runs_on π rows (pairs rows (length rows)).end (pairs rows (length rows)).head (length cues₀) (take fired cues) here

pub firing_start : (π : Prices) (rows : List RowKind) (start : Place) (cues : List ℕ) → Firing π rows start start cues cues 0
firing_start π rows start cues = record { few = omega arith; long = refl; rest = refl; same = refl }

module _ (π : Prices) (some-ticks : 1 ≤ π.test) (rows : List RowKind) (fit : Partners rows (pairs rows (length rows)).end (pairs rows (length rows)).head)
    (start here : Place) (cues₀ cues : List ℕ) (fired : ℕ) (now : Firing π rows start here cues₀ cues fired) where
  abbrev runs : ℕ → List ℕ → Place → Stop
  runs room l m = runs_on π rows (pairs rows (length rows)).end (pairs rows (length rows)).head room l m

  taken : length (take fired cues) ≡ fired
  taken = omega (arith, length-take fired cues, now.few, now.long)

  -- a row that is no cue, or a test
  pub no_cue_on : cue_of (view_at rows here.row) ≡ [] → (w : Place) → step_of π rows here ≡ more w → Firing π rows start w cues₀ cues fired
  no_cue_on e w q = record {
    few = now.few;
    long = now.long;
    rest = now.rest;
    same = now.same ∙ runs_more π some-ticks rows _ _ fit (length cues₀) (take fired cues) here w (blocked_none π rows _ _ (length cues₀) (take fired cues) here e) q
        ∙ ap (λ l. runs (length cues₀) l w) (ap (λ l. take fired cues ++ l) e ∙ append-nil (take fired cues));
  }

  pub no_cue_over : cue_of (view_at rows here.row) ≡ [] → (e : Ending) (i : ℕ) (s : State) (c : TurnCounts) → step_of π rows here ≡ over e i s c
      → runs (length cues₀) [] start ≡ record { stand = stops_here here e i s c; cues = take fired cues }
  no_cue_over z e i s c q = now.same ∙ runs_over π some-ticks rows _ _ fit (length cues₀) (take fired cues) here e i s c (blocked_none π rows _ _ (length cues₀) (take fired cues) here z) q

  -- a cue
  module _ (n : ℕ) (inside : here.row < length rows) (v : view_at rows here.row ≡ is_plain (cue n)) where
    the_cue : cue_of (view_at rows here.row) ≡ n ∷ []
    unfolding cue_of
    the_cue = ap cue_of v

    pub dear_over : here.now.left < π.cue → (e : Ending) (i : ℕ) (s : State) (c : TurnCounts) → step_of π rows here ≡ over e i s c
        → runs (length cues₀) [] start ≡ record { stand = stops_here here e i s c; cues = take fired cues }
    dear_over l e i s c q = now.same ∙ runs_over π some-ticks rows _ _ fit (length cues₀) (take fired cues) here e i s c (blocked_dear π rows _ _ (length cues₀) (take fired cues) here l) q

    pub cue_on : fired < length cues₀ → (w : Place) → step_of π rows here ≡ more w → Firing π rows start w cues₀ (set cues fired n) (suc fired)
    cue_on l w q = record {
      few = l;
      long = length-set cues fired n ∙ now.long;
      rest = drop-set-lt (suc fired) cues fired n (omega arith) ∙ rest_more cues ∙ ap (drop 1) now.rest ∙ sym (rest_more cues₀);
      same = now.same ∙ runs_more π some-ticks rows _ _ fit (length cues₀) (take fired cues) here w (blocked_room π rows _ _ (length cues₀) (take fired cues) here (omega (arith, taken))) q
          ∙ ap (λ l. runs (length cues₀) l w) (ap (λ l. take fired cues ++ l) the_cue ∙ sym put);
    }
      where
        rest_more : (l : List ℕ) → drop (suc fired) l ≡ drop 1 (drop fired l)
        rest_more l = ap (λ k. drop k l) (sym (add-one fired)) ∙ sym (drop-drop 1 fired l)

        put : take (suc fired) (set cues fired n) ≡ take fired cues ++ (n ∷ [])
        put =
            let k : fired < length cues = omega (arith, now.long) in
            take-suc (set cues fired n) fired 0 (omega (arith, length-set cues fired n))
            ∙ (λ i. take-set-le fired cues fired n (omega arith) i ++ (get_or-set_same cues fired n 0 k i ∷ []))

    pub cue_full : length cues₀ ≤ fired → π.cue ≤ here.now.left → runs (length cues₀) [] start ≡ record { stand = full here; cues = take fired cues }
    cue_full l k = now.same ∙ runs_full π some-ticks rows _ _ fit (length cues₀) (take fired cues) here
        (blocked_full π rows _ _ (length cues₀) (take fired cues) here (subst (λ z. 1 ≤ length z) (sym the_cue) (omega arith)) (omega (arith, taken)) k)

-- where it has stopped
pub record Stopped (π : Prices) (rows : List RowKind) (start : Place) (cues₀ cues : List ℕ) (fired : ℕ) (stand : Stand) : Type 0 where
  pub few : fired ≤ length cues₀
  pub long : length cues ≡ length cues₀
  pub rest : drop fired cues ≡ drop fired cues₀
  pub stop : runs_on π rows (pairs rows (length rows)).end (pairs rows (length rows)).head (length cues₀) [] start ≡ record { stand = stand; cues = take fired cues }

pub stopped_at_lem : {π : Prices} {rows : List RowKind} {start here : Place} {cues₀ cues : List ℕ} {fired : ℕ} {stand : Stand} → Firing π rows start here cues₀ cues fired
    → runs_on π rows (pairs rows (length rows)).end (pairs rows (length rows)).head (length cues₀) [] start ≡ record { stand = stand; cues = take fired cues }
    → Stopped π rows start cues₀ cues fired stand
stopped_at_lem f e = record { few = f.few; long = f.long; rest = f.rest; stop = e }

-- a row and what has been done with its cue
module _ (π : Prices) (some-ticks : 1 ≤ π.test) {text t : List ℕ} {count vars : ℕ} (s : Runs text t count vars)
    (fit : Partners (script_in text t count) (pairs (script_in text t count) (length (script_in text t count))).end (pairs (script_in text t count) (length (script_in text t count))).head)
    (start : Place) (m : Machine) (store : List ℤ) (picks : List ℕ) (counts : List (List ℕ)) (inside : m.row < count)
    (cues₀ cues cues' : List ℕ) (fired r : ℕ) (b : Bool) (now : Firing π (script_in text t count) start (place_in (script_in text t count) m store picks counts) cues₀ cues fired)
    {listed : Bool} (is : listed ≡ true) (put : CuePut listed t π.cue m cues cues' fired r b) where
  abbrev rows : List RowKind
  rows = script_in text t count

  abbrev here : Place
  here = place_in rows m store picks counts

  in_rows : m.row < length rows
  in_rows = subst (λ n. m.row < n) (sym (size_is s)) inside

  pub row_on : b ≡ false → (w : Place) → step_of π rows here ≡ more w → Firing π rows start w cues₀ cues' r
  row_on l w q = by put
    where
      by : CuePut listed t π.cue m cues cues' fired r b → Firing π rows start w cues₀ cues' r
      by (no_cue f e _ c) = rw (e, c) (no_cue_on π some-ticks rows fit start here cues₀ cues fired now (no_cue_view s m.row inside f) w q)
      by (unlisted z e _ c) = no_true (sym z ∙ is)
      by (dear o k e _ c) = absurd (cue_dear π rows _ _ here _ in_rows (cue_view s m.row inside o) k w q)
      by (last o k f e _ c) = rw (e, c) (cue_on π some-ticks rows fit start here cues₀ cues fired now _ in_rows (cue_view s m.row inside o) (omega (arith, now.long)) w q)
      by (no_room _ o k f e c) = no_true (sym l ∙ e)

  pub row_over : b ≡ false → (e : Ending) (i : ℕ) (u : State) (c : TurnCounts) → step_of π rows here ≡ over e i u c → Stopped π rows start cues₀ cues' r (stops_here here e i u c)
  row_over l e i u c q = by put
    where
      by : CuePut listed t π.cue m cues cues' fired r b → Stopped π rows start cues₀ cues' r (stops_here here e i u c)
      by (no_cue f x _ y) = rw (x, y) (stopped_at_lem now (no_cue_over π some-ticks rows fit start here cues₀ cues fired now (no_cue_view s m.row inside f) e i u c q))
      by (unlisted z x _ y) = no_true (sym z ∙ is)
      by (dear o k x _ y) = rw (x, y) (stopped_at_lem now (dear_over π some-ticks rows fit start here cues₀ cues fired now _ in_rows (cue_view s m.row inside o) k e i u c q))
      by (last o k f x _ y) = absurd (cue_fits π rows _ _ here _ in_rows (cue_view s m.row inside o) k e i u c q)
      by (no_room _ o k f x y) = no_true (sym l ∙ x)

  pub row_full : b ≡ true → Stopped π rows start cues₀ cues' fired (full here)
  row_full l = by put
    where
      by : CuePut listed t π.cue m cues cues' fired r b → Stopped π rows start cues₀ cues' fired (full here)
      by (no_cue f x z y) = no_true (sym z ∙ l)
      by (unlisted z x _ y) = no_true (sym z ∙ is)
      by (dear o k x z y) = no_true (sym z ∙ l)
      by (last o k f x z y) = no_true (sym z ∙ l)
      by (no_room _ o k f x y) = rw y (stopped_at_lem now (cue_full π some-ticks rows fit start here cues₀ cues fired now _ in_rows (cue_view s m.row inside o) (omega (arith, now.long)) k))

-- what is done with a cue keeps the list's length, and puts no more into it than it has room for
pub put_keeps : {listed : Bool} {t : List ℕ} {price : ℕ} {m : Machine} (cues cues' : List ℕ) {fired n : ℕ} {b : Bool} → CuePut listed t price m cues cues' fired n b
    → (length cues' ≡ length cues) × (b ≡ false → fired ≤ length cues → n ≤ length cues)
put_keeps cues cues' (no_cue f e _ c) = (ap length c, λ _ k. omega (arith, e, k))
put_keeps cues cues' (unlisted z e _ c) = (ap length c, λ _ k. omega (arith, e, k))
put_keeps cues cues' (dear o l e _ c) = (ap length c, λ _ k. omega (arith, e, k))
put_keeps cues cues' (last o l f e _ c) = (ap length c ∙ length-set cues _ _, λ _ k. omega (arith, e, f))
put_keeps cues cues' (no_room _ o l f e c) = (ap length c, λ z k. no_true (sym z ∙ e))

-- and finds it full only where cues are listed
pub full_listed : {listed : Bool} {t : List ℕ} {price : ℕ} {m : Machine} {cues cues' : List ℕ} {fired n : ℕ} {b : Bool} → CuePut listed t price m cues cues' fired n b → b ≡ true → listed ≡ true
full_listed (no_cue f e z c) q = no_true (sym z ∙ q)
full_listed (unlisted y e z c) q = no_true (sym z ∙ q)
full_listed (dear o l e z c) q = no_true (sym z ∙ q)
full_listed (last o l f e z c) q = no_true (sym z ∙ q)
full_listed (no_room y o l f e c) q = y

-- a machine that is over stands where the step says: spent, it waits where it stood
pub stood : (π : Prices) (rows : List RowKind) (here : Place) (r : Machine) (store : List ℤ) (picks : List ℕ) (c : TurnCounts) (e : Ending) (i : ℕ)
    → step_of π rows here ≡ over e i (state_of r store picks) c → (e ≡ Spent → (r.row ≡ here.row) × (phase_of r.testing ≡ here.phase))
    → stops_here here e i (state_of r store picks) c ≡ stops_here (place_of r store picks c) e i (state_of r store picks) c
unfolding stops_here
stood π rows here r store picks c Ended i q f = refl
stood π rows here r store picks c Ending.Range i q f = refl
stood π rows here r store picks c NoPick i q f = refl
stood π rows here r store picks c Spent i q f =
    let (a, b) = f refl in
    let (x, y, _) = waits_next π rows _ _ here i _ _ q in
    λ k. going (record { row = sym a k; phase = sym b k; now = sym x k; tally = sym y k })

-- and its next price is the one that did not fit
pub spent_at : (π : Prices) (rows : List RowKind) (here : Place) (r : Machine) (store : List ℤ) (picks : List ℕ) (c : TurnCounts) (i : ℕ)
    → step_of π rows here ≡ over Spent i (state_of r store picks) c → (r.row ≡ here.row) × (phase_of r.testing ≡ here.phase)
    → row_of_next (step_of π rows (place_of r store picks c)) ≡ i
unfolding row_of_next
spent_at π rows here r store picks c i q (a, b) =
    let (x, y, _) = waits_next π rows _ _ here i _ _ q in
    ap row_of_next (subst (λ p. step_of π rows p ≡ over Spent i (state_of r store picks) c) (λ k. record { row = sym a k; phase = sym b k; now = sym x k; tally = sym y k }) q)

-- the answer
module _ (π : Prices) (rows : List RowKind) (m₀ : Machine) (store₀ store : List ℤ) (picks : List ℕ) (counts₀ counts : List (List ℕ)) (cues₀ cues : List ℕ) where
  abbrev first : Place
  first = place_in rows m₀ store₀ picks counts₀

  stop_is : (r : Stop') (m : Machine) (fired : ℕ) (b : Bool) → (r.machine ≡ m) × (r.fired ≡ fired) × (r.full ≡ b) → record { machine = m; fired = fired; full = b } ≡ r
  stop_is r m fired b (x, y, z) = λ i. record { machine = sym x i; fired = sym y i; full = sym z i }

  pub went_over : (r : Stop') (m : Machine) (fired : ℕ) → (r.machine ≡ m) × (r.fired ≡ fired) × (r.full ≡ false)
      → Stopped π rows first cues₀ cues fired (stood_by false m.status m store picks (tally_of (loop_rows 0 rows) counts))
      → ((i : ℕ) → m.status ≡ Over Spent i → row_of_next (step_of π rows (place_in rows m store picks counts)) ≡ i)
      → WentOn π rows m₀ m store₀ store picks counts₀ counts → WentLive π rows m₀ r store₀ store picks counts₀ counts cues₀ cues
  went_over r m fired e s sp w = subst (λ z. WentLive π rows m₀ z store₀ store picks counts₀ counts cues₀ cues) (stop_is r m fired false e) (record {
    stop = s.stop;
    over = λ _. w.over;
    few = s.few;
    rest = s.rest;
    long = s.long;
    before_cue = λ z. no_true z;
    waits = w.waits;
    spent = sp;
    left = w.left;
    used = w.used;
    room = w.room;
  })

  pub went_full : (r : Stop') (m : Machine) (fired : ℕ) → (r.machine ≡ m) × (r.fired ≡ fired) × (r.full ≡ true)
      → Stopped π rows first cues₀ cues fired (full (place_in rows m store picks counts)) → m.testing ≡ false → (k : ℕ) → m.status ≡ Over Ended k → m.left ≤ m₀.left → m.used ≤ length picks → Room rows counts
      → WentLive π rows m₀ r store₀ store picks counts₀ counts cues₀ cues
  went_full r m fired e s b k g l u room = subst (λ z. WentLive π rows m₀ z store₀ store picks counts₀ counts cues₀ cues) (stop_is r m fired true e) (record {
    stop = s.stop;
    over = λ z. no_true (sym z);
    few = s.few;
    rest = s.rest;
    long = s.long;
    before_cue = λ _. b;
    waits = λ i q _. absurd (let z : Over Ended k ≡ Over Spent i = sym g ∙ q in let y : ◌≡◌ {A = ℕ} 0 1 = cc in omega arith);
    spent = λ i q. absurd (let z : Over Ended k ≡ Over Spent i = sym g ∙ q in let y : ◌≡◌ {A = ℕ} 0 1 = cc in omega arith);
    left = l;
    used = u;
    room = room;
  })

-- ---- one step of the loop
pub fit_of : {text t : List ℕ} {count vars : ℕ} → Runs text t count vars
    → Partners (script_in text t count) (pairs (script_in text t count) (length (script_in text t count))).end (pairs (script_in text t count) (length (script_in text t count))).head
fit_of {text} {t} {count} s = let (n, closed) = s.runs.closed in let (tree, whole) = tree_of_lem (script_in text t count) n closed in partners (script_in text t count) tree whole

-- it goes on from there, or is over there
abbrev pub AfterStep : Prices → List RowKind → Place → List ℕ → List ℕ → ℕ → Machine → List ℤ → List ℕ → TurnCounts → Status → Type 0
AfterStep π rows start cues₀ l n r store picks c Going = Firing π rows start (place_of r store picks c) cues₀ l n
AfterStep π rows start cues₀ l n r store picks c (Over e i) =
    Stopped π rows start cues₀ l n (stops_here (place_of r store picks c) e i (state_of r store picks) c) × (e ≡ Spent → row_of_next (step_of π rows (place_of r store picks c)) ≡ i)

module _ (π : Prices) (rows : List RowKind) (start : Place) (cues₀ l : List ℕ) (n : ℕ) (r : Machine) (store : List ℤ) (picks : List ℕ) (c : TurnCounts) where
  pub after_going : (z : Status) → is_going z ≡ true → AfterStep π rows start cues₀ l n r store picks c z → Firing π rows start (place_of r store picks c) cues₀ l n
  after_going Going e a = a
  after_going (Over x i) e a = no_true e

  pub after_over : (z : Status) → is_going z ≡ false → AfterStep π rows start cues₀ l n r store picks c z → Stopped π rows start cues₀ l n (stood_by false z r store picks c)
  after_over Going e a = no_true (sym e)
  after_over (Over x i) e a = a.0

  pub after_spent : (z : Status) → AfterStep π rows start cues₀ l n r store picks c z → (i : ℕ) → z ≡ Over Spent i → row_of_next (step_of π rows (place_of r store picks c)) ≡ i
  after_spent Going a i e = absurd (let y : ◌≡◌ {A = ℕ} 0 1 = cc in omega arith)
  after_spent (Over x j) a i e = let p : x ≡ Spent = cc in let q : j ≡ i = cc in a.1 p ∙ q

module _ {text : List ℕ} (π : Prices) (some-ticks : 1 ≤ π.test) (t : List ℕ) (count : ℕ) (picks : List ℕ) (start : Place) (m : Machine) (store : List ℤ) (counts : List (List ℕ))
    (s : Runs text t count (length store)) (cues₀ cues : List ℕ) (fired : ℕ)
    (now : Firing π (script_in text t count) start (place_in (script_in text t count) m store picks counts) cues₀ cues fired)
    (r : Machine) (store' : List ℤ) (counts' : List (List ℕ)) (done : Stepped π (script_in text t count) m r store store' picks counts counts') where
  abbrev rows' : List RowKind
  rows' = script_in text t count

  abbrev from : Place
  from = place_in rows' m store picks counts

  abbrev Outcome : List ℕ → ℕ → Status → Type 0
  Outcome l n z = AfterStep π rows' start cues₀ l n r store' picks (tally_of (loop_rows 0 rows') counts') z

  step_is : (z : Status) → r.status ≡ z → step_of π rows' from ≡ by_status z r store' picks (tally_of (loop_rows 0 rows') counts')
  step_is z e = sym done.acts.same ∙ ap (λ x. by_status x r store' picks (tally_of (loop_rows 0 rows') counts')) e

  stands : (e : Ending) (i : ℕ) → r.status ≡ Over e i
      → stops_here from e i (state_of r store' picks) (tally_of (loop_rows 0 rows') counts')
      ≡ stops_here (place_of r store' picks (tally_of (loop_rows 0 rows') counts')) e i (state_of r store' picks) (tally_of (loop_rows 0 rows') counts')
  stands e i q = stood π rows' from r store' picks _ e i (step_is (Over e i) q) (λ z. let (a, b) = done.acts.rests i (q ∙ ap (λ x. Over x i) z) in (a, ap phase_of b))

  spends : (e : Ending) (i : ℕ) → r.status ≡ Over e i → e ≡ Spent → row_of_next (step_of π rows' (place_of r store' picks (tally_of (loop_rows 0 rows') counts'))) ≡ i
  spends e i q s =
      let (a, b) = done.acts.rests i (q ∙ ap (λ x. Over x i) s) in
      spent_at π rows' from r store' picks _ i (step_is (Over e i) q ∙ ap (λ x. over x i (state_of r store' picks) (tally_of (loop_rows 0 rows') counts')) s) (a, ap phase_of b)

  pub test_fires : view_at rows' m.row ≡ is_end → (z : Status) → r.status ≡ z → Outcome cues fired z
  unfolding cue_of
  test_fires v Going q = no_cue_on π some-ticks rows' (fit_of s) start from cues₀ cues fired now (ap cue_of v) _ (step_is Going q)
  test_fires v (Over e i) q =
      (stopped_at_lem now (no_cue_over π some-ticks rows' (fit_of s) start from cues₀ cues fired now (ap cue_of v) e i _ _ (step_is (Over e i) q) ∙ ap (λ x. record { stand = x; cues = take fired cues }) (stands e i q)), spends e i q)

  pub row_fires : m.row < count → (cues' : List ℕ) (n : ℕ) (b : Bool) {listed : Bool} → listed ≡ true → CuePut listed t π.cue m cues cues' fired n b → b ≡ false → (z : Status) → r.status ≡ z → Outcome cues' n z
  row_fires l cues' n b is put k Going q = row_on π some-ticks s (fit_of s) start m store picks counts l cues₀ cues cues' fired n b now is put k _ (step_is Going q)
  row_fires l cues' n b is put k (Over e i) q =
      (subst (Stopped π rows' start cues₀ cues' n) (stands e i q) (row_over π some-ticks s (fit_of s) start m store picks counts l cues₀ cues cues' fired n b now is put k e i _ _ (step_is (Over e i) q)), spends e i q)

-- past the last row
pub past_fires : {text : List ℕ} (π : Prices) → 1 ≤ π.test → (t : List ℕ) (count : ℕ) (picks : List ℕ) (start : Place) (m : Machine) (store : List ℤ) (counts : List (List ℕ)) (vars : ℕ) → Runs text t count vars
    → (cues₀ cues : List ℕ) (fired : ℕ) → Firing π (script_in text t count) start (place_in (script_in text t count) m store picks counts) cues₀ cues fired → count ≤ m.row
    → Stopped π (script_in text t count) start cues₀ cues fired (stood_by false (Over Ended count) (over_at m m.left Ended count) store picks (tally_of (loop_rows 0 (script_in text t count)) counts))
unfolding stops_here cue_of view_of
past_fires {text} π some t count picks start m store counts vars s cues₀ cues fired now l =
    let rows = script_in text t count in
    let h : length rows ≤ m.row = omega (arith, size_is s) in
    let v : cue_of (view_at rows m.row) ≡ [] = ap (λ k. cue_of (view_of k)) (get_or-eq_default rows End {n = m.row} h) in
    stopped_at_lem now (no_cue_over π some rows (fit_of s) start _ cues₀ cues fired now v Ended count _ _
    (next_past π rows _ _ m.row _ _ _ h ∙ ap (λ k. over Ended k (state_of m store picks) (tally_of (loop_rows 0 rows) counts)) (size_is s)))
