-- One step of the machine as it depends on the ticks that are left and on the bytes to come: free, or for a price, whatever these are.
use mathlib.Core.Path.{◌≡◌, refl, ap}
use mathlib.Core.Bool.{Bool, true, false, not, cond}
use mathlib.Core.List.{List, []}
use Prim.Native.Nat.{ℕ, suc, ◌≤◌, max}
use native.Mathlib.Omega.{arith}
use lib.Dec.{T, ltb, eqb, nltb→le}
use lib.ListN.{length, get_or-eq_default}
use Rattle.rules.specs.declared.Ending.TheVariants.{Ended}
use Rattle.rules.specs.declared.Ending.{Ending}
use Rattle.rules.specs.Values.{Store, in_limits, Result, number, past, Tried, passes, fails, beyond}
use Rattle.rules.specs.Blocks.{RowKind, View, is_plain, is_pick, is_else, is_end, is_loop, view_of, view_at, End, while, do_while, hold, for, no_step, step_by, assign, cue, Test}
use Rattle.rules.specs.declared.Prices.{Prices}
use Rattle.rules.specs.Bounds.{FinePrices}
use Rattle.rules.specs.Figures.{price}
use Rattle.rules.specs.Run.{State, exec, holds}
use Rattle.rules_machine.specs.RowMachine.{TurnCounts, begin, turn, Phase, fresh, testing, Place, Next, more, over, to, outcome, paid, picked, tests, on_end, on_row, next, chosen, decide}
use Rattle.rules_frames.specs.InTime.{dearest}
use Rattle.rules_frames.proofs.Resumed.{wrote, acted, exec_paid, price_most}
use Rattle.rules_live.specs.Cues.{cue_of}
use Rattle.rules_live.specs.Live.{having}

-- the turns of the current entry are no more than the most in one entry
pub data Fitted (c : TurnCounts) : Type 0 where
  fitted : ((p : ℕ) → c.turns p ≤ c.most p) → Fitted c

fitted_begin : (h : ℕ) (c : TurnCounts) → Fitted c → Fitted (begin h c)
unfolding begin
fitted_begin h c (fitted f) = fitted λ p. by (eqb p h) (f p)
  where
    by : {n k : ℕ} (b : Bool) → n ≤ k → cond b 0 n ≤ k
    by true l = omega arith
    by false l = l

fitted_turn : (h : ℕ) (c : TurnCounts) → Fitted c → Fitted (turn h c)
unfolding turn
fitted_turn h c (fitted f) = fitted λ p. by (eqb p h) (f p)
  where
    by : {n k : ℕ} (b : Bool) → n ≤ k → cond b (suc (c.turns h)) n ≤ cond b (max (c.most h) (suc (c.turns h))) k
    by true l = omega arith
    by false l = l

-- a state of this store
abbrev pub state : Store → ℕ → List ℕ → State
state f x r = record { store = f; left = x; picks = r }

module _ (rows : List RowKind) (matching_end_lem : ℕ → ℕ) (f : Store) (c : TurnCounts) (cues : List ℕ) (i : ℕ) where
  -- What is done at row i once the price is paid: it goes on, it ends out of range, or it asks for a byte. The last two are no cue.
  pub data Paid (g : ℕ → List ℕ → Next) : Type 0 where
    moves : (w : Place) → (Fitted c → Fitted w.tally) → ((x : ℕ) (r : List ℕ) → g x r ≡ more (having w x r)) → Paid g
    leaves : cues ≡ [] → ((x : ℕ) (r : List ℕ) → g x r ≡ over Ending.Range i (state f x r) c) → Paid g
    asks : view_at rows i ≡ is_pick → cues ≡ [] → ((x : ℕ) (r : List ℕ) → g x r ≡ picked i (suc (matching_end_lem i)) r (state f x r) c) → Paid g

  paid_chosen : (b : Bool) {g h : ℕ → List ℕ → Next} → Paid g → Paid h → Paid (λ x r. chosen b (g x r) (h x r))
  unfolding chosen
  paid_chosen true h k = h
  paid_chosen false h k = k

  paid_decide : (t : Tried) {g h k : ℕ → List ℕ → Next} → Paid g → Paid h → Paid k → Paid (λ x r. decide t (g x r) (h x r) (k x r))
  unfolding decide
  paid_decide passes u v w = u
  paid_decide fails u v w = v
  paid_decide beyond u v w = w

  -- to another row with the counts d
  module _ (j : ℕ) (ph : Phase) (d : TurnCounts) (z : (Fitted c → Fitted d)) where
    paid_to : (e : Store) → Paid (λ x r. to j ph (state e x r) d)
    paid_to e = moves (record { row = j; phase = ph; now = state e 0 []; tally = d }) z (λ x r. refl)

    paid_wrote : cues ≡ [] → (v : ℕ) (y : Result) → Paid (λ x r. wrote i v y c (λ u. to j ph u d) (state f x r))
    unfolding wrote
    paid_wrote no_cue v (number y) = paid_chosen (in_limits y) (paid_to _) (leaves no_cue (λ x r. refl))
    paid_wrote no_cue v past = leaves no_cue (λ x r. refl)

module _ (π : Prices) (fine : FinePrices π) (rows : List RowKind) (matching_end_lem matching_head_lem : ℕ → ℕ) where
  module _ (f : Store) (c : TurnCounts) (row : ℕ) (cues : List ℕ) where
    -- A step at this row, of this cue if it is one: it is free, it ends the run past the last row, or it has a price p at row i.
    pub data Act (g : ℕ → List ℕ → Next) : Type 0 where
      free : cues ≡ [] → (w : Place) → (Fitted c → Fitted w.tally) → ((x : ℕ) (r : List ℕ) → g x r ≡ more (having w x r)) → Act g
      ends : cues ≡ [] → ((x : ℕ) (r : List ℕ) → g x r ≡ over Ended (length rows) (state f x r) c) → Act g
      priced : (p i : ℕ) (k : State → Next) → 1 ≤ p → p ≤ dearest π → cue_of (view_at rows i) ≡ cues → (1 ≤ length cues → (p ≡ π.cue) × (i ≡ row))
          → Paid rows matching_end_lem f c cues i (λ x r. k (state f x r)) → ((x : ℕ) (r : List ℕ) → g x r ≡ paid p i (state f x r) c k) → Act g

    act_to : cues ≡ [] → (j : ℕ) (ph : Phase) (d : TurnCounts) → (Fitted c → Fitted d) → Act (λ x r. to j ph (state f x r) d)
    act_to no_cue j ph d z = free no_cue (record { row = j; phase = ph; now = state f 0 []; tally = d }) z (λ x r. refl)

  -- no cue is at a row that has none
  none_cue : {A : Type 0} → 1 ≤ length {A = ℕ} [] → A
  none_cue l = absurd (omega arith)

  act_assign : (f : Store) (c : TurnCounts) (row i v : ℕ) (y : _) (j : ℕ) (ph : Phase) (d : TurnCounts) → (Fitted c → Fitted d) → cue_of (view_at rows i) ≡ []
      → Act f c row [] (λ x r. outcome (exec π i (assign v y) (state f x r)) c (λ u. to j ph u d))
  unfolding acted price
  act_assign f c row i v y j ph d z e =
      priced π.arithmetic i _ fine.arithmetic.some (price_most π 0 (assign v y)) e none_cue (paid_wrote rows matching_end_lem f c [] i j ph d z refl v _)
      (λ x r. exec_paid π i (assign v y) (state f x r) c _)

  act_tests : (f : Store) (c : TurnCounts) (row h e : ℕ) (t : Test) → cue_of (view_at rows h) ≡ [] → Act f c row [] (λ x r. tests π h e t (state f x r) c)
  unfolding tests
  act_tests f c row h e t q =
      priced π.test h _ fine.test.some (omega arith) q none_cue
      (paid_decide rows matching_end_lem f c [] h (holds t f) (paid_to rows matching_end_lem f c [] h _ _ _ (fitted_turn h c) f) (paid_to rows matching_end_lem f c [] h _ _ _ (λ z. z) f)
      (leaves refl (λ x r. refl)))
      (λ x r. refl)

  act_cue : (f : Store) (c : TurnCounts) (row i n j : ℕ) (ph : Phase) (cues : List ℕ) → cue_of (view_at rows i) ≡ cues → (1 ≤ length cues → i ≡ row)
      → Act f c row cues (λ x r. outcome (exec π i (cue n) (state f x r)) c (λ u. to j ph u c))
  unfolding acted price
  act_cue f c row i n j ph cues e at =
      priced π.cue i _ fine.cue.some (price_most π 0 (cue n)) e (λ l. (refl, at l)) (paid_to rows matching_end_lem f c cues i j ph c (λ z. z) f)
      (λ x r. exec_paid π i (cue n) (state f x r) c _)

  act_end : (v : View) (f : Store) (c : TurnCounts) (row h : ℕ) (ph : Phase) → view_at rows h ≡ v
      → Act f c row [] (λ x r. on_end π rows matching_end_lem matching_head_lem v h row ph (state f x r) c)
  unfolding on_end cue_of
  act_end (is_plain p) f c row h ph q = act_to f c row [] refl _ _ c (λ z. z)
  act_end is_pick f c row h ph q = act_to f c row [] refl _ _ c (λ z. z)
  act_end is_else f c row h ph q = act_to f c row [] refl _ _ c (λ z. z)
  act_end is_end f c row h ph q = act_to f c row [] refl _ _ c (λ z. z)
  act_end (is_loop form t last) f c row h testing q = act_tests f c row h row t (ap cue_of q)
  act_end (is_loop form t no_step) f c row h fresh q = act_to f c row [] refl _ _ c (λ z. z)
  act_end (is_loop form t (step_by (assign v y))) f c row h fresh q = act_assign f c row h v y row testing c (λ z. z) (ap cue_of q)
  act_end (is_loop form t (step_by (cue n))) f c row h fresh q = act_cue f c row h n row testing [] (ap cue_of q) none_cue

  act_row : (v : View) (f : Store) (c : TurnCounts) (row : ℕ) (ph : Phase) → view_at rows row ≡ v
      → Act f c row (cue_of v) (λ x r. on_row π rows matching_end_lem matching_head_lem v row ph (state f x r) c)
  unfolding on_row cue_of
  act_row (is_plain (assign v y)) f c row ph q = act_assign f c row row v y _ _ c (λ z. z) (ap cue_of q)
  act_row (is_plain (cue n)) f c row ph q = act_cue f c row row n _ _ _ (ap cue_of q) (λ _. refl)
  act_row is_pick f c row ph q = priced π.pick row _ fine.pick.some (omega arith) (ap cue_of q) none_cue (asks q refl (λ x r. refl)) (λ x r. refl)
  act_row is_else f c row ph q = act_to f c row [] refl _ _ c (λ z. z)
  act_row is_end f c row ph q = act_end (view_at rows (matching_head_lem row)) f c row (matching_head_lem row) ph refl
  act_row (is_loop while t last) f c row ph q = act_to f c row [] refl _ _ _ (fitted_begin row c)
  act_row (is_loop hold t last) f c row ph q = act_to f c row [] refl _ _ _ (fitted_begin row c)
  act_row (is_loop do_while t last) f c row ph q = act_to f c row [] refl _ _ _ (λ z. fitted_turn row _ (fitted_begin row c z))
  act_row (is_loop (for x) t last) f c row ph q = act_assign f c row row _ _ _ testing _ (fitted_begin row c) (ap cue_of q)

  -- the next step at place m
  pub act_next : (m : Place) → Act m.now.store m.tally m.row (cue_of (view_at rows m.row)) (λ x r. next π rows matching_end_lem matching_head_lem (having m x r))
  unfolding next chosen view_of cue_of
  act_next m = by (ltb m.row (length rows)) (nltb→le m.row (length rows))
    where
      by : (b : Bool) → (T (not b) → length rows ≤ m.row) → Act m.now.store m.tally m.row (cue_of (view_at rows m.row))
          (λ x r. chosen b (on_row π rows matching_end_lem matching_head_lem (view_at rows m.row) m.row m.phase (state m.now.store x r) m.tally)
          (over Ended (length rows) (state m.now.store x r) m.tally))
      by true l = act_row (view_at rows m.row) _ _ m.row m.phase refl
      by false l = ends (ap (λ k. cue_of (view_of k)) (get_or-eq_default rows End {n = m.row} (l tt))) (λ x r. refl)
