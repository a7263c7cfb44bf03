-- What holds of every place that a step comes to, and so of every state that it writes: a test is due at the end of a loop alone, rows that are no loops
-- have no counts, every value is from −L to L, and variables that the script has not are 0. Assumes nothing.
use mathlib.Core.Path.{◌≡◌, refl, sym, ◌∙◌, ap, subst}
use mathlib.Core.Bool.{Bool, true, false, cond}
use mathlib.Core.List.{List, [], ◌∷◌}
use Prim.Native.Nat.{ℕ, zero, suc, ◌≤◌, ◌<◌, max}
use native.Mathlib.Omega.{arith}
use lib.Dec.{T, leb, ltb, eqb, eqb→eq}
use lib.IntN.{ℤ, pos}
use lib.ListN.{length}
use borrow.Author.Tests.{ltb-true}
use Rattle.rules.specs.declared.Ending.{Ending}
use Rattle.rules.specs.declared.Ending.TheVariants.{Ended, Spent, NoPick}
use Rattle.rules.specs.declared.Prices.{Prices}
use Rattle.rules.specs.Values.{Store, put, Result, number, past, in_limits}
use Rattle.rules.specs.Blocks.{RowKind, Set, Move, Cue, Pick, Else, End, While, Do, For, Hold, Off, Form, Last, Test, Plain, assign, cue, while, do_while, hold, for, no_step, step_by, View, is_plain, is_pick, is_else, is_end, is_loop, view_of, view_at, Block, build, parts, to_end}
use Rattle.rules.specs.Calls.{is_loop_row}
use Rattle.rules.specs.Run.{State, holds, exec}
use Rattle.rules.specs.Scripts.{All, some, RowBelow}
use Rattle.rules.proofs.Outcomes.{decide_elim}
use Rattle.rules.proofs.Rows.{block_loop}
use Rattle.rules_machine.specs.RowMachine.{TurnCounts, begin, turn, Phase, fresh, testing, Place, Next, more, over, to, chosen, outcome, paid, picked, tests, on_end, on_row, next, Opens, pairs}
use Rattle.rules_machine.proofs.PairsIn.{partners}
use Rattle.rules_frames.proofs.Resumed.{wrote, acted, exec_paid}
use Rattle.rules_live.proofs.Acts.{state}

-- ---- what holds
-- the row of an ending: past the last one, or at a row
abbrev pub EndRow : ℕ → Ending → ℕ → Type 0
EndRow R Ended i = i ≡ R
EndRow R Ending.Range i = i < R
EndRow R Spent i = Unit {0}
EndRow R NoPick i = Unit {0}

module _ (vars : ℕ) (rows : List RowKind) (matching_head_lem : ℕ → ℕ) where
  -- a loop ends at row e
  pub record LoopEnd (e : ℕ) : Type 0 where
    pub row : e < length rows
    pub end : view_at rows e ≡ is_end
    pub loop : is_loop_row (view_at rows (matching_head_lem e)) ≡ true

  -- rows that are no loops have no counts
  pub record NoCounts (c : TurnCounts) : Type 0 where
    pub turns : (p : ℕ) → is_loop_row (view_at rows p) ≡ false → c.turns p ≡ 0
    pub sum : (p : ℕ) → is_loop_row (view_at rows p) ≡ false → c.sum p ≡ 0
    pub most : (p : ℕ) → is_loop_row (view_at rows p) ≡ false → c.most p ≡ 0

  -- every value is from −L to L, and those past the last variable are 0
  pub record Limited (f : Store) : Type 0 where
    pub within : (w : ℕ) → T (in_limits (f w))
    pub beyond : (w : ℕ) → vars ≤ w → f w ≡ pos 0

  -- a place
  pub record PlaceFits (m : Place) : Type 0 where
    pub test : m.phase ≡ testing → LoopEnd m.row
    pub counts : NoCounts m.tally
    pub store : Limited m.now.store

  -- a step's outcome
  pub data NextFits : Next → Type 0 where
    on : {m : Place} → PlaceFits m → NextFits (more m)
    off : {e : Ending} {i : ℕ} {s : State} {c : TurnCounts} → EndRow (length rows) e i → NoCounts c → Limited s.store → NextFits (over e i s c)

  -- ---- counts
  begins : (h : ℕ) (c : TurnCounts) → NoCounts c → NoCounts (begin h c)
  unfolding begin
  begins h c z = record { turns = λ p e. by (eqb p h) (z.turns p e); sum = z.sum; most = z.most }
    where
      by : {n : ℕ} (b : Bool) → n ≡ 0 → cond b 0 n ≡ 0
      by true e = refl
      by false e = e

  turns : (h : ℕ) (c : TurnCounts) → is_loop_row (view_at rows h) ≡ true → NoCounts c → NoCounts (turn h c)
  unfolding turn
  turns h c l z = record {
    turns = λ p e. by p e (suc (c.turns h)) (eqb p h) (eqb→eq p h) (z.turns p e);
    sum = λ p e. by p e (suc (c.sum h)) (eqb p h) (eqb→eq p h) (z.sum p e);
    most = λ p e. by p e (max (c.most h) (suc (c.turns h))) (eqb p h) (eqb→eq p h) (z.most p e);
  }
    where
      by : (p : ℕ) → is_loop_row (view_at rows p) ≡ false → (x : ℕ) {n : ℕ} (b : Bool) → (T b → p ≡ h) → n ≡ 0 → cond b x n ≡ 0
      by p e x true f k = absurd (let z : ◌≡◌ {A = Bool} true false = sym l ∙ ap (λ i. is_loop_row (view_at rows i)) (sym (f tt)) ∙ e in let y : ◌≡◌ {A = ℕ} 0 1 = ap (λ b. cond b 0 1) z in omega arith)
      by p e x false f k = k

  -- ---- the steps of a row
  fits_to : (j : ℕ) (s : State) (c : TurnCounts) → NoCounts c → Limited s.store → NextFits (to j fresh s c)
  fits_to j s c z k = on {m = record { row = j; phase = fresh; now = s; tally = c }} (record { test = λ e. absurd (let z : ◌≡◌ {A = ℕ} 0 1 = cc in omega arith); counts = z; store = k })

  fits_test : (j : ℕ) (s : State) (c : TurnCounts) → LoopEnd j → NoCounts c → Limited s.store → NextFits (to j testing s c)
  fits_test j s c l z k = on {m = record { row = j; phase = testing; now = s; tally = c }} (record { test = λ _. l; counts = z; store = k })

  fits_chosen : (b : Bool) {x y : Next} → (T b → NextFits x) → NextFits y → NextFits (chosen b x y)
  unfolding chosen
  fits_chosen true f g = f tt
  fits_chosen false f g = g

  fits_paid : (p i : ℕ) (s : State) (c : TurnCounts) (k : State → Next) → NoCounts c → Limited s.store
      → ((x : ℕ) → NextFits (k (state s.store x s.picks))) → NextFits (paid p i s c k)
  unfolding paid
  fits_paid p i s c k z l f = fits_chosen (leb p s.left) (λ _. f _) (off tt z l)

  pub fits_picked : (i j : ℕ) (l : List ℕ) (s : State) (c : TurnCounts) → NoCounts c → Limited s.store → NextFits (picked i j l s c)
  unfolding picked
  fits_picked i j [] s c z k = off tt z k
  fits_picked i j (b ∷ bs) s c z k = fits_chosen (eqb b 0) (λ _. fits_to _ _ c z k) (fits_to _ _ c z k)

  -- a variable of the script gets a value from −L to L
  limited_put : (f : Store) (v : ℕ) (y : ℤ) → v < vars → T (in_limits y) → Limited f → Limited (put f v y)
  limited_put f v y l h k = record { within = λ w. by (f w) (eqb w v) (k.within w); beyond = λ w g. past_it w (eqb w v) (eqb→eq w v) g (k.beyond w g) }
    where
      by : (x : ℤ) (b : Bool) → T (in_limits x) → T (in_limits (cond b y x))
      by x true g = h
      by x false g = g

      past_it : (w : ℕ) {x : ℤ} (b : Bool) → (T b → w ≡ v) → vars ≤ w → x ≡ pos 0 → cond b y x ≡ pos 0
      past_it w true g n e = absurd (omega (arith, g tt))
      past_it w false g n e = e

  -- a plain row's work at row i, then k
  abbrev Below : Plain → Type 0
  Below (assign v x) = v < vars
  Below (cue n) = Unit {0}

  fits_wrote : (i v : ℕ) (y : Result) (c : TurnCounts) (k : State → Next) (s : State) → i < length rows → v < vars → NoCounts c → Limited s.store
      → ((u : State) → Limited u.store → NextFits (k u)) → NextFits (wrote i v y c k s)
  unfolding wrote
  fits_wrote i v (number y) c k s l b z h f = fits_chosen (in_limits y) (λ t. f _ (limited_put s.store v y b t h)) (off l z h)
  fits_wrote i v past c k s l b z h f = off l z h

  fits_acted : (i : ℕ) (p : Plain) (c : TurnCounts) (k : State → Next) (s : State) → i < length rows → Below p → NoCounts c → Limited s.store
      → ((u : State) → Limited u.store → NextFits (k u)) → NextFits (acted i p c k s)
  unfolding acted
  fits_acted i (assign v x) c k s l b z h f = fits_wrote i v _ c k s l b z h f
  fits_acted i (cue n) c k s l b z h f = f s h

  fits_plain : (π : Prices) (i : ℕ) (p : Plain) (s : State) (c : TurnCounts) (k : State → Next) → i < length rows → Below p → NoCounts c → Limited s.store
      → ((u : State) → Limited u.store → NextFits (k u)) → NextFits (outcome (exec π i p s) c k)
  fits_plain π i p s c k l b z h f = subst NextFits (sym (exec_paid π i p s c k)) (fits_paid _ i s c _ z h (λ x. fits_acted i p c k _ l b z h f))

-- the variables that a row gives a value
abbrev LastBelow : ℕ → List RowKind → (ℕ → ℕ) → Last → Type 0
LastBelow vars rows mh no_step = Unit {0}
LastBelow vars rows mh (step_by p) = Below vars rows mh p

abbrev ViewBelow : ℕ → List RowKind → (ℕ → ℕ) → View → Type 0
ViewBelow vars rows mh (is_plain p) = Below vars rows mh p
ViewBelow vars rows mh is_pick = Unit {0}
ViewBelow vars rows mh is_else = Unit {0}
ViewBelow vars rows mh is_end = Unit {0}
ViewBelow vars rows mh (is_loop form t last) = (t.tested < vars) × LastBelow vars rows mh last

kind_below : (vars : ℕ) (rows : List RowKind) (mh : ℕ → ℕ) (k : RowKind) → RowBelow vars k → ViewBelow vars rows mh (view_of k)
unfolding view_of
kind_below vars rows mh (Set v x) (l, _) = l
kind_below vars rows mh (Move v c) l = l
kind_below vars rows mh (Off v w c k) (l, _) = l
kind_below vars rows mh (Cue n) l = tt
kind_below vars rows mh Pick l = tt
kind_below vars rows mh Else l = tt
kind_below vars rows mh End l = tt
kind_below vars rows mh (While v c x) (l, _) = (l, tt)
kind_below vars rows mh (Do v c x) (l, _) = (l, tt)
kind_below vars rows mh (For v s c x d) (l, _, _) = (l, l)
kind_below vars rows mh (Hold v) l = (l, tt)

view_below : (vars : ℕ) (rows : List RowKind) (mh : ℕ → ℕ) (ks : List RowKind) → All (RowBelow vars) ks → (i : ℕ) → ViewBelow vars rows mh (view_at ks i)
unfolding view_of
view_below vars rows mh [] h i = tt
view_below vars rows mh (k ∷ ks) (some h t) zero = kind_below vars rows mh k h
view_below vars rows mh (k ∷ ks) (some h t) (suc i) = view_below vars rows mh ks t i

-- a loop is at a row
pub loop_row : (rows : List RowKind) (i : ℕ) → is_loop_row (view_at rows i) ≡ true → i < length rows
unfolding view_of is_loop_row
loop_row [] i e = absurd (let y : ◌≡◌ {A = ℕ} 1 0 = ap (λ b. cond b 0 1) e in omega arith)
loop_row (k ∷ ks) zero e = omega arith
loop_row (k ∷ ks) (suc i) e = let l = loop_row ks i e in omega arith

module _ (π : Prices) (vars : ℕ) (rows : List RowKind) (below : All (RowBelow vars) rows) (tree : Block) (whole : build 0 rows ≡ parts (to_end (length rows) tree) []) where
  abbrev matching_end_lem : ℕ → ℕ
  matching_end_lem = (pairs rows (length rows)).end

  abbrev matching_head_lem : ℕ → ℕ
  matching_head_lem = (pairs rows (length rows)).head

  abbrev Fits : Next → Type 0
  Fits = NextFits vars rows matching_head_lem

  ends_loop_lem : (i : ℕ) → i < length rows → {form : Form} {t : Test} {last : Last} → view_at rows i ≡ is_loop form t last → LoopEnd vars rows matching_head_lem (matching_end_lem i)
  unfolding is_loop_row
  ends_loop_lem i l {form} {t} {last} w =
      let fit = partners rows tree whole in
      let at = block_loop rows tree whole i l form t last w in
      let open-it : Opens (view_at rows i) = subst Opens (sym w) tt in
      subst (LoopEnd vars rows matching_head_lem) (sym (fit.matching_ends i l open-it)) (record { row = at.in_rows; end = at.ends; loop = rw (fit.opens i l open-it, w) })

  by_tests : (h e : ℕ) (t : Test) (s : State) (c : TurnCounts) → is_loop_row (view_at rows h) ≡ true → NoCounts vars rows matching_head_lem c → Limited vars rows matching_head_lem s.store → Fits (tests π h e t s c)
  unfolding tests
  by_tests h e t s c w z k =
      fits_paid vars rows matching_head_lem _ h s c _ z k λ n. decide_elim Fits (holds t s.store)
      (λ _. fits_to vars rows matching_head_lem _ _ _ (turns vars rows matching_head_lem h c w z) k) (λ _. fits_to vars rows matching_head_lem _ _ _ z k) (off (loop_row rows h w) z k)

  by_end : (w : View) (e : ℕ) → e < length rows → view_at rows e ≡ is_end → view_at rows (matching_head_lem e) ≡ w → ViewBelow vars rows matching_head_lem w → (ph : Phase) (s : State) (c : TurnCounts)
      → NoCounts vars rows matching_head_lem c → Limited vars rows matching_head_lem s.store → Fits (on_end π rows matching_end_lem matching_head_lem w (matching_head_lem e) e ph s c)
  unfolding on_end is_loop_row
  by_end (is_plain p) e l a b v ph s c z k = fits_to vars rows matching_head_lem _ s c z k
  by_end is_pick e l a b v ph s c z k = fits_to vars rows matching_head_lem _ s c z k
  by_end is_else e l a b v ph s c z k = fits_to vars rows matching_head_lem _ s c z k
  by_end is_end e l a b v ph s c z k = fits_to vars rows matching_head_lem _ s c z k
  by_end (is_loop form t last) e l a b v testing s c z k = by_tests _ e t s c (rw b) z k
  by_end (is_loop form t no_step) e l a b v fresh s c z k = fits_test vars rows matching_head_lem e s c (record { row = l; end = a; loop = rw b }) z k
  by_end (is_loop form t (step_by p)) e l a b (v, u) fresh s c z k =
      fits_plain vars rows matching_head_lem π _ p s c _ (loop_row rows _ (rw b)) u z k (λ x y. fits_test vars rows matching_head_lem e x c (record { row = l; end = a; loop = rw b }) z y)

  by_row : (w : View) (i : ℕ) → i < length rows → view_at rows i ≡ w → ViewBelow vars rows matching_head_lem w → (ph : Phase) (s : State) (c : TurnCounts)
      → NoCounts vars rows matching_head_lem c → Limited vars rows matching_head_lem s.store → Fits (on_row π rows matching_end_lem matching_head_lem w i ph s c)
  unfolding on_row is_loop_row
  by_row (is_plain p) i l a v ph s c z k = fits_plain vars rows matching_head_lem π i p s c _ l v z k (λ u y. fits_to vars rows matching_head_lem _ u c z y)
  by_row is_pick i l a v ph s c z k = fits_paid vars rows matching_head_lem _ i s c _ z k λ n. fits_picked vars rows matching_head_lem i _ s.picks _ c z k
  by_row is_else i l a v ph s c z k = fits_to vars rows matching_head_lem _ s c z k
  by_row is_end i l a v ph s c z k = by_end _ i l a refl (view_below vars rows matching_head_lem rows below _) ph s c z k
  by_row (is_loop while t last) i l a v ph s c z k = fits_test vars rows matching_head_lem _ s _ (ends_loop_lem i l a) (begins vars rows matching_head_lem i c z) k
  by_row (is_loop hold t last) i l a v ph s c z k = fits_test vars rows matching_head_lem _ s _ (ends_loop_lem i l a) (begins vars rows matching_head_lem i c z) k
  by_row (is_loop do_while t last) i l a v ph s c z k =
      fits_to vars rows matching_head_lem _ s _ (turns vars rows matching_head_lem i _ (rw a) (begins vars rows matching_head_lem i c z)) k
  by_row (is_loop (for x) t last) i l a (v, u) ph s c z k =
      fits_plain vars rows matching_head_lem π i _ s c _ l v z k (λ y n. fits_test vars rows matching_head_lem _ y _ (ends_loop_lem i l a) (begins vars rows matching_head_lem i c z) n)

  pub next_fits : (m : Place) → PlaceFits vars rows matching_head_lem m → Fits (next π rows matching_end_lem matching_head_lem m)
  unfolding next chosen
  next_fits m h = by (ltb m.row (length rows)) refl
    where
      by : (b : Bool) → ltb m.row (length rows) ≡ b
          → Fits (chosen b (on_row π rows matching_end_lem matching_head_lem (view_at rows m.row) m.row m.phase m.now m.tally) (over Ended (length rows) m.now m.tally))
      by true e = by_row _ m.row (ltb-true _ _ e) refl (view_below vars rows matching_head_lem rows below _) m.phase m.now m.tally h.counts h.store
      by false e = off refl h.counts h.store
