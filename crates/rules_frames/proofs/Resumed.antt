-- The machine over the rows pauses: where it is spent it waits, and with more ticks it goes on as if it had had them from the start.
use mathlib.Core.Path.{◌≡◌, refl, sym, ◌∙◌, ap, subst, subst₂}
use mathlib.Core.Bool.{Bool, true, false, not, cond}
use mathlib.Core.List.{List, [], ◌∷◌}
use Prim.Native.Nat.{ℕ, zero, suc, ◌+◌, ◌-◌, ◌≤◌, ◌<◌}
use native.Mathlib.Omega.{arith}
use native.Mathlib.Nat.{le_refl}
use lib.Dec.{T, leb, ltb, eqb, nleb→lt, eqb→eq}
use lib.ListN.{length}
use Rattle.rules.specs.declared.Ending.{Ending}
use Rattle.rules.specs.declared.Ending.TheVariants.{Ended, Spent, NoPick}
use Rattle.rules.specs.Values.{put, in_limits, Result, number, past}
use Rattle.rules.specs.Blocks.{RowKind, View, is_plain, is_pick, is_else, is_end, is_loop, view_at, while, do_while, hold, for, no_step, step_by, from, Plain, assign, cue, Test}
use Rattle.rules.proofs.Outcomes.{decide_both}
use Rattle.rules.specs.declared.Prices.{Prices}
use Rattle.rules.specs.Figures.{price}
use Rattle.rules.specs.Run.{State, go, halt, choose, charge, write, result, exec, holds}
use Rattle.rules.specs.Claim.{Unspent}
use Rattle.rules_machine.specs.RowMachine.{TurnCounts, begin, turn, Phase, fresh, testing, Place, Next, more, over, to, outcome, paid, picked, tests, on_end, on_row, next, steps, Partners, rank, chosen}
use Rattle.rules_frames.specs.Frames.{stopped, onward, runs_on, given, left_of}
use Rattle.rules_frames.specs.InTime.{dearest, Resumed}
use Rattle.rules_machine.proofs.RunMore.{plus, fits_more, less_more}
use Rattle.rules_machine.proofs.RowMachineRuns.{falls_more, steps_over}

-- ---- one step, and the same step with d more ticks
-- what is written, or a result past ±L
unfoldable pub wrote : ℕ → ℕ → Result → TurnCounts → (State → Next) → State → Next
wrote i v (number y) c k t = chosen (in_limits y) (k (record { store = put t.store v y; left = t.left; picks = t.picks })) (over Ending.Range i t c)
wrote i v past c k t = over Ending.Range i t c

-- what a plain row, a for's start or step does once it is paid
unfoldable pub acted : ℕ → Plain → TurnCounts → (State → Next) → State → Next
acted i (assign v x) c k t = wrote i v (result x (t.store v) t.store) c k t
acted i (cue n) c k t = k t

pub exec_paid : (π : Prices) (i : ℕ) (p : Plain) (s : State) (c : TurnCounts) (k : State → Next) → outcome (exec π i p s) c k ≡ paid (price π p) i s c (acted i p c k)
unfolding outcome exec charge write choose paid acted wrote price
exec_paid π i (assign v x) s c k = by (leb π.arithmetic s.left) (result x (s.store v) s.store) _
  where
    at : (b : Bool) (t u : State) → outcome (choose b (go u []) (halt Ending.Range i t [])) c k ≡ chosen b (k u) (over Ending.Range i t c)
    at true t u = refl
    at false t u = refl

    by : (a : Bool) (r : Result) (t : State) → outcome (choose a (write i v r t) (halt Spent i s [])) c k ≡ chosen a (wrote i v r c k t) (over Spent i s c)
    by true (number y) t = at (in_limits y) t _
    by true past t = refl
    by false r t = refl
exec_paid π i (cue n) s c k = by (leb π.cue s.left) _
  where
    by : (a : Bool) (u : State) → outcome (choose a (go u []) (halt Spent i s [])) c k ≡ chosen a (k u) (over Spent i s c)
    by true u = refl
    by false u = refl

-- the counts c are at most n above b
pub data Above (n : ℕ) (b c : TurnCounts) : Type 0 where
  above : ((p : ℕ) → (c.turns p ≤ b.turns p + n) × (c.sum p ≤ b.sum p + n)) → Above n b c

pub above_same : (c : TurnCounts) → Above 0 c c
above_same c = above λ p. (omega arith, omega arith)

above_one : {b c : TurnCounts} → Above 0 b c → Above 1 b c
above_one (above f) = above λ p. let (x, y) = f p in (omega arith, omega arith)

pub above_above : {n m : ℕ} {a b c : TurnCounts} → Above n a b → Above m b c → Above (n + m) a c
above_above (above f) (above g) = above λ p. let (x, y) = f p in let (u, v) = g p in (omega arith, omega arith)

above_begin : (h : ℕ) (c : TurnCounts) → Above 0 c (begin h c)
unfolding begin
above_begin h c = above λ p. (by (eqb p h) (c.turns p), omega arith)
  where
    by : (b : Bool) (n : ℕ) → cond b 0 n ≤ n + 0
    by true n = omega arith
    by false n = omega arith

above_turn : (h : ℕ) {b c : TurnCounts} → Above 0 b c → Above 1 b (turn h c)
unfolding turn
above_turn h {b} {c} (above f) = above λ p.
    let (x, y) = f p in
    (by (eqb p h) (eqb→eq p h) c.turns (b.turns p) x, by (eqb p h) (eqb→eq p h) c.sum (b.sum p) y)
  where
    by : {p : ℕ} (b : Bool) → (T b → p ≡ h) → (g : ℕ → ℕ) (n : ℕ) → g p ≤ n + 0 → cond b (suc (g h)) (g p) ≤ n + 1
    by true e g n l = omega (arith, ap g (e tt))
    by false e g n l = omega arith

module _ (π : Prices) (d : ℕ) where
  -- from the state s and the counts c it goes on or ends, and so it does with d more ticks; or it waits, with less than a price
  data Step (s : State) (c : TurnCounts) : Next → Next → Type 0 where
    on : {m : Place} → m.now.left ≤ s.left → Above 1 c m.tally → Step s c (more m) (more (given d m))
    ends : {e : Ending} {i : ℕ} {t : State} → Unspent e → t.left ≤ s.left → Step s c (over e i t c) (over e i (plus d t) c)
    waits : {i : ℕ} {a : Next} → s.left < dearest π → Step s c (over Spent i s c) a

  step_chosen : {s : State} {c : TurnCounts} (t : Bool) {x y u v : Next} → Step s c x u → Step s c y v → Step s c (chosen t x y) (chosen t u v)
  unfolding chosen
  step_chosen true h k = h
  step_chosen false h k = k

  step_paid : (p i : ℕ) (s : State) (c : TurnCounts) (k : State → Next) → p ≤ dearest π
      → ((t : State) → t.left ≤ s.left → Step s c (k t) (k (plus d t))) → Step s c (paid p i s c k) (paid p i (plus d s) c k)
  unfolding paid chosen
  step_paid p i s c k h f = by (leb p s.left) (leb p (s.left + d)) (fits_more d p s.left) (less_more d p s.left) (nleb→lt p s.left)
    where
      rest : ℕ → State
      rest l = record { store = s.store; left = l; picks = s.picks }

      by : (u v : Bool) → (T u → T v) → (T u → s.left + d - p ≡ s.left - p + d) → (T (not u) → s.left < p)
          → Step s c (chosen u (k (rest (s.left - p))) (over Spent i s c)) (chosen v (k (rest (s.left + d - p))) (over Spent i (plus d s) c))
      by true true g e l = subst (λ n. Step s c (k (rest (s.left - p))) (k (rest n))) (sym (e tt)) (f _ (omega arith))
      by true false g e l = absurd (g tt)
      by false v g e l = waits (omega (arith, l tt))

  step_picked : (i j : ℕ) (l : List ℕ) (s t : State) (c : TurnCounts) → t.left ≤ s.left → Step s c (picked i j l t c) (picked i j l (plus d t) c)
  unfolding picked
  step_picked i j [] s t c h = ends tt h
  step_picked i j (x ∷ xs) s t c h = step_chosen (eqb x 0) (on h (above_one (above_same c))) (on h (above_one (above_same c)))

  step_tests : (h e : ℕ) (t : Test) (s : State) (c : TurnCounts) → Step s c (tests π h e t s c) (tests π h e t (plus d s) c)
  unfolding tests
  step_tests h e t s c =
      step_paid _ h s c _ (omega arith) λ u l. decide_both (Step s c) (holds t u.store) (on l (above_turn h (above_same c))) (on l (above_one (above_same c))) (ends tt l)

  -- the counts with which a row goes on
  module _ {c : TurnCounts} (x : TurnCounts) (z : Above 1 c x) where
    step_wrote : (i v : ℕ) (r : Result) (s t : State) (j : ℕ) (ph : Phase) → t.left ≤ s.left
        → Step s c (wrote i v r c (λ u. to j ph u x) t) (wrote i v r c (λ u. to j ph u x) (plus d t))
    unfolding wrote
    step_wrote i v (number y) s t j ph h = step_chosen (in_limits y) (on h z) (ends tt h)
    step_wrote i v past s t j ph h = ends tt h

    step_acted : (i : ℕ) (p : Plain) (s t : State) (j : ℕ) (ph : Phase) → t.left ≤ s.left
        → Step s c (acted i p c (λ u. to j ph u x) t) (acted i p c (λ u. to j ph u x) (plus d t))
    unfolding acted
    step_acted i (assign v y) s t j ph h = step_wrote i v _ s t j ph h
    step_acted i (cue n) s t j ph h = on h z

  pub price_most : (p : Plain) → price π p ≤ dearest π
  unfolding price
  price_most (assign v x) = omega arith
  price_most (cue n) = omega arith

  step_exec : (i : ℕ) (p : Plain) (s : State) {c : TurnCounts} (x : TurnCounts) (j : ℕ) (ph : Phase) → Above 1 c x
      → Step s c (outcome (exec π i p s) c (λ u. to j ph u x)) (outcome (exec π i p (plus d s)) c (λ u. to j ph u x))
  step_exec i p s {c} x j ph z =
      subst₂ (Step s c) (sym (exec_paid π i p s c _)) (sym (exec_paid π i p (plus d s) c _)) (step_paid (price π p) i s c _ (price_most p) λ t l. step_acted x z i p s t j ph l)

  -- to another row
  step_to : (j : ℕ) (ph : Phase) (s : State) {c x : TurnCounts} → Above 1 c x → Step s c (to j ph s x) (to j ph (plus d s) x)
  step_to j ph s z = on (le_refl _) z

  module _ (rows : List RowKind) (matching_end_lem matching_head_lem : ℕ → ℕ) where
    step_end : (r : View) (h e : ℕ) (ph : Phase) (s : State) (c : TurnCounts) → Step s c (on_end π rows matching_end_lem matching_head_lem r h e ph s c) (on_end π rows matching_end_lem matching_head_lem r h e ph (plus d s) c)
    unfolding on_end
    step_end (is_plain p) h e ph s c = step_to _ _ s (above_one (above_same c))
    step_end is_pick h e ph s c = step_to _ _ s (above_one (above_same c))
    step_end is_else h e ph s c = step_to _ _ s (above_one (above_same c))
    step_end is_end h e ph s c = step_to _ _ s (above_one (above_same c))
    step_end (is_loop form t last) h e testing s c = step_tests h e t s c
    step_end (is_loop form t no_step) h e fresh s c = step_to _ _ s (above_one (above_same c))
    step_end (is_loop form t (step_by p)) h e fresh s c = step_exec h p s c e testing (above_one (above_same c))

    step_row : (r : View) (i : ℕ) (ph : Phase) (s : State) (c : TurnCounts) → Step s c (on_row π rows matching_end_lem matching_head_lem r i ph s c) (on_row π rows matching_end_lem matching_head_lem r i ph (plus d s) c)
    unfolding on_row
    step_row (is_plain p) i ph s c = step_exec i p s c _ _ (above_one (above_same c))
    step_row is_pick i ph s c = step_paid _ i s c _ (omega arith) λ t l. step_picked i _ t.picks s t c l
    step_row is_else i ph s c = step_to _ _ s (above_one (above_same c))
    step_row is_end i ph s c = step_end (view_at rows (matching_head_lem i)) (matching_head_lem i) i ph s c
    step_row (is_loop while t last) i ph s c = step_to _ _ s (above_one (above_begin i c))
    step_row (is_loop hold t last) i ph s c = step_to _ _ s (above_one (above_begin i c))
    step_row (is_loop do_while t last) i ph s c = step_to _ _ s (above_turn i (above_begin i c))
    step_row (is_loop (for x) t last) i ph s c = step_exec i _ s (begin i c) _ testing (above_one (above_begin i c))

    step_next : (m : Place) → Step m.now m.tally (next π rows matching_end_lem matching_head_lem m) (next π rows matching_end_lem matching_head_lem (given d m))
    unfolding next
    step_next m = step_chosen (ltb m.row (length rows)) (step_row (view_at rows m.row) m.row m.phase m.now m.tally) (ends tt (omega arith))

module _ (π : Prices) (rows : List RowKind) (matching_end_lem matching_head_lem : ℕ → ℕ) where
  -- a place whose next price does not fit
  pub record Waits (m : Place) (i : ℕ) : Type 0 where
    pub stop : next π rows matching_end_lem matching_head_lem m ≡ over Spent i m.now m.tally
    pub carried : m.now.left < dearest π

  pub waits_next : (m : Place) (i : ℕ) (s : State) (c : TurnCounts) → next π rows matching_end_lem matching_head_lem m ≡ over Spent i s c → (s ≡ m.now) × (c ≡ m.tally) × Waits m i
  waits_next m i s c e =
      let (p, q, l) = spent (subst (λ x. Step π 0 m.now m.tally x (next π rows matching_end_lem matching_head_lem (given 0 m))) e (step_next π 0 rows matching_end_lem matching_head_lem m)) in
      (p, q, record { stop = e ∙ (λ k. over Spent i (p k) (q k)); carried = l })
    where
      spent : {s t : State} {c c' : TurnCounts} {y : Next} → Step π 0 s c (over Spent i t c') y → (t ≡ s) × (c' ≡ c) × (s.left < dearest π)
      spent (ends u l) = absurd u
      spent (waits l) = (refl, refl, l)

  -- a run that is over has the counts of its last place
  pub over_keeps : (m : Place) (e : Ending) (i : ℕ) (s : State) (c : TurnCounts) → next π rows matching_end_lem matching_head_lem m ≡ over e i s c → c ≡ m.tally
  over_keeps m e i s c q = by (subst (λ x. Step π 0 m.now m.tally x (next π rows matching_end_lem matching_head_lem (given 0 m))) q (step_next π 0 rows matching_end_lem matching_head_lem m))
    where
      by : {e : Ending} {i : ℕ} {s t : State} {b c : TurnCounts} {y : Next} → Step π 0 t b (over e i s c) y → c ≡ b
      by (ends u l) = refl
      by (waits l) = refl

-- ---- it runs until it finishes or waits
module _ (π : Prices) (some-ticks : 1 ≤ π.test) (rows : List RowKind) (matching_end_lem matching_head_lem : ℕ → ℕ) (fit : Partners rows matching_end_lem matching_head_lem) where
  -- what is reached is reached with d more ticks, and d more are left
  reached_more : (d n : ℕ) (m p : Place) → steps π rows matching_end_lem matching_head_lem n (more m) ≡ more p → steps π rows matching_end_lem matching_head_lem n (more (given d m)) ≡ more (given d p)
  unfolding steps
  reached_more d zero m p e = let same : m ≡ p = cc in ap (λ z. more (given d z)) same
  reached_more d (suc n) m p e = by (step_next π d rows matching_end_lem matching_head_lem m) e (λ w. reached_more d n w p)
    where
      by : {s : State} {c : TurnCounts} {x y : Next} → Step π d s c x y → steps π rows matching_end_lem matching_head_lem n x ≡ more p
          → ((w : Place) → steps π rows matching_end_lem matching_head_lem n (more w) ≡ more p → steps π rows matching_end_lem matching_head_lem n (more (given d w)) ≡ more (given d p)) → steps π rows matching_end_lem matching_head_lem n y ≡ more (given d p)
      by (on {m = w} l z) e ih = ih w e
      by (ends {e = f} {i = i} {t = t} u l) e ih = absurd (let z : ◌≡◌ {A = ℕ} 0 1 = cc (steps_over π some-ticks rows matching_end_lem matching_head_lem fit n f i t _) in omega arith)
      by (waits {i = i} l) e ih = absurd (let z : ◌≡◌ {A = ℕ} 0 1 = cc (steps_over π some-ticks rows matching_end_lem matching_head_lem fit n Spent i _ _) in omega arith)

  -- no step gains ticks
  pub steps_less : (n : ℕ) (a : Next) → left_of (steps π rows matching_end_lem matching_head_lem n a) ≤ left_of a
  unfolding steps left_of
  steps_less zero a = omega arith
  steps_less (suc n) (more m) = omega (arith, steps_less n (next π rows matching_end_lem matching_head_lem m), by (step_next π 0 rows matching_end_lem matching_head_lem m))
    where
      by : {s : State} {c : TurnCounts} {x y : Next} → Step π 0 s c x y → left_of x ≤ s.left
      by (on l z) = l
      by (ends u l) = l
      by (waits l) = omega arith
  steps_less (suc n) (over e i s c) = omega arith

  -- no count rises by more than the rank falls
  pub steps_room : (n : ℕ) (m p : Place) → steps π rows matching_end_lem matching_head_lem n (more m) ≡ more p → (b : TurnCounts) (k : ℕ) → Above k b m.tally
      → (j : ℕ) × Above j b p.tally × (j + rank (length rows) p ≤ k + rank (length rows) m)
  unfolding steps
  steps_room zero m p e b k z =
      let same : m ≡ p = cc in
      subst (λ r. (j : ℕ) × Above j b r.tally × (j + rank (length rows) r ≤ k + rank (length rows) m)) same (k, z, omega arith)
  steps_room (suc n) m p e b k z = by (next π rows matching_end_lem matching_head_lem m) refl (step_next π 0 rows matching_end_lem matching_head_lem m) e (λ w r y. steps_room n w p r b (k + 1) y)
    where
      by : (x : Next) → next π rows matching_end_lem matching_head_lem m ≡ x → {s : State} {y : Next} → Step π 0 s m.tally x y → steps π rows matching_end_lem matching_head_lem n x ≡ more p
          → ((w : Place) → steps π rows matching_end_lem matching_head_lem n (more w) ≡ more p → Above (k + 1) b w.tally → (j : ℕ) × Above j b p.tally × (j + rank (length rows) p ≤ k + 1 + rank (length rows) w))
          → (j : ℕ) × Above j b p.tally × (j + rank (length rows) p ≤ k + rank (length rows) m)
      by (more w) q (on l y) e ih =
          let (_, f) = falls_more π some-ticks rows matching_end_lem matching_head_lem fit m w q in
          let (j, x, g) = ih w e (above_above z y) in
          (j, x, omega arith)
      by (over f i t c) q s e ih = absurd (let z : ◌≡◌ {A = ℕ} 0 1 = cc (steps_over π some-ticks rows matching_end_lem matching_head_lem fit n f i t c) in omega arith)

  -- from a on it ends so; or it waits there
  pub data Pauses (a : Next) : Next → Type 0 where
    finished : {e : Ending} {i : ℕ} {s : State} {c : TurnCounts} (n : ℕ) → steps π rows matching_end_lem matching_head_lem n a ≡ over e i s c → Unspent e → Pauses a (over e i s c)
    waiting : {m : Place} {i : ℕ} (n : ℕ) → steps π rows matching_end_lem matching_head_lem n a ≡ more m → Waits π rows matching_end_lem matching_head_lem m i → Pauses a (more m)

  -- one step more
  pub step_more : (n : ℕ) (a : Next) (m : Place) → steps π rows matching_end_lem matching_head_lem n a ≡ more m → steps π rows matching_end_lem matching_head_lem (suc n) a ≡ next π rows matching_end_lem matching_head_lem m
  unfolding steps
  step_more zero a m e = ap (steps π rows matching_end_lem matching_head_lem 1) e
  step_more (suc n) (more p) m e = step_more n (next π rows matching_end_lem matching_head_lem p) m e
  step_more (suc n) (over f i s c) m e = absurd (let z : ◌≡◌ {A = ℕ} 0 1 = cc in omega arith)

  stopped_pauses : (a : Next) (k : ℕ) (m : Place) → steps π rows matching_end_lem matching_head_lem k a ≡ more m → (e : Ending) (i : ℕ) (s : State) (c : TurnCounts)
      → next π rows matching_end_lem matching_head_lem m ≡ over e i s c → Pauses a (stopped m e i s c)
  unfolding stopped
  stopped_pauses a k m r Ended i s c q = finished (suc k) (step_more k a m r ∙ q) tt
  stopped_pauses a k m r Spent i s c q =
      let (p, l, w) = waits_next π rows matching_end_lem matching_head_lem m i s c q in
      subst (λ z. Pauses a (more z)) (λ k. record { row = m.row; phase = m.phase; now = sym p k; tally = sym l k }) (waiting k r w)
  stopped_pauses a k m r Ending.Range i s c q = finished (suc k) (step_more k a m r ∙ q) tt
  stopped_pauses a k m r NoPick i s c q = finished (suc k) (step_more k a m r ∙ q) tt

  onward_pauses : (a : Next) (n k : ℕ) (m : Place) → steps π rows matching_end_lem matching_head_lem k a ≡ more m → rank (length rows) m < n → (x : Next) → next π rows matching_end_lem matching_head_lem m ≡ x
      → Pauses a (onward π rows matching_end_lem matching_head_lem n m x)
  unfolding onward
  onward_pauses a zero k m r l x q = absurd (omega arith)
  onward_pauses a (suc n) k m r l (more p) q =
      let (_, f) = falls_more π some-ticks rows matching_end_lem matching_head_lem fit m p q in
      onward_pauses a n (suc k) p (step_more k a m r ∙ q) (omega arith) (next π rows matching_end_lem matching_head_lem p) refl
  onward_pauses a (suc n) k m r l (over e i s c) q = stopped_pauses a k m r e i s c q

  -- from a place that is reached, and from where it is
  runs_after : (a : Next) (k : ℕ) (m : Place) → steps π rows matching_end_lem matching_head_lem k a ≡ more m → Pauses a (runs_on π rows matching_end_lem matching_head_lem m)
  unfolding runs_on
  runs_after a k m r = onward_pauses a _ k m r (omega arith) (next π rows matching_end_lem matching_head_lem m) refl

  pub runs_on_lem : (m : Place) → Pauses (more m) (runs_on π rows matching_end_lem matching_head_lem m)
  unfolding steps
  runs_on_lem m = runs_after (more m) 0 m refl

  -- no ticks are gained on the way
  pub pauses_less : {a x : Next} → Pauses a x → left_of x ≤ left_of a
  unfolding left_of
  pauses_less {a} (finished n r u) = omega (arith, steps_less n a, ap left_of r)
  pauses_less {a} (waiting n r w) = omega (arith, steps_less n a, ap left_of r)

  -- Spent is a pause: what waits and gets d ticks more runs on as with d ticks more from the start.
  pub resumes : (m p : Place) (d : ℕ) → Pauses (more m) (more p) → Pauses (more (given d m)) (runs_on π rows matching_end_lem matching_head_lem (given d p))
  resumes m _ d (waiting {m = w} n r h) = runs_after (more (given d m)) n (given d w) (reached_more d n m w r)

  -- ---- it pauses in one way
  data Final : Next → Next → Type 0 where
    at_the_end : {e : Ending} {i : ℕ} {s : State} {c : TurnCounts} → Unspent e → Final (over e i s c) (over e i s c)
    at_wait : {m : Place} {i : ℕ} → Waits π rows matching_end_lem matching_head_lem m i → Final (more m) (more m)

  final_once : {a x y : Next} → Final a x → Final a y → x ≡ y
  final_once (at_the_end u) (at_the_end v) = refl
  final_once (at_wait w) (at_wait z) = refl

  -- no further step is final
  final_last : (n : ℕ) {a x y : Next} → Final a x → Final (steps π rows matching_end_lem matching_head_lem (suc n) a) y → x ≡ y
  unfolding steps
  final_last n (at_the_end u) g = final_once (at_the_end u) g
  final_last n {y = y} (at_wait {i = i} w) g = by (subst (λ z. Final z y) (ap (steps π rows matching_end_lem matching_head_lem n) w.stop ∙ steps_over π some-ticks rows matching_end_lem matching_head_lem fit n Spent i _ _) g)
    where
      by : {A : Type 0} {s : State} {c : TurnCounts} {y : Next} → Final (over Spent i s c) y → A
      by (at_the_end u) = absurd u

  final_steps : (n k : ℕ) (a : Next) {x y : Next} → Final (steps π rows matching_end_lem matching_head_lem n a) x → Final (steps π rows matching_end_lem matching_head_lem k a) y → x ≡ y
  unfolding steps
  final_steps zero zero a f g = final_once f g
  final_steps zero (suc k) a f g = final_last k f g
  final_steps (suc n) zero a f g = sym (final_last n g f)
  final_steps (suc n) (suc k) (more m) f g = final_steps n k (next π rows matching_end_lem matching_head_lem m) f g
  final_steps (suc n) (suc k) (over e i s c) f g = final_once f g

  final : {a x : Next} → Pauses a x → (n : ℕ) × Final (steps π rows matching_end_lem matching_head_lem n a) x
  final (finished n r u) = (n, rw r (at_the_end u))
  final (waiting n r w) = (n, rw r (at_wait w))

  pub pauses_once : {a x y : Next} → Pauses a x → Pauses a y → x ≡ y
  pauses_once {a} h k = final_steps (final h).0 (final k).0 a (final h).1 (final k).1

  -- for code: some steps to place m, and a last one from there
  pub runs_on_is : (k : ℕ) (m w : Place) (e : Ending) (i : ℕ) (s : State) (c : TurnCounts) → steps π rows matching_end_lem matching_head_lem k (more m) ≡ more w → next π rows matching_end_lem matching_head_lem w ≡ over e i s c
      → runs_on π rows matching_end_lem matching_head_lem m ≡ stopped w e i s c
  runs_on_is k m w e i s c r q = pauses_once (runs_on_lem m) (stopped_pauses (more m) k w r e i s c q)

pub resumed : Resumed
unfolding Resumed
resumed π one rows matching_end_lem matching_head_lem fit m p d e =
    pauses_once π one rows matching_end_lem matching_head_lem fit
    (resumes π one rows matching_end_lem matching_head_lem fit m p d (subst (Pauses π one rows matching_end_lem matching_head_lem fit (more m)) e (runs_on_lem π one rows matching_end_lem matching_head_lem fit m)))
    (runs_on_lem π one rows matching_end_lem matching_head_lem fit (given d m))
