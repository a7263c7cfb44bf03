-- Where the run of a script comes with so many ticks and these bytes, whatever ticks and bytes it has beyond them; and its cues so far.
use mathlib.Core.Path.{◌≡◌, refl, sym, ◌∙◌, ap, subst}
use mathlib.Core.Bool.{Bool, true, false, not, cond}
use mathlib.Core.List.{List, [], ◌∷◌, ◌++◌, append_assoc, append-nil}
use Prim.Native.Nat.{ℕ, zero, suc, ◌+◌, ◌-◌, ◌≤◌, ◌<◌}
use native.Mathlib.Omega.{arith}
use lib.Dec.{T, leb, ltb, eqb, le→leb, leb→le, lt→ltb, ltb→lt, nleb→lt}
use lib.IntN.{ℤ}
use lib.ListN.{length, length-append}
use Rattle.rules.specs.declared.Ending.{Ending}
use Rattle.rules.specs.declared.Ending.TheVariants.{Spent}
use Rattle.rules.specs.Values.{Store}
use Rattle.rules.specs.Blocks.{RowKind, view_at}
use Rattle.rules.specs.declared.Prices.{Prices}
use Rattle.rules.specs.Scripts.{Script, store_of}
use Rattle.rules.specs.Run.{State, Out}
use Rattle.rules.specs.Answers.{Answer}
use Rattle.rules.specs.Calls.{run_script}
use Rattle.rules.proofs.TreeOf.{tree_of_lem}
use Rattle.rules_machine.specs.RowMachine.{TurnCounts, Place, Next, more, over, paid, picked, next, steps, start, Partners, Finished, Replies, chosen}
use Rattle.rules_machine.proofs.RowMachineRuns.{row_run, steps_over, steps_add}
use Rattle.rules_frames.specs.Frames.{left_of}
use Rattle.rules_frames.proofs.Resumed.{step_more, steps_less}
use Rattle.rules_frames.proofs.FramesAsAlone.{fit, answered, ticks_most}
use Rattle.rules_live.specs.Cues.{cue_of, fired, cues_by, cues_to}
use Rattle.rules_live.specs.Live.{matching_end, matching_head, having}
use Rattle.rules_live.specs.LiveRuns.{StartAccepts}
use Rattle.rules_live.proofs.Acts.{state, Paid, moves, leaves, asks}

-- ---- cues, by the answers
module _ (rows : List RowKind) (answers : ℕ → Answer) where
  -- while the ticks stay there are no more
  pub cues_flat : (t x : ℕ) → ((y : ℕ) → y ≤ x → (answers (t + y)).ticks ≡ t) → cues_by rows answers (t + x) ≡ cues_by rows answers t
  unfolding cues_by fired
  cues_flat t zero f = let e : t + 0 ≡ t = omega arith in ap (cues_by rows answers) e
  cues_flat t (suc x) f =
      let e : t + suc x ≡ suc (t + x) = omega arith in
      let later : (answers (suc (t + x))).ticks ≡ t = ap (λ n. (answers n).ticks) (sym e) ∙ f (suc x) (omega arith) in
      ap (cues_by rows answers) e
      ∙ (λ k. cues_by rows answers (t + x) ++ none (ltb (answers (t + x)).ticks (answers (suc (t + x))).ticks) (ltb→lt _ _) (f x (omega arith)) later (cue_of (view_at rows (answers (t + x)).row)) k)
      ∙ append-nil _
      ∙ cues_flat t x (λ y l. f y (omega arith))
    where
      none : (b : Bool) {a c : ℕ} → (T b → a < c) → a ≡ t → c ≡ t → (l : List ℕ) → cond b l [] ≡ []
      none true h p q l = absurd (omega (arith, h tt))
      none false h p q l = refl

  -- then the row at which it was spent
  pub cues_fire : (t x : ℕ) → ((y : ℕ) → y ≤ x → (answers (t + y)).ticks ≡ t) → t < (answers (suc (t + x))).ticks
      → cues_by rows answers (suc (t + x)) ≡ cues_by rows answers t ++ cue_of (view_at rows (answers (t + x)).row)
  unfolding cues_by fired
  cues_fire t x f l =
      let more-ticks : (answers (t + x)).ticks < (answers (suc (t + x))).ticks = omega (arith, f x (omega arith)) in
      (λ k. cues_flat t x f k ++ fires (ltb (answers (t + x)).ticks (answers (suc (t + x))).ticks) (lt→ltb _ _ more-ticks) (cue_of (view_at rows (answers (t + x)).row)) k)
    where
      fires : (b : Bool) → T b → (l : List ℕ) → cond b l [] ≡ l
      fires true h l = refl
      fires false h l = absurd h

-- a price that fits is paid, one that does not is not
pub paid_fits : (p i : ℕ) (f : Store) (x : ℕ) (r : List ℕ) (c : TurnCounts) (k : State → Next) → p ≤ x → paid p i (state f x r) c k ≡ k (state f (x - p) r)
unfolding paid chosen
paid_fits p i f x r c k l = by (leb p x) (le→leb p x l)
  where
    by : (b : Bool) → T b → chosen b (k (state f (x - p) r)) (over Spent i (state f x r) c) ≡ k (state f (x - p) r)
    by true h = refl
    by false h = absurd h

pub paid_not : (p i : ℕ) (f : Store) (x : ℕ) (r : List ℕ) (c : TurnCounts) (k : State → Next) → x < p → paid p i (state f x r) c k ≡ over Spent i (state f x r) c
unfolding paid chosen
paid_not p i f x r c k l = by (leb p x) (leb→le p x)
  where
    by : (b : Bool) → (T b → p ≤ x) → chosen b (k (state f (x - p) r)) (over Spent i (state f x r) c) ≡ over Spent i (state f x r) c
    by true h = absurd (omega (arith, h tt))
    by false h = refl

-- a pick has no tick
pub picked_left : (i j : ℕ) (r : List ℕ) (f : Store) (c : TurnCounts) (l : List ℕ) → left_of (picked i j r (state f 0 l) c) ≡ 0
unfolding picked left_of chosen
picked_left i j [] f c l = refl
picked_left i j (b ∷ r) f c l = by (eqb b 0) _ _ refl refl
  where
    by : (b : Bool) (m w : Place) → m.now.left ≡ 0 → w.now.left ≡ 0 → left_of (chosen b (more m) (more w)) ≡ 0
    by true m w e d = e
    by false m w e d = d

-- the bytes before one of u and a last: all of u, or those before one of u
before : {A : Type 0} (u : List ℕ) (y : ℕ) (a : List ℕ) (x : ℕ) (r : List ℕ) → u ++ (y ∷ []) ≡ a ++ (x ∷ r) → (a ≡ u → A) → ((l : List ℕ) → u ≡ a ++ (x ∷ l) → A) → A
before [] y [] x r e f g = f refl
before [] y (z ∷ a) x r e f g = absurd (omega (arith, ap length e, length-append a (x ∷ r)))
before (w ∷ u) y [] x r e f g = g u (cc)
before (w ∷ u) y (z ∷ a) x r e f g = before u y a x r (cc) (λ same. f (cc)) (λ l same. g l (cc))

module _ (π : Prices) (script : Script) (store : List ℤ) (accepts : StartAccepts π script store) where
  abbrev pub rows : List RowKind
  rows = script.rows

  abbrev pub fits : Partners rows (matching_end script) (matching_head script)
  fits = fit π accepts.prices.test.some script accepts.script_accepted store accepts.inside []

  -- the start of the run with n ticks and these bytes, and its answer
  abbrev pub begins : ℕ → List ℕ → Next
  begins n picks = more (start (record { store = store_of store; left = n; picks = picks }))

  abbrev pub runs : List ℕ → ℕ → Answer
  runs picks n = run_script π script store picks n

  -- with t ticks and the bytes u it comes to a, and what it has beyond them is left
  pub record Comes (t : ℕ) (u : List ℕ) (a : ℕ → List ℕ → Next) : Type 0 where
    pub count : ℕ
    pub path : (x : ℕ) (r : List ℕ) → steps π rows (matching_end script) (matching_head script) count (begins (t + x) (u ++ r)) ≡ a x r

  pub comes_is : {t : ℕ} {u : List ℕ} {a b : ℕ → List ℕ → Next} → ((x : ℕ) (r : List ℕ) → a x r ≡ b x r) → Comes t u a → Comes t u b
  comes_is e h = record { count = h.count; path = λ x r. h.path x r ∙ e x r }

  -- one step more
  pub comes_next : {t : ℕ} {u : List ℕ} (m : Place) → Comes t u (λ x r. more (having m x r)) → Comes t u (λ x r. next π rows (matching_end script) (matching_head script) (having m x r))
  comes_next m h = record { count = suc h.count; path = λ x r. step_more π accepts.prices.test.some rows (matching_end script) (matching_head script) fits h.count _ _ (h.path x r) }

  -- p ticks more
  pub comes_paid : {t : ℕ} {u : List ℕ} (p i : ℕ) (f : Store) (c : TurnCounts) (k : State → Next) → Comes t u (λ x r. paid p i (state f x r) c k) → Comes (t + p) u (λ x r. k (state f x r))
  comes_paid {t} {u} p i f c k h = record {
    count = h.count;
    path = λ x r.
        let e : t + p + x ≡ t + (p + x) = omega arith in
        let rest : p + x - p ≡ x = omega arith in
        ap (λ n. steps π rows (matching_end script) (matching_head script) h.count (begins n (u ++ r))) e ∙ h.path (p + x) r ∙ paid_fits p i f (p + x) r c k (omega arith) ∙ ap (λ n. k (state f n r)) rest;
  }

  -- a byte more
  pub comes_byte : {t : ℕ} {u : List ℕ} {a : ℕ → List ℕ → Next} (b : ℕ) → Comes t u a → Comes t (u ++ (b ∷ [])) (λ x r. a x (b ∷ r))
  comes_byte {t} {u} b h = record {
    count = h.count;
    path = λ x r. ap (λ l. steps π rows (matching_end script) (matching_head script) h.count (begins (t + x) l)) (append_assoc u (b ∷ []) r) ∙ h.path x (b ∷ r);
  }

  -- where it has ended, it has the answer of the run
  pub comes_answer : {t : ℕ} {u : List ℕ} {a : ℕ → List ℕ → Next} → Comes t u a → (x : ℕ) (r : List ℕ) (e : Ending) (i : ℕ) (s : State) (c : TurnCounts) → a x r ≡ over e i s c
      → Replies (runs (u ++ r) (t + x)) (t + x) (u ++ r) e i s c
  comes_answer {t} {u} h x r e i s c q = answered π accepts.prices.test.some script accepts.script_accepted store accepts.inside (u ++ r) (t + x) h.count e i s c (h.path x r ∙ q)

  -- a run ends
  ran : (n : ℕ) (picks : List ℕ) → (k : ℕ) × (e : Ending) × (i : ℕ) × (s : State) × (c : TurnCounts) × (steps π rows (matching_end script) (matching_head script) k (begins n picks) ≡ over e i s c)
  ran n picks =
      let (tree, whole) = tree_of_lem rows _ accepts.script_accepted.legal.closed.1 in
      let (k, r, e, _, f) = row_run π accepts.prices.test.some rows (matching_end script) (matching_head script) fits tree whole (record { store = store_of store; left = n; picks = picks }) in
      by k r e f
    where
      by : (k : ℕ) (r : Next) → steps π rows (matching_end script) (matching_head script) k (begins n picks) ≡ r → {o : Out} → Finished (length rows) o r
          → (k : ℕ) × (e : Ending) × (i : ℕ) × (s : State) × (c : TurnCounts) × (steps π rows (matching_end script) (matching_head script) k (begins n picks) ≡ over e i s c)
      by k (more _) q {o = o} f = elim f [ ]
      by k (over e i s c) q f = (k, e, i, s, c, q)

  -- what has come to a place with no tick left has taken all
  pub comes_ticks : {n : ℕ} {u : List ℕ} {a : ℕ → List ℕ → Next} → Comes n u a → (r : List ℕ) → left_of (a 0 r) ≡ 0 → (runs (u ++ r) n).ticks ≡ n
  unfolding left_of
  comes_ticks {n} {u} {a} h r e =
      let (k, f, i, s, c, q) = ran n (u ++ r) in
      let none : n + 0 ≡ n = omega arith in
      let here : steps π rows (matching_end script) (matching_head script) h.count (begins n (u ++ r)) ≡ a 0 r
      = ap (λ n. steps π rows (matching_end script) (matching_head script) h.count (begins n (u ++ r))) (sym none) ∙ h.path 0 r in
      let swap : k + h.count ≡ h.count + k = omega arith in
      let last : over f i s c ≡ steps π rows (matching_end script) (matching_head script) k (a 0 r)
      = sym (steps_over π accepts.prices.test.some rows (matching_end script) (matching_head script) fits h.count f i s c)
      ∙ ap (steps π rows (matching_end script) (matching_head script) h.count) (sym q)
      ∙ sym (steps_add π accepts.prices.test.some rows (matching_end script) (matching_head script) fits k h.count _)
      ∙ ap (λ j. steps π rows (matching_end script) (matching_head script) j (begins n (u ++ r))) swap
      ∙ steps_add π accepts.prices.test.some rows (matching_end script) (matching_head script) fits h.count k _
      ∙ ap (steps π rows (matching_end script) (matching_head script) k) here in
      omega (
        arith,
        (answered π accepts.prices.test.some script accepts.script_accepted store accepts.inside (u ++ r) n k f i s c q).ticks,
        ap left_of last,
        steps_less π accepts.prices.test.some rows (matching_end script) (matching_head script) fits k (a 0 r),
        e,
      )

  -- the cues so far
  abbrev pub Cued : ℕ → List ℕ → List ℕ → Type 0
  Cued t u cues = (r : List ℕ) → cues_to π script store (u ++ r) t ≡ cues

  -- what is done for a price has taken all ticks up to it
  paid_left : (f : Store) (c : TurnCounts) (cues : List ℕ) (i : ℕ) (g : ℕ → List ℕ → Next) → Paid rows (matching_end script) f c cues i g → (r : List ℕ) → left_of (g 0 r) ≡ 0
  unfolding left_of
  paid_left f c cues i g (moves w z e) r = ap left_of (e 0 r)
  paid_left f c cues i g (leaves n e) r = ap left_of (e 0 r)
  paid_left f c cues i g (asks v n e) r = ap left_of (e 0 r) ∙ picked_left i _ r f c r

  -- below its price the run is spent there, and with it the row is done
  cued_paid : (t : ℕ) (u cues : List ℕ) (p i : ℕ) (f : Store) (c : TurnCounts) (k : State → Next) (of : List ℕ) → 1 ≤ p → Comes t u (λ x r. paid p i (state f x r) c k)
      → Paid rows (matching_end script) f c of i (λ x r. k (state f x r)) → Cued t u cues → Cued (t + p) u (cues ++ cue_of (view_at rows i))
  cued_paid t u cues zero i f c k of l h d e r = absurd (omega arith)
  cued_paid t u cues (suc p) i f c k of l h d e r =
      let same : t + suc p ≡ suc (t + p) = omega arith in
      let spent : (y : ℕ) → y ≤ p → Replies (runs (u ++ r) (t + y)) (t + y) (u ++ r) Spent i (state f y r) c
      = λ y l. comes_answer h y r Spent i (state f y r) c (paid_not (suc p) i f y r c k (omega arith)) in
      let all : (runs (u ++ r) (t + suc p)).ticks ≡ t + suc p = comes_ticks (comes_paid (suc p) i f c k h) r (paid_left f c of i _ d r) in
      ap (cues_by rows (runs (u ++ r))) same
      ∙ cues_fire rows (runs (u ++ r)) t p (λ y l. omega (arith, (spent y l).ticks)) (omega (arith, ap (λ n. (runs (u ++ r) n).ticks) same))
      ∙ (λ k. e r k ++ cue_of (view_at rows (sym (spent p (omega arith)).row k)))

  -- ---- what is known of a standing
  -- With t ticks and the bytes u the run comes to a and has these cues; without one of those bytes no run takes more than t ticks.
  pub record Stands (t : ℕ) (u cues : List ℕ) (a : ℕ → List ℕ → Next) : Type 0 where
    pub comes : Comes t u a
    pub cued : Cued t u cues
    pub asked : (b : List ℕ) (x : ℕ) (r : List ℕ) → u ≡ b ++ (x ∷ r) → (n : ℕ) → (runs b n).ticks ≤ t

  pub stands_is : {t : ℕ} {u cues : List ℕ} {a b : ℕ → List ℕ → Next} → ((x : ℕ) (r : List ℕ) → a x r ≡ b x r) → Stands t u cues a → Stands t u cues b
  stands_is e h = record { comes = comes_is e h.comes; cued = h.cued; asked = h.asked }

  -- before any tick
  pub stands_start : Stands 0 [] [] (λ x r. begins x r)
  unfolding steps cues_by
  stands_start = record {
    comes = record { count = 0; path = λ x r. let e : 0 + x ≡ x = omega arith in ap (λ n. begins n r) e };
    cued = λ r. refl;
    asked = λ b x r e. absurd (omega (arith, ap length e, length-append b (x ∷ r)));
  }

  pub stands_next : {t : ℕ} {u cues : List ℕ} (m : Place) → Stands t u cues (λ x r. more (having m x r)) → Stands t u cues (λ x r. next π rows (matching_end script) (matching_head script) (having m x r))
  stands_next m h = record { comes = comes_next m h.comes; cued = h.cued; asked = h.asked }

  pub stands_paid : {t : ℕ} {u cues : List ℕ} (p i : ℕ) (f : Store) (c : TurnCounts) (k : State → Next) (of : List ℕ) → 1 ≤ p
      → Paid rows (matching_end script) f c of i (λ x r. k (state f x r)) → Stands t u cues (λ x r. paid p i (state f x r) c k) → Stands (t + p) u (cues ++ cue_of (view_at rows i)) (λ x r. k (state f x r))
  stands_paid p i f c k of l d h = record {
    comes = comes_paid p i f c k h.comes;
    cued = cued_paid _ _ _ p i f c k of l h.comes d h.cued;
    asked = λ b x r e n. omega (arith, h.asked b x r e n);
  }

  -- no run with the bytes u alone takes more than t ticks where a byte is asked for
  ask_ticks : {t : ℕ} {u : List ℕ} (i j : ℕ) (f : Store) (c : TurnCounts) → Comes t u (λ x r. picked i j r (state f x r) c) → (n : ℕ) → (runs u n).ticks ≤ t
  unfolding picked
  ask_ticks {t} {u} i j f c h n = by (leb n t) (leb→le n t) (nleb→lt n t)
    where
      by : (b : Bool) → (T b → n ≤ t) → (T (not b) → t < n) → (runs u n).ticks ≤ t
      by true l g = omega (arith, l tt, ticks_most π accepts.prices.test.some script accepts.script_accepted store accepts.inside u n)
      by false l g =
          let e : n ≡ t + (n - t) = omega (arith, g tt) in
          let a = comes_answer h (n - t) [] _ i (state f (n - t) []) c refl in
          omega (arith, a.ticks, ap (λ k. (runs u k).ticks) e, ap (λ l. (runs l (t + (n - t))).ticks) (append-nil u))

  pub stands_byte : {t : ℕ} {u cues : List ℕ} (i j : ℕ) (f : Store) (c : TurnCounts) (b : ℕ) → Stands t u cues (λ x r. picked i j r (state f x r) c)
      → Stands t (u ++ (b ∷ [])) cues (λ x r. picked i j (b ∷ r) (state f x (b ∷ r)) c)
  stands_byte {t} {u} i j f c b h = record {
    comes = comes_byte b h.comes;
    cued = λ r. ap (λ l. cues_to π script store l t) (append_assoc u (b ∷ []) r) ∙ h.cued (b ∷ r);
    asked = λ a x r e n. before u b a x r e (λ same. subst (λ l. (runs l n).ticks ≤ t) (sym same) (ask_ticks i j f c h.comes n)) (λ l same. h.asked a x l same n);
  }
