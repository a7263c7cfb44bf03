-- A machine inside a loop stays in its rows until the loop's own test fails, and keeps every variable that the loop's body does not assign.
use mathlib.Core.Path.{◌≡◌, refl, sym, ◌∙◌, ap, subst}
use mathlib.Core.Bool.{Bool, true, false, not, ◌||◌}
use mathlib.Core.Logic.{◌⊎◌, inl, inr}
use mathlib.Core.List.{List, [], ◌∷◌}
use Prim.Native.Nat.{ℕ, suc, ◌≤◌, ◌<◌}
use native.Mathlib.Omega.{arith}
use lib.Dec.{T, leb, ltb, eqb}
use lib.ListN.{length}
use Rattle.ints.proofs.Diffs.{nor}
use Rattle.rules.specs.declared.Ending.{Ending}
use Rattle.rules.specs.declared.Prices.{Prices}
use Rattle.rules.specs.Blocks.{from, Plain, assign, Test, Form, while, do_while, hold, for, Last, no_step, step_by, View, is_plain, is_pick, is_else, is_end, is_loop, view_at, Block, done, plain, pick, loop, snoc, with_last, parts, to_end, build, block_at, end_at, RowKind}
use Rattle.rules.specs.Run.{State, Out, go, halt, exec, holds}
use Rattle.rules.specs.Steps.{sets, starts, assigns}
use Rattle.rules.specs.Values.{Tried}
use Rattle.rules_machine.specs.RowMachine.{TurnCounts, begin, turn, Phase, fresh, testing, Place, Next, more, over, to, chosen, outcome, paid, picked, tests, on_end, on_row, next, Opens, Partners, pairs}
use Rattle.rules.proofs.Outcomes.{Thru, went, ended, at, decide_elim, thru_pi}
use Rattle.rules.proofs.Rows.{LoopAt, PickAt, alone, both, block_plain, block_pick, block_loop}
use Rattle.rules.proofs.Steps.{exec_frame}
use Rattle.rules_machine.proofs.PairsIn.{partners}
use Rattle.rules_machine.proofs.Nested.{Inherited, Opener, Region, order, end_opener, else_opener, closes_before, inner_rows, each_block}

-- where a step goes, if it goes on
pub data Goes (Q : Place → Type 0) : Next → Type 0 where
  on : {p : Place} → Q p → Goes Q (more p)
  stops : {e : Ending} {i : ℕ} {s : State} {c : TurnCounts} → Goes Q (over e i s c)

pub goes_chosen : {Q : Place → Type 0} (b : Bool) {x y : Next} → Goes Q x → Goes Q y → Goes Q (chosen b x y)
unfolding chosen
goes_chosen true f g = f
goes_chosen false f g = g

pub goes_outcome : {Q : Place → Type 0} {R : State → Type 0} {o : Out} (c : TurnCounts) {k : State → Next} → Thru R o → ((u : State) → R u → Goes Q (k u)) → Goes Q (outcome o c k)
unfolding outcome
goes_outcome c (went {s = s} r) f = f s r
goes_outcome c ended f = stops

pub goes_paid : {Q : Place → Type 0} (p i : ℕ) (s : State) (c : TurnCounts) (k : State → Next) → ((m : ℕ) → Goes Q (k (at s m s.picks))) → Goes Q (paid p i s c k)
unfolding paid
goes_paid p i s c k f = goes_chosen (leb p s.left) (f _) stops

pub goes_picked : {Q : Place → Type 0} (i j : ℕ) (l : List ℕ) (s : State) (c : TurnCounts) → ((bs : List ℕ) → Goes Q (to j fresh (at s s.left bs) c))
    → ((bs : List ℕ) → Goes Q (to (suc i) fresh (at s s.left bs) c)) → Goes Q (picked i j l s c)
unfolding picked
goes_picked i j [] s c f g = stops
goes_picked i j (b ∷ bs) s c f g = goes_chosen (eqb b 0) (f bs) (g bs)

-- ---- what a block does not assign
none_of : (a b : Bool) → T (not a) → T (not b) → T (not (a || b))
none_of true b h k = h
none_of false b h k = k

snoc_assigns : (w : ℕ) (b : Block) (i : ℕ) (p : Plain) → T (not (assigns w (snoc b i p))) → T (not (assigns w b)) × T (not (sets w p))
unfolding assigns snoc
snoc_assigns w done i p h = (tt, (nor (sets w p) false h).0)
snoc_assigns w (plain j q rest) i p h =
    let (a, r) = nor (sets w q) _ h in
    let (x, y) = snoc_assigns w rest i p r in
    (none_of (sets w q) (assigns w rest) a x, y)
snoc_assigns w (pick j e a b rest) i p h =
    let (u, r) = nor (assigns w a || assigns w b) _ h in
    let (x, y) = snoc_assigns w rest i p r in
    (none_of (assigns w a || assigns w b) _ u x, y)
snoc_assigns w (loop j e form test body rest) i p h =
    let (u, r) = nor (starts w form test || assigns w body) _ h in
    let (x, y) = snoc_assigns w rest i p r in
    (none_of (starts w form test || assigns w body) _ u x, y)

-- the step row at the end of a loop's body
abbrev StepFree : ℕ → Last → Type 0
StepFree w no_step = Unit {0}
StepFree w (step_by p) = T (not (sets w p))

last_assigns : (w : ℕ) (last : Last) (i : ℕ) (b : Block) → T (not (assigns w (with_last last i b))) → T (not (assigns w b)) × StepFree w last
unfolding with_last
last_assigns w no_step i b h = (h, tt)
last_assigns w (step_by p) i b h = snoc_assigns w b i p h

unassigned : (w : ℕ) → Inherited (λ b. T (not (assigns w b)))
unfolding assigns
unassigned w = record {
  of_plain = λ i p rest h. (nor (sets w p) _ h).1;
  of_pick = λ i e a b rest h. let (x, z) = nor (assigns w a || assigns w b) _ h in let (u, v) = nor (assigns w a) _ x in (u, v, z);
  of_loop = λ i e form test last body rest h. let (x, z) = nor (starts w form test || assigns w (with_last last i body)) _ h in ((last_assigns w last i body (nor (starts w form test) _ x).1).0, z);
}

module _ (π : Prices) (rows : List RowKind) (tree : Block) (whole : build 0 rows ≡ parts (to_end (length rows) tree) [])
    (h : ℕ) (inside : h < length rows) (form : Form) (test : Test) (last : Last) (head : view_at rows h ≡ is_loop form test last) where
  -- the row that ends the loop, and what its body does not assign
  abbrev pub end : ℕ
  end = end_at rows (suc h)

  abbrev pub Free : ℕ → Type 0
  Free w = T (not (assigns w (with_last last h (block_at rows (suc h)))))

  -- a row of the loop after its head
  abbrev pub In : ℕ → Type 0
  In i = (h < i) × (i ≤ end)

  -- the free variables keep their values
  abbrev pub Kept : State → State → Type 0
  Kept s u = (w : ℕ) → Free w → u.store w ≡ s.store w

  -- a step in the loop from place m to p
  pub record Stays (m p : Place) : Type 0 where
    pub row : In p.row ⊎ ((m.phase ≡ testing) × (m.row ≡ end) × (p.row ≡ suc end))
    pub kept : Kept m.now p.now

  abbrev ends : ℕ → ℕ
  ends = (pairs rows (length rows)).end

  abbrev starts_at : ℕ → ℕ
  starts_at = (pairs rows (length rows)).head

  loop_here : LoopAt rows h form test last
  loop_here = block_loop rows tree whole h inside form test last head

  opens_here : Opens (view_at rows h)
  opens_here = subst Opens (sym head) tt

  -- the body's rows assign no free variable
  free_at : (w : ℕ) → Free w → (i : ℕ) → In i → T (not (assigns w (block_at rows i)))
  free_at w f i (l, m) =
      each_block rows tree whole (λ b. T (not (assigns w b))) (unassigned w) (suc h) end (inner_rows rows tree whole h inside opens_here) (last_assigns w last h _ f).0 i l m

  -- a plain row, a for's start or a for's step
  exec_keeps : (i : ℕ) (p : Plain) (s : State) → ((w : ℕ) → Free w → T (not (sets w p))) → Thru (Kept s) (exec π i p s)
  exec_keeps i p s f = thru_pi _ λ w. thru_pi _ λ x. exec_frame π i p w (s.store w) (f w x) s refl

  -- the end row of a loop in the loop, or its own
  loop_end : (k e : ℕ) (form' : Form) (test' : Test) (last' : Last) → view_at rows k ≡ is_loop form' test' last' → k < length rows → end_at rows (suc k) ≡ e → h < suc k → In e
      → (e < end) ⊎ (k ≡ h) → ((w : ℕ) → Free w → StepFree w last')
      → (m : Place) → m.row ≡ e → Goes (Stays m) (on_end π rows ends starts_at (is_loop form' test' last') k e m.phase m.now m.tally)
  unfolding on_end tests
  loop_end k e form' test' last' v b q l i own free m r = by m.phase refl last' free
    where
      after_turn : In (suc k)
      after_turn = (omega arith, omega (arith, (block_loop rows tree whole k b form' test' last' v).past))

      left : (m.phase ≡ testing) → In (suc e) ⊎ ((m.phase ≡ testing) × (m.row ≡ end) × (suc e ≡ suc end))
      left t = which own
        where
          which : (e < end) ⊎ (k ≡ h) → In (suc e) ⊎ ((m.phase ≡ testing) × (m.row ≡ end) × (suc e ≡ suc end))
          which (inl a) = inl (omega arith, omega arith)
          which (inr z) = let y : end ≡ e = ap (λ n. end_at rows (suc n)) (sym z) ∙ q in inr (t, r ∙ sym y, ap suc (sym y))

      by : (ph : Phase) → m.phase ≡ ph → (x : Last) → ((w : ℕ) → Free w → StepFree w x)
          → Goes (Stays m) (on_end π rows ends starts_at (is_loop form' test' x) k e ph m.now m.tally)
      by testing z x f = goes_paid _ k m.now m.tally _ λ n. decide_elim (Goes (Stays m)) (holds test' m.now.store)
          (λ _. on (record { row = inl after_turn; kept = λ w y. refl })) (λ _. on (record { row = left z; kept = λ w y. refl })) stops
      by fresh z no_step f = on (record { row = inl i; kept = λ w y. refl })
      by fresh z (step_by p) f = goes_outcome m.tally (exec_keeps k p m.now f) λ u y. on (record { row = inl i; kept = y })

  -- a loop in the loop assigns no free variable, its start and its step row included
  loop_free : (w : ℕ) → Free w → (k : ℕ) → k < length rows → In k → (form' : Form) (test' : Test) (last' : Last) → view_at rows k ≡ is_loop form' test' last'
      → T (not (starts w form' test')) × StepFree w last'
  unfolding assigns
  loop_free w f k b i form' test' last' q =
      let body : Block = with_last last' k (block_at rows (suc k)) in
      let z = subst (λ t. T (not (assigns w t))) (block_loop rows tree whole k b form' test' last' q).block (free_at w f k i) in
      let (x, y) = nor (starts w form' test') (assigns w body) (nor (starts w form' test' || assigns w body) _ z).0 in
      (x, (last_assigns w last' k _ y).1)

  -- the end of a block in the loop
  inner_end : (e : ℕ) → In e → e < end → (o : Opener rows tree whole e) → (v : View) → view_at rows o.row ≡ v → Opens v → (m : Place) → m.row ≡ e
      → Goes (Stays m) (on_end π rows ends starts_at v o.row e m.phase m.now m.tally)
  unfolding on_end
  inner_end e i l o (is_plain p) q x m r = absurd x
  inner_end e i l o is_pick q x m r = let a : In (suc e) = (omega arith, omega arith) in on (record { row = inl a; kept = λ w y. refl })
  inner_end e i l o is_else q x m r = let a : In (suc e) = (omega arith, omega arith) in on (record { row = inl a; kept = λ w y. refl })
  inner_end e i l o is_end q x m r = absurd x
  inner_end e i l o (is_loop form' test' last') q x m r =
      let b = (inner_rows rows tree whole h inside opens_here).begins e o i.0 l in
      let in_rows : o.row < length rows = omega (arith, o.before, loop_here.in_rows) in
      loop_end o.row e form' test' last' q in_rows o.closes (omega arith) i (inl l)
      (λ w f. (loop_free w f o.row in_rows (omega arith, omega (arith, o.before)) form' test' last' q).1) m r

  -- an end row of the loop
  end_stays : (e : ℕ) → In e → view_at rows e ≡ is_end → (m : Place) → m.row ≡ e
      → Goes (Stays m) (on_end π rows ends starts_at (view_at rows (starts_at e)) (starts_at e) e m.phase m.now m.tally)
  end_stays e i v m r = by (order e end)
    where
      by : (e < end) ⊎ ((e ≡ end) ⊎ (end < e)) → Goes (Stays m) (on_end π rows ends starts_at (view_at rows (starts_at e)) (starts_at e) e m.phase m.now m.tally)
      by (inl l) =
          let o = end_opener rows tree whole e (omega (arith, loop_here.in_rows)) v in
          let k : starts_at e ≡ o.row = ap starts_at (sym o.closes) ∙ (partners rows tree whole).opens o.row (omega (arith, o.before, loop_here.in_rows)) o.opens in
          subst (λ n. Goes (Stays m) (on_end π rows ends starts_at (view_at rows n) n e m.phase m.now m.tally)) (sym k) (inner_end e i l o (view_at rows o.row) refl o.opens m r)
      by (inr (inl q)) =
          let k : starts_at e ≡ h = ap starts_at q ∙ (partners rows tree whole).opens h inside opens_here in
          subst (λ n. Goes (Stays m) (on_end π rows ends starts_at (view_at rows n) n e m.phase m.now m.tally)) (sym k)
          (subst (λ w. Goes (Stays m) (on_end π rows ends starts_at w h e m.phase m.now m.tally)) (sym head)
          (loop_end h e form test last head inside (sym q) (omega arith) i (inr refl) (λ w f. (last_assigns w last h _ f).1) m r))
      by (inr (inr l)) = absurd (omega (arith, i.1))

  -- a row that begins a block in the loop
  inner_closes : (i : ℕ) → In i → i < end → Opens (view_at rows i) → (i < ends i) × (ends i < end)
  inner_closes i (l, m) k o =
      let b : i < length rows = omega (arith, loop_here.in_rows) in
      let e = (partners rows tree whole).matching_ends i b o in
      let c = closes_before rows tree whole h i b opens_here o l k in
      (((partners rows tree whole).ahead i b o).0, omega arith)

  -- no end row is another row
  before_end : (i : ℕ) → In i → (view_at rows i ≡ is_end → ⊥) → i < end
  before_end i (l, m) n = by (order i end)
    where
      by : (i < end) ⊎ ((i ≡ end) ⊎ (end < i)) → i < end
      by (inl a) = a
      by (inr (inl q)) = absurd (n (ap (view_at rows) q ∙ loop_here.ends))
      by (inr (inr a)) = absurd (omega arith)

  abbrev Steps : View → Place → Type 0
  Steps v m = Goes (Stays m) (on_row π rows ends starts_at v m.row m.phase m.now m.tally)

  loop_stays : (m : Place) → In m.row → m.row < end → (form' : Form) (test' : Test) (last' : Last) → view_at rows m.row ≡ is_loop form' test' last' → Steps (is_loop form' test' last') m
  unfolding on_row sets
  loop_stays m i l form' test' last' v =
      let (e, c) = inner_closes m.row i l (subst Opens (sym v) tt) in
      by form' v (omega arith, omega arith) (omega (arith, i.0), omega arith)
    where
      by : (f : Form) → view_at rows m.row ≡ is_loop f test' last' → In (ends m.row) → In (suc m.row) → Steps (is_loop f test' last') m
      by while q x y = on (record { row = inl x; kept = λ w z. refl })
      by hold q x y = on (record { row = inl x; kept = λ w z. refl })
      by do_while q x y = on (record { row = inl y; kept = λ w z. refl })
      by (for a) q x y = goes_outcome m.tally
          (exec_keeps m.row (assign test'.tested (from a)) m.now (λ w f. (loop_free w f m.row (omega (arith, loop_here.in_rows)) i (for a) test' last' q).0))
          λ u z. on (record { row = inl x; kept = z })

  -- a row by its view
  row_stays : (v : View) (m : Place) → view_at rows m.row ≡ v → In m.row → Steps v m
  unfolding on_row assigns
  row_stays (is_plain p) m v i =
      let l = before_end m.row i (λ q. let z : ◌≡◌ {A = ℕ} 0 1 = cc in omega arith) in
      let a : In (suc m.row) = (omega arith, l) in
      goes_outcome m.tally (exec_keeps m.row p m.now (λ w f. plain_free w f l)) λ u z. on (record { row = inl a; kept = z })
    where
      plain_free : (w : ℕ) → Free w → m.row < end → T (not (sets w p))
      plain_free w f l = (nor (sets w p) _ (subst (λ t. T (not (assigns w t))) (block_plain rows tree whole m.row (omega (arith, loop_here.in_rows)) p v).0 (free_at w f m.row i))).0
  row_stays is_pick m v i =
      let l = before_end m.row i (λ q. let z : ◌≡◌ {A = ℕ} 0 1 = cc in omega arith) in
      let (e, c) = inner_closes m.row i l (subst Opens (sym v) tt) in
      let a : In (suc m.row) = (omega arith, l) in
      let b : In (suc (ends m.row)) = (omega arith, omega arith) in
      goes_paid _ m.row m.now m.tally _ λ n. goes_picked m.row _ _ _ m.tally (λ bs. on (record { row = inl b; kept = λ w z. refl })) (λ bs. on (record { row = inl a; kept = λ w z. refl }))
  row_stays is_else m v i =
      let l = before_end m.row i (λ q. let z : ◌≡◌ {A = ℕ} 0 1 = cc in omega arith) in
      let (e, c) = inner_closes m.row i l (subst Opens (sym v) tt) in
      let b : In (suc (ends m.row)) = (omega arith, omega arith) in
      on (record { row = inl b; kept = λ w z. refl })
  row_stays is_end m v i = end_stays m.row i v m refl
  row_stays (is_loop form' test' last') m v i = loop_stays m i (before_end m.row i (λ q. let z : ◌≡◌ {A = ℕ} 0 1 = cc in omega arith)) form' test' last' v

  -- a step in the loop
  pub stays_in : (m : Place) → In m.row → Goes (Stays m) (next π rows ends starts_at m)
  unfolding next
  stays_in m i = goes_chosen (ltb m.row (length rows)) (row_stays (view_at rows m.row) m refl i) stops
