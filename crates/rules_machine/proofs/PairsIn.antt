-- One pass over the rows with a stack finds the partner rows.
use mathlib.Core.Path.{◌≡◌, refl, sym, ◌∙◌, ap, subst}
use mathlib.Core.Bool.{Bool, true, false, cond}
use mathlib.Core.List.{List, [], ◌∷◌}
use Prim.Native.Nat.{ℕ, zero, suc, ◌≤◌, ◌<◌}
use native.Mathlib.Omega.{arith}
use native.Mathlib.Decide.{ℕ_discrete}
use lib.Dec.{T, eqb, eqb→eq, eqb_refl}
use lib.ListN.{length}
use Rattle.rules.specs.Values.{put}
use Rattle.rules.specs.Blocks.{Test, Form, Last, View, is_plain, is_pick, is_else, is_end, is_loop, view_at, Block, parts, to_end, build, end_of, end_at, RowKind}
use Rattle.rules.specs.Scripts.{All, none, some}
use Rattle.rules_machine.specs.RowMachine.{Opens, Partners, Pairs, push, closes_row, pair_row, pairs}
use Rattle.rules.proofs.Rows.{LoopAt, PickAt, alone, both, block_last, block_plain, block_pick, block_else, block_end, block_loop}

-- the open rows, innermost first, if the innermost part closes at row e: by an `end`, or by an `else` with its `end`
pub data Chain (rows : List RowKind) : List ℕ → ℕ → Type 0 where
  bottom : {e : ℕ} → e ≡ length rows → Chain rows [] e
  by_end : {i : ℕ} {is : List ℕ} {e : ℕ} → i < e → e < length rows → end_at rows (suc i) ≡ e → view_at rows e ≡ is_end → Chain rows is (end_at rows (suc e)) → Chain rows (i ∷ is) e
  by_else : {i : ℕ} {is : List ℕ} {e : ℕ} → i < e → end_at rows (suc i) ≡ e → view_at rows e ≡ is_else
      → e < end_at rows (suc e) → end_at rows (suc e) < length rows → view_at rows (end_at rows (suc e)) ≡ is_end → Chain rows is (end_at rows (suc (end_at rows (suc e)))) → Chain rows (i ∷ is) e

-- an open row waits on the stack
pub data Waits (i : ℕ) : List ℕ → Type 0 where
  top : {is : List ℕ} → Waits i (i ∷ is)
  under : {j : ℕ} {is : List ℕ} → Waits i is → Waits i (j ∷ is)

-- or it is entered in the tables, by a row before j
pub data Known (rows : List RowKind) (j : ℕ) (p : Pairs) (i : ℕ) : Type 0 where
  waits : Waits i p.stack → Known rows j p i
  closed : p.end i ≡ end_at rows (suc i) → p.head (end_at rows (suc i)) ≡ i → i < p.end i → p.end i < j → Known rows j p i

-- what holds before row j
pub record Paired (rows : List RowKind) (j : ℕ) (p : Pairs) : Type 0 where
  pub chain : Chain rows p.stack (end_at rows j)
  pub known : (i : ℕ) → i < j → Opens (view_at rows i) → Known rows j p i

at_same : (h n m : ℕ) → cond (eqb h h) n m ≡ n
at_same h n m = by (eqb h h) (eqb_refl h)
  where
    by : (b : Bool) → T b → cond b n m ≡ n
    by true f = refl
    by false f = absurd f

at_other : (p h n m : ℕ) → (p ≡ h → ⊥) → cond (eqb p h) n m ≡ m
at_other p h n m l = by (eqb p h) (eqb→eq p h)
  where
    by : (b : Bool) → (T b → p ≡ h) → cond b n m ≡ m
    by true f = absurd (l (f tt))
    by false f = refl

module _ (rows : List RowKind) (tree : Block) (whole : build 0 rows ≡ parts (to_end (length rows) tree) []) where
  -- a later row
  later : (j : ℕ) (p : Pairs) (i : ℕ) → Known rows j p i → Known rows (suc j) p i
  later j p i (waits w) = waits w
  later j p i (closed a b c d) = closed a b c (omega arith)

  -- every row before j, and row j itself, which opens nothing or waits
  with_row : (j : ℕ) (q : Pairs) → ((i : ℕ) → i < j → Opens (view_at rows i) → Known rows (suc j) q i) → (Opens (view_at rows j) → Known rows (suc j) q j)
      → (i : ℕ) → i < suc j → Opens (view_at rows i) → Known rows (suc j) q i
  with_row j q f g i l o = by (ℕ_discrete i j)
    where
      by : Dec (i ≡ j) → Known rows (suc j) q i
      by (yes e) = subst (λ k. Known rows (suc j) q k) (sym e) (g (subst (λ k. Opens (view_at rows k)) e o))
      by (no n) = f i (omega arith) o

  module _ (j : ℕ) (h : j < length rows) (p : Pairs) (before : Paired rows j p) where
    pair_plain : (Opens (view_at rows j) → ⊥) → end_at rows j ≡ end_at rows (suc j) → Paired rows (suc j) p
    pair_plain f e = record {
      chain = subst (Chain rows p.stack) e before.chain;
      known = with_row j p (λ i l o. later j p i (before.known i l o)) (λ o. absurd (f o));
    }

    pair_push : Chain rows (j ∷ p.stack) (end_at rows (suc j)) → Paired rows (suc j) (push j p)
    unfolding push
    pair_push c = record {
      chain = c;
      known = with_row j (push j p) (λ i l o. by i (before.known i l o)) (λ _. waits top);
    }
      where
        by : (i : ℕ) → Known rows j p i → Known rows (suc j) (push j p) i
        by i (waits w) = waits (under w)
        by i (closed a b c d) = closed a b c (omega arith)

    pair_loop : (form : Form) (test : Test) (last : Last) → LoopAt rows j form test last → Paired rows (suc j) (push j p)
    pair_loop form test last l = pair_push (by_end l.past l.in_rows refl l.ends (subst (Chain rows p.stack) l.last before.chain))

    pair_pick : PickAt rows j → Paired rows (suc j) (push j p)
    pair_pick (alone l m k b e) = pair_push (by_end l m refl k (subst (Chain rows p.stack) e before.chain))
    pair_pick (both i q l k l' m k' b e) =
        pair_push (subst (Chain rows (j ∷ p.stack)) (sym q) (by_else l q k l' m k' (subst (Chain rows p.stack) e before.chain)))

  -- row j closes row k, the innermost open one
  module _ (j : ℕ) (h : j < length rows) where
    module _ (k : ℕ) (is : List ℕ) (f g : ℕ → ℕ) (l : k < j) (e : end_at rows (suc k) ≡ j) where
      matching_end_here : Known rows (suc j) (closes_row j (k ∷ is) f g) k
      unfolding closes_row
      matching_end_here =
          let s : put f k j k ≡ j = at_same k j (f k) in
          closed (s ∙ sym e) (ap (put g j k) e ∙ at_same j k (g j)) (omega arith) (omega arith)

      matching_end_known : (i : ℕ) → Known rows j (record { stack = k ∷ is; end = f; head = g }) i → Known rows (suc j) (closes_row j (k ∷ is) f g) i
      unfolding closes_row
      matching_end_known i (closed a b c d) = by (ℕ_discrete i k)
        where
          by : Dec (i ≡ k) → Known rows (suc j) (closes_row j (k ∷ is) f g) i
          by (yes q) = subst (λ m. Known rows (suc j) (closes_row j (k ∷ is) f g) m) (sym q) matching_end_here
          by (no n) =
              let s : put f k j i ≡ f i = at_other i k j (f i) n in
              closed (s ∙ a) (at_other (end_at rows (suc i)) j k (g (end_at rows (suc i))) (λ z. omega arith) ∙ b) (omega arith) (omega arith)
      matching_end_known i (waits w) = by w refl refl
        where
          by : {m : ℕ} {ms : List ℕ} → Waits i (m ∷ ms) → m ≡ k → ms ≡ is → Known rows (suc j) (closes_row j (k ∷ is) f g) i
          by top q r = subst (λ m. Known rows (suc j) (closes_row j (k ∷ is) f g) m) (sym q) matching_end_here
          by (under w) q r = waits (subst (Waits i) r w)

    -- an `end` and an `else` at row j
    closed_end : (st : List ℕ) (f g : ℕ → ℕ) → Chain rows st j → ((i : ℕ) → i < j → Opens (view_at rows i) → Known rows j (record { stack = st; end = f; head = g }) i)
        → view_at rows j ≡ is_end → Paired rows (suc j) (closes_row j st f g)
    unfolding closes_row
    closed_end [] f g (bottom q) known r = absurd (omega arith)
    closed_end (k ∷ is) f g (by_end l m e _ c) known r =
        record { chain = c; known = with_row j _ (λ i u o. matching_end_known k is f g l e i (known i u o)) (λ o. absurd (subst Opens r o)) }
    closed_end (k ∷ is) f g (by_else _ _ q _ _ _ _) known r = absurd (let z : ◌≡◌ {A = ℕ} 0 1 = cc in omega arith)

    closed_else : (st : List ℕ) (f g : ℕ → ℕ) → Chain rows st j → ((i : ℕ) → i < j → Opens (view_at rows i) → Known rows j (record { stack = st; end = f; head = g }) i)
        → view_at rows j ≡ is_else → Paired rows (suc j) (push j (closes_row j st f g))
    unfolding closes_row push
    closed_else [] f g (bottom q) known r = absurd (omega arith)
    closed_else (k ∷ is) f g (by_end _ _ _ q _) known r = absurd (let z : ◌≡◌ {A = ℕ} 0 1 = cc in omega arith)
    closed_else (k ∷ is) f g (by_else l e _ l' m' r' c) known r =
        record { chain = by_end l' m' refl r' c; known = with_row j _ (λ i u o. under_it i (matching_end_known k is f g l e i (known i u o))) (λ o. waits top) }
      where
        under_it : (i : ℕ) → Known rows (suc j) (closes_row j (k ∷ is) f g) i → Known rows (suc j) (push j (closes_row j (k ∷ is) f g)) i
        under_it i (waits w) = waits (under w)
        under_it i (closed a b c d) = closed a b c d

    -- a row more
    pub pair_row_lem : (p : Pairs) → Paired rows j p → (w : View) → view_at rows j ≡ w → Paired rows (suc j) (pair_row w j p)
    unfolding pair_row
    pair_row_lem p b (is_plain q) w = pair_plain j h p b (subst Opens w) (block_plain rows tree whole j h q w).1
    pair_row_lem p b is_pick w = pair_pick j h p b (block_pick rows tree whole j h w)
    pair_row_lem p b is_else w = closed_else p.stack p.end p.head (subst (Chain rows p.stack) (block_else rows tree whole j h w).1 b.chain) b.known w
    pair_row_lem p b is_end w = closed_end p.stack p.end p.head (subst (Chain rows p.stack) (block_end rows tree whole j h w).1 b.chain) b.known w
    pair_row_lem p b (is_loop form test last) w = pair_loop j h p b form test last (block_loop rows tree whole j h form test last w)

  pub pair_all : (j : ℕ) → j ≤ length rows → Paired rows j (pairs rows j)
  unfolding pairs end_at
  pair_all zero h = record { chain = bottom (ap end_of whole); known = λ i l o. absurd (omega arith) }
  pair_all (suc j) h = pair_row_lem j (omega arith) (pairs rows j) (pair_all j (omega arith)) (view_at rows j) refl

  -- past the last row nothing waits
  no_wait : {A : Type 0} (i : ℕ) (st : List ℕ) (e : ℕ) → Chain rows st e → e ≡ length rows → Waits i st → A
  no_wait {A = A} i [] e _ z w = elim w [ ]
  no_wait i (k ∷ is) e (by_end l m q r c) z w = absurd (omega arith)
  no_wait i (k ∷ is) e (by_else l q r l' m' r' c) z w = absurd (omega arith)

  -- the tables of a whole pass are partners
  pub partners_done : (p : Pairs) → Paired rows (length rows) p → Partners rows p.end p.head
  partners_done p b = record { matching_ends = λ i l o. (by i (b.known i l o)).0; opens = λ i l o. (by i (b.known i l o)).1; ahead = λ i l o. ((by i (b.known i l o)).2, (by i (b.known i l o)).3) }
    where
      by : (i : ℕ) → Known rows (length rows) p i → (p.end i ≡ end_at rows (suc i)) × (p.head (end_at rows (suc i)) ≡ i) × (i < p.end i) × (p.end i < length rows)
      by i (waits w) = no_wait i p.stack (end_at rows (length rows)) b.chain (block_last rows tree whole).1 w
      by i (closed x y z w) = (x, y, z, w)

  pub partners : Partners rows (pairs rows (length rows)).end (pairs rows (length rows)).head
  partners = partners_done _ (pair_all (length rows) (omega arith))

-- ---- every number on the stack and in the tables is a row, for code that reads an array by it
pub record Inside (R : ℕ) (p : Pairs) : Type 0 where
  pub stacked : All (λ i. i < R) p.stack
  pub matching_end_in : (i : ℕ) → p.end i < R
  pub matching_head_in : (i : ℕ) → p.head i < R

module _ (R : ℕ) where
  put_in : (f : ℕ → ℕ) (k v : ℕ) → ((i : ℕ) → f i < R) → v < R → (i : ℕ) → put f k v i < R
  put_in f k v h l i = by (eqb i k)
    where
      by : (b : Bool) → cond b v (f i) < R
      by true = l
      by false = h i

  push_in : (j : ℕ) (p : Pairs) → j < R → Inside R p → Inside R (push j p)
  unfolding push
  push_in j p l h = record { stacked = some l h.stacked; matching_end_in = h.matching_end_in; matching_head_in = h.matching_head_in }

  closing_in : (j : ℕ) (st : List ℕ) (f g : ℕ → ℕ) → j < R → Inside R (record { stack = st; end = f; head = g }) → Inside R (closes_row j st f g)
  unfolding closes_row
  closing_in j [] f g l h = h
  closing_in j (i ∷ is) f g l h = by h.stacked
    where
      by : All (λ i. i < R) (i ∷ is) → Inside R (record { stack = is; end = put f i j; head = put g j i })
      by (some m s) = record { stacked = s; matching_end_in = put_in f i j h.matching_end_in l; matching_head_in = put_in g j i h.matching_head_in m }

  pub row_in : (w : View) (j : ℕ) (p : Pairs) → j < R → Inside R p → Inside R (pair_row w j p)
  unfolding pair_row
  row_in (is_plain q) j p l h = h
  row_in is_pick j p l h = push_in j p l h
  row_in is_else j p l h = push_in j _ l (closing_in j p.stack p.end p.head l h)
  row_in is_end j p l h = closing_in j p.stack p.end p.head l h
  row_in (is_loop form test last) j p l h = push_in j p l h

pub pairs_in : (rows : List RowKind) → 0 < length rows → (j : ℕ) → j ≤ length rows → Inside (length rows) (pairs rows j)
unfolding pairs
pairs_in rows some-row zero h = record { stacked = none; matching_end_in = λ _. some-row; matching_head_in = λ _. some-row }
pairs_in rows some-row (suc j) h = row_in (length rows) (view_at rows j) j (pairs rows j) h (pairs_in rows some-row j (omega arith))
