-- Blocks among the rows: a block that begins inside another closes inside it, and what holds of a block holds of every block in it.
use mathlib.Core.Path.{◌≡◌, refl, sym, ◌∙◌, ap, subst}
use mathlib.Core.Logic.{◌⊎◌, inl, inr}
use mathlib.Core.List.{List, [], ◌∷◌}
use Prim.Native.Nat.{ℕ, zero, suc, ◌≤◌, ◌<◌}
use native.Mathlib.Omega.{arith}
use native.Mathlib.Decide.{ℕ_discrete}
use mathlib.Core.Bool.{Bool, true, false, not}
use lib.Dec.{T, ltb, ltb→lt, nltb→le}
use lib.ListN.{length}
use Rattle.rules.specs.Blocks.{Plain, Test, Form, Last, View, is_plain, is_pick, is_else, is_end, is_loop, view_at, Block, done, plain, pick, loop, with_last, Part, to_end, to_else, Built, parts, misfit, build, end_of, block_at, end_at, RowKind}
use Rattle.rules.specs.Scripts.{All, none, some}
use Rattle.rules_machine.specs.RowMachine.{Opens, Partners, Pairs, push, closes_row, pair_row, pairs}
use Rattle.rules.proofs.Rows.{LoopAt, PickAt, alone, both, parts_at, part_closed, no_misfit, block_plain, block_pick, block_else, block_end, block_loop}
use Rattle.rules_machine.proofs.PairsIn.{Chain, bottom, by_end, by_else, Waits, top, under, Known, waits, closed, pair_all, partners}

-- what holds of a block holds of the blocks in it
pub record Inherited (Q : Block → Type 0) : Type 0 where
  pub of_plain : (i : ℕ) (p : Plain) (rest : Block) → Q (plain i p rest) → Q rest
  pub of_pick : (i e : ℕ) (a b rest : Block) → Q (pick i e a b rest) → Q a × Q b × Q rest
  pub of_loop : (i e : ℕ) (form : Form) (test : Test) (last : Last) (body rest : Block) → Q (loop i e form test (with_last last i body) rest) → Q body × Q rest

-- one number before, at or after another
pub order : (a b : ℕ) → (a < b) ⊎ ((a ≡ b) ⊎ (b < a))
order a b = by (ltb a b) (ltb→lt a b) (nltb→le a b)
  where
    by : (t : Bool) → (T t → a < b) → (T (not t) → b ≤ a) → (a < b) ⊎ ((a ≡ b) ⊎ (b < a))
    by true f g = inl (f tt)
    by false f g = inr (apart (ℕ_discrete a b) (g tt))
      where
        apart : Dec (a ≡ b) → b ≤ a → (a ≡ b) ⊎ (b < a)
        apart (yes e) l = inl e
        apart (no n) l = inr (omega (arith, n))

module _ (rows : List RowKind) (tree : Block) (whole : build 0 rows ≡ parts (to_end (length rows) tree) []) where
  -- a part ends at its first row or later
  pub end_reaches : (i : ℕ) → i ≤ length rows → i ≤ end_at rows i
  unfolding end_at
  end_reaches i h = by (parts_at rows i) refl
    where
      by : (b : Built) → parts_at rows i ≡ b → i ≤ end_of b
      by (parts (to_end e b) []) q = (part_closed rows i _ _ h q).0
      by (parts (to_end e b) (p ∷ ps)) q = (part_closed rows i _ _ h q).0
      by (parts (to_else e b) []) q = absurd (part_closed rows i _ _ h q)
      by (parts (to_else e b) (p ∷ ps)) q = (part_closed rows i _ _ h q).0
      by misfit q = absurd (no_misfit rows tree whole i h q)

  -- an open row closes no earlier than the innermost one
  below : {st : List ℕ} {e h : ℕ} → Chain rows st e → Waits h st → e ≤ end_at rows (suc h)
  below {h = h} (bottom {e = e} _) w = elim w [ ]
  below (by_end {i = i} l m q r c) top = omega arith
  below (by_end {e = e} l m q r c) (under w) = let a = below c w in omega (arith, end_reaches (suc e) (omega arith))
  below (by_else {i = i} l q r l' m' r' c) top = omega arith
  below (by_else {e = e} l q r l' m' r' c) (under w) =
      let a = below c w in omega (arith, end_reaches (suc (end_at rows (suc e))) (omega arith))

  -- every open row begins a block
  opened : (j : ℕ) → j ≤ length rows → All (λ i. Opens (view_at rows i)) (pairs rows j).stack
  unfolding pairs closes_row pair_row push
  opened zero h = none
  opened (suc j) h = by (view_at rows j) refl (pairs rows j) (opened j (omega arith))
    where
      popped : (st : List ℕ) (f g : ℕ → ℕ) → All (λ i. Opens (view_at rows i)) st → All (λ i. Opens (view_at rows i)) (closes_row j st f g).stack
      popped [] f g a = none
      popped (k ∷ st) f g (some o a) = a

      by : (v : View) → view_at rows j ≡ v → (p : Pairs) → All (λ i. Opens (view_at rows i)) p.stack → All (λ i. Opens (view_at rows i)) (pair_row v j p).stack
      by (is_plain q) e p a = a
      by is_pick e p a = some (subst Opens (sym e) tt) a
      by is_else e p a = some (subst Opens (sym e) tt) (popped p.stack p.end p.head a)
      by is_end e p a = popped p.stack p.end p.head a
      by (is_loop form test last) e p a = some (subst Opens (sym e) tt) a

  -- a row that begins a block, by its closing row
  pub record Opener (i : ℕ) : Type 0 where
    pub row : ℕ
    pub before : row < i
    pub opens : Opens (view_at rows row)
    pub closes : end_at rows (suc row) ≡ i

  first_open : {k : ℕ} {st : List ℕ} → All (λ i. Opens (view_at rows i)) (k ∷ st) → Opens (view_at rows k)
  first_open (some o a) = o

  -- every `end` closes one
  pub end_opener : (i : ℕ) → i < length rows → view_at rows i ≡ is_end → Opener i
  end_opener i h e = by (pairs rows i).stack (subst (Chain rows (pairs rows i).stack) (block_end rows tree whole i h e).1 (pair_all rows tree whole i (omega arith)).chain) (opened i (omega arith))
    where
      by : (st : List ℕ) → Chain rows st i → All (λ i. Opens (view_at rows i)) st → Opener i
      by [] (bottom q) a = absurd (omega arith)
      by (k ∷ st) (by_end l m q r c) a = record { row = k; before = l; opens = first_open a; closes = q }
      by (k ∷ st) (by_else l q r l' m' r' c) a = absurd (let z : ◌≡◌ {A = ℕ} 0 1 = cc in omega arith)

  -- so does every `else`, and what it begins closes by an `end`
  pub else_opener : (i : ℕ) → i < length rows → view_at rows i ≡ is_else → Opener i × (view_at rows (end_at rows (suc i)) ≡ is_end)
  else_opener i h e = by (pairs rows i).stack (subst (Chain rows (pairs rows i).stack) (block_else rows tree whole i h e).1 (pair_all rows tree whole i (omega arith)).chain) (opened i (omega arith))
    where
      by : (st : List ℕ) → Chain rows st i → All (λ i. Opens (view_at rows i)) st → Opener i × (view_at rows (end_at rows (suc i)) ≡ is_end)
      by [] (bottom q) a = absurd (omega arith)
      by (k ∷ st) (by_end l m q r c) a = absurd (let z : ◌≡◌ {A = ℕ} 0 1 = cc in omega arith)
      by (k ∷ st) (by_else l q r l' m' r' c) a = (record { row = k; before = l; opens = first_open a; closes = q }, r')

  -- a block that begins inside another closes before it
  pub closes_before : (h j : ℕ) → j < length rows → Opens (view_at rows h) → Opens (view_at rows j) → h < j → j < end_at rows (suc h) → end_at rows (suc j) < end_at rows (suc h)
  closes_before h j l o o' b k =
      let P = partners rows tree whole in
      let (_, m) = P.ahead h (omega arith) o in
      let e = P.matching_ends h (omega arith) o in
      let w : Waits h (pairs rows (suc j)).stack = still ((pair_all rows tree whole (suc j) (omega arith)).known h (omega arith) o) in
      let c : end_at rows (suc j) ≤ end_at rows (suc h) = below (pair_all rows tree whole (suc j) (omega arith)).chain w in
      by (ℕ_discrete (end_at rows (suc j)) (end_at rows (suc h))) c
    where
      still : Known rows (suc j) (pairs rows (suc j)) h → Waits h (pairs rows (suc j)).stack
      still (waits w) = w
      still (closed a b c d) = absurd (omega arith)

      by : Dec (end_at rows (suc j) ≡ end_at rows (suc h)) → end_at rows (suc j) ≤ end_at rows (suc h) → end_at rows (suc j) < end_at rows (suc h)
      by (yes q) c =
          let P = partners rows tree whole in
          let z : j ≡ h = sym (P.opens j l o') ∙ ap (pairs rows (length rows)).head q ∙ P.opens h (omega arith) o in
          absurd (omega arith)
      by (no n) c = omega (arith, n)

  -- the rows from s to e, whose blocks all begin there
  pub record Region (s e : ℕ) : Type 0 where
    pub rows_in : e ≤ length rows
    pub begins : (i : ℕ) (o : Opener i) → s ≤ i → i < e → s ≤ o.row

  -- all rows
  pub all_rows : Region 0 (length rows)
  all_rows = record { rows_in = omega arith; begins = λ i o l m. omega arith }

  -- the rows of a block after the one that begins it
  pub inner_rows : (h : ℕ) → h < length rows → Opens (view_at rows h) → Region (suc h) (end_at rows (suc h))
  inner_rows h l o =
      let P = partners rows tree whole in
      let (_, m) = P.ahead h l o in
      let e = P.matching_ends h l o in
      record { rows_in = omega arith; begins = λ i p a b. by i p a b }
    where
      by : (i : ℕ) (p : Opener i) → suc h ≤ i → i < end_at rows (suc h) → suc h ≤ p.row
      by i p a b = cases (order p.row h)
        where
          cases : (p.row < h) ⊎ ((p.row ≡ h) ⊎ (h < p.row)) → suc h ≤ p.row
          cases (inl c) = let d = closes_before p.row h l p.opens o c (omega (arith, p.closes)) in absurd (omega (arith, p.closes))
          cases (inr (inl q)) = let z : end_at rows (suc h) ≡ i = ap (λ k. end_at rows (suc k)) (sym q) ∙ p.closes in absurd (omega arith)
          cases (inr (inr c)) = c

  -- the pick of an `else`
  pub else_pick : (i : ℕ) → i < length rows → view_at rows i ≡ is_else → (o : Opener i) → view_at rows o.row ≡ is_pick
  else_pick i h e o = by (view_at rows o.row) refl o.opens
    where
      by : (v : View) → view_at rows o.row ≡ v → Opens v → view_at rows o.row ≡ is_pick
      by (is_plain p) q x = absurd x
      by is_pick q x = q
      by is_else q x =
          let z : view_at rows i ≡ is_end = ap (view_at rows) (sym o.closes) ∙ (else_opener o.row (omega (arith, o.before)) q).1 in
          absurd (let y : ◌≡◌ {A = ℕ} 0 1 = cc in omega arith)
      by is_end q x = absurd x
      by (is_loop form test last) q x =
          let z : view_at rows i ≡ is_end = ap (view_at rows) (sym o.closes) ∙ (block_loop rows tree whole o.row (omega (arith, o.before)) form test last q).ends in
          absurd (let y : ◌≡◌ {A = ℕ} 0 1 = cc in omega arith)

  -- what holds of the block from row s on, and is inherited, holds from every row on of a region from s
  module _ (Q : Block → Type 0) (inherited : Inherited Q) (s e : ℕ) (region : Region s e) (first : Q (block_at rows s)) where
    abbrev Earlier : ℕ → Type 0
    Earlier i = (k : ℕ) → s ≤ k → k ≤ i → Q (block_at rows k)

    module _ (i : ℕ) (l : s ≤ i) (m : i < e) (r : i < length rows) (earlier : Earlier i) where
      -- the row after a pick, and after its `else` or `end`
      after_pick : PickAt rows i → Q (block_at rows (suc i))
      after_pick (alone a b c q z) = (inherited.of_pick _ _ _ _ _ (subst Q q (earlier i l (omega arith)))).0
      after_pick (both j p a b c d f q z) = (inherited.of_pick _ _ _ _ _ (subst Q q (earlier i l (omega arith)))).0

      pick_else : (k : ℕ) → s ≤ k → k < i → end_at rows (suc k) ≡ i → view_at rows i ≡ is_else → PickAt rows k → Q (block_at rows (suc i)) × Q (block_at rows (suc (end_at rows (suc i))))
      pick_else k a b c v (alone _ _ w _ _) =
          let z : view_at rows i ≡ is_end = ap (view_at rows) (sym c) ∙ w in
          absurd (let y : ◌≡◌ {A = ℕ} 0 1 = cc in omega arith)
      pick_else k a b c v (both j p _ _ _ _ _ q _) =
          let (_, x, y) = inherited.of_pick _ _ _ _ _ (subst Q q (earlier k a (omega arith))) in
          let z : j ≡ i = sym p ∙ c in
          (subst (λ n. Q (block_at rows (suc n))) z x, subst (λ n. Q (block_at rows (suc (end_at rows (suc n))))) z y)

      after_else : view_at rows i ≡ is_else → Q (block_at rows (suc i)) × Q (block_at rows (suc (end_at rows (suc i))))
      after_else v =
          let o = (else_opener i r v).0 in
          let p = else_pick i r v o in
          pick_else o.row (region.begins i o l m) o.before o.closes v (block_pick rows tree whole o.row (omega (arith, o.before)) p)

      pick_end : (k : ℕ) → s ≤ k → k < i → end_at rows (suc k) ≡ i → view_at rows i ≡ is_end → PickAt rows k → Q (block_at rows (suc i))
      pick_end k a b c v (alone _ _ _ q _) = subst (λ n. Q (block_at rows (suc n))) c (inherited.of_pick _ _ _ _ _ (subst Q q (earlier k a (omega arith)))).2
      pick_end k a b c v (both j p _ w _ _ _ _ _) =
          let z : view_at rows j ≡ is_end = ap (view_at rows) (sym p ∙ c) ∙ v in
          absurd (let y : ◌≡◌ {A = ℕ} 0 1 = cc in omega arith)

    -- the row after an `end`
    module _ (i : ℕ) (l : s ≤ i) (m : i < e) (r : i < length rows) (earlier : Earlier i) (v : view_at rows i ≡ is_end) where
      end_of_lem : (k : ℕ) → s ≤ k → k < i → end_at rows (suc k) ≡ i → (w : View) → view_at rows k ≡ w → Opens w → Q (block_at rows (suc i))
      end_of_lem k a b c (is_plain p) w x = absurd x
      end_of_lem k a b c is_pick w x = pick_end i l m r earlier k a b c v (block_pick rows tree whole k (omega arith) w)
      end_of_lem k a b c is_else w x =
          subst (λ n. Q (block_at rows (suc n))) c (after_else k a (omega arith) (omega arith) (λ j f g. earlier j f (omega arith)) w).1
      end_of_lem k a b c is_end w x = absurd x
      end_of_lem k a b c (is_loop form test last) w x =
          let at = block_loop rows tree whole k (omega arith) form test last w in
          subst (λ n. Q (block_at rows (suc n))) c (inherited.of_loop _ _ _ _ last _ _ (subst Q at.block (earlier k a (omega arith)))).1

      after_end : Q (block_at rows (suc i))
      after_end = let o = end_opener i r v in end_of_lem o.row (region.begins i o l m) o.before o.closes (view_at rows o.row) refl o.opens

    -- the row after row i
    after_a_row : (i : ℕ) → s ≤ i → i < e → i < length rows → Earlier i → (w : View) → view_at rows i ≡ w → Q (block_at rows (suc i))
    after_a_row i l m r earlier (is_plain p) w = inherited.of_plain _ _ _ (subst Q (block_plain rows tree whole i r p w).0 (earlier i l (omega arith)))
    after_a_row i l m r earlier is_pick w = after_pick i l m r earlier (block_pick rows tree whole i r w)
    after_a_row i l m r earlier is_else w = (after_else i l m r earlier w).0
    after_a_row i l m r earlier is_end w = after_end i l m r earlier w
    after_a_row i l m r earlier (is_loop form test last) w =
        (inherited.of_loop _ _ _ _ last _ _ (subst Q (block_loop rows tree whole i r form test last w).block (earlier i l (omega arith)))).0

    one_more_lem : (n i : ℕ) → s ≤ i → i ≤ suc n → i ≤ e → ((k : ℕ) → s ≤ k → k ≤ n → k ≤ e → Q (block_at rows k)) → Q (block_at rows i)
    one_more_lem n i l m h so_far = by (order i (suc n)) (order s (suc n))
      where
        by : (i < suc n) ⊎ ((i ≡ suc n) ⊎ (suc n < i)) → (s < suc n) ⊎ ((s ≡ suc n) ⊎ (suc n < s)) → Q (block_at rows i)
        by (inl a) b = so_far i l (omega arith) h
        by (inr (inl q)) (inl b) =
            subst (λ k. Q (block_at rows k)) (sym q)
            (after_a_row n (omega arith) (omega arith) (omega (arith, region.rows_in)) (λ k f g. so_far k f g (omega arith)) (view_at rows n) refl)
        by (inr (inl q)) (inr (inl z)) = subst (λ k. Q (block_at rows k)) (z ∙ sym q) first
        by (inr (inl q)) (inr (inr b)) = absurd (omega arith)
        by (inr (inr a)) b = absurd (omega arith)

    up_to : (n i : ℕ) → s ≤ i → i ≤ n → i ≤ e → Q (block_at rows i)
    up_to zero i l m h = let z : s ≡ i = omega arith in subst (λ k. Q (block_at rows k)) z first
    up_to (suc n) i l m h = one_more_lem n i l m h (λ k f g z. up_to n k f g z)

    pub each_block : (i : ℕ) → s ≤ i → i ≤ e → Q (block_at rows i)
    each_block i l m = up_to i i l (omega arith) m
