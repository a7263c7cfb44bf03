-- What is kept of the limits on the way: only in the loops that the machine is in, and what they come to. Assumes nothing.
use mathlib.Core.Path.{◌≡◌, refl, sym, ◌∙◌, ap, subst}
use mathlib.Core.Bool.{true}
use mathlib.Core.Logic.{◌⊎◌, inl, inr}
use mathlib.Core.List.{List, []}
use Prim.Native.Nat.{ℕ, zero, suc, ◌+◌, ◌≤◌, ◌<◌}
use native.Mathlib.Omega.{arith}
use native.Mathlib.Decide.{ℕ_discrete}
use lib.IntN.{ℤ, pos}
use lib.ListN.{length, get_or, replicate}
use Rattle.rules.specs.declared.Prices.{Prices}
use Rattle.rules.specs.Expressions.{Expr, constant}
use Rattle.rules.specs.Blocks.{RowKind, End, Form, Test, Last, View, is_plain, is_pick, is_else, is_end, is_loop, view_at, Block, with_last, parts, to_end, build, block_at, end_at}
use Rattle.rules.specs.Calls.{loop_rows}
use Rattle.rules.specs.Scripts.{store_of}
use Rattle.rules.specs.Values.{value}
use Rattle.rules.specs.Written.{Composed}
use Rattle.rules.proofs.Expressions.{value_kept}
use Rattle.rules_machine.specs.RowMachine.{fresh, testing, Place, Next, more, Opens, pairs}
use Rattle.rules_machine.proofs.PairsIn.{partners}
use Rattle.rules_machine.proofs.RowMachineRuns.{head_in}
use Rattle.rules_machine.proofs.Nested.{order}
use Rattle.table.proofs.Pairing.{heads_rise}
use Rattle.rules_machine.proofs.StaysIn.{Goes, on, Stays, stays_in}
use Rattle.run_machine.specs.Steps.{step_of}
use Rattle.run_machine.specs.Limits.{LimitsUnchanged, not_kept, kept_of, Keeps, nothing, its_value}
use Rattle.run_machine.proofs.Limits.{kept_store}

-- nothing is kept of the limit x of the loop at row h, or the machine is in the loop, and it is what x comes to
pub data InEntry (rows : List RowKind) (row h : ℕ) (x : Expr) (store : List ℤ) (z : ℤ) : Type 0 where
  none : z ≡ not_kept → InEntry rows row h x store z
  inside : h < row → row ≤ end_at rows (suc h) → Keeps x store z → InEntry rows row h x store z

pub in_keeps : {rows : List RowKind} {row h : ℕ} {x : Expr} {store : List ℤ} {z : ℤ} → InEntry rows row h x store z → Keeps x store z
in_keeps (none q) = nothing q
in_keeps (inside a b k) = k

-- the limit of a loop's head
abbrev pub limit_of : View → Expr
limit_of (is_plain p) = constant (pos 0)
limit_of is_pick = constant (pos 0)
limit_of is_else = constant (pos 0)
limit_of is_end = constant (pos 0)
limit_of (is_loop form test last) = test.limit

-- of all loops, the machine at this row
abbrev pub LimitsKept : List RowKind → ℕ → List ℤ → List ℤ → Type 0
LimitsKept rows row store limits =
    (k : ℕ) → k < length (loop_rows 0 rows) → (form : Form) (test : Test) (last : Last) → view_at rows (get_or (loop_rows 0 rows) k 0) ≡ is_loop form test last
    → InEntry rows row (get_or (loop_rows 0 rows) k 0) test.limit store (kept_of limits k)

-- before the first step
pub none_kept : (rows : List RowKind) → length (loop_rows 0 rows) ≤ 16 → (row : ℕ) (store : List ℤ) → LimitsKept rows row store (replicate 16 not_kept)
none_kept rows few row store k l form test last v = none (by 16 k (omega arith))
  where
    by : (n k : ℕ) → k < n → kept_of (replicate n not_kept) k ≡ not_kept
    by zero k h = absurd (omega arith)
    by (suc n) zero h = refl
    by (suc n) (suc k) h = by n k (omega arith)

module _ (π : Prices) (rows : List RowKind) (tree : Block) (whole : build 0 rows ≡ parts (to_end (length rows) tree) []) (unchanged : LimitsUnchanged rows) where
  -- a step in the loop at row h: it stays there, or leaves it by its test; its limit comes to the same
  module _ (m p : Place) (step : step_of π rows m ≡ more p) (h : ℕ) (form : Form) (test : Test) (last : Last) (v : view_at rows h ≡ is_loop form test last) where
    abbrev StepIn : Type 0
    StepIn = Stays π rows tree whole h (head_in rows h form test last v) form test last v m p

    stays : h < m.row → m.row ≤ end_at rows (suc h) → StepIn
    stays a b = by (subst (Goes _) step (stays_in π rows tree whole h (head_in rows h form test last v) form test last v m (a, b)))
      where
        by : Goes (Stays π rows tree whole h (head_in rows h form test last v) form test last v m) (more p) → StepIn
        by (on s) = s

    same_limit : StepIn → Composed test.limit → value test.limit p.now.store ≡ value test.limit m.now.store
    same_limit s c =
        value_kept (with_last last h (block_at rows (suc h))) m.now.store p.now.store s.kept test.limit (unchanged h (head_in rows h form test last v) form test last v c)

    -- so what is kept for it is still so, unless its own test is made
    still_in : (store store' : List ℤ) (z : ℤ) → m.now.store ≡ store_of store → p.now.store ≡ store_of store' → (m.phase ≡ testing → m.row ≡ end_at rows (suc h) → ⊥)
        → InEntry rows m.row h test.limit store z → InEntry rows p.row h test.limit store' z
    still_in store store' z e e' n (none q) = none q
    still_in store store' z e e' n (inside a b q) = let s = stays a b in by s s.row
      where
        by : StepIn → ((h < p.row) × (p.row ≤ end_at rows (suc h))) ⊎ ((m.phase ≡ testing) × (m.row ≡ end_at rows (suc h)) × (p.row ≡ suc (end_at rows (suc h))))
            → InEntry rows p.row h test.limit store' z
        by s (inl (x, y)) = inside x y (kept_store (λ c. sym (ap (value test.limit) e') ∙ same_limit s c ∙ ap (value test.limit) e) q)
        by s (inr (t, r, _)) = absurd (n t r)

  -- a row, from one store to another
  pub after_a_row : (m p : Place) (store store' limits : List ℤ) → step_of π rows m ≡ more p → m.phase ≡ fresh → m.now.store ≡ store_of store → p.now.store ≡ store_of store'
      → LimitsKept rows m.row store limits → LimitsKept rows p.row store' limits
  after_a_row m p store store' limits step ph e e' kept k l form test last v =
      still_in m p step _ form test last v store store' (kept_of limits k) e e' (λ t _. let q : fresh ≡ testing = sym ph ∙ t in let y : ◌≡◌ {A = ℕ} 0 1 = cc in omega arith) (kept k l form test last v)

  -- the test of loop j, whose head is row h
  module _ (j h : ℕ) (few : j < length (loop_rows 0 rows)) (place : get_or (loop_rows 0 rows) j 0 ≡ h) (x : Expr) where
    -- the loops end at rows of their own
    other_end : (k : ℕ) → k < length (loop_rows 0 rows) → (k ≡ j → ⊥) → Opens (view_at rows (get_or (loop_rows 0 rows) k 0)) → get_or (loop_rows 0 rows) k 0 < length rows
        → (e : ℕ) → (pairs rows (length rows)).head e ≡ h → e ≡ end_at rows (suc (get_or (loop_rows 0 rows) k 0)) → ⊥
    other_end k l n o b e q r =
        let z : get_or (loop_rows 0 rows) k 0 ≡ get_or (loop_rows 0 rows) j 0 = sym ((partners rows tree whole).opens _ b o) ∙ ap (pairs rows (length rows)).head (sym r) ∙ q ∙ sym place in
        by (order k j) z
      where
        by : (k < j) ⊎ ((k ≡ j) ⊎ (j < k)) → get_or (loop_rows 0 rows) k 0 ≡ get_or (loop_rows 0 rows) j 0 → ⊥
        by (inl a) z = omega (arith, heads_rise rows 0 k j a few)
        by (inr (inl a)) z = n a
        by (inr (inr a)) z = omega (arith, heads_rise rows 0 j k a l)

    pub after_test : (m p : Place) (store limits limits' : List ℤ) → step_of π rows m ≡ more p → m.now.store ≡ store_of store → p.now.store ≡ store_of store
        → (pairs rows (length rows)).head m.row ≡ h → h < end_at rows (suc h)
        → ((form : Form) (test : Test) (last : Last) → view_at rows h ≡ is_loop form test last → test.limit ≡ x)
        → ((k : ℕ) → (k ≡ j → ⊥) → kept_of limits' k ≡ kept_of limits k)
        → (kept_of limits' j ≡ not_kept) ⊎ ((p.row ≡ h + 1) × Keeps x store (kept_of limits' j))
        → LimitsKept rows m.row store limits → LimitsKept rows p.row store limits'
    after_test m p store limits limits' step e e' q past limit others own kept k l form test last v = by (ℕ_discrete k j)
      where
        mine : (kept_of limits' j ≡ not_kept) ⊎ ((p.row ≡ h + 1) × Keeps x store (kept_of limits' j)) → InEntry rows p.row h x store (kept_of limits' j)
        mine (inl z) = none z
        mine (inr (r, z)) = inside (omega arith) (omega arith) z

        by : Dec (k ≡ j) → InEntry rows p.row (get_or (loop_rows 0 rows) k 0) test.limit store (kept_of limits' k)
        by (yes z) =
            let y : get_or (loop_rows 0 rows) k 0 ≡ h = ap (λ n. get_or (loop_rows 0 rows) n 0) z ∙ place in
            let w = sym (limit form test last (ap (view_at rows) (sym y) ∙ v)) in
            subst (λ n. InEntry rows p.row (get_or (loop_rows 0 rows) k 0) test.limit store (kept_of limits' n)) (sym z)
            (subst (λ n. InEntry rows p.row n test.limit store (kept_of limits' j)) (sym y) (subst (λ t. InEntry rows p.row h t store (kept_of limits' j)) w (mine own)))
        by (no n) = subst (InEntry rows p.row (get_or (loop_rows 0 rows) k 0) test.limit store) (sym (others k n))
            (still_in m p step _ form test last v store store (kept_of limits k) e e' (λ _ r. other_end k l n (subst Opens (sym v) tt) (head_in rows _ form test last v) m.row q r) (kept k l form test last v))
