-- The loop of a walk over the rows of a block, for any fold `f` from the first row to the last.
use borrow.Author.Rules.{rules}
use mathlib.Core.Path.{◌≡◌, refl, sym, ap, ◌∙◌}
use mathlib.Core.List.{List}
use Prim.Native.Nat.{ℕ, ◌+◌, ◌≤◌, ◌<◌}
use native.Mathlib.Omega.{arith}
use Rattle.rules.specs.declared.Row.{Row}
use Rattle.rules.specs.Blocks.{view_of, kind_of, Block, done, plain, pick, loop}
use Rattle.table.specs.declared.Shape.{Shape}
use Rattle.table.specs.Code.{kind_at}
use Rattle.table.specs.Shapes.{shape_of, plain_of, past_else}
use Rattle.table.proofs.Laws.{shape_text}
use Rattle.analysis_steps.specs.Tree.{Ready, Walked, Whole, block_at, end_at, head_of, form_of, test_of, with_last_of}
use Rattle.analysis_steps.proofs.Laws.{RowLaw, PickIs, LoopIs, ClosedAt, row_law, last_law}

-- the rows build from any row on
pub ready : {text : List ℕ} {rows : List Row} {count i j : ℕ} → Ready text rows count i → j ≤ count → Ready text rows count j
ready r h = record { few = r.few; reach = r.reach; within = h; built = r.built; fine = r.fine; written = r.written }

-- at row i, x is what the rows from `at` gave, and the block from i is left
pub record Walking {A B : Type 0} (text : List ℕ) (rows : List Row) (count : ℕ) (f : A → Block → B) (at : ℕ) (x₀ : A) (i : ℕ) (x : A) : Type 0 where
  pub low : at ≤ i
  pub high : i ≤ count
  pub value : f x₀ (block_at text rows count at) ≡ f x (block_at text rows count i)
  pub place : end_at text rows count at ≡ end_at text rows count i

module _ {text : List ℕ} (rows : List Row) (count : ℕ) where
  module _ (i : ℕ) (l : i < count) (built : Whole text rows count) where
    law_at : (s : Shape) → shape_of (kind_at rows i) ≡ s → RowLaw text rows count s (view_of (kind_of text (kind_at rows i))) i
    law_at s e = rw (shape_text text (kind_at rows i) ∙ e) at (row_law text rows count built i l)

    -- what a walk knows of a pick whose first part is closed at m, whose second part starts at s and ends at e
    pub pick_at : shape_of (kind_at rows i) ≡ Shape.Branch → {m s e : ℕ} → m ≡ end_at text rows count (i + 1) → s ≡ past_else (kind_at rows m) m → e ≡ end_at text rows count s → PickIs text rows count i m s e
    pick_at h {m} {s} {e} p q r = let t = law_at Shape.Branch h in rw (r, q, p) t

    pub loop_at : shape_of (kind_at rows i) ≡ Shape.Loop → {e : ℕ} → e ≡ end_at text rows count (i + 1) → LoopIs text rows count (head_of text (kind_at rows i)) i e
    unfolding head_of
    loop_at h p = let t = law_at Shape.Loop h in rw p t

  module _ {A B : Type 0} (f : A → Block → B) (at : ℕ) (x₀ : A) where
    pub begin : at ≤ count → Walking text rows count f at x₀ at x₀
    begin h = record { low = omega arith; high = h; value = refl; place = refl }

    module _ {i : ℕ} {x : A} (k : Walking text rows count f at x₀ i x) (l : i < count) (built : Whole text rows count) where
      pub plain_row : shape_of (kind_at rows i) ≡ Shape.Plain → {y : A}
          → ((rest : Block) → f x (plain i (plain_of text (kind_at rows i)) rest) ≡ f y rest) → Walking text rows count f at x₀ (i + 1) y
      plain_row h g =
          let t = law_at i l built Shape.Plain h in
          record { low = omega arith; high = omega arith; value = k.value ∙ ap (f x) t.block ∙ g _; place = k.place ∙ t.end }

      -- a plain row is next
      pub plain_next : shape_of (kind_at rows i) ≡ Shape.Plain → f x₀ (block_at text rows count at) ≡ f x (plain i (plain_of text (kind_at rows i)) (block_at text rows count (i + 1)))
      plain_next h = k.value ∙ ap (f x) (law_at i l built Shape.Plain h).block

      pub pick_row : {m s e : ℕ} → PickIs text rows count i m s e → {y : A}
          → ((rest : Block) → f x (pick i e (block_at text rows count (i + 1)) (block_at text rows count s) rest) ≡ f y rest) → Walking text rows count f at x₀ (e + 1) y
      pick_row t g =
          record { low = omega arith; high = omega arith; value = k.value ∙ ap (f x) t.block ∙ g _; place = k.place ∙ t.end }

      pub loop_row : {e : ℕ} → LoopIs text rows count (head_of text (kind_at rows i)) i e → {y : A}
          → ((rest : Block) → f x (loop i e (form_of text (kind_at rows i)) (test_of text (kind_at rows i)) (with_last_of text (kind_at rows i) i (block_at text rows count (i + 1))) rest) ≡ f y rest)
          → Walking text rows count f at x₀ (e + 1) y
      loop_row t g =
          record { low = omega arith; high = omega arith; value = k.value ∙ ap (f x) t.block ∙ g _; place = k.place ∙ t.end }

    -- the walk is over: y is the answer, and i the row that closes the block
    module _ {i : ℕ} {x : A} {y : B} (none : f x done ≡ y) (k : Walking text rows count f at x₀ i x) where
      stopped : ClosedAt text rows count i → Walked text rows count at i y (f x₀)
      stopped t = record { value = sym (k.value ∙ ap (f x) t.block ∙ none); place = sym (k.place ∙ t.end); low = k.low; high = k.high }

      pub at_close : i < count → Whole text rows count → shape_of (kind_at rows i) ≡ Shape.Close → Walked text rows count at i y (f x₀)
      at_close l built h = stopped (law_at i l built Shape.Close h)

      pub at_last : Whole text rows count → count ≤ i → Walked text rows count at i y (f x₀)
      at_last built l = stopped (let e : i ≡ count = omega arith in rw e (last_law text rows count built))

-- a pick whose first part is closed at m, and the second part, which starts at s
pub first_part : {text : List ℕ} {rows : List Row} {count at i : ℕ} → Ready text rows count at → i < count → shape_of (kind_at rows i) ≡ Shape.Branch → {m : ℕ} → m ≡ end_at text rows count (i + 1)
    → PickIs text rows count i m (past_else (kind_at rows m) m) (end_at text rows count (past_else (kind_at rows m) m))
first_part r l h p = pick_at _ _ _ l r.built h p refl refl

pub second_part : {text : List ℕ} {rows : List Row} {count at i : ℕ} → Ready text rows count at → i < count → shape_of (kind_at rows i) ≡ Shape.Branch → {m : ℕ} → m ≡ end_at text rows count (i + 1)
    → {s : ℕ} → s ≡ past_else (kind_at rows m) m → Ready text rows count s
second_part r l h p e = let k = first_part r l h p in ready r (search rules)
