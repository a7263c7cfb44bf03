-- What the tree is at a row of each shape: the laws of `rules` for the rows of an array.
use mathlib.Core.Path.{◌≡◌, sym, ap, ◌∙◌}
use mathlib.Core.List.{List}
use Prim.Native.Nat.{ℕ, suc, ◌+◌, ◌≤◌, ◌<◌}
use native.Mathlib.Omega.{arith}
use native.Mathlib.Numerals.{add-one}
use lib.ListN.{length, get_or}
use Rattle.rules.specs.declared.Row.{Row}
use Rattle.rules.specs.Blocks.{End, Plain, View, is_plain, is_pick, is_else, is_end, is_loop, view_of, view_at, with_last, done, plain, pick, loop, kind_of}
use Rattle.rules.proofs.Laws.{kind_of_lem}
use Rattle.rules.proofs.Rows.{LoopAt, PickAt, alone, both, block_last, block_plain, block_loop, block_pick, block_end, block_else}
use Rattle.table.specs.declared.Shape.{Shape}
use Rattle.table.specs.Code.{kind_at}
use Rattle.table.specs.Shapes.{shape_by, plain_by, past_by, past_else}
use Rattle.table.proofs.Laws.{past_text}
use Rattle.analysis_steps.specs.Tree.{kinds, block_at, end_at, Whole, LoopHead, head_by, second_at}

module _ (text : List ℕ) (rows : List Row) (count : ℕ) where
  -- the laws: what stands at row i, by its shape
  pub record PlainAt (p : Plain) (i : ℕ) : Type 0 where
    pub block : block_at text rows count i ≡ plain i p (block_at text rows count (i + 1))
    pub end : end_at text rows count i ≡ end_at text rows count (i + 1)

  -- m: the row that closes the first part; s: where the second part starts; e: the end of the pick
  pub record PickIs (i m s e : ℕ) : Type 0 where
    pub block : block_at text rows count i ≡ pick i e (block_at text rows count (i + 1)) (block_at text rows count s) (block_at text rows count (e + 1))
    pub end : end_at text rows count i ≡ end_at text rows count (e + 1)
    pub first : i < m
    pub inside : m < count
    pub second : m ≤ s
    pub some : s ≤ count
    pub last : s ≤ e
    pub below : e < count

  pub record LoopIs (h : LoopHead) (i e : ℕ) : Type 0 where
    pub block : block_at text rows count i ≡ loop i e h.form h.test (with_last h.last i (block_at text rows count (i + 1))) (block_at text rows count (e + 1))
    pub end : end_at text rows count i ≡ end_at text rows count (e + 1)
    pub first : i < e
    pub below : e < count

  pub record ClosedAt (i : ℕ) : Type 0 where
    pub block : block_at text rows count i ≡ done
    pub end : end_at text rows count i ≡ i

  abbrev pub RowLaw : Shape → View → ℕ → Type 0
  RowLaw Shape.Plain w i = PlainAt (plain_by w) i
  RowLaw Shape.Branch w i = PickIs i (end_at text rows count (i + 1)) (second_at text rows count i) (end_at text rows count (second_at text rows count i))
  RowLaw Shape.Loop w i = LoopIs (head_by w) i (end_at text rows count (i + 1))
  RowLaw Shape.Close w i = ClosedAt i

  -- a row of the array is a row of the list of kinds
  pub kind_is : (i : ℕ) → i < count → get_or (kinds text rows count) i End ≡ kind_of text (kind_at rows i)
  kind_is i l = kind_of_lem text count rows i l

  view_is : (i : ℕ) → i < count → view_at (kinds text rows count) i ≡ view_of (kind_of text (kind_at rows i))
  view_is i l = ap view_of (kind_is i l)

  -- where the second part of a pick starts
  past_is : (i : ℕ) → i < count → {v : View} → view_at (kinds text rows count) i ≡ v → past_else (kind_at rows i) i ≡ past_by v i
  past_is i l r = sym (past_text text (kind_at rows i) i) ∙ ap (λ w. past_by w i) (sym (view_is i l) ∙ r)

  module _ (w : Whole text rows count) where
    -- past the last row
    pub last_law : ClosedAt count
    last_law =
        let b = block_last (kinds text rows count) w.tree w.builds in
        record { block = rw w.long at b.0; end = rw w.long at b.1 }

    module _ (i : ℕ) (l : i < count) where
      h : i < length (kinds text rows count)
      h = omega (arith, w.long)

      loop_by : (h : LoopHead) → LoopAt (kinds text rows count) i h.form h.test h.last → LoopIs h i (end_at text rows count (i + 1))
      loop_by h t = rw (add-one i) (record {
        block = rw (add-one i, add-one (end_at text rows count (suc i))) t.block;
        end = rw (add-one (end_at text rows count (suc i))) t.last;
        first = t.past;
        below = omega (arith, t.in_rows, w.long);
      })

      -- the pick's first part is closed by `end`, or by `else`
      pick_by : PickAt (kinds text rows count) i → PickIs i (end_at text rows count (i + 1)) (second_at text rows count i) (end_at text rows count (second_at text rows count i))
      pick_by (alone a b r k e) =
          let m = end_at text rows count (suc i) in
          let n : m < count = omega (arith, w.long) in
          let q : past_else (kind_at rows m) m ≡ m = past_is m n r in
          let t = block_end (kinds text rows count) w.tree w.builds m b r in
          rw (add-one i, q, t.1) (record {
            block = rw (t.0, add-one i, add-one m) k;
            end = rw (add-one m) e;
            first = a;
            inside = n;
            second = omega arith;
            some = omega arith;
            last = omega arith;
            below = n;
          })
      pick_by (both j p a r b c s k e) =
          let n : end_at text rows count (suc j) < count = omega (arith, w.long) in
          let q : past_else (kind_at rows j) j ≡ j + 1 = past_is j (omega arith) r in
          rw (add-one i, p, q, add-one j) (record {
            block = rw (add-one i, add-one (end_at text rows count (suc j))) k;
            end = rw (add-one (end_at text rows count (suc j))) e;
            first = a;
            inside = omega arith;
            second = omega arith;
            some = omega arith;
            last = b;
            below = n;
          })

      law_by : (v : View) → view_at (kinds text rows count) i ≡ v → RowLaw (shape_by v) v i
      law_by (is_plain p) e = let t = block_plain (kinds text rows count) w.tree w.builds i h p e in record { block = rw (add-one i) t.0; end = rw (add-one i) t.1 }
      law_by is_pick e = pick_by (block_pick (kinds text rows count) w.tree w.builds i h e)
      law_by is_else e = let t = block_else (kinds text rows count) w.tree w.builds i h e in record { block = t.0; end = t.1 }
      law_by is_end e = let t = block_end (kinds text rows count) w.tree w.builds i h e in record { block = t.0; end = t.1 }
      law_by (is_loop form test last) e = loop_by (record { form = form; test = test; last = last }) (block_loop (kinds text rows count) w.tree w.builds i h form test last e)

      -- the law of row i
      pub row_law : RowLaw (shape_by (view_of (kind_of text (kind_at rows i)))) (view_of (kind_of text (kind_at rows i))) i
      row_law = law_by (view_of (kind_of text (kind_at rows i))) (view_is i l)
