-- The loop over the row lines: one equation, from the first line to the next. Assumes nothing.
use mathlib.Core.Path.{◌≡◌, refl, sym, ap, ◌∙◌, subst}
use mathlib.Core.Bool.{Bool, true, false}
use mathlib.Core.List.{List, [], ◌∷◌, ◌++◌}
use Prim.Native.Nat.{ℕ, suc, ◌+◌, ◌-◌, ◌≤◌, ◌<◌}
use native.Mathlib.Omega.{arith}
use native.Mathlib.Numerals.{add-one}
use lib.Dec.{eqb, ltb}
use lib.ListN.{length, get_or, take, drop, set, length-set, length-drop}
use lib.Seq.{drop-drop, get_or-set_same, get_or-set_other}
use borrow.Author.Tests.{eqb-true, eqb-false, ltb-true, ltb-false}
use Rattle.rules.specs.declared.Kind.{Kind}
use Rattle.rules.specs.declared.Row.{Row}
use Rattle.rules.specs.Blocks.{RowKind, view_of, kind_of, kinds_of}
use Rattle.rules.specs.Written.{Written}
use Rattle.rules.specs.Nesting.{nest_row}
use Rattle.rules.specs.Text.{words_of, next_texts, next_lines}
use Rattle.rules.specs.File.{RowRead, Read, Wrong, read, refused, words_row, row_of, row_key, placed, row_line, row_lines, no_rows}
use Rattle.rules.proofs.Laws.{kinds_more}
use Rattle.reading.specs.Words.{before}
use Rattle.reader.specs.declared.nesting.Blocks.{Blocks}
use Rattle.std.specs.Prelude.{Result, Ok, Err}
use Rattle.reading.specs.declared.order.LineQuestion.{LineQuestion}
use Rattle.reading.specs.Answers.{question_number}
use Rattle.reader.specs.declared.nesting.Block.{Block}
use Rattle.reader.specs.declared.nesting.BlockQuestion.{BlockQuestion}
use Rattle.reader.specs.Open.{nest_of, nested_of, block_number, Shallow}
use Rattle.reader.proofs.NestingLaws.{nest_none}
use Rattle.reader.specs.declared.rows.RowLine.{RowLine}
use Rattle.reader.specs.Lines.{file_lines}
use Rattle.reader.specs.Read.{LineRead, WrittenRows}
use Rattle.reader.proofs.NextLine.{next_none, lines_next}
use Rattle.reader.proofs.FillRanges.{less_one}

-- a row that is read has a line
pub row_line_lem : (vars : ℕ) (s : List ℕ) (k : RowKind) → row_of vars (next_texts row_key (file_lines s)) ≡ Read k → before 10 s < length s
unfolding row_of words_row words_of
row_line_lem vars s k e = go (ltb (before 10 s) (length s)) refl
  where
    go : (t : Bool) → ltb (before 10 s) (length s) ≡ t → before 10 s < length s
    go true p = ltb-true _ _ p
    go false p =
        let m : next_texts row_key (file_lines s) ≡ [] = next_none row_key s (ltb-false (before 10 s) (length s) p) in
        let f : row_of vars [] ≡ Read k = ap (row_of vars) (sym m) ∙ e in
        absurd (let y : ◌≡◌ {A = ℕ} 0 1 = cc in omega arith)

-- i of n row lines are read, and the next begins at byte `next`
pub record RowsUpto (file : List ℕ) (at vars n : ℕ) (rows : List Row) (blocks : Blocks) (next i : ℕ) : Type 0 where
  pub few : i ≤ n
  pub within : next ≤ length file
  pub size : length rows ≡ 256
  pub shallow : Shallow blocks
  pub written : WrittenRows file rows i
  pub same : row_lines vars n (4 + vars) (file_lines (drop at file)) no_rows
      ≡ row_lines vars (n - i) (4 + vars + i) (file_lines (drop next file)) (record { kinds = take i (kinds_of file rows); nest = nest_of blocks })

-- n row lines are read: the next byte, the open blocks, the rows
pub record RowsRead (file : List ℕ) (at vars n : ℕ) (next : ℕ) (blocks : Blocks) (rows : List Row) : Type 0 where
  pub same : row_lines vars n (4 + vars) (file_lines (drop at file)) no_rows ≡ read (record { kinds = take n (kinds_of file rows); nest = nest_of blocks }) (file_lines (drop next file))
  pub written : WrittenRows file rows n

pub rows_none : (file : List ℕ) (at vars n : ℕ) (rows : List Row) (kinds : List Block) → at ≤ length file → length rows ≡ 256
    → RowsUpto file at vars n rows (record { kinds = kinds; depth = 0; loops = 0 }) at 0
rows_none file at vars n rows kinds h l = record {
  few = omega arith;
  within = h;
  size = l;
  shallow = record { deep = omega arith; many = omega arith };
  written = λ j k. absurd (omega arith);
  same = rw (nest_none kinds) (ap (λ p. row_lines vars n p (file_lines (drop at file)) no_rows) (omega arith) ∙ ap (λ m. row_lines vars m (4 + vars + 0) (file_lines (drop at file)) no_rows) (omega arith));
}

-- the rows with one more
written_more : (file : List ℕ) (rows : List Row) (i : ℕ) (k : Kind) → i < length rows → WrittenRows file rows i → Written file k → WrittenRows file (set rows i (record { kind = k })) (i + 1)
written_more file rows i k l h w j m = go (eqb j i) refl
  where
    go : (t : Bool) → eqb j i ≡ t → Written file (get_or (set rows i (record { kind = k })) j (record { kind = Kind.End })).kind
    go true e = let f : j ≡ i = eqb-true j i e in rw (f, get_or-set_same rows i (record { kind = k }) (record { kind = Kind.End }) l) w
    go false e = let f = eqb-false j i e in rw (get_or-set_other rows i j (record { kind = k }) (record { kind = Kind.End }) f) (h j (omega arith))

module _ (file : List ℕ) (at vars n : ℕ) (rows : List Row) (blocks : Blocks) (next i : ℕ) (u : RowsUpto file at vars n rows blocks next i) (h : i < n) where
  row_step_lem : (r : RowRead) → r ≡ row_of vars (next_texts row_key (file_lines (drop next file)))
      → row_lines vars n (4 + vars) (file_lines (drop at file)) no_rows ≡ row_line (4 + vars + i) (record { kinds = take i (kinds_of file rows); nest = nest_of blocks }) r (λ x. row_lines vars (n - (i + 1)) (suc (4 + vars + i)) (next_lines (file_lines (drop next file))) x)
  unfolding row_lines
  row_step_lem r e = u.same ∙ ap (λ m. row_lines vars m (4 + vars + i) (file_lines (drop next file)) (record { kinds = take i (kinds_of file rows); nest = nest_of blocks })) (less_one n i h) ∙ rw (sym e) refl

  -- a no in this line
  pub rows_wrong : (q : LineQuestion) → LineRead (drop next file) next vars (Err q) → row_lines vars n (4 + vars) (file_lines (drop at file)) no_rows ≡ refused (question_number q) (4 + vars + i)
  unfolding row_line
  rows_wrong q line = row_step_lem (Wrong (question_number q)) (line.line file refl)

  module _ (row : RowLine) (line : LineRead (drop next file) next vars (Ok row)) (p : Result Blocks BlockQuestion) (f : nested_of p ≡ nest_row (view_of (kind_of file row.kind)) (nest_of blocks)) where
    said : (Read (kind_of file row.kind) ≡ row_of vars (next_texts row_key (file_lines (drop next file)))) × (row.end ≡ before 10 (drop next file))
    said = (line.line file refl, line.ends)

    pub rows_misplaced : (q : BlockQuestion) → p ≡ Err q → row_lines vars n (4 + vars) (file_lines (drop at file)) no_rows ≡ refused (block_number q) (4 + vars + i)
    unfolding row_line placed
    rows_misplaced q e = row_step_lem (Read (kind_of file row.kind)) said.0 ∙ rw (← f, e) refl

    there : before 10 (drop next file) < length (drop next file)
    there = row_line_lem vars (drop next file) (kind_of file row.kind) (sym said.0)

    pub rows_long : next + row.end + 1 ≤ length file
    rows_long = omega (arith, said.1, there, length-drop next file, u.within)

    pub rows_more : n ≤ 256 → (after : Blocks) → p ≡ Ok after → Shallow after → RowsUpto file at vars n (set rows i (record { kind = row.kind })) after (next + row.end + 1) (i + 1)
    unfolding row_line placed
    rows_more small after z s = record {
      few = omega arith;
      within = rows_long;
      size = length-set rows i (record { kind = row.kind }) ∙ u.size;
      shallow = s;
      written = written_more file rows i row.kind (omega (arith, u.size)) u.written (line.written file refl);
      same = row_step_lem (Read (kind_of file row.kind)) said.0 ∙ rw (← f, z) (
          ap (λ (ls : List (List ℕ)). row_lines vars (n - (i + 1)) (suc (4 + vars + i)) ls (record { kinds = take i (kinds_of file rows) ++ (kind_of file row.kind ∷ []); nest = nest_of after })) onward
          ∙ ap (λ (ks : List RowKind). row_lines vars (n - (i + 1)) (suc (4 + vars + i)) (file_lines (drop (next + row.end + 1) file)) (record { kinds = ks; nest = nest_of after })) (sym (kinds_more file rows i (record { kind = row.kind }) (omega (arith, u.size))))
          ∙ rw (add-one i) (ap (λ m. row_lines vars (n - suc i) m (file_lines (drop (next + row.end + 1) file)) (record { kinds = take (suc i) (kinds_of file (set rows i (record { kind = row.kind }))); nest = nest_of after })) (omega arith)));
    }
      where
        onward : next_lines (file_lines (drop next file)) ≡ file_lines (drop (next + row.end + 1) file)
        onward =
            let g : next + (before 10 (drop next file) + 1) ≡ next + row.end + 1 = omega (arith, said.1) in
            lines_next (drop next file) there ∙ ap file_lines (drop-drop (before 10 (drop next file) + 1) next file) ∙ ap (λ m. file_lines (drop m file)) g

pub rows_all : (file : List ℕ) (at vars n : ℕ) (rows : List Row) (blocks : Blocks) (next i : ℕ) → RowsUpto file at vars n rows blocks next i → n ≤ i → RowsRead file at vars n next blocks rows
unfolding row_lines
rows_all file at vars n rows blocks next i u h =
    let e : i ≡ n = omega (arith, u.few) in
    let z : n - i ≡ 0 = omega arith in
    record { same = u.same ∙ rw (z, e); written = subst (WrittenRows file rows) e u.written }
