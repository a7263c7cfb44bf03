-- A head, and the rows after it. Assumes nothing.
use mathlib.Core.Path.{◌≡◌, refl, sym, ap, ◌∙◌, subst}
use mathlib.Core.Bool.{Bool, true, false, cond}
use mathlib.Core.List.{List, [], ◌∷◌}
use Prim.Native.Nat.{ℕ, ◌+◌, ◌≤◌, ◌<◌}
use native.Mathlib.Omega.{arith}
use lib.Dec.{eqb, ltb}
use lib.IntN.{ℤ}
use lib.ListN.{length, take, drop, length-drop}
use lib.Seq.{length-take-le}
use Rattle.rules.specs.declared.Row.{Row}
use Rattle.rules.specs.Verdicts.{Verdict}
use Rattle.rules.specs.Verdicts.{passed as Passed, refused as Refused}
use Rattle.rules.specs.Questions.{asked}
use Rattle.rules.proofs.Laws.{kinds_first, pairs_length}
use Rattle.rules.specs.Blocks.{kinds_of}
use borrow.Author.Tests.{eqb-true, eqb-false, ltb-true, ltb-false}
use Rattle.rules.specs.Ranges.{Range}
use Rattle.rules.specs.Scripts.{Script, pair_ranges, BlankFrom, script_of}
use Rattle.rules.specs.Text.{prefixed, split}
use Rattle.rules.specs.File.{Reading, read, refused, then_lines, unless, turn_of, first_refusal, asks_rest, asks_closed, last_line, row_lines, no_rows}
use Rattle.reader.specs.Open.{nest_of}
use Rattle.reader.proofs.NestingLaws.{closed_depth, open_depth}
use Rattle.reader.specs.Lines.{file_lines}
use Rattle.reader.specs.Head.{HeadAnswer, HeadRead, head_answer, passing, head_read}
use Rattle.reader.specs.declared.head.Head.{Head}
use Rattle.reader.specs.declared.nesting.Blocks.{Blocks}
use Rattle.std.specs.Prelude.{Ok, not}
use Rattle.reader.specs.Read.{LoadAnswer, end_verdict, if_read, read_answer, loaded_answer, WrittenRows, RowsPart, ReadAs}
use Rattle.reader.proofs.NextLine.{split_some}
use Rattle.reader.proofs.FillRows.{RowsRead}

-- bytes after the last line
rest_some : (s : List ℕ) → 0 < length s → asks_rest (file_lines s) ≡ 3
unfolding split prefixed asks_rest
rest_some [] h = absurd (omega arith)
rest_some (x ∷ t) h = go (eqb x 10) (split_some 10 t)
  where
    go : (b : Bool) → (p : List ℕ) × (ps : List (List ℕ)) × (split 10 t ≡ p ∷ ps) → asks_rest (cond b ([] ∷ split 10 t) (prefixed x (split 10 t))) ≡ 3
    go true (p, ps, e) = rw e refl
    go false (p, ps, e) = rw e refl

rest_none : (s : List ℕ) → length s ≡ 0 → file_lines s ≡ [] ∷ []
unfolding split
rest_none [] h = refl
rest_none (x ∷ t) h = absurd (omega arith)

module _ (file : List ℕ) (at vars n next : ℕ) (blocks : Blocks) (rows : List Row) (f : RowsRead file at vars n next blocks rows) (ranges : List Range) where
  -- the rows are read: the line after the last
  last : then_lines (row_lines vars n (4 + vars) (file_lines (drop at file)) no_rows) (last_line (4 + vars + n) ranges)
      ≡ last_line (4 + vars + n) ranges (record { kinds = take n (kinds_of file rows); nest = nest_of blocks }) (file_lines (drop next file))
  unfolding then_lines
  last = rw f.same refl

  ends_at : length file ≤ next → file_lines (drop next file) ≡ [] ∷ []
  ends_at h = rest_none (drop next file) (omega (arith, length-drop next file))

  by_depth : {A : Type 0} → (asks_closed (nest_of blocks).open_blocks ≡ 0 → A) → (asks_closed (nest_of blocks).open_blocks ≡ 6 → A) → A
  by_depth {A = A} f g = go (eqb blocks.depth 0) refl
    where
      go : (b : Bool) → eqb blocks.depth 0 ≡ b → A
      go true e = f (closed_depth blocks (eqb-true _ _ e))
      go false e = g (open_depth blocks (eqb-false _ _ e))

  pub bytes_after : next < length file → then_lines (row_lines vars n (4 + vars) (file_lines (drop at file)) no_rows) (last_line (4 + vars + n) ranges) ≡ refused 3 (4 + vars + n)
  unfolding last_line unless first_refusal turn_of
  bytes_after h =
      let r : asks_rest (file_lines (drop next file)) ≡ 3 = rest_some (drop next file) (omega (arith, length-drop next file)) in
      last ∙ by_depth (λ e. rw (r, e) refl) (λ e. rw (r, e) refl)

  pub left_open : length file ≤ next → (blocks.depth ≡ 0 → ⊥) → then_lines (row_lines vars n (4 + vars) (file_lines (drop at file)) no_rows) (last_line (4 + vars + n) ranges) ≡ refused 6 (4 + vars + n)
  unfolding last_line unless first_refusal asks_rest
  left_open h o = last ∙ rw (ends_at h, open_depth blocks o) refl

  pub all_read : length file ≤ next → blocks.depth ≡ 0
      → then_lines (row_lines vars n (4 + vars) (file_lines (drop at file)) no_rows) (last_line (4 + vars + n) ranges) ≡ read (record { ranges = ranges; rows = take n (kinds_of file rows) }) ([] ∷ [])
  unfolding last_line unless first_refusal asks_rest
  all_read h o = last ∙ rw (ends_at h, closed_depth blocks o) refl

-- a head and what follows it: the first no, or the script
module _ (file : List ℕ) (ranges : List (List ℤ)) (h : Head) where
  pub rows_refused : (q p : ℕ) → row_lines h.vars h.count (4 + h.vars) (file_lines (drop h.at file)) no_rows ≡ refused q p → refused q p ≡ head_read file ranges (head_answer (Ok h))
  unfolding head_read passing then_lines
  rows_refused q p e = rw e

  module _ (next : ℕ) (blocks : Blocks) (rows : List Row) (f : RowsRead file h.at h.vars h.count next blocks rows) where
    pub load_read : (v : Verdict) → v ≡ end_verdict (ltb next (length file)) blocks.depth (4 + h.vars + h.count)
        → passing v (read (script_of file ranges h.vars rows h.count) ([] ∷ [])) ≡ head_read file ranges (head_answer (Ok h))
    unfolding head_read passing end_verdict asked script_of
    load_read v k = rw k (go (ltb next (length file)) (eqb blocks.depth 0) refl refl)
      where
        go : (b d : Bool) → ltb next (length file) ≡ b → eqb blocks.depth 0 ≡ d
            → passing (asked 3 (4 + h.vars + h.count) (not b) (asked 6 (4 + h.vars + h.count) d Passed)) (read (script_of file ranges h.vars rows h.count) ([] ∷ []))
            ≡ then_lines (row_lines h.vars h.count (4 + h.vars) (file_lines (drop h.at file)) no_rows) (last_line (4 + h.vars + h.count) (take h.vars (pair_ranges ranges)))
        go true d y w = sym (bytes_after file h.at h.vars h.count next blocks rows f _ (ltb-true _ _ y))
        go false false y w = sym (left_open file h.at h.vars h.count next blocks rows f _ (ltb-false _ _ y) (eqb-false _ _ w))
        go false true y w = sym (all_read file h.at h.vars h.count next blocks rows f _ (ltb-false _ _ y) (eqb-true _ _ w))

-- a file that was read is the reading of its script
pub loaded : (file : List ℕ) (v : Verdict) (vars count : ℕ) (rows : List Row) (ranges : List (List ℤ)) (reading : Reading Script)
    → passing v (read (script_of file ranges vars rows count) ([] ∷ [])) ≡ reading → vars ≤ 16 → (v ≡ Passed → length ranges ≡ 16) → count ≤ length rows
    → loaded_answer file (record { verdict = v; vars = if_read v vars; count = if_read v count }) rows ranges ≡ read_answer reading
unfolding passing read_answer script_of
loaded file Passed vars count rows ranges reading e small long all =
    let a : length (take vars (pair_ranges ranges)) ≡ vars = length-take-le vars (pair_ranges ranges) (omega (arith, long refl, pairs_length ranges)) in
    let b : length (take count (kinds_of file rows)) ≡ count = kinds_first file count rows all in
    rw (← e, a, b) refl
loaded file (Refused q p) vars count rows ranges reading e small long all = rw (← e) refl

pub loads : (file : List ℕ) (reading : Reading Script) (h : HeadAnswer) (r : LoadAnswer) (rows : List Row) (ranges : List (List ℤ)) → HeadRead file reading h ranges → RowsPart file h r rows → ReadAs file reading r rows ranges
loads file reading h r rows ranges a b = record {
  answer = same ∙ loaded file r.verdict h.vars h.count rows ranges reading (b.script ranges ∙ a.script) a.within.vars (λ z. (a.pairs (b.passes z)).long) (omega (arith, b.long, a.within.count));
  blank = λ z. subst (λ n. BlankFrom n ranges) (sym (b.vars ∙ ap (λ v. if_read v h.vars) z)) (a.pairs (b.passes z)).blank;
  written = all r.verdict refl;
}
  where
    all : (v : Verdict) → r.verdict ≡ v → WrittenRows file rows r.count
    all Passed e i k = b.written e i (let n : r.count ≡ h.count = b.count ∙ ap (λ v. if_read v h.count) e in omega arith)
    all (Refused q p) e i k = absurd (let n : r.count ≡ 0 = b.count ∙ ap (λ v. if_read v h.count) e in omega arith)

    same : loaded_answer file r rows ranges ≡ loaded_answer file (record { verdict = r.verdict; vars = if_read r.verdict h.vars; count = if_read r.verdict h.count }) rows ranges
    same = rw (b.vars, b.count) refl
