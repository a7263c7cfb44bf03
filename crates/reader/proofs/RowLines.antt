-- What a row line says. Assumes nothing.
use mathlib.Core.Path.{◌≡◌, refl, sym, subst}
use mathlib.Core.Bool.{true, false}
use mathlib.Core.List.{List, []}
use Prim.Native.Nat.{ℕ, ◌+◌}
use lib.ListN.{drop}
use Rattle.rules.specs.Text.{words_of, next_texts}
use Rattle.rules.specs.File.{row_key, Wrong, words_row, row_of}
use Rattle.reading.specs.Words.{before, parts}
use Rattle.reader.specs.Lines.{file_lines, keyed, clean}
use Rattle.reader.specs.Read.{LineRead}
use Rattle.reader.proofs.NextLine.{last, Keyed, keyed_at, at_none}
use Rattle.std.specs.Prelude.{Result, Err}
use Rattle.reading.specs.declared.order.LineQuestion.{LineQuestion}
use Rattle.reader.specs.declared.rows.RowLine.{RowLine}
use Rattle.reader.specs.Rows.{Rowed}

-- a row line
module _ (s : List ℕ) (vars : ℕ) where
  pub row_there : keyed row_key s ≡ true → Keyed row_key s 3
  unfolding clean last
  row_there e = keyed_at row_key s 3 refl refl e

  pub row_yes : (base : ℕ) (r : Result RowLine LineQuestion) → keyed row_key s ≡ true → Rowed s base (row_of vars (parts (drop 3 s))) (3 + before 10 (drop 3 s)) r → LineRead s base vars r
  row_yes base r e l =
      let k = row_there e in
      subst (λ ts. Rowed s base (row_of vars ts) (before 10 s) r) (sym k.texts) (subst (λ n. Rowed s base (row_of vars (parts (drop 3 s))) n r) k.line l)

  no_row : (ts : List (List ℕ)) → ts ≡ [] → Wrong 3 ≡ row_of vars ts
  unfolding row_of words_row words_of
  no_row ts e = rw e

  pub row_no : (base : ℕ) → keyed row_key s ≡ false → LineRead s base vars (Err LineQuestion.Shape)
  unfolding clean
  row_no base e = let n = no_row (next_texts row_key (file_lines s)) (at_none row_key s refl e) in record { line = λ file d. n; written = λ file d. tt; ends = tt }
