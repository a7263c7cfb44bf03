-- The rows of a file that was read can stand in the table, and the table has them. Assumes nothing.
use mathlib.Core.Path.{◌≡◌, refl, sym, ap, subst, ◌∙◌}
use mathlib.Core.List.{List, []}
use Prim.Native.Nat.{ℕ, ◌≤◌}
use native.Mathlib.Omega.{arith}
use lib.IntN.{ℤ}
use lib.ListN.{length, take, replicate, length-replicate}
use Rattle.rules.specs.declared.Row.{Row}
use Rattle.rules.specs.declared.Kind.{Kind}
use Rattle.rules.specs.Blocks.{kinds_of}
use Rattle.rules.specs.Nesting.{nest_rows}
use Rattle.rules.specs.Scripts.{Script, pair_ranges, script_of, Legal}
use Rattle.rules.specs.Written.{Written}
use Rattle.rules.specs.File.{Reading, read, refused, file_script}
use Rattle.rules.proofs.ReadLegal.{read_legal, read_short}
use Rattle.table.specs.Code.{rows_of}
use Rattle.table.specs.Paired.{script_rows, Closing, Packable, Table}
use Rattle.table.proofs.Limits.{legal_fine}
use Rattle.table.proofs.Whole.{packed_kinds, packed_at, own_table, fill_none, fill_done}
use Rattle.reader.specs.Read.{LoadAnswer, no_load, ReadAnswer, read_answer, loaded_answer, ReadAs, LoadedAs}

module _ (file : List ℕ) (l : LoadAnswer) (rows : List Row) (ranges : List (List ℤ)) (e : ReadAs file (file_script file) l rows ranges) where
  abbrev script : Script
  script = script_of file ranges l.vars rows l.count

  -- the file is read and its script legal, or it has no row
  by_reading : {P : Type 0} → (Legal script → length file ≤ 16_384 → length script.rows ≡ l.count → P) → (l.count ≡ 0 → P) → P
  unfolding read_answer
  by_reading {P} f g = go (file_script file) refl e.answer
    where
      go : (r : Reading Script) → file_script file ≡ r → loaded_answer file l rows ranges ≡ read_answer r → P
      go (read s rest) q a =
          let same : s ≡ script = sym (ap (λ (x : ReadAnswer). x.script) a) in
          let is : file_script file ≡ read script rest = q ∙ ap (λ x. read x rest) same in
          f (read_legal file script rest is) (read_short file script rest is) (ap (λ (x : Script). length x.rows) (sym same) ∙ sym (ap (λ (x : ReadAnswer). x.count) a))
      go (refused n p) q a = g (ap (λ (x : ReadAnswer). x.count) a)

  -- its blocks close
  pub read_closes : Closing (script_rows file rows l.count)
  unfolding script_of nest_rows
  read_closes = by_reading (λ legal short long. legal.closed) (λ none. rw none (0, refl))

  pub read_few : l.count ≤ 256
  read_few = by_reading (λ legal short long. omega (arith, legal.sizes.1, long)) (λ none. omega arith)

  pub read_packable : (t : List ℕ) → length t ≡ 1_024 → Packable rows l.count t
  read_packable t h = record {
    size = h;
    few = read_few;
    fine = by_reading (λ legal short long. legal_fine file ranges l.vars rows l.count legal short long e.written) (λ none i k. absurd (omega arith));
    closing = (file, read_closes);
  }

  pub read_loaded : (t : List ℕ) → Table file rows l.count t → LoadedAs file (file_script file) l ranges t
  unfolding script_of
  read_loaded t b =
      let s : take l.count (kinds_of file (rows_of t)) ≡ take l.count (kinds_of file rows) = packed_kinds file l.count rows t b.packed in
      let same : loaded_answer file l (rows_of t) ranges ≡ loaded_answer file l rows ranges =
      ap {B = ReadAnswer} (λ ks. record { verdict = l.verdict; vars = l.vars; count = l.count; script = record { ranges = take l.vars (pair_ranges ranges); rows = ks } }) s in
      record {
        reads = record {
          answer = same ∙ e.answer;
          blank = e.blank;
          written = λ i h. subst (Written file) (sym (packed_at l.count rows t b.packed i h)) (e.written i h);
        };
        table = own_table file rows l.count t b;
      }

-- a refused file has no row in the table
pub refused_loads : (file : List ℕ) (q p : ℕ) (ranges : List (List ℤ)) (t : List ℕ) → refused q p ≡ file_script file → length t ≡ 1_024 → LoadedAs file (file_script file) (no_load q p) ranges t
unfolding read_answer script_of
refused_loads file q p ranges t e h =
    let rows : List Row = replicate 256 (record { kind = Kind.End }) in
    let r : ReadAs file (file_script file) (no_load q p) rows ranges = rw (← e) (record {
      answer = refl;
      blank = λ z. absurd (let y : ◌≡◌ {A = ℕ} 0 1 = cc in omega arith);
      written = λ i k. absurd (omega arith);
    }) in
    of_rows rows (length-replicate {A = Row} 256 (record { kind = Kind.End })) r
  where
    of_rows : (rows : List Row) → length rows ≡ 256 → ReadAs file (file_script file) (no_load q p) rows ranges → LoadedAs file (file_script file) (no_load q p) ranges t
    of_rows rows n r =
        let packs = read_packable file (no_load q p) rows ranges r t h in
        read_loaded file (no_load q p) rows ranges r t (fill_done rows 0 t t _ n packs (fill_none rows 0 t n packs [] []) file (read_closes file (no_load q p) rows ranges r))
