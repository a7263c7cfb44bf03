-- From a file that was loaded to the judgement of its script. Assumes nothing.
use mathlib.Core.Path.{◌≡◌, refl, sym, ◌∙◌, ap}
use mathlib.Core.List.{List}
use Prim.Native.Nat.{ℕ}
use native.Mathlib.Omega.{arith}
use lib.IntN.{ℤ}
use lib.ListN.{length}
use Rattle.rules.specs.Verdicts.{passed as Passed, refused as Refused}
use Rattle.rules.specs.Scripts.{Script, Legal}
use Rattle.rules.specs.File
use Rattle.rules.specs.File.{Reading, file_script}
use Rattle.rules.specs.Calls.{refuses, prices_of, judged_file}
use Rattle.rules.proofs.ReadLegal.{read_legal, read_short}
use Rattle.table.specs.Code.{rows_of}
use Rattle.reader.specs.declared.Loaded.{Loaded}
use Rattle.reader.specs.Read.{LoadAnswer, ReadAnswer, read_answer, loaded_answer, LoadedAs}
use Rattle.reader.proofs.Packs.{read_few}
use Rattle.calls.specs.Held.{read_script, Given, judged_script}

module _ (prices file : List ℕ) (l : LoadAnswer) (ranges : List (List ℤ)) (t : List ℕ) (e : LoadedAs file (file_script file) l ranges t) where
  abbrev loaded_as : Loaded
  loaded_as = record { vars = l.vars; count = l.count }

  abbrev script : Script
  script = read_script file t loaded_as ranges

  -- the file is refused
  pub file_refused : {q p : ℕ} → l.verdict ≡ Refused q p → judged_file (prices_of prices) (file_script file) ≡ refuses q p
  unfolding judged_file read_answer
  file_refused {q} {p} z = go (file_script file) e.reads.answer
    where
      go : (r : Reading Script) → loaded_answer file l (rows_of t) ranges ≡ read_answer r → judged_file (prices_of prices) r ≡ refuses q p
      go (File.read s rest) a =
          let v : l.verdict ≡ Passed = ap (λ (x : ReadAnswer). x.verdict) a in
          absurd (let y : ◌≡◌ {A = ℕ} 0 1 = cc in omega arith)
      go (File.refused n k) a =
          let v : l.verdict ≡ Refused n k = ap (λ (x : ReadAnswer). x.verdict) a in
          cc

  module _ (z : l.verdict ≡ Passed) where
    loaded : (rest : List (List ℕ)) × (file_script file ≡ File.read script rest) × (l.vars ≡ length script.ranges)
    unfolding read_answer
    loaded = go (file_script file) refl e.reads.answer
      where
        go : (r : Reading Script) → file_script file ≡ r → loaded_answer file l (rows_of t) ranges ≡ read_answer r → (rest : List (List ℕ)) × (file_script file ≡ File.read script rest) × (l.vars ≡ length script.ranges)
        go (File.read s rest) f a =
            let g : script ≡ s = ap (λ (x : ReadAnswer). x.script) a in
            (rest, f ∙ ap (λ x. File.read x rest) (sym g), ap (λ (x : ReadAnswer). x.vars) a ∙ ap (λ (x : Script). length x.ranges) (sym g))
        go (File.refused n k) f a =
            let v : l.verdict ≡ Refused n k = ap (λ (x : ReadAnswer). x.verdict) a in
            absurd (let y : ◌≡◌ {A = ℕ} 0 1 = cc in omega arith)

    -- the file is read
    pub file_read : judged_file (prices_of prices) (file_script file) ≡ judged_script prices script
    unfolding judged_file
    file_read = rw loaded.1

    pub file_given : Given file t loaded_as ranges
    file_given =
        let legal : Legal script = read_legal file script loaded.0 loaded.1 in
        record {
          legal = legal;
          size = read_few file l (rows_of t) ranges e.reads;
          table = e.table;
          short = read_short file script loaded.0 loaded.1;
          written = e.reads.written;
          few = omega (arith, legal.sizes.0, loaded.2);
          blank = e.reads.blank z;
        }
