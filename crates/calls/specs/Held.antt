-- A script that has been read, as code holds it: the ranges in an array of pairs, the rows in a table, beside the file's text.
use Rattle.std.specs.Prelude.{◌≡◌, List, ℕ, ◌≤◌, ◌<◌, ℤ, length}
use Rattle.rules.specs.Written.{Written}
use Rattle.rules.specs.Verdicts.{Verdict}
use Rattle.rules.specs.Verdicts.{refused as Refused}
use Rattle.rules.specs.Questions.{verdict}
use Rattle.rules.specs.Scripts.{Script, BlankFrom, script_of, start_env, tree_of, Legal}
use Rattle.rules.specs.Calls.{Judged, accepted, refuses, judged_by, prices_of, store_verdict}
use Rattle.table.specs.Code.{rows_of, kind_at}
use Rattle.table.specs.Paired.{Table}
use Rattle.reader.specs.declared.Loaded.{Loaded}
use Rattle.analysis.specs.Whole.{AnalysisAnswer, AnalysisOf}

-- the script that is read: the first pairs of the array of ranges, and the first rows of the table, beside the text
abbrev pub read_script : List ℕ → List ℕ → Loaded → List (List ℤ) → Script
read_script text t l ranges = script_of text ranges l.vars (rows_of t) l.count

-- it has passed the questions 2 to 7 and 17, all its rows are in the table, and its expressions stand in the text
pub record Given (text t : List ℕ) (l : Loaded) (ranges : List (List ℤ)) : Type 0 where
  pub legal : Legal (read_script text t l ranges)
  pub size : l.count ≤ 256
  pub table : Table text (rows_of t) l.count t
  pub short : length text ≤ 16_384
  pub written : (i : ℕ) → i < l.count → Written text (kind_at (rows_of t) i)
  pub few : l.vars ≤ 16
  pub blank : BlankFrom l.vars ranges

-- the questions 19 and 8 to 13 of a script under lent prices
abbrev pub judged_script : List ℕ → Script → Judged
judged_script prices script = judged_by script (verdict (prices_of prices) (length script.rows) (start_env script.ranges) (tree_of script.rows))

-- 15 of the store of a script that is accepted so far
abbrev pub admitted : Judged → List ℤ → Verdict
admitted (accepted script) store = store_verdict 0 script.ranges store
admitted (refuses q p) store = Refused q p

-- what the analysis found of a script of `count` rows
pub record FiguresFound (prices : List ℕ) (script : Script) (count : ℕ) (s : AnalysisAnswer) (lines : List (List ℕ)) : Type 0 where
  pub long : length script.rows ≡ count
  pub figures : AnalysisOf (prices_of prices) script count s lines
