-- What the analysis asks of a script in its table.
use Rattle.std.specs.Prelude.{List, ℕ, ◌*◌, ◌≤◌, ◌<◌, ℤ, length}
use Rattle.rules.specs.declared.Prices.{Prices}
use Rattle.rules.specs.Bounds.{FinePrices}
use Rattle.rules.specs.Written.{Written}
use Rattle.rules.specs.Scripts.{script_of, BlankFrom, Legal}
use Rattle.table.specs.Code.{kind_at, rows_of}

-- it has passed the questions 2 to 7, its expressions stand in the text, and 16 has passed the prices
pub record Asked (text : List ℕ) (ranges : List (List ℤ)) (vars : ℕ) (table : List ℕ) (count : ℕ) (π : Prices) : Type 0 where
  pub legal : Legal (script_of text ranges vars (rows_of table) count)
  pub rows : count ≤ 256
  pub held : 4 * count ≤ length table
  pub few : vars ≤ 16
  pub blank : BlankFrom vars ranges
  pub prices : FinePrices π
  pub short : length text ≤ 16_384
  pub written : (i : ℕ) → i < count → Written text (kind_at (rows_of table) i)
