-- What a script that is read in a table gives the analysis and the run. Assumes nothing.
use mathlib.Core.Path.{◌≡◌, sym, subst}
use mathlib.Core.List.{List}
use Prim.Native.Nat.{ℕ, ◌*◌, ◌≤◌, ◌<◌}
use native.Mathlib.Omega.{arith}
use lib.IntN.{ℤ}
use lib.ListN.{length}
use Rattle.rules.specs.declared.Prices.{Prices}
use Rattle.rules.specs.Written.{Written}
use Rattle.rules.specs.Bounds.{FinePrices}
use Rattle.rules.specs.Calls.{prices_of, Priced}
use Rattle.rules.specs.Scripts.{script_of}
use Rattle.rules.proofs.Laws.{kinds_first}
use Rattle.rules.proofs.Demand3File.{prices_pass, fine_prices}
use Rattle.table.specs.Code.{rows_of, kind_at}
use Rattle.table.proofs.Laws.{rows_length}
use Rattle.reader.specs.declared.Loaded.{Loaded}
use Rattle.analysis.specs.Whole.{AnalysisAnswer, AnalysisOf, LegalRows}
use Rattle.run_machine.specs.Steps.{Runnable}
use Rattle.runner.specs.Answered.{MayRun}
use Rattle.calls.specs.Held.{read_script, Given, FiguresFound}

-- four prices that question 16 passes, and the struct of them
pub four : (prices : List ℕ) → Priced prices → length prices ≡ 4
four prices q = (prices_pass 4 0 prices q).0

pub fine : (prices : List ℕ) → Priced prices → {π : Prices} → π ≡ prices_of prices → FinePrices π
fine prices q e = subst FinePrices (sym e) (fine_prices prices q)

module _ (text t : List ℕ) (l : Loaded) (ranges : List (List ℤ)) (g : Given text t l ranges) where
  -- all its rows are in the table
  pub long_rows : length (read_script text t l ranges).rows ≡ l.count
  unfolding script_of
  long_rows = kinds_first text l.count (rows_of t) (omega (arith, g.size, g.table.size, rows_length t))

  pub analyse_asks : {π : Prices} {L : Type 0} → FinePrices π → L
      → ((vars : ℕ) × LegalRows text ranges (rows_of t) l.count vars) × (l.count ≤ 256) × (4 * l.count ≤ length t) × FinePrices π × L × (length text ≤ 16_384) × ((i : ℕ) → i < l.count → Written text (kind_at (rows_of t) i))
  analyse_asks f n = ((l.vars, (g.legal, g.blank)), g.size, omega (arith, g.size, g.table.size), f, n, g.short, g.written)

  -- what the analysis found, under the lent prices
  pub found_by : (prices : List ℕ) {π : Prices} → π ≡ prices_of prices → (s : AnalysisAnswer) (lines : List (List ℕ)) → AnalysisOf π (read_script text t l ranges) l.count s lines → FiguresFound prices (read_script text t l ranges) l.count s lines
  found_by prices e s lines f = record { long = long_rows; figures = subst (λ ρ. AnalysisOf ρ (read_script text t l ranges) l.count s lines) e f }

  -- it may run from a store of its variables
  pub may_run : {π : Prices} {store : List ℤ} {allowance : ℕ} → 1 ≤ π.test → Runnable (length store) (read_script text t l ranges).rows → allowance ≤ 1_000_000_000_000 → MayRun text π t l.count store allowance
  unfolding script_of
  may_run price runs ticks = record { script = record { size = g.size; table = g.table; written = g.written; runs = runs }; price = price; ticks = ticks }
