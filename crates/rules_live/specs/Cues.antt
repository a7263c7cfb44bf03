-- The cues of a run: "the numbers of the cue rows that this run does, in its order".
use Rattle.std.specs.Prelude.{cond, List, [], ◌++◌, ℕ, zero, suc, ltb, ℤ}
use Rattle.rules.specs.Blocks.{RowKind, view_at}
use Rattle.rules.specs.declared.Prices.{Prices}
use Rattle.rules.specs.Scripts.{Script}
use Rattle.rules.specs.Answers.{Answer}
use Rattle.rules.specs.Calls.{run_script}
unfoldable pub use Rattle.rules_season.specs.Season.{cue_of}

-- What one tick more of allowance fires, a the answer without it and b with it. Every price is at least 1: it is good for one price at most,
-- that of the row at which the run was spent. A run that was not spent takes no more.
unfoldable pub fired : List RowKind → Answer → Answer → List ℕ
fired rows a b = cond (ltb a.ticks b.ticks) (cue_of (view_at rows a.row)) []

-- the cues of a run with allowance n, from its answers with each allowance
unfoldable pub cues_by : List RowKind → (ℕ → Answer) → ℕ → List ℕ
cues_by rows answers zero = []
cues_by rows answers (suc n) = cues_by rows answers n ++ fired rows (answers n) (answers (suc n))

-- the cues of the run of a script
abbrev pub cues_to : Prices → Script → List ℤ → List ℕ → ℕ → List ℕ
cues_to π script store picks n = cues_by script.rows (run_script π script store picks) n
