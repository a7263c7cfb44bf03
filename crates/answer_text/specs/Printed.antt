-- "prints its report, or `refused=NUMBER PLACE` and LF".
use Rattle.std.specs.Prelude.{List, ℕ, ◌≤◌}
use Rattle.rules.specs.Report.{script_report}
use Rattle.rules.specs.Calls.{Judged, accepted, refuses, prices_of, scratch_size, judged}
use Rattle.rules_season.specs.Season.{refusal_text}
use Rattle.report.specs.Pieces.{Wrote}

-- the report under the prices, or the refusal
unfoldable pub printed_text : List ℕ → Judged → List ℕ
printed_text prices (accepted script) = script_report (prices_of prices) script
printed_text prices (refuses q p) = refusal_text q p

-- of a file's bytes, under prices
abbrev pub printed : List ℕ → List ℕ → List ℕ
printed prices file = printed_text prices (judged prices scratch_size file)

-- it stands at the front of the buffer
pub record PrintedIn (text old new : List ℕ) (r : ℕ) : Type 0 where
  pub wrote : Wrote text old new r
  pub short : r ≤ 2_089
