-- The sheet of the files so far, as code holds it, and what is found of a file.
use Rattle.std.specs.Prelude.{◌≡◌, List, ℕ, ◌+◌, ◌*◌, ◌≤◌, ◌<◌, length, get_or}
use Rattle.rules.specs.Scripts.{Script}
use Rattle.rules.specs.Calls.{Judged, accepted, four_ones}
use Rattle.rules_season.specs.Season.{cues_of, scripts_of}
use Rattle.report.specs.Pieces.{Wrote}
use Rattle.calls.specs.declared.Measured.{Measured}
use Rattle.calls.specs.Told.{MeasuredAs}
use Rattle.season_sheet.specs.declared.groups.Kept.{Kept}
use Rattle.season_sheet.specs.Firsts.{Firsts}
use Rattle.season_sheet.specs.declared.sheet.Sheet.{Sheet}
use Rattle.season_sheet.specs.Figures.{SheetIs}
use Rattle.season_sheet.specs.declared.files.FileFigures.{FileFigures}

-- the answer and the ticks of a report call
abbrev pub as_measured : FileFigures → Measured
as_measured f = record { reply = f.reply; ticks = f.ticks }

-- what is found of a file that is judged so: its report and ticks, and the cue numbers of an accepted one; what is written of a refused one's is free
pub record FoundAs (j : Judged) (old new cues cues' : List ℕ) (f : FileFigures) : Type 0 where
  pub measured : MeasuredAs four_ones j old new (as_measured f)
  pub fires : (s : Script) → j ≡ accepted s → Wrote (cues_of s.rows) cues cues' f.cues
  pub few : f.cues ≤ 256
  pub same : length cues' ≡ length cues

-- what the sheet keeps of the groups' first files
abbrev pub kept_by : Sheet → Kept
kept_by s = record { groups = s.groups; used = s.used; cued = s.cued }

-- the figures are the sheet of these files, and the reports and cue numbers of their groups' first files are kept; and how large each number can be
pub record SeasonSoFar (js : List Judged) (s : Sheet) (counts lengths reports fired cues : List ℕ) : Type 0 where
  pub figures : SheetIs js s counts
  pub firsts : Firsts (scripts_of js) (kept_by s) lengths reports fired cues
  pub files : s.accepted + s.refused ≡ length js
  pub sum : s.ticks ≤ 1_000_000_000_000 * length js
  pub few : s.groups ≤ length js
  pub long : length counts ≡ 21
  pub each : (q : ℕ) → q < 21 → get_or counts q 0 ≤ length js
  pub places : length lengths ≡ 64
  pub room : length reports ≡ 133_696
  pub firing : length fired ≡ 64
  pub numbers : length cues ≡ 16_384

-- a sheet of fewer than 64 files
abbrev pub SheetWithRoom : Sheet → List ℕ → List ℕ → List ℕ → List ℕ → List ℕ → Type 0
SheetWithRoom s counts lengths reports fired cues = (js : List Judged) × SeasonSoFar js s counts lengths reports fired cues × (length js < 64)
