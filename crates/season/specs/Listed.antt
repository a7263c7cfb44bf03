-- What the program keeps: no contract can say what the system gave it to read.
use Rattle.std.specs.Prelude.{◌≡◌, List, ℕ, length}
use Rattle.rules_season.specs.Season.{judged_all}
use Rattle.season_sheet.specs.Kept.{NamesKept}
use Rattle.season_sheet.specs.declared.sheet.Sheet.{Sheet}
use Rattle.season_sheet.specs.Figures.{SheetIs}

-- the names are those of some input
abbrev pub Listed : ℕ → List ℕ → List ℕ → Type 0
Listed line names lengths = (input : List ℕ) × NamesKept input line names lengths

-- the sheet is that of some files, as many as there are names
abbrev pub SheetOf : ℕ → Sheet → List ℕ → Type 0
SheetOf count s counts = (files : List (List ℕ)) × (length files ≡ count) × SheetIs (judged_all files) s counts
