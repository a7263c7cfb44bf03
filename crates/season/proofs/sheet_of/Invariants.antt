use Rattle.std.proofs.Common.{length, ◌-◌, ◌≡◌, ◌≤◌}
use Rattle.std.proofs.Common.{List, ℕ}
use Rattle.rules_season.specs.Season.{judged_all}
use Rattle.season_sheet.specs.Holds.{SeasonSoFar}
use Rattle.season.proofs.sheet_of.Given as goal

abbrev pub invariant-loop-k : goal.invariant-loop-k
invariant-loop-k g l = (files : List (List ℕ)) × (length files ≡ l.k) × (l.k ≤ l.count) × SeasonSoFar (judged_all files) l.sheet l.counts l.firsts l.reports l.fired l.cues
