-- What a row fires, as code has it.
use Rattle.std.specs.Prelude.{List, [], ◌∷◌, ℕ}
use Rattle.season_sheet.specs.declared.cues.Fired.{Fired}
use Rattle.season_sheet.specs.declared.cues.Fired.TheVariants.{Nothing, Cue}

-- its cue number, if it has one
abbrev pub fired_by : Fired → List ℕ
fired_by Nothing = []
fired_by (Cue n) = n ∷ []
