-- `season_sheet::groups::same_cues` meets its contract.
use Rattle.program_words.proofs.Slices.{word_is}
use mathlib.Core.Path.{refl}
use Rattle.season_sheet.proofs.groups.same_cues.Goals as goal

pub returns : goal.returns
returns c = word_is _ _ _ _ refl c.eq.ensures
