use Rattle.std.proofs.Common.{length}
use Rattle.season_sheet.proofs.groups.+is_known.Given as goal

abbrev pub decreases-is_known : goal.decreases-is_known
decreases-is_known l = length l.lengths.now
