use mathlib.Core.Path.{refl}
use Rattle.rules.specs.Blocks.{view_of, kind_of}
use Rattle.rules_live.specs.LiveState.{is_cue, is_pick_row}
use Rattle.live_state.proofs.RowKinds.{other_than_end}
use Rattle.live_state.proofs.is_end.Goals as goal

pub returns-in-End : goal.returns-in-End
unfolding is_cue is_pick_row view_of kind_of
returns-in-End c text = rw c.in-End.is refl

pub returns-in_default : goal.returns-in_default
returns-in_default c text = other_than_end c.args.kind text c.in_default.not-End
