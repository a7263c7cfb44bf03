use mathlib.Core.Path.{refl}
use Rattle.rules.specs.Blocks.{view_of, kind_of}
use Rattle.rules_live.specs.LiveState.{is_cue, is_pick_row}
use Rattle.live_state.proofs.RowKinds.{other_than_pick}
use Rattle.live_state.proofs.is_pick.Goals as goal

pub returns-in-Pick : goal.returns-in-Pick
unfolding is_cue is_pick_row view_of kind_of
returns-in-Pick c text = rw c.in-Pick.is refl

pub returns-in_default : goal.returns-in_default
returns-in_default c text = other_than_pick c.args.kind text c.in_default.not-Pick
