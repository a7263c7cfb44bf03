use mathlib.Core.Path.{refl}
use Rattle.rules.specs.Blocks.{view_of, kind_of}
use Rattle.rules_live.specs.Cues.{cue_of}
use Rattle.rules_live.specs.LiveState.{is_cue, is_pick_row}
use Rattle.live_state.proofs.RowKinds.{other_than_cue}
use Rattle.live_state.proofs.is_cue.Goals as goal

pub returns-in-Cue : goal.returns-in-Cue
unfolding is_cue cue_of is_pick_row view_of kind_of
returns-in-Cue c text = rw c.in-Cue.is refl

pub returns-in_default : goal.returns-in_default
returns-in_default c text = other_than_cue c.args.kind text c.in_default.not-Cue
