-- The kinds of row that a state tells apart: every other kind is none of them. Assumes nothing.
use Rattle.std.specs.Prelude.{◌≡◌, List, ℕ, false}
use mathlib.Core.Path.{refl}
use Rattle.rules.specs.declared.Kind.{Kind}
use Rattle.rules.specs.Blocks.{view_of, kind_of}
use Rattle.rules_live.specs.Cues.{cue_of}
use Rattle.rules_live.specs.LiveState.{is_cue, is_pick_row}
use Rattle.live_state.specs.Numbers.{is_end_number}

pub other_than_pick : (kind : Kind) (text : List ℕ) → (kind ≡ Kind.Pick → ⊥) → false ≡ is_pick_row (view_of (kind_of text kind))
unfolding is_pick_row view_of kind_of
other_than_pick Kind.End text f = refl
other_than_pick Kind.Else text f = refl
other_than_pick Kind.Pick text f = absurd (f refl)
other_than_pick (Kind.Set v x) text f = refl
other_than_pick (Kind.Move v c) text f = refl
other_than_pick (Kind.Off v w c k) text f = refl
other_than_pick (Kind.Cue n) text f = refl
other_than_pick (Kind.While v c x) text f = refl
other_than_pick (Kind.Do v c x) text f = refl
other_than_pick (Kind.For v s c x d) text f = refl
other_than_pick (Kind.Hold v) text f = refl

pub other_than_end : (kind : Kind) (text : List ℕ) → (kind ≡ Kind.End → ⊥) → false ≡ is_end_number (view_of (kind_of text kind))
unfolding view_of kind_of
other_than_end Kind.End text f = absurd (f refl)
other_than_end Kind.Else text f = refl
other_than_end Kind.Pick text f = refl
other_than_end (Kind.Set v x) text f = refl
other_than_end (Kind.Move v c) text f = refl
other_than_end (Kind.Off v w c k) text f = refl
other_than_end (Kind.Cue n) text f = refl
other_than_end (Kind.While v c x) text f = refl
other_than_end (Kind.Do v c x) text f = refl
other_than_end (Kind.For v s c x d) text f = refl
other_than_end (Kind.Hold v) text f = refl

pub other_than_cue : (kind : Kind) (text : List ℕ) → ((n : ℕ) → kind ≡ Kind.Cue n → ⊥) → false ≡ is_cue (view_of (kind_of text kind))
unfolding is_cue cue_of view_of kind_of
other_than_cue Kind.End text f = refl
other_than_cue Kind.Else text f = refl
other_than_cue Kind.Pick text f = refl
other_than_cue (Kind.Set v x) text f = refl
other_than_cue (Kind.Move v c) text f = refl
other_than_cue (Kind.Off v w c k) text f = refl
other_than_cue (Kind.Cue n) text f = absurd (f n refl)
other_than_cue (Kind.While v c x) text f = refl
other_than_cue (Kind.Do v c x) text f = refl
other_than_cue (Kind.For v s c x d) text f = refl
other_than_cue (Kind.Hold v) text f = refl
