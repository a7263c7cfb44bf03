-- Only a for starts with an assignment.
use mathlib.Core.Path.{◌≡◌, refl}
use mathlib.Core.Bool.{Bool, true, false, not, ◌&&◌}
use mathlib.Core.List.{List}
use Prim.Native.Nat.{ℕ}
use Rattle.rules.specs.declared.Change.{Change}
use Rattle.rules.specs.declared.Comparison.{Comparison}
use Rattle.rules.specs.declared.Operand.{Operand}
use Rattle.rules.specs.declared.Kind.{Kind}
use Rattle.rules.specs.declared.Kind.TheVariants.{Set, Move, Cue, Pick, Else, End, While, Do, For, Off, Hold}
use Rattle.rules.specs.Blocks.{view_of, kind_of}
use Rattle.rules.specs.Steps.{starts}
use Rattle.analysis_steps.specs.Tree.{head_of, form_of, test_of}
use Rattle.analysis.proofs.entries.kept_at.Goals as goal

same : (k : Bool) → k ≡ k && true
same true = refl
same false = refl

no_for : (text : List ℕ) (v : ℕ) (p : Bool) (k : Kind) → ((w : ℕ) (s : Operand) (c : Comparison) (x : Operand) (d : Change) → k ≡ For w s c x d → ⊥) → p ≡ p && not (starts v (form_of text k) (test_of text k))
unfolding head_of view_of kind_of
no_for text v p End o = same p
no_for text v p Else o = same p
no_for text v p Pick o = same p
no_for text v p (Set w x) o = same p
no_for text v p (Move w c) o = same p
no_for text v p (Cue n) o = same p
no_for text v p (While w c x) o = same p
no_for text v p (Do w c x) o = same p
no_for text v p (For w s c x d) o = absurd (o w s c x d refl)
no_for text v p (Off w u c k) o = same p
no_for text v p (Hold w) o = same p

pub returns-then-kept : goal.returns-then-kept
unfolding head_of view_of kind_of
returns-then-kept c = λ text. rw (c.in-For.is, c.if-kept.true)

pub returns-else-kept : goal.returns-else-kept
unfolding head_of view_of kind_of
returns-else-kept c = λ text. rw (c.in-For.is, c.if-kept.false)

pub returns-in_default : goal.returns-in_default
returns-in_default c = λ text. no_for text c.args.v c.args.kept c.args.kind c.in_default.not-For
