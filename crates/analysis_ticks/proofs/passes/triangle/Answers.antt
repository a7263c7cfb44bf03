-- A for from a constant; any other row is none.
use mathlib.Core.Path.{◌≡◌, refl, sym, subst, ◌∙◌}
use mathlib.Core.Bool.{false}
use mathlib.Core.List.{List}
use Prim.Native.Nat.{ℕ}
use Rattle.rules.specs.declared.Change.{Change}
use Rattle.rules.specs.declared.Comparison.{Comparison}
use Rattle.rules.specs.declared.Kind.{Kind}
use Rattle.rules.specs.declared.Kind.TheVariants.{Set, Move, Cue, Pick, Else, End, While, Do, For, Off, Hold}
use Rattle.rules.specs.declared.Operand.{Operand}
use Rattle.rules.specs.Blocks.{view_of, kind_of}
use Rattle.rules.specs.Written.{Written}
use Rattle.rules.specs.Passes.{from_constant}
use Rattle.analysis_steps.specs.Tree.{head_of, form_of}
use Rattle.analysis_ticks.proofs.passes.triangle.Goals as goal

no_for : (text : List ℕ) (k : Kind) → ((v : ℕ) (s : Operand) (c : Comparison) (x : Operand) (d : Change) → k ≡ For v s c x d → ⊥) → from_constant (form_of text k) ≡ false
unfolding head_of view_of kind_of
no_for text End n = refl
no_for text Else n = refl
no_for text Pick n = refl
no_for text (Set v x) n = refl
no_for text (Move v c) n = refl
no_for text (Cue k) n = refl
no_for text (While v c x) n = refl
no_for text (Do v c x) n = refl
no_for text (For v s c x d) n = absurd (n v s c x d refl)
no_for text (Off v w c k) n = refl
no_for text (Hold v) n = refl

pub returns-then-is_constant : goal.returns-then-is_constant
unfolding head_of view_of kind_of
returns-then-is_constant c = λ text h.
    let w = subst (Written text) c.in-For.is h in
    rw (c.climbs_to.ensures text w.1, c.in-For.is, sym (c.is_constant.ensures text w.0) ∙ c.if-is_constant.true)

pub returns-else-is_constant : goal.returns-else-is_constant
unfolding head_of view_of kind_of
returns-else-is_constant c = λ text h.
    let w = subst (Written text) c.in-For.is h in
    rw (c.in-For.is, sym (c.is_constant.ensures text w.0), c.if-is_constant.false)

pub returns-in_default : goal.returns-in_default
returns-in_default c = λ text h. rw (no_for text c.args.kind c.in_default.not-For)
