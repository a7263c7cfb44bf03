-- The parts of a loop's test, by the kind of row.
use mathlib.Core.Path.{◌≡◌, refl}
use mathlib.Core.List.{List}
use mathlib.Core.Logic.{◌⊎◌, inl, inr}
use Prim.Native.Nat.{ℕ}
use Rattle.rules.specs.Bounds.{Fine}
use Rattle.rules.specs.declared.Change.{Change}
use Rattle.rules.specs.declared.Comparison.{Comparison}
use Rattle.rules.specs.declared.Kind.{Kind}
use Rattle.rules.specs.declared.Kind.TheVariants.{While, Do, For}
use Rattle.rules.specs.declared.Operand.{Operand}
use Rattle.analysis_loops.specs.Heads.{HeadOf}
use native.Mathlib.Omega.{arith}
use Rattle.rules.specs.Blocks.{view_of, kind_of, expr_of}
use Rattle.analysis_steps.specs.Tree.{head_of}
use Rattle.analysis_loops.proofs.Heads.{no_test, zero_near}
use Rattle.analysis_loops.proofs.ways.head_of.Goals as goal

head_is : (text : List ℕ) {k : Kind} {v : ℕ} {c : Comparison} {x : Operand} → Fine k → (k ≡ While v c x) ⊎ ((k ≡ Do v c x) ⊎ ((s : Operand) × (d : Change) × (k ≡ For v s c x d))) → HeadOf text k (record { tested = v; comparison = c; limit = x })
unfolding head_of view_of kind_of
head_is text f (inl e) = let h = rw e at f in rw e (record { tested = refl; comparison = refl; limit = refl; small = h.0; fine = h.1; written = λ w. w })
head_is text f (inr (inl e)) = let h = rw e at f in rw e (record { tested = refl; comparison = refl; limit = refl; small = h.0; fine = h.1; written = λ w. w })
head_is text f (inr (inr (s, d, e))) = let h = rw e at f in rw e (record { tested = refl; comparison = refl; limit = refl; small = h.0; fine = h.2; written = λ w. w.1 })

pub returns-in-While : goal.returns-in-While
returns-in-While c = λ text. head_is text c.requires c.in-While.is

pub returns-in-While-2 : goal.returns-in-While-2
returns-in-While-2 c = λ text. head_is text c.requires c.in-While.is

pub returns-in-While-3 : goal.returns-in-While-3
returns-in-While-3 c = λ text. head_is text c.requires c.in-While.is

pub returns-in-Hold : goal.returns-in-Hold
unfolding head_of view_of kind_of expr_of
returns-in-Hold c =
    let h = rw c.in-Hold.is at c.requires in λ text. rw c.in-Hold.is (record { tested = refl; comparison = refl; limit = refl; small = h; fine = zero_near; written = λ w. tt })

pub returns-in_default : goal.returns-in_default
unfolding expr_of
returns-in_default c = λ text.
    let e = no_test text c.args.kind c.in_default.not-While c.in_default.not-Do c.in_default.not-For c.in_default.not-Hold in
    record { tested = rw e; comparison = rw e; limit = rw e; small = omega arith; fine = zero_near; written = λ w. tt }
