-- What the tag of a row that assigns tells of its step.
use mathlib.Core.Path.{◌≡◌, refl}
use mathlib.Core.Bool.{true, false, false≢true}
use mathlib.Core.List.{List}
use Prim.Native.Nat.{ℕ, ◌+◌, ◌*◌, ◌<◌}
use lib.ListN.{length}
use Rattle.rules_steps.specs.declared.Step.TheVariants.{Unknown}
use Rattle.rules.specs.Blocks.{view_of, kind_of}
use Rattle.rules.specs.Steps.{sets, row_step, source_step, change_step}
use Rattle.rules.specs.Bounds.{Fine, FineChange}
use Rattle.table.specs.declared.Tag.{Tag}
use Rattle.table.specs.Code.{numbers_at, row_tag, kind_by, variable_in, step_in, kind_at, rows_of}
use Rattle.table.specs.Shapes.{plain_of}
use Rattle.table.proofs.Laws.{kind_is}

none : {A B : Type 0} → A → false ≡ true → B
none f h = absurd (false≢true h)

module _ (text e : List ℕ) where
  set_step : (v : ℕ) → sets v (plain_of text (kind_by Tag.Set e)) ≡ true → row_step v (plain_of text (kind_by Tag.Set e)) ≡ Unknown
  unfolding kind_by view_of kind_of row_step source_step sets
  set_step v h = rw h

  off_step : (v : ℕ) → sets v (plain_of text (kind_by Tag.Off e)) ≡ true → row_step v (plain_of text (kind_by Tag.Off e)) ≡ Unknown
  unfolding kind_by view_of kind_of row_step source_step sets
  off_step v h = rw h

  -- any row but a set and an off
  change_steps : (g : Tag) → (g ≡ Tag.Set → ⊥) → (g ≡ Tag.Off → ⊥) → (v : ℕ) → Fine (kind_by g e) → sets v (plain_of text (kind_by g e)) ≡ true
      → FineChange (step_in e) × (row_step v (plain_of text (kind_by g e)) ≡ change_step (step_in e))
  unfolding kind_by view_of kind_of row_step source_step sets
  change_steps Tag.End o p v = none
  change_steps Tag.Else o p v = none
  change_steps Tag.Pick o p v = none
  change_steps Tag.Set o p v = absurd (o refl)
  change_steps Tag.Move o p v = λ f h. (f.1, rw h)
  change_steps Tag.Cue o p v = none
  change_steps Tag.While o p v = none
  change_steps Tag.Do o p v = none
  change_steps Tag.For o p v = λ f h. (f.3, rw h)
  change_steps Tag.Off o p v = absurd (p refl)
  change_steps Tag.Hold o p v = none

  -- it is one of the 16 variables
  small : (g : Tag) → Fine (kind_by g e) → sets (variable_in e) (plain_of text (kind_by g e)) ≡ true → variable_in e < 16
  unfolding kind_by view_of kind_of sets
  small Tag.End = none
  small Tag.Else = none
  small Tag.Pick = none
  small Tag.Set = λ f h. f.0
  small Tag.Move = λ f h. f.0
  small Tag.Cue = none
  small Tag.While = none
  small Tag.Do = none
  small Tag.For = λ f h. f.0
  small Tag.Off = λ f h. f.0
  small Tag.Hold = none

-- the same of row i
module _ (text t : List ℕ) (i : ℕ) (l : 4 * i + 3 < length t) {g : Tag} (p : g ≡ row_tag (numbers_at t i)) where
  pub step_set : g ≡ Tag.Set → (v : ℕ) → sets v (plain_of text (kind_at (rows_of t) i)) ≡ true → row_step v (plain_of text (kind_at (rows_of t) i)) ≡ Unknown
  step_set q v = rw (kind_is t i l p q) (set_step text (numbers_at t i) v)

  pub step_off : g ≡ Tag.Off → (v : ℕ) → sets v (plain_of text (kind_at (rows_of t) i)) ≡ true → row_step v (plain_of text (kind_at (rows_of t) i)) ≡ Unknown
  step_off q v = rw (kind_is t i l p q) (off_step text (numbers_at t i) v)

  pub step_change : (g ≡ Tag.Set → ⊥) → (g ≡ Tag.Off → ⊥) → (v : ℕ) → Fine (kind_at (rows_of t) i) → sets v (plain_of text (kind_at (rows_of t) i)) ≡ true
      → FineChange (step_in (numbers_at t i)) × (row_step v (plain_of text (kind_at (rows_of t) i)) ≡ change_step (step_in (numbers_at t i)))
  step_change o q v = rw (kind_is t i l p refl) (change_steps text (numbers_at t i) g o q v)

pub sets_small : (text t : List ℕ) (i : ℕ) → 4 * i + 3 < length t → Fine (kind_at (rows_of t) i) → sets (variable_in (numbers_at t i)) (plain_of text (kind_at (rows_of t) i)) ≡ true → variable_in (numbers_at t i) < 16
sets_small text t i l = rw (kind_is t i l {g = row_tag (numbers_at t i)} refl refl) (small text (numbers_at t i) (row_tag (numbers_at t i)))
