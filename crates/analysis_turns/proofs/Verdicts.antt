-- The questions 19 and 8 to 12 in their order, from the answers that the code finds.
use mathlib.Core.Path.{◌≡◌, refl, sym, ap₂, ◌∙◌}
use mathlib.Core.Bool.{Bool, true, false, not}
use Prim.Native.Nat.{ℕ}
use lib.IntN.{ℤ}
use Rattle.rules.specs.Steps.{moving}
use Rattle.rules.specs.Ranges.{Range, sort, suits}
use Rattle.rules.specs.Turns.{while_turns}
use Rattle.rules.specs.Trips.{Trip, edge_of, first_of, led, turns_of}
use Rattle.rules.specs.Questions.{asked, known, has_figure, loop_verdict}
use Rattle.std.proofs.Common.{Ok, Err}
use Rattle.analysis_turns.specs.Verdicts.{FigureOf}

-- a test `!b`
pub not_yes : {b : Bool} → not b ≡ true → b ≡ false
not_yes {b = true} e = sym e
not_yes {b = false} e = refl

pub not_no : {b : Bool} → not b ≡ false → b ≡ true
not_no {b = true} e = refl
not_no {b = false} e = sym e

module _ (τ : Trip) where
  pub refused_19 : τ.terms ≡ false → FigureOf τ (Err 19)
  unfolding loop_verdict asked
  refused_19 z = (λ i. rw z)

  module _ (z : τ.terms ≡ true) where
    pub refused_8 : known τ.step ≡ false → FigureOf τ (Err 8)
    unfolding loop_verdict asked
    refused_8 a = (λ i. rw (z, a))

    module _ (a : known τ.step ≡ true) where
      pub refused_9 : moving τ.step ≡ false → FigureOf τ (Err 9)
      unfolding loop_verdict asked
      refused_9 b = (λ i. rw (z, a, b))

      module _ (b : moving τ.step ≡ true) where
        pub refused_10 : τ.keeps ≡ false → FigureOf τ (Err 10)
        unfolding loop_verdict asked
        refused_10 d = (λ i. rw (z, a, b, d))

        module _ (d : τ.keeps ≡ true) where
          pub refused_11 : suits τ.step (sort τ.comparison) ≡ false → FigureOf τ (Err 11)
          unfolding loop_verdict asked
          refused_11 e = (λ i. rw (z, a, b, d, e))

          -- r: what the first counted test sees; m: the limit's range; x: its end
          module _ (e : suits τ.step (sort τ.comparison) ≡ true) (r m : Range) (x : ℤ) (start : r ≡ first_of τ) (same : m ≡ τ.limit) (end : x ≡ edge_of τ) where
            figure_is : has_figure τ.step (sort τ.comparison) τ.start r m x ≡ has_figure τ.step (sort τ.comparison) τ.start (first_of τ) τ.limit (edge_of τ)
            figure_is = λ j. has_figure τ.step (sort τ.comparison) τ.start (start j) (same j) (end j)

            pub refused_12 : has_figure τ.step (sort τ.comparison) τ.start r m x ≡ false → FigureOf τ (Err 12)
            unfolding loop_verdict asked
            refused_12 h = (λ i. rw (z, a, b, d, e, sym figure_is ∙ h))

            pub accepted : has_figure τ.step (sort τ.comparison) τ.start r m x ≡ true → (k : ℕ) → k ≡ while_turns τ.step (sort τ.comparison) r m x → (t : ℕ) → t ≡ led τ.lead (sort τ.comparison) x k
                → FigureOf τ (Ok t)
            unfolding loop_verdict asked turns_of
            accepted h k w t p = (
              (λ i. rw (z, a, b, d, e, sym figure_is ∙ h)),
              p ∙ ap₂ (led τ.lead (sort τ.comparison)) end (w ∙ (λ j. while_turns τ.step (sort τ.comparison) (start j) (same j) (end j))),
            )
