-- The loops' counts are those of the run's entries. Assumes nothing.
use mathlib.Core.Path.{◌≡◌, refl, sym, ◌∙◌, ap}
use mathlib.Core.List.{List, [], ◌∷◌}
use Prim.Native.Nat.{ℕ, suc}
use lib.ListN.{length, take}
use Rattle.rules.specs.Run.{Entry}
use Rattle.rules.specs.Answers.{sum_at, most_at}
use Rattle.rules_machine.specs.RowMachine.{TurnCounts, counts_of}
use Rattle.rules.specs.Calls.{counts_at}
use Rattle.run_loops.specs.declared.Loops.{Loops}
use Rattle.run_loops.specs.Loops.{HeadCounts}

counts_length : (es : List Entry) (ps : List ℕ) → length (counts_at es ps) ≡ length ps
unfolding counts_at
counts_length es [] = refl
counts_length es (p ∷ ps) = ap suc (counts_length es ps)

module _ (es : List Entry) (c : TurnCounts) (sums : (p : ℕ) → c.sum p ≡ sum_at p es) (mosts : (p : ℕ) → c.most p ≡ most_at p es) where
  counts_told : (ps : List ℕ) → counts_of c ps ≡ counts_at es ps
  unfolding counts_of counts_at
  counts_told [] = refl
  counts_told (p ∷ ps) = λ j. record { row = p; all = sums p j; most = mosts p j } ∷ counts_told ps j

  module _ (heads : List ℕ) (l : Loops) (counted : HeadCounts heads c l) where
    pub counts_are : take l.count l.counts ≡ counts_at es heads
    counts_are = counted.counts ∙ counts_told heads

    pub counts_number : l.count ≡ length (counts_at es heads)
    counts_number = counted.number ∙ sym (counts_length es heads)
