-- Where the first piece of a text ends. Assumes nothing.
use mathlib.Core.Path.{◌≡◌, ap, ◌∙◌}
use mathlib.Core.Bool.{Bool, true, false, cond}
use mathlib.Core.List.{List, [], ◌∷◌}
use Prim.Native.Nat.{ℕ, suc, ◌+◌, ◌-◌, ◌≤◌}
use native.Mathlib.Omega.{arith}
use lib.Dec.{eqb}
use lib.ListN.{length, take, drop, length-drop}
use Rattle.reading.specs.Words.{before}
use Rattle.reading.proofs.TextLaws.{part_rest}

before_within : (b : ℕ) (s : List ℕ) → before b s ≤ length s
unfolding before
before_within b [] = omega arith
before_within b (x ∷ s) = go (eqb x b) (before_within b s)
  where
    go : (t : Bool) → before b s ≤ length s → cond t 0 (suc (before b s)) ≤ suc (length s)
    go true h = omega arith
    go false h = omega arith

-- the first piece from byte `at` on ends at `end`
module _ (b : ℕ) (s : List ℕ) (at end : ℕ) (w : at ≤ length s) (e : end ≡ at + before b (take (length s - at) (drop at s))) where
  ends : end ≡ at + before b (drop at s)
  ends = e ∙ ap (λ t. at + before b t) (part_rest s at)

  pub piece_within : (at ≤ end) × (end ≤ length s)
  piece_within = (omega (arith, ends), omega (arith, ends, before_within b (drop at s), length-drop at s))
