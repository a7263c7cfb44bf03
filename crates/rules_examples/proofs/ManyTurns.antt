-- Change 9's limit on turns that are summed, computed by the definitions; apart from the other examples, for it takes long.
use mathlib.Core.Path.{◌≡◌, refl}
use mathlib.Core.List.{List, [], ◌∷◌, ◌++◌}
use Prim.Native.Nat.{ℕ}
use Rattle.rules.specs.declared.Comparison.TheVariants.{AtMost}
use Rattle.rules.specs.declared.Change.TheVariants.{Add}
use Rattle.rules.specs.Blocks.{For, End}
use Rattle.rules.proofs.Examples.{analysed, from_to, const, totals, inner}

up_to : ℕ → List ℕ
unfolding totals analysed
up_to n = totals (analysed (from_to 0 0 ∷ (from_to 0 0 ∷ [])) (For 0 (const 1) AtMost (const n) (Add 1) ∷ (inner [] ++ (End ∷ []))))

-- 4,096 turns are summed, 4,097 are not
many_turns : (up_to 4_096 ≡ 16_797_698 ∷ (4_096 ∷ (8_390_656 ∷ []))) × (up_to 4_097 ≡ 33_587_208 ∷ (4_097 ∷ (16_785_409 ∷ [])))
unfolding up_to
many_turns = (refl, refl)
