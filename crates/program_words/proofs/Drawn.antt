-- Picks that are drawn from a seed, one after the other. Assumes nothing.
use mathlib.Core.Path.{◌≡◌, refl, sym, ◌∙◌, ap}
use mathlib.Core.List.{List, [], ◌∷◌, ◌++◌, append_assoc, append-nil}
use Prim.Native.Nat.{ℕ, suc, ◌+◌, ◌-◌, ◌/◌, ◌%◌, ◌≤◌, ◌<◌}
use native.Mathlib.Omega.{arith}
use lib.ListN.{length, set, take, length-set}
use lib.Seq.{take-suc-set, take_all}
use Rattle.program_words.specs.Picks.{next_drawn, drawn, seed_picks}

-- the first i are put, x the number that the next is drawn from
pub record Drawing (seed size : ℕ) (picks : List ℕ) (i x : ℕ) : Type 0 where
  pub long : length picks ≡ size
  pub within : i ≤ size
  pub small : x < 2_147_483_648
  pub put : take i picks ++ drawn x (size - i) ≡ seed_picks seed size

drawn_next : (x n : ℕ) → drawn x (suc n) ≡ (next_drawn x / 1_073_741_824) ∷ drawn (next_drawn x) n
unfolding drawn
drawn_next x n = refl

drawn_none : (x : ℕ) → drawn x 0 ≡ []
unfolding drawn
drawn_none x = refl

pub drawing_none : (seed : ℕ) (picks : List ℕ) (x : ℕ) → x ≡ seed % 2_147_483_648 → x < 2_147_483_648 → Drawing seed (length picks) picks 0 x
drawing_none seed picks x e h = record { long = refl; within = omega arith; small = h; put = let n : length picks - 0 ≡ length picks = omega arith in λ k. drawn (e k) (n k) }

pub drawing_more : (seed size : ℕ) (picks : List ℕ) (i x y : ℕ) → Drawing seed size picks i x → i < size → y ≡ next_drawn x → y < 2_147_483_648 → Drawing seed size (set picks i (y / 1_073_741_824)) (i + 1) y
drawing_more seed size picks i x y h l e k = record {
  long = length-set picks i (y / 1_073_741_824) ∙ h.long;
  within = omega arith;
  small = k;
  put =
      let n : size - i ≡ suc (size - (i + 1)) = omega arith in
      let j : i + 1 ≡ suc i = omega arith in
      let next : drawn x (size - i) ≡ (y / 1_073_741_824) ∷ drawn y (size - (i + 1)) = rw (n, e) (drawn_next x (size - (i + 1))) in
      ap (λ z. take z (set picks i (y / 1_073_741_824)) ++ drawn y (size - (i + 1))) j
      ∙ ap (λ t. t ++ drawn y (size - (i + 1))) (take-suc-set picks i (y / 1_073_741_824) (omega (arith, h.long)))
      ∙ append_assoc (take i picks) ((y / 1_073_741_824) ∷ []) (drawn y (size - (i + 1)))
      ∙ ap (λ t. take i picks ++ t) (sym next)
      ∙ h.put;
}

pub drawing_all : (seed size : ℕ) (picks : List ℕ) (i x : ℕ) → Drawing seed size picks i x → size ≤ i → picks ≡ seed_picks seed size
drawing_all seed size picks i x h l =
    let z : size - i ≡ 0 = omega arith in
    sym (ap (λ t. t ++ drawn x (size - i)) (take_all i picks (omega (arith, h.long))) ∙ ap (λ k. picks ++ drawn x k) z ∙ ap (λ t. picks ++ t) (drawn_none x) ∙ append-nil picks) ∙ h.put
