-- What is lent, cut by its lengths: a part for each, where those before it end; and the parts of the stores, end to end, are the stores.
use mathlib.Core.Path.{◌≡◌, refl, ◌∙◌, ap}
use mathlib.Core.List.{List, [], ◌∷◌, ◌++◌}
use Prim.Native.Nat.{ℕ, zero, suc, ◌<◌}
use native.Mathlib.Omega.{arith}
use lib.IntN.{ℤ}
use lib.ListN.{length, get_or, take, drop, length-drop, take-append-drop}
use lib.Seq.{drop-drop}
use Rattle.rules_frames.specs.Frames.{ScriptPart, cut_parts, total}

-- part j
abbrev pub part_at : List ℕ → List ℕ → List ℕ → List ℕ → List ℤ → List ℕ → ℕ → ScriptPart
part_at fs ss ps files stores picks j = record {
  file = take (get_or fs j 0) (drop (total (take j fs)) files);
  store = take (get_or ss j 0) (drop (total (take j ss)) stores);
  picks = take (get_or ps j 0) (drop (total (take j ps)) picks);
}

pub cut_length : (fs ss ps files : List ℕ) (stores : List ℤ) (picks : List ℕ) → length ss ≡ length fs → length ps ≡ length fs → length (cut_parts fs ss ps files stores picks) ≡ length fs
unfolding cut_parts
cut_length [] ss ps files stores picks a b = refl
cut_length (f ∷ fs) [] ps files stores picks a b = absurd (omega arith)
cut_length (f ∷ fs) (s ∷ ss) [] files stores picks a b = absurd (omega arith)
cut_length (f ∷ fs) (s ∷ ss) (p ∷ ps) files stores picks a b = ap suc (cut_length fs ss ps _ _ _ (omega arith) (omega arith))

pub cut_at : (fs ss ps files : List ℕ) (stores : List ℤ) (picks : List ℕ) → length ss ≡ length fs → length ps ≡ length fs → (j : ℕ) → j < length fs → (none : ScriptPart)
    → get_or (cut_parts fs ss ps files stores picks) j none ≡ part_at fs ss ps files stores picks j
unfolding cut_parts total
cut_at [] ss ps files stores picks a b j l none = absurd (omega arith)
cut_at (f ∷ fs) [] ps files stores picks a b j l none = absurd (omega arith)
cut_at (f ∷ fs) (s ∷ ss) [] files stores picks a b j l none = absurd (omega arith)
cut_at (f ∷ fs) (s ∷ ss) (p ∷ ps) files stores picks a b zero l none = refl
cut_at (f ∷ fs) (s ∷ ss) (p ∷ ps) files stores picks a b (suc j) l none =
    cut_at fs ss ps (drop f files) (drop s stores) (drop p picks) (omega arith) (omega arith) j (omega arith) none
    ∙ (λ k. record {
      file = take (get_or fs j 0) (drop-drop (total (take j fs)) f files k);
      store = take (get_or ss j 0) (drop-drop (total (take j ss)) s stores k);
      picks = take (get_or ps j 0) (drop-drop (total (take j ps)) p picks k);
    })

-- the stores end to end
unfoldable pub joined : List ScriptPart → List ℤ
joined [] = []
joined (h ∷ hs) = h.store ++ joined hs

pub cut_stores : (fs ss ps files : List ℕ) (stores : List ℤ) (picks : List ℕ) → length ss ≡ length fs → length ps ≡ length fs → total ss ≡ length stores
    → joined (cut_parts fs ss ps files stores picks) ≡ stores
unfolding cut_parts total joined
cut_stores [] [] ps files [] picks a b e = refl
cut_stores [] [] ps files (x ∷ xs) picks a b e = absurd (omega arith)
cut_stores [] (s ∷ ss) ps files stores picks a b e = absurd (omega arith)
cut_stores (f ∷ fs) [] ps files stores picks a b e = absurd (omega arith)
cut_stores (f ∷ fs) (s ∷ ss) [] files stores picks a b e = absurd (omega arith)
cut_stores (f ∷ fs) (s ∷ ss) (p ∷ ps) files stores picks a b e =
    ap (λ r. take s stores ++ r) (cut_stores fs ss ps (drop f files) (drop s stores) (drop p picks) (omega arith) (omega arith) (omega (arith, length-drop s stores))) ∙ take-append-drop s stores
