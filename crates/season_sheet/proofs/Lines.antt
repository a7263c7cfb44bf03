-- Lines of an input with one byte more at its end, and the names among them. Assumes nothing.
use mathlib.Core.Path.{◌≡◌, refl, sym, ap, ◌∙◌}
use mathlib.Core.Bool.{Bool, true, false, cond}
use mathlib.Core.List.{List, [], ◌∷◌, ◌++◌}
use Prim.Native.Nat.{ℕ, zero, suc, ◌+◌, ◌≤◌, ◌<◌}
use native.Mathlib.Omega.{arith}
use lib.Dec.{T, eqb, eqb_refl}
use lib.ListN.{length, get_or, length-append, get_or-append}
use lib.Seq.{get_or-append_seam}
use Rattle.rules.specs.Text.{lf, prefixed, split}
use Rattle.rules_season.specs.Season.{until_last}

-- a byte more at the end of the last line
longer : ℕ → List (List ℕ) → List (List ℕ)
longer x [] = (x ∷ []) ∷ []
longer x (l ∷ []) = (l ++ (x ∷ [])) ∷ []
longer x (l ∷ (m ∷ ls)) = l ∷ longer x (m ∷ ls)

longer_prefixed : (x y : ℕ) (ls : List (List ℕ)) → prefixed y (longer x ls) ≡ longer x (prefixed y ls)
unfolding prefixed longer
longer_prefixed x y [] = refl
longer_prefixed x y (l ∷ []) = refl
longer_prefixed x y (l ∷ (m ∷ ls)) = refl

longer_after : (x : ℕ) (l : List ℕ) (ls : List (List ℕ)) → 0 < length ls → l ∷ longer x ls ≡ longer x (l ∷ ls)
unfolding longer
longer_after x l [] h = absurd (omega arith)
longer_after x l (m ∷ ls) h = refl

pub some_line : (b : ℕ) (s : List ℕ) → 0 < length (split b s)
unfolding split prefixed
some_line b [] = omega arith
some_line b (x ∷ s) = by (eqb x b) (split b s)
  where
    by : (c : Bool) (ls : List (List ℕ)) → 0 < length (cond c ([] ∷ ls) (prefixed x ls))
    by true ls = omega arith
    by false [] = omega arith
    by false (l ∷ ls) = omega arith

-- another byte: the last line is longer
split_byte : (b x : ℕ) (s : List ℕ) → eqb x b ≡ false → split b (s ++ (x ∷ [])) ≡ longer x (split b s)
unfolding split prefixed longer
split_byte b x [] h = rw h
split_byte b x (y ∷ s) h = by (eqb y b) (split_byte b x s h)
  where
    by : (c : Bool) → split b (s ++ (x ∷ [])) ≡ longer x (split b s)
        → cond c ([] ∷ split b (s ++ (x ∷ []))) (prefixed y (split b (s ++ (x ∷ [])))) ≡ longer x (cond c ([] ∷ split b s) (prefixed y (split b s)))
    by true e = ap (λ l. [] ∷ l) e ∙ longer_after x [] (split b s) (some_line b s)
    by false e = ap (prefixed y) e ∙ longer_prefixed x y (split b s)

prefixed_append : (y : ℕ) (ls ms : List (List ℕ)) → 0 < length ls → prefixed y (ls ++ ms) ≡ prefixed y ls ++ ms
unfolding prefixed
prefixed_append y [] ms h = absurd (omega arith)
prefixed_append y (l ∷ ls) ms h = refl

-- the byte itself: an empty line more
split_here : (b : ℕ) (s : List ℕ) → split b (s ++ (b ∷ [])) ≡ split b s ++ ([] ∷ [])
unfolding split
split_here b [] = by (eqb b b) (eqb_refl b)
  where
    by : (c : Bool) → T c → cond c ([] ∷ ([] ∷ [])) (prefixed b ([] ∷ [])) ≡ [] ∷ ([] ∷ [])
    by true h = refl
    by false h = absurd h
split_here b (y ∷ s) = by (eqb y b) (split_here b s)
  where
    by : (c : Bool) → split b (s ++ (b ∷ [])) ≡ split b s ++ ([] ∷ [])
        → cond c ([] ∷ split b (s ++ (b ∷ []))) (prefixed y (split b (s ++ (b ∷ [])))) ≡ cond c ([] ∷ split b s) (prefixed y (split b s)) ++ ([] ∷ [])
    by true e = ap (λ l. [] ∷ l) e
    by false e = ap (prefixed y) e ∙ prefixed_append y (split b s) ([] ∷ []) (some_line b s)

-- the lines of a longer input
longer_count : (x : ℕ) (ls : List (List ℕ)) → 0 < length ls → length (longer x ls) ≡ length ls
unfolding longer
longer_count x [] h = absurd (omega arith)
longer_count x (l ∷ []) h = refl
longer_count x (l ∷ (m ∷ ls)) h = ap suc (longer_count x (m ∷ ls) (omega arith))

longer_before : (x : ℕ) (ls : List (List ℕ)) (k : ℕ) → k + 1 < length ls → get_or (longer x ls) k [] ≡ get_or ls k []
unfolding longer
longer_before x [] k h = absurd (omega arith)
longer_before x (l ∷ []) k h = absurd (omega arith)
longer_before x (l ∷ (m ∷ ls)) zero h = refl
longer_before x (l ∷ (m ∷ ls)) (suc k) h = longer_before x (m ∷ ls) k (omega arith)

longer_last : (x : ℕ) (ls : List (List ℕ)) (k : ℕ) → k + 1 ≡ length ls → get_or (longer x ls) k [] ≡ get_or ls k [] ++ (x ∷ [])
unfolding longer
longer_last x [] k h = absurd (omega arith)
longer_last x (l ∷ []) zero h = refl
longer_last x (l ∷ []) (suc k) h = absurd (omega arith)
longer_last x (l ∷ (m ∷ ls)) zero h = absurd (omega arith)
longer_last x (l ∷ (m ∷ ls)) (suc k) h = longer_last x (m ∷ ls) k (omega arith)

module _ (x : ℕ) (s : List ℕ) (h : eqb x lf ≡ false) where
  pub byte_count : length (split lf (s ++ (x ∷ []))) ≡ length (split lf s)
  byte_count = ap length (split_byte lf x s h) ∙ longer_count x (split lf s) (some_line lf s)

  pub byte_before : (k : ℕ) → k + 1 < length (split lf s) → get_or (split lf (s ++ (x ∷ []))) k [] ≡ get_or (split lf s) k []
  byte_before k l = ap (λ ls. get_or ls k []) (split_byte lf x s h) ∙ longer_before x (split lf s) k l

  pub byte_last : (k : ℕ) → k + 1 ≡ length (split lf s) → get_or (split lf (s ++ (x ∷ []))) k [] ≡ get_or (split lf s) k [] ++ (x ∷ [])
  byte_last k l = ap (λ ls. get_or ls k []) (split_byte lf x s h) ∙ longer_last x (split lf s) k l

module _ (s : List ℕ) where
  pub here_count : length (split lf (s ++ (lf ∷ []))) ≡ length (split lf s) + 1
  here_count = ap length (split_here lf s) ∙ length-append (split lf s) ([] ∷ [])

  pub here_before : (k : ℕ) → k < length (split lf s) → get_or (split lf (s ++ (lf ∷ []))) k [] ≡ get_or (split lf s) k []
  here_before k l = ap (λ ls. get_or ls k []) (split_here lf s) ∙ get_or-append (split lf s) ([] ∷ []) [] k l

  pub here_last : get_or (split lf (s ++ (lf ∷ []))) (length (split lf s)) [] ≡ []
  here_last = ap (λ ls. get_or ls (length (split lf s)) []) (split_here lf s) ∙ get_or-append_seam (split lf s) [] [] []

-- ---- the names: all lines, or all but the last
names_all : (ls : List (List ℕ)) (k : ℕ) → k + 1 ≡ length ls → 0 < length (get_or ls k []) → until_last ls ≡ ls
unfolding until_last
names_all [] k h l = refl
names_all ([] ∷ []) zero h l = absurd (omega arith)
names_all ([] ∷ []) (suc k) h l = absurd (omega arith)
names_all ((b ∷ bs) ∷ []) k h l = refl
names_all (n ∷ (m ∷ ls)) zero h l = absurd (omega arith)
names_all (n ∷ (m ∷ ls)) (suc k) h l = ap (λ z. n ∷ z) (names_all (m ∷ ls) k (omega arith) l)

names_less : (ls : List (List ℕ)) (k : ℕ) → k + 1 ≡ length ls → length (get_or ls k []) ≡ 0 → length (until_last ls) ≡ k
unfolding until_last
names_less [] k h l = absurd (omega arith)
names_less ([] ∷ []) k h l = omega arith
names_less ((b ∷ bs) ∷ []) zero h l = absurd (omega arith)
names_less ((b ∷ bs) ∷ []) (suc k) h l = absurd (omega arith)
names_less (n ∷ (m ∷ ls)) zero h l = absurd (omega arith)
names_less (n ∷ (m ∷ ls)) (suc k) h l = ap suc (names_less (m ∷ ls) k (omega arith) l)

-- at most one less than the lines, and each name is its line
pub names_most : (ls : List (List ℕ)) → length ls ≤ length (until_last ls) + 1
unfolding until_last
names_most [] = omega arith
names_most ([] ∷ []) = omega arith
names_most ((b ∷ bs) ∷ []) = omega arith
names_most (n ∷ (m ∷ ls)) = omega (arith, names_most (m ∷ ls))

pub names_fewer : (ls : List (List ℕ)) → length (until_last ls) ≤ length ls
unfolding until_last
names_fewer [] = omega arith
names_fewer ([] ∷ []) = omega arith
names_fewer ((b ∷ bs) ∷ []) = omega arith
names_fewer (n ∷ (m ∷ ls)) = omega (arith, names_fewer (m ∷ ls))

pub name_line : (ls : List (List ℕ)) (k : ℕ) → k < length (until_last ls) → get_or (until_last ls) k [] ≡ get_or ls k []
unfolding until_last
name_line [] k h = refl
name_line ([] ∷ []) k h = absurd (omega arith)
name_line ((b ∷ bs) ∷ []) k h = refl
name_line (n ∷ (m ∷ ls)) zero h = refl
name_line (n ∷ (m ∷ ls)) (suc k) h = name_line (m ∷ ls) k (omega arith)

pub last_named : (ls : List (List ℕ)) (k : ℕ) → k + 1 ≡ length ls → 0 < length (get_or ls k []) → length (until_last ls) ≡ k + 1
last_named ls k h l = ap length (names_all ls k h l) ∙ sym h

pub last_none : (ls : List (List ℕ)) (k : ℕ) → k + 1 ≡ length ls → length (get_or ls k []) ≡ 0 → length (until_last ls) ≡ k
last_none = names_less
