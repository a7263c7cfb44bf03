-- What is written. Assumes nothing.
use mathlib.Core.Path.{◌≡◌, refl, sym, ◌∙◌, ap, subst}
use mathlib.Core.List.{List, [], ◌∷◌, ◌++◌, append_assoc, append-nil}
use Prim.Native.Nat.{ℕ, zero, suc, ◌+◌, ◌-◌, ◌*◌, ◌≤◌, ◌<◌, min}
use native.Mathlib.Numerals.{add-one}
use native.Mathlib.Omega.{arith}
use lib.ListN.{length, get_or, take, drop, set, replicate, length-append, length-set}
use lib.Seq.{set_at, length-take-le, take-suc, take-suc-set, take_all, take-length, get_or-take}
use Rattle.rules.specs.declared.LoopCount.{LoopCount}
use Rattle.rules.specs.Figures.{Line}
use Rattle.rules.specs.Report.{line_of, lines_of}
use Rattle.rules_machine.specs.RowMachine.{TurnCounts, counts_of}
use Rattle.rules_live.specs.LiveState.{loop_numbers}
use Rattle.analysis_lines.specs.Coded.{line_in, lines_in, first_lines}
use Rattle.run_actions.specs.States.{count_in, tally_of, Rising}
use Rattle.run_actions.proofs.Heads.{counts_at_lem}
use Rattle.run_loops.specs.declared.Loops.{Loops}
use Rattle.run_loops.specs.Loops.{no_count, HeadCounts}
use Rattle.live_state.specs.Numbers.{three_numbers, LoopPut}
use Rattle.live_state.proofs.StateLaws.{lines_long}

-- zeros so far
zeros_more : (n : ℕ) → ◌++◌ {A = ℕ} (replicate n 0) (0 ∷ []) ≡ replicate (suc n) 0
zeros_more zero = refl
zeros_more (suc n) = ap (λ (l : List ℕ). 0 ∷ l) (zeros_more n)

pub zero_next : (s : List ℕ) (j : ℕ) → j < length s → take j s ≡ replicate j 0 → take (j + 1) (set s j 0) ≡ replicate (j + 1) 0
zero_next s j h e = rw (add-one j) (take-suc-set s j 0 h ∙ ap (λ (l : List ℕ). l ++ (0 ∷ [])) e ∙ zeros_more j)

-- three numbers behind j others
pub three_put : (j : ℕ) (old : List ℕ) (a b c : ℕ) (xs : List ℕ) (n : ℕ) → length xs ≡ j → old ≡ xs ++ replicate (suc (suc (suc n))) 0
    → set (set (set old (j + 0) a) (j + 1) b) (j + 2) c ≡ (xs ++ (a ∷ b ∷ c ∷ [])) ++ replicate n 0
three_put j old a b c xs n l e =
    (λ i. set (set (set (e i) (j + 0) a) (j + 1) b) (j + 2) c)
    ∙ ap (λ s. set (set s (j + 1) b) (j + 2) c) (set_at xs 0 (0 ∷ 0 ∷ replicate n 0) a (j + 0) (omega arith) ∙ sym (append_assoc xs (a ∷ []) (0 ∷ 0 ∷ replicate n 0)))
    ∙ ap (λ s. set s (j + 2) c) (set_at (xs ++ (a ∷ [])) 0 (0 ∷ replicate n 0) b (j + 1) (omega (arith, length-append xs (a ∷ []))))
    ∙ ap (λ s. set s (j + 2) c) (append_assoc xs (a ∷ []) (b ∷ 0 ∷ replicate n 0) ∙ sym (append_assoc xs (a ∷ b ∷ []) (0 ∷ replicate n 0)))
    ∙ set_at (xs ++ (a ∷ b ∷ [])) 0 (replicate n 0) c (j + 2) (omega (arith, length-append xs (a ∷ b ∷ [])))
    ∙ append_assoc xs (a ∷ b ∷ []) (c ∷ replicate n 0) ∙ sym (append_assoc xs (a ∷ b ∷ c ∷ []) (replicate n 0))

-- ---- loop by loop
no_line : Line
no_line = line_of (line_in [])

numbers_more : (ls : List Line) (hs : List ℕ) (c : TurnCounts) (k : ℕ) (d : Line) → k < length ls → k < length hs
    → loop_numbers (take (suc k) ls) (take (suc k) hs) c
    ≡ loop_numbers (take k ls) (take k hs) c ++ three_numbers (get_or ls k d) (c.turns (get_or hs k 0)) (c.sum (get_or hs k 0)) (c.most (get_or hs k 0))
unfolding loop_numbers
numbers_more [] hs c k d h l = absurd (omega arith)
numbers_more (x ∷ ls) [] c k d h l = absurd (omega arith)
numbers_more (x ∷ ls) (p ∷ hs) c zero d h l = refl
numbers_more (x ∷ ls) (p ∷ hs) c (suc k) d h l = ap (λ z. three_numbers x (c.turns p) (c.sum p) (c.most p) ++ z) (numbers_more ls hs c k d (omega arith) (omega arith))

pub numbers_long : (ls : List Line) (hs : List ℕ) (c : TurnCounts) → length hs ≡ length ls → length (loop_numbers ls hs c) ≡ 3 * length ls
unfolding loop_numbers
numbers_long [] hs c e = refl
numbers_long (x ∷ ls) [] c e = absurd (omega arith)
numbers_long (x ∷ ls) (p ∷ hs) c e = let z : length (loop_numbers ls hs c) ≡ 3 * length ls = numbers_long ls hs c (omega arith) in omega arith

line_at : (t : List (List ℕ)) (n k : ℕ) (d : Line) → k < n → n ≤ length t → get_or (first_lines t n) k d ≡ line_of (get_or (lines_in t) k (line_in []))
unfolding lines_of
line_at [] n k d h l = absurd (omega arith)
line_at (x ∷ t) zero k d h l = absurd (omega arith)
line_at (x ∷ t) (suc n) zero d h l = refl
line_at (x ∷ t) (suc n) (suc k) d h l = line_at t n k d (omega arith) (omega arith)

count_at : (c : TurnCounts) (hs : List ℕ) (k : ℕ) → k < length hs → get_or (counts_of c hs) k no_count ≡ record { row = get_or hs k 0; all = c.sum (get_or hs k 0); most = c.most (get_or hs k 0) }
unfolding counts_of
count_at c [] k h = absurd (omega arith)
count_at c (p ∷ hs) zero h = refl
count_at c (p ∷ hs) (suc k) h = count_at c hs k (omega arith)

-- the first k loops are written behind these numbers
pub record Writing (first : List ℕ) (table : List (List ℕ)) (loops : Loops) (counts : List (List ℕ)) (k : ℕ) (s : List ℕ) : Type 0 where
  pub written : (hs : List ℕ) → Rising hs → HeadCounts hs (tally_of hs counts) loops
      → s ≡ (first ++ loop_numbers (take k (first_lines table loops.count)) (take k hs) (tally_of hs counts)) ++ replicate (48 - 3 * k) 0
  pub long : length s ≡ 64

pub writes_none : (first : List ℕ) (table : List (List ℕ)) (loops : Loops) (counts : List (List ℕ)) (s : List ℕ) → s ≡ first ++ replicate 48 0 → length s ≡ 64 → Writing first table loops counts 0 s
unfolding loop_numbers
writes_none first table loops counts s e l = record { written = λ hs r h. e ∙ ap (λ z. z ++ replicate 48 0) (sym (append-nil first)); long = l }

module _ (first : List ℕ) (table : List (List ℕ)) (loops : Loops) (counts : List (List ℕ)) (k : ℕ) (s : List ℕ) (now : Writing first table loops counts k s) (sixteen : length first ≡ 16)
    (few : loops.count ≤ 16) (t-long : length table ≡ 16) (c-long : length counts ≡ 16) where
  pub writes_more : k < loops.count → (line : _) → line ≡ get_or (lines_in table) k (line_in []) → (x : LoopCount) → x ≡ get_or loops.counts k no_count → (turns : ℕ) → turns ≡ count_in counts k 0
      → (s' : List ℕ) → LoopPut (line_of line) turns x.all x.most (16 + 3 * k) s s' → length s' ≡ length s → Writing first table loops counts (k + 1) s'
  writes_more h line is x at turns e s' put same = record { written = by; long = same ∙ now.long }
    where
      by : (hs : List ℕ) → Rising hs → HeadCounts hs (tally_of hs counts) loops
          → s' ≡ (first ++ loop_numbers (take (k + 1) (first_lines table loops.count)) (take (k + 1) hs) (tally_of hs counts)) ++ replicate (48 - 3 * (k + 1)) 0
      by hs r g =
          let c = tally_of hs counts in
          let ls = first_lines table loops.count in
          let l-long : length ls ≡ loops.count = lines_long table loops.count (omega arith) in
          let in-hs : k < length hs = omega (arith, g.number) in
          let so_far : List ℕ = loop_numbers (take k ls) (take k hs) c in
          let told : x ≡ record { row = get_or hs k 0; all = c.sum (get_or hs k 0); most = c.most (get_or hs k 0) }
          = at ∙ sym (get_or-take loops.count loops.counts k no_count h) ∙ ap (λ z. get_or z k no_count) g.counts ∙ count_at c hs k in-hs in
          let turned : turns ≡ c.turns (get_or hs k 0) = e ∙ ap (λ z. get_or z 0 0) (sym (counts_at_lem hs counts r k in-hs (omega arith))) in
          let lined : line_of line ≡ get_or ls k no_line = ap line_of is ∙ sym (line_at table loops.count k no_line h (omega arith)) in
          let n-long : length so_far ≡ 3 * k = numbers_long (take k ls) (take k hs) c (taken k hs (omega arith) ∙ sym (taken_lines k ls (omega arith))) ∙ ap (λ z. 3 * z) (taken_lines k ls (omega arith)) in
          put (first ++ so_far) (48 - 3 * (k + 1)) (omega (arith, length-append first so_far))
          (now.written hs r g ∙ ap (λ z. (first ++ so_far) ++ replicate z 0) (let w : 48 - 3 * k ≡ suc (suc (suc (48 - 3 * (k + 1)))) = omega arith in w))
          ∙ ap (λ z. z ++ replicate (48 - 3 * (k + 1)) 0)
          (append_assoc first so_far _ ∙ ap (λ z. first ++ z)
          ((λ i. so_far ++ three_numbers (lined i) (turned i) (told i).all (told i).most) ∙ sym (numbers_more ls hs c k no_line (omega arith) in-hs)
          ∙ ap (λ z. loop_numbers (take z ls) (take z hs) c) (sym (add-one k))))
        where
          taken : (k : ℕ) (l : List ℕ) → k ≤ length l → length (take k l) ≡ k
          taken k l h = length-take-le k l h

          taken_lines : (k : ℕ) (l : List Line) → k ≤ length l → length (take k l) ≡ k
          taken_lines k l h = length-take-le k l h

  pub writes_all : (front : List ℕ) → first ≡ front → loops.count ≤ k → k ≤ loops.count → (hs : List ℕ) → Rising hs → HeadCounts hs (tally_of hs counts) loops
      → let c : TurnCounts = tally_of hs counts in
      let ls : List Line = first_lines table loops.count in s ≡ front ++ (loop_numbers ls hs c ++ replicate (48 - length (loop_numbers ls hs c)) 0)
  writes_all front f a b hs r g =
      let ls = first_lines table loops.count in
      let c = tally_of hs counts in
      let l-long : length ls ≡ loops.count = lines_long table loops.count (omega arith) in
      let n-long : length (loop_numbers ls hs c) ≡ 3 * k = numbers_long ls hs c (sym g.number ∙ sym l-long) ∙ ap (λ z. 3 * z) (let w : length ls ≡ k = omega arith in w) in
      now.written hs r g
      ∙ (λ i. (first ++ loop_numbers (take_all k ls (omega arith) i) (take_all k hs (omega (arith, g.number)) i) c) ++ replicate (48 - sym n-long i) 0)
      ∙ append_assoc first (loop_numbers ls hs c) _ ∙ ap (λ z. z ++ (loop_numbers ls hs c ++ replicate (48 - length (loop_numbers ls hs c)) 0)) f
