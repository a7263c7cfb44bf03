-- The numbers of a call of frames, script after script. Assumes nothing.
use mathlib.Core.Path.{◌≡◌, refl, sym, ◌∙◌, ap}
use mathlib.Core.List.{List, [], ◌∷◌, ◌++◌, append_assoc, append-nil}
use Prim.Native.Nat.{ℕ, zero, suc, ◌+◌, ◌-◌, ◌*◌, ◌≤◌, ◌<◌}
use native.Mathlib.Numerals.{add-one}
use native.Mathlib.Omega.{arith}
use lib.ListN.{length, get_or, set, take, drop, replicate, length-append, length-set, length-replicate, replicate-append-replicate}
use lib.Seq.{take_all, take_at, drop_at, set_at, append_snoc, length-take-le, paste}
use Rattle.rules.specs.declared.LoopCount.{LoopCount}
use Rattle.calls.specs.declared.Outcome.{Outcome}
use Rattle.calls_frames.specs.declared.Played.{Played}
use Rattle.rules.specs.Calls.{ending_number}
use Rattle.calls_frames.specs.Answers.{no_frames}
use Rattle.diftanew.specs.Numbers.{frames_numbers, refused_numbers, head_numbers, loop_numbers, numbers_of, script_numbers, all_numbers, in_a_row, filled}

-- a run's answer has 53 numbers
up_to_length : (first k : ℕ) (counts : List LoopCount) (head : List ℕ) → length (loop_numbers first k counts head) ≡ length head
unfolding loop_numbers
up_to_length first zero counts head = refl
up_to_length first (suc k) counts head = simp length-set (up_to_length first k counts head)

pub numbers_length : (o : Outcome) → length (numbers_of o) ≡ 53
unfolding numbers_of head_numbers
numbers_length o = up_to_length 5 _ o.counts _ ∙ simp length-set (length-replicate {A = ℕ} 53 0)

all_length : (xs : List Played) → length (all_numbers xs) ≡ 54 * length xs
unfolding all_numbers
all_length [] = refl
all_length (x ∷ xs) = omega (arith, length-append (script_numbers x) (all_numbers xs), numbers_length x.outcome, all_length xs)

all_suc : (xs : List Played) (k : ℕ) (d : Played) → k < length xs → all_numbers (take (suc k) xs) ≡ all_numbers (take k xs) ++ script_numbers (get_or xs k d)
unfolding all_numbers
all_suc [] k d h = absurd (omega arith)
all_suc (x ∷ xs) zero d h = append-nil (script_numbers x)
all_suc (x ∷ xs) (suc k) d h = ap (λ r. script_numbers x ++ r) (all_suc xs k d (omega arith)) ∙ sym (append_assoc (script_numbers x) (all_numbers (take k xs)) (script_numbers (get_or xs k d)))

-- n numbers over zeros, after D
over_zeros : (D ns : List ℕ) (n m at : ℕ) → length D ≡ at → length ns ≡ n → paste (D ++ replicate (n + m) 0) at ns n ≡ (D ++ ns) ++ replicate m 0
over_zeros D ns n m at e long = λ i. (take_at D (replicate (n + m) 0) at e i ++ take_all n ns (omega arith) i) ++ behind i
  where
    behind : drop (at + n) (D ++ replicate (n + m) 0) ≡ replicate m 0
    behind =
        ap (λ z. drop (at + n) (D ++ z)) (sym (replicate-append-replicate n m 0))
        ∙ ap (drop (at + n)) (sym (append_assoc D (replicate n 0) (replicate m 0)))
        ∙ drop_at (D ++ replicate n 0) (replicate m 0) (at + n) (omega (arith, length-append D (replicate n 0), length-replicate {A = ℕ} n 0))

-- a number and 53 more
next_over_zeros : (D ns : List ℕ) (f m at : ℕ) → length D ≡ at → length ns ≡ 53 → paste (set (D ++ replicate (54 + m) 0) at f) (at + 1) ns 53 ≡ (D ++ (f ∷ ns)) ++ replicate m 0
next_over_zeros D ns f m at e n =
    let zeros : replicate {A = ℕ} (54 + m) 0 ≡ 0 ∷ replicate (53 + m) 0 = sym (replicate-append-replicate 54 m 0) ∙ ap (λ z. 0 ∷ z) (replicate-append-replicate 53 m 0) in
    ap (λ z. paste (set (D ++ z) at f) (at + 1) ns 53) zeros
    ∙ ap (λ z. paste z (at + 1) ns 53) (set_at D 0 (replicate (53 + m) 0) f at e ∙ sym (append_snoc D f (replicate (53 + m) 0)))
    ∙ over_zeros (D ++ (f ∷ [])) ns 53 m (at + 1) (omega (arith, length-append D (f ∷ []))) n
    ∙ ap (λ z. z ++ replicate m 0) (append_snoc D f ns)

-- the first number and the first k scripts, then zeros
abbrev pub Laid : ℕ → List Played → ℕ → List ℕ → Type 0
Laid first scripts k a = a ≡ (first ∷ all_numbers (take k scripts)) ++ replicate (54 * (8 - k)) 0

module _ (first : ℕ) (scripts : List Played) (eight : length scripts ≡ 8) where
  pub laid_none : Laid first scripts 0 (set (replicate 433 0) 0 first)
  unfolding all_numbers
  laid_none = refl

  pub laid_length : (k : ℕ) (a : List ℕ) → k ≤ 8 → Laid first scripts k a → length a ≡ 433
  laid_length k a h e =
      ap length e
      ∙ omega (
        arith,
        length-append (first ∷ all_numbers (take k scripts)) (replicate (54 * (8 - k)) 0),
        all_length (take k scripts),
        length-take-le k scripts (omega arith),
        length-replicate {A = ℕ} (54 * (8 - k)) 0,
      )

  pub laid_more : (k : ℕ) (a : List ℕ) (d : Played) → k < 8 → Laid first scripts k a → Laid first scripts (k + 1) (paste (set a (1 + 54 * k) (get_or scripts k d).frame) (1 + 54 * k + 1) (numbers_of (get_or scripts k d).outcome) 53)
  laid_more k a d h e =
      let D : List ℕ = first ∷ all_numbers (take k scripts) in
      let x : Played = get_or scripts k d in
      let at : ℕ = 1 + 54 * k in
      let m : ℕ = 54 * (8 - (k + 1)) in
      let size : 54 * (8 - k) ≡ 54 + m = omega arith in
      let grown : all_numbers (take k scripts) ++ script_numbers x ≡ all_numbers (take (k + 1) scripts) = rw add-one (sym (all_suc scripts k d (omega arith))) in
      let long : length D ≡ at = omega (arith, all_length (take k scripts), length-take-le k scripts (omega arith)) in
      ap (λ z. paste (set z at x.frame) (at + 1) (numbers_of x.outcome) 53) (e ∙ ap (λ z. D ++ replicate z 0) size)
      ∙ next_over_zeros D (numbers_of x.outcome) x.frame m at long (numbers_length x.outcome)
      ∙ ap (λ z. (first ∷ z) ++ replicate m 0) grown

  pub laid_all : (k : ℕ) (a : List ℕ) → k ≡ 8 → Laid first scripts k a → a ≡ first ∷ all_numbers scripts
  laid_all k a e h =
      let none : 54 * (8 - k) ≡ 0 = omega arith in
      h ∙ (λ i. (first ∷ all_numbers (take_all k scripts (omega arith) i)) ++ replicate (none i) 0) ∙ append-nil (first ∷ all_numbers scripts)

-- ---- the numbers of a call of figures
row_suc : (xs : List (List ℕ)) (k : ℕ) → k < length xs → in_a_row (take (suc k) xs) ≡ in_a_row (take k xs) ++ get_or xs k []
unfolding in_a_row
row_suc [] k h = absurd (omega arith)
row_suc (x ∷ xs) zero h = append-nil x
row_suc (x ∷ xs) (suc k) h = ap (λ r. x ++ r) (row_suc xs k (omega arith)) ∙ sym (append_assoc x (in_a_row (take k xs)) (get_or xs k []))

-- three numbers and the first k lines, then zeros
pub record Lined (head : List ℕ) (lines : List (List ℕ)) (k : ℕ) (a : List ℕ) : Type 0 where
  pub laid : a ≡ (head ++ in_a_row (take k lines)) ++ replicate (7 * (16 - k)) 0
  pub long : length (head ++ in_a_row (take k lines)) ≡ 3 + 7 * k

module _ (head : List ℕ) (lines : List (List ℕ)) where
  pub lined_none : (a : List ℕ) → a ≡ head ++ replicate 112 0 → length head ≡ 3 → Lined head lines 0 a
  unfolding in_a_row
  lined_none a e n = record { laid = e ∙ ap (λ z. z ++ replicate 112 0) (sym (append-nil head)); long = ap length (append-nil head) ∙ n }

  pub lined_length : (k : ℕ) (a : List ℕ) → k ≤ 16 → Lined head lines k a → length a ≡ 115
  lined_length k a h l = ap length l.laid ∙ omega (arith, length-append (head ++ in_a_row (take k lines)) (replicate (7 * (16 - k)) 0), l.long, length-replicate {A = ℕ} (7 * (16 - k)) 0)

  pub lined_more : (k : ℕ) (a : List ℕ) → k < 16 → k < length lines → length (get_or lines k []) ≡ 7 → Lined head lines k a → Lined head lines (k + 1) (paste a (3 + 7 * k) (get_or lines k []) 7)
  lined_more k a h o n l =
      let D : List ℕ = head ++ in_a_row (take k lines) in
      let x : List ℕ = get_or lines k [] in
      let m : ℕ = 7 * (16 - (k + 1)) in
      let size : 7 * (16 - k) ≡ 7 + m = omega arith in
      let grown : D ++ x ≡ head ++ in_a_row (take (k + 1) lines) = append_assoc head (in_a_row (take k lines)) x ∙ rw add-one (ap (λ z. head ++ z) (sym (row_suc lines k o))) in
      record {
        laid = ap (λ z. paste z (3 + 7 * k) x 7) (l.laid ∙ ap (λ z. D ++ replicate z 0) size)
            ∙ over_zeros D x 7 m (3 + 7 * k) l.long n
            ∙ ap (λ z. z ++ replicate m 0) grown;
        long = ap length (sym grown) ∙ omega (arith, length-append D x, l.long);
      }

  pub lined_all : (k loops : ℕ) (a : List ℕ) → k ≡ loops → k ≤ 16 → Lined head lines k a → a ≡ filled 115 (head ++ in_a_row (take loops lines))
  lined_all k loops a e h l =
      let D : List ℕ = head ++ in_a_row (take k lines) in
      let size : 7 * (16 - k) ≡ 115 - length D = omega (arith, l.long) in
      l.laid ∙ ap (λ z. D ++ replicate z 0) size ∙ ap (λ z. filled 115 (head ++ in_a_row (take z lines))) e

-- the second number written again
pub kept_second : (n : ℕ) (l : List ℕ) → set (n ∷ l) 1 (get_or (n ∷ l) 1 0) ≡ n ∷ l
kept_second n [] = refl
kept_second n (x ∷ l) = refl

-- of a refused call of frames all numbers but two are 0
pub refused_frames : (n p script : ℕ) → frames_numbers (no_frames n p script) ≡ set (refused_numbers 433 p) 1 script
unfolding frames_numbers all_numbers numbers_of head_numbers loop_numbers ending_number
refused_frames n p script = refl
