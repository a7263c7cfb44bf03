-- What a count line, the script line and a range line say, from the words that code holds. Assumes nothing.
use mathlib.Core.Path.{◌≡◌, refl, sym, ap, ◌∙◌}
use mathlib.Core.List.{List, []}
use Prim.Native.Nat.{ℕ, zero, suc, ◌+◌, ◌<◌}
use native.Mathlib.Omega.{arith}
use lib.IntN.{ℤ, pos, nat_abs}
use lib.Signed.{◌≤ℤ◌, yes_non_neg, pos-nat_abs}
use Rattle.ints.proofs.Parts.{ints}
use Rattle.rules.specs.declared.Word.{Word}
use Rattle.rules.specs.Text.{words_of, next_texts, next_words}
use Rattle.rules.specs.File
use Rattle.rules.specs.File.{Reading, refused, unless, first_refusal, asks_end, asks_number, asks_one, asks_order, asks_range, number_of, count_line, script_line, script_key, range_key, turn_of}
use Rattle.rules.proofs.ReadLegal.{refusal_yes, number_yes, amount_yes}
use Rattle.reading.specs.declared.text.LineWords.{LineWords}
use Rattle.reading.specs.Words.{line_word}
use Rattle.reading.proofs.Cut.{Below, refusal_same, cut_end, cut_number, cut_number_of, cut_one, range_cut, range_of_cut}
use Rattle.std.specs.Prelude.{Ok, Err}
use Rattle.reading.specs.declared.order.LineQuestion.{LineQuestion}
use Rattle.reading.specs.Answers.{question_number}
use Rattle.reader.specs.Lines.{file_lines, count_of, CountRead, ScriptRead, range_read, RangeRead}
use Rattle.reader.proofs.NextLine.{KeyLine}

unless_zero : {A : Type 0} (q p : ℕ) (r : Reading A) → q ≡ 0 → unless q p r ≡ r
unfolding unless
unless_zero zero p r e = refl
unless_zero (suc q) p r e = absurd (omega arith)

unless_no : {A : Type 0} (q p : ℕ) (r : Reading A) → (q ≡ 0 → ⊥) → unless q p r ≡ refused q p
unfolding unless
unless_no zero p r h = absurd (h refl)
unless_no (suc q) p r h = refl

-- each question has a number
asked_some : (x : LineQuestion) → question_number x ≡ 0 → ⊥
asked_some LineQuestion.Shape e = omega arith
asked_some LineQuestion.Size e = omega arith
asked_some LineQuestion.Limits e = omega arith
asked_some LineQuestion.Variable e = omega arith

-- a line with a key and these words
module _ (key s : List ℕ) (l : LineWords) (t : KeyLine key s l) where
  abbrev words : ℕ → Word
  words = next_words key (file_lines s)

  end_of_lem : (k : ℕ) → k < 8 → asks_end (line_word l k) ≡ asks_end (words k)
  end_of_lem k h = ap asks_end (t.word k h) ∙ cut_end (words k)

  -- a count line
  module _ (most : ℤ) (q : ℕ) (low : pos 0 ≤ℤ most) (high : most ≤ℤ pos 1_000_000_000) (asked : q ≡ first_refusal (asks_number (pos 0) most (line_word l 0)) (asks_end (line_word l 1))) where
    true_limit : pos (nat_abs most) ≡ most
    true_limit = pos-nat_abs most (yes_non_neg low)

    below : Below (pos 0) most
    below = record { low = omega ints; high = omega ints }

    -- the same question of the true words
    truly : q ≡ first_refusal (asks_number (pos 0) (pos (nat_abs most)) (words 0)) (asks_end (words 1))
    truly = asked ∙ refusal_same (ap (asks_number (pos 0) most) (t.word 0 (omega arith)) ∙ cut_number (pos 0) most (words 0) below ∙ ap (λ z. asks_number (pos 0) z (words 0)) (sym true_limit)) (end_of_lem 1 (omega arith))

    pub count_wrong : (x : LineQuestion) → q ≡ question_number x → CountRead key s (nat_abs most) (Err x)
    unfolding count_line count_of
    count_wrong x z = record { line = λ p. rw (← truly) (unless_no q p _ (λ (y : q ≡ 0). asked_some x (sym z ∙ y)) ∙ ap (λ n. refused n p) z); within = tt }

    module _ (z : q ≡ 0) where
      yes : asks_number (pos 0) (pos (nat_abs most)) (words 0) ≡ 0
      yes = (refusal_yes _ _ (sym truly ∙ z)).0

      yes_most : asks_number (pos 0) most (words 0) ≡ 0
      yes_most = rw true_limit at yes

      value : number_of (line_word l 0) ≡ number_of (words 0)
      value = ap number_of (t.word 0 (omega arith)) ∙ cut_number_of (pos 0) most (words 0) below yes_most

      -- the number that code has
      pub count_small : (pos 0 ≤ℤ number_of (line_word l 0)) × (number_of (line_word l 0) ≤ℤ pos 1_000_000_000)
      count_small = let (a, b) = number_yes (pos 0) most (words 0) yes_most in rw value (a, omega ints)

      pub count_read : (v : ℕ) → v ≡ nat_abs (number_of (line_word l 0)) → CountRead key s (nat_abs most) (Ok (record { count = v; length = l.end + 1 }))
      unfolding count_line count_of
      count_read v e = record {
        line = λ p. rw (← truly) (unless_zero q p _ z ∙ (let f : nat_abs (number_of (words 0)) ≡ v = ap nat_abs (sym value) ∙ sym e in rw (f, t.next) refl));
        within = (rw e (rw value (omega (ints, (amount_yes 0 (pos (nat_abs most)) (words 0) yes).1))), t.long);
      }

-- no such line
pub count_none : (key s : List ℕ) (most : ℕ) → next_texts key (file_lines s) ≡ [] → CountRead key s most (Err LineQuestion.Shape)
unfolding count_line count_of first_refusal unless words_of
count_none key s most e = record { line = λ p. rw e; within = tt }

-- `script=1`
module _ (s : List ℕ) (l : LineWords) (t : KeyLine script_key s l) (q : ℕ) (asked : q ≡ first_refusal (asks_one (line_word l 0)) (asks_end (line_word l 1))) where
  one_truly : q ≡ first_refusal (asks_one (next_words script_key (file_lines s) 0)) (asks_end (next_words script_key (file_lines s) 1))
  one_truly = asked ∙ refusal_same (ap asks_one (t.word 0 (omega arith)) ∙ cut_one (next_words script_key (file_lines s) 0)) (end_of_lem script_key s l t 1 (omega arith))

  pub script_wrong : (x : LineQuestion) → q ≡ question_number x → ScriptRead s (Err x)
  unfolding script_line count_of
  script_wrong x z = (rw (← one_truly) (unless_no q 1 _ (λ (y : q ≡ 0). asked_some x (sym z ∙ y)) ∙ ap (λ n. refused n 1) z), tt)

  pub script_read : q ≡ 0 → ScriptRead s (Ok (record { count = 1; length = l.end + 1 }))
  unfolding script_line count_of
  script_read z = (rw (← one_truly) (unless_zero q 1 _ z ∙ rw t.next refl), (omega arith, t.long))

pub script_none : (s : List ℕ) → next_texts script_key (file_lines s) ≡ [] → ScriptRead s (Err LineQuestion.Shape)
unfolding script_line count_of first_refusal unless words_of turn_of
script_none s e = (rw e, tt)

-- `range=LO HI`
module _ (s : List ℕ) (l : LineWords) (t : KeyLine range_key s l) (q : ℕ) (asked : q ≡ asks_range (line_word l)) where
  range_truly : q ≡ asks_range (next_words range_key (file_lines s))
  range_truly = asked ∙ range_cut (line_word l) (next_words range_key (file_lines s)) t.word

  pub range_wrong : (x : LineQuestion) → q ≡ question_number x → RangeRead s (Err x)
  unfolding range_read
  range_wrong x z = record { line = λ p f. rw (← range_truly) (unless_no q p _ (λ (y : q ≡ 0). asked_some x (sym z ∙ y)) ∙ ap (λ n. refused n p) z); within = tt }

  pub range_read_lem : q ≡ 0 → (a b : ℤ) → a ≡ number_of (line_word l 0) → b ≡ number_of (line_word l 1) → RangeRead s (Ok (record { lo = a; hi = b; length = l.end + 1 }))
  unfolding range_read
  range_read_lem z a b e f =
      let same : File.range_words (line_word l) ≡ File.range_words (next_words range_key (file_lines s)) = range_of_cut (line_word l) _ t.word (sym range_truly ∙ z) in
      let mine : File.range_words (next_words range_key (file_lines s)) ≡ record { lo = a; hi = b } = sym same ∙ (unfold File.range_words in (rw (e, f) refl)) in
      record { line = λ p g. rw (← range_truly) (unless_zero q p _ z ∙ rw (mine, t.next) refl); within = t.long }

pub range_none : (s : List ℕ) → next_texts range_key (file_lines s) ≡ [] → RangeRead s (Err LineQuestion.Shape)
unfolding range_read asks_range first_refusal unless asks_order words_of turn_of
range_none s e = record { line = λ p f. rw e; within = tt }
