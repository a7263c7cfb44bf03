-- A word of 0 and 1, byte by byte, and a word of picks. Assumes nothing.
use mathlib.Core.Path.{◌≡◌, refl, sym, ◌∙◌, ap}
use mathlib.Core.Bool.{Bool, true, false, cond, ◌&&◌}
use mathlib.Core.List.{List, [], ◌∷◌, ◌++◌}
use Prim.Native.Nat.{ℕ, suc, ◌-◌, ◌≤◌, ◌<◌}
use native.Mathlib.Omega.{arith}
use borrow.Author.Tests.{le-leb, lt-leb, eq-eqb, ne_eqb}
use lib.Dec.{eqb, leb}
use lib.ListN.{length, get_or, set, take, drop, length-set, drop_of_length-le}
use lib.Seq.{drop-cons, take-suc, take-suc-set, take_all}
use Rattle.std.specs.Prelude.{Option, None, Some}
use Rattle.std.specs.Bool.{then_some}
use Rattle.program_words.proofs.Digits.{Read, digit, other, reads, digit_here, digit_range}
use Rattle.program_words.specs.Words.{digit_of, is_none, all_bits, bits_of, is_picks, picks_of, bit_in, PutBits, PutPicks, done_if}

pub record Bits (word bits : List ℕ) (i : ℕ) : Type 0 where
  pub long : length bits ≡ length word
  pub good : all_bits word ≡ all_bits (drop i word)
  pub put : take i bits ≡ bits_of (take i word)

pub bits_none : (word bits : List ℕ) → length word ≡ length bits → Bits word bits 0
unfolding bits_of
bits_none word bits e = record { long = sym e; good = refl; put = refl }

bits_append : (x y : List ℕ) → bits_of (x ++ y) ≡ bits_of x ++ bits_of y
unfolding bits_of
bits_append [] y = refl
bits_append (b ∷ x) y = ap {B = List ℕ} (λ r. digit_of b ∷ r) (bits_append x y)

bits_length : (w : List ℕ) → length (bits_of w) ≡ length w
unfolding bits_of
bits_length [] = refl
bits_length (b ∷ w) = ap suc (bits_length w)

one_bit : (b : ℕ) → bits_of (b ∷ []) ≡ digit_of b ∷ []
unfolding bits_of
one_bit b = refl

-- by the range of the code
pub bit_here : (b : ℕ) → 48 ≤ b → b ≤ 49 → Some (b - 48) ≡ bit_in b
bit_here b h k = by (reads b)
  where
    by : Read b → Some (b - 48) ≡ bit_in b
    by (digit p q l) = rw (q, le-leb (b - 48) 1 (omega arith))
    by (other p q) = absurd (let z = digit_here b h (omega arith) in cc)

pub bit_other : (b : ℕ) → (48 ≤ b → b ≤ 49 → ⊥) → None ≡ bit_in b
bit_other b h = by (reads b)
  where
    by : Read b → None ≡ bit_in b
    by (digit p q l) = let k = digit_range b p in rw (q, lt-leb (b - 48) 1 (by_range k))
      where
        by_range : (48 ≤ b) × (b ≤ 57) → 1 < b - 48
        by_range k = omega (arith, h)
    by (other p q) = rw q

-- by the answer of the code
pub bit_none : (b : ℕ) → None ≡ bit_in b → leb (digit_of b) 1 ≡ false
bit_none b e = go (leb (digit_of b) 1) refl e
  where
    go : (t : Bool) → leb (digit_of b) 1 ≡ t → None ≡ cond t (Some (digit_of b)) None → leb (digit_of b) 1 ≡ false
    go true f g = absurd (cc)
    go false f g = f

pub bit_some : (b d : ℕ) → Some d ≡ bit_in b → (leb (digit_of b) 1 ≡ true) × (d ≡ digit_of b)
bit_some b d e = go (leb (digit_of b) 1) refl e
  where
    go : (t : Bool) → leb (digit_of b) 1 ≡ t → Some d ≡ cond t (Some (digit_of b)) None → (leb (digit_of b) 1 ≡ true) × (d ≡ digit_of b)
    go true f g = (f, cc)
    go false f g = absurd (cc)

module _ (word bits : List ℕ) (i : ℕ) (now : Bits word bits i) where
  module _ (h : i < length word) where
    pub bits_stop : leb (digit_of (get_or word i 0)) 1 ≡ false → PutBits word bits None
    unfolding all_bits
    bits_stop k = record { good = rw (now.good, drop-cons word i 0 h, k); put = λ t. absurd (cc) }

    module _ (d : ℕ) (e : (leb (digit_of (get_or word i 0)) 1 ≡ true) × (d ≡ digit_of (get_or word i 0))) where
      bits_on : all_bits (drop i word) ≡ all_bits (drop (suc i) word)
      unfolding all_bits
      bits_on = rw (drop-cons word i 0 h, e.0)

      pub bits_more : Bits word (set bits i d) (suc i)
      bits_more = record {
        long = length-set bits i d ∙ now.long;
        good = now.good ∙ bits_on;
        put = take-suc-set bits i d (omega (arith, now.long)) ∙ (λ j. now.put j ++ (e.1 j ∷ []))
            ∙ sym (ap bits_of (take-suc word i 0 h) ∙ bits_append (take i word) (get_or word i 0 ∷ []) ∙ ap (λ r. bits_of (take i word) ++ r) (one_bit (get_or word i 0)));
      }

  bits_good : length word ≤ i → true ≡ all_bits word
  unfolding all_bits
  bits_good h = rw (now.good, drop_of_length-le word)

  pub bits_all : length word ≤ i → PutBits word bits (Some tt)
  bits_all h = record {
    good = ap done_if (bits_good h);
    put = λ t. sym (take_all i bits (omega (arith, now.long))) ∙ now.put ∙ ap bits_of (take_all i word h);
  }

-- ---- a word of picks
pub then_done : (t : Bool) → then_some t tt ≡ done_if t
then_done true = refl
then_done false = refl

pub none_put : (word old : List ℕ) (r : Option (Unit {0})) → is_none word ≡ true → r ≡ done_if (eqb (length old) 0) → PutPicks word old old r
unfolding is_picks picks_of
none_put word [] r e f = record { good = rw (f, e); put = λ t. rw e }
none_put word (x ∷ old) r e f =
    let g : r ≡ None = f ∙ ap done_if (ne_eqb (suc (length old)) 0 (λ z. omega arith)) in
    record { good = rw (g, e, ne_eqb 0 (suc (length old)) (λ z. omega arith)); put = λ t. absurd (cc) }

module _ (word old : List ℕ) (e : is_none word ≡ false) where
  refused : (is_picks word && eqb (length (picks_of word)) (length old)) ≡ false → PutPicks word old old None
  refused f = record { good = ap done_if (sym f); put = λ t. absurd (cc) }

  pub empty_refused : length word ≡ 0 → PutPicks word old old None
  unfolding is_picks
  empty_refused z = refused (rw (e, eq-eqb (length word) 0 z))

  no_size : (t : Bool) → (t && false) ≡ false
  no_size true = refl
  no_size false = refl

  pub size_refused : (length word ≡ length old → ⊥) → PutPicks word old old None
  unfolding picks_of
  size_refused h = refused (rw (e, bits_length word, ne_eqb (length word) (length old) h) (no_size (is_picks word)))

  with_true : (t : Bool) → t ≡ (t && true)
  with_true true = refl
  with_true false = refl

  pub bits_put : (length word ≡ 0 → ⊥) → length word ≡ length old → (new : List ℕ) (r : Option (Unit {0})) → PutBits word new r → PutPicks word old new r
  unfolding is_picks picks_of
  bits_put some size new r f = record {
    good = rw (e, bits_length word, eq-eqb (length word) (length old) size, ne_eqb (length word) 0 some) (f.good ∙ ap done_if (with_true (all_bits word)));
    put = λ t. rw e (f.put t);
  }
