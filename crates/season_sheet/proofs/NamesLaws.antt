-- What is kept of an input. Assumes nothing.
use mathlib.Core.Path.{◌≡◌, refl, sym, ap, ◌∙◌, subst}
use mathlib.Core.Logic.{◌⊎◌, inl, inr}
use mathlib.Core.Bool.{Bool, true, false, not, cond, ◌&&◌, ◌||◌}
use mathlib.Core.List.{List, [], ◌∷◌, ◌++◌}
use Prim.Native.Nat.{ℕ, zero, suc, ◌+◌, ◌*◌, ◌-◌, ◌≤◌, ◌<◌, min}
use native.Mathlib.Numerals.{add-one}
use native.Mathlib.Omega.{arith}
use lib.Dec.{T, leb, eqb, eqb→eq}
use lib.ListN.{length, get_or, take, drop, set, length-append, length-drop, length-set}
use lib.Seq.{take_all, take-append-le, get_or-set_same, get_or-set_other, take-suc-set, take-set-le, drop-set-add}
use borrow.Author.Tests.{le-leb, lt-leb, eqb-true, eqb-false}
use Rattle.std.specs.List.{list_any}
use Rattle.rules.specs.Text.{lf, split}
use Rattle.rules_season.specs.Season.{until_last, names_of, holds_zero, good_name}
use Rattle.season_sheet.specs.Kept.{NamesKept, listed, Opened}
use Rattle.season_sheet.proofs.Lines.{byte_count, byte_before, byte_last, here_count, here_before, here_last, names_most, names_fewer, name_line, last_named, last_none}

-- ---- the number of a line that is before another, or is it
below_or_at : (k n : ℕ) → k < n + 1 → (k < n) ⊎ (k ≡ n)
below_or_at zero zero h = inr refl
below_or_at zero (suc n) h = inl (omega arith)
below_or_at (suc k) zero h = absurd (omega arith)
below_or_at (suc k) (suc n) h = by (below_or_at k n (omega arith))
  where
    by : (k < n) ⊎ (k ≡ n) → (suc k < suc n) ⊎ (suc k ≡ suc n)
    by (inl l) = inl (omega arith)
    by (inr e) = inr (ap suc e)

-- ---- nothing read
pub kept_none : (names lengths : List ℕ) → length names ≡ 16_640 → length lengths ≡ 66 → get_or lengths 0 0 ≡ 0 → NamesKept [] 0 names lengths
unfolding split
kept_none names lengths n l z = record {
  long = n;
  room = l;
  last = omega arith;
  size = λ k m f. by_size k (below_or_at k 0 (omega arith));
  line = λ k m f. by_line k (below_or_at k 0 (omega arith));
}
  where
    by_size : (k : ℕ) → (k < 0) ⊎ (k ≡ 0) → get_or lengths k 0 ≡ min 256 (length (get_or (split lf []) k []))
    by_size k (inl m) = absurd (omega arith)
    by_size k (inr e) = subst (λ i. get_or lengths i 0 ≡ min 256 (length (get_or (split lf []) i []))) (sym e) z

    by_line : (k : ℕ) → (k < 0) ⊎ (k ≡ 0) → take (get_or lengths k 0) (drop (256 * k) names) ≡ take 256 (get_or (split lf []) k [])
    by_line k (inl m) = absurd (omega arith)
    by_line k (inr e) = subst (λ i. take (get_or lengths i 0) (drop (256 * i) names) ≡ take 256 (get_or (split lf []) i [])) (sym e) (ap (λ i. take i (drop (256 * 0) names)) z)

-- ---- one byte more, any
module _ (x : ℕ) (s : List ℕ) where
  grown : (length (split lf s) ≤ length (split lf (s ++ (x ∷ [])))) × ((k : ℕ) → k + 1 < length (split lf s) → get_or (split lf (s ++ (x ∷ []))) k [] ≡ get_or (split lf s) k [])
  grown = by (eqb x lf) refl
    where
      by : (c : Bool) → eqb x lf ≡ c → (length (split lf s) ≤ length (split lf (s ++ (x ∷ [])))) × ((k : ℕ) → k + 1 < length (split lf s) → get_or (split lf (s ++ (x ∷ []))) k [] ≡ get_or (split lf s) k [])
      by true e =
          let b : lf ≡ x = sym (eqb→eq x lf (subst T (sym e) tt)) in
          subst (λ z. (length (split lf s) ≤ length (split lf (s ++ (z ∷ [])))) × ((k : ℕ) → k + 1 < length (split lf s) → get_or (split lf (s ++ (z ∷ []))) k [] ≡ get_or (split lf s) k [])) b
          (omega (arith, here_count s), λ k l. here_before s k (omega arith))
      by false e = (omega (arith, byte_count x s e), λ k l. byte_before x s e k l)

module _ (input : List ℕ) (at : ℕ) (names lengths : List ℕ) (h : NamesKept input at names lengths) where
  -- nothing is kept after 65 lines
  pub kept_full : (x : ℕ) → 65 ≤ at → NamesKept (input ++ (x ∷ [])) at names lengths
  kept_full x full =
      let many : 66 ≤ length (split lf input) = omega (arith, h.last) in
      record {
        long = h.long;
        room = h.room;
        last = omega (arith, h.last, (grown x input).0);
        size = λ k l m. h.size k l (omega arith) ∙ ap (λ z. min 256 (length z)) (sym ((grown x input).1 k (omega arith)));
        line = λ k l m. h.line k l (omega arith) ∙ ap (λ z. take 256 z) (sym ((grown x input).1 k (omega arith)));
      }

  module _ (free : at < 65) where
    count_is : at + 1 ≡ length (split lf input)
    count_is = omega (arith, h.last)

    -- an LF
    pub kept_lf : NamesKept (input ++ (lf ∷ [])) (at + 1) names (set lengths (at + 1) 0)
    kept_lf = record {
      long = h.long;
      room = length-set lengths (at + 1) 0 ∙ h.room;
      last = omega (arith, count_is, here_count input);
      size = λ k l m. by_size k l (below_or_at k (length (split lf input)) (omega (arith, here_count input)));
      line = λ k l m. by_line k l (below_or_at k (length (split lf input)) (omega (arith, here_count input)));
    }
      where
        fresh : get_or (set lengths (at + 1) 0) (length (split lf input)) 0 ≡ 0
        fresh = ap (λ z. get_or (set lengths (at + 1) 0) z 0) (sym count_is) ∙ get_or-set_same lengths (at + 1) 0 0 (omega (arith, h.room))

        old : (k : ℕ) → k < length (split lf input) → get_or (set lengths (at + 1) 0) k 0 ≡ get_or lengths k 0
        old k l = get_or-set_other lengths (at + 1) k 0 0 (λ e. omega (arith, e, count_is))

        by_size : (k : ℕ) → k < 65 → (k < length (split lf input)) ⊎ (k ≡ length (split lf input)) → get_or (set lengths (at + 1) 0) k 0 ≡ min 256 (length (get_or (split lf (input ++ (lf ∷ []))) k []))
        by_size k l (inl m) = old k m ∙ h.size k l m ∙ ap (λ z. min 256 (length z)) (sym (here_before input k m))
        by_size k l (inr e) = subst (λ z. get_or (set lengths (at + 1) 0) z 0 ≡ min 256 (length (get_or (split lf (input ++ (lf ∷ []))) z []))) (sym e) (fresh ∙ ap (λ z. min 256 (length z)) (sym (here_last input)))

        by_line : (k : ℕ) → k < 65 → (k < length (split lf input)) ⊎ (k ≡ length (split lf input))
            → take (get_or (set lengths (at + 1) 0) k 0) (drop (256 * k) names) ≡ take 256 (get_or (split lf (input ++ (lf ∷ []))) k [])
        by_line k l (inl m) = ap (λ z. take z (drop (256 * k) names)) (old k m) ∙ h.line k l m ∙ ap (λ z. take 256 z) (sym (here_before input k m))
        by_line k l (inr e) =
            subst (λ z. take (get_or (set lengths (at + 1) 0) z 0) (drop (256 * z) names) ≡ take 256 (get_or (split lf (input ++ (lf ∷ []))) z [])) (sym e)
            (ap (λ z. take z (drop (256 * length (split lf input)) names)) fresh ∙ ap (λ z. take 256 z) (sym (here_last input)))

    module _ (x : ℕ) (other : eqb x lf ≡ false) where
      -- the open line, and the one byte more
      abbrev line : List ℕ
      line = get_or (split lf input) at []

      long_is : get_or lengths at 0 ≡ min 256 (length line)
      long_is = h.size at free (omega (arith, count_is))

      -- a byte past the 256 that are kept
      pub kept_past : 256 ≤ get_or lengths at 0 → NamesKept (input ++ (x ∷ [])) at names lengths
      kept_past full = record {
        long = h.long;
        room = h.room;
        last = omega (arith, h.last, byte_count x input other);
        size = λ k l m. by_size k l (below_or_at k at (omega (arith, count_is, byte_count x input other)));
        line = λ k l m. by_line k l (below_or_at k at (omega (arith, count_is, byte_count x input other)));
      }
        where
          by_size : (k : ℕ) → k < 65 → (k < at) ⊎ (k ≡ at) → get_or lengths k 0 ≡ min 256 (length (get_or (split lf (input ++ (x ∷ []))) k []))
          by_size k l (inl m) = h.size k l (omega (arith, count_is)) ∙ ap (λ z. min 256 (length z)) (sym (byte_before x input other k (omega (arith, count_is))))
          by_size k l (inr e) =
              subst (λ z. get_or lengths z 0 ≡ min 256 (length (get_or (split lf (input ++ (x ∷ []))) z []))) (sym e)
              (omega (arith, long_is, length-append line (x ∷ []), ap length (byte_last x input other at count_is)))

          by_line : (k : ℕ) → k < 65 → (k < at) ⊎ (k ≡ at) → take (get_or lengths k 0) (drop (256 * k) names) ≡ take 256 (get_or (split lf (input ++ (x ∷ []))) k [])
          by_line k l (inl m) = h.line k l (omega (arith, count_is)) ∙ ap (λ z. take 256 z) (sym (byte_before x input other k (omega (arith, count_is))))
          by_line k l (inr e) =
              subst (λ z. take (get_or lengths z 0) (drop (256 * z) names) ≡ take 256 (get_or (split lf (input ++ (x ∷ []))) z [])) (sym e)
              (h.line at free (omega (arith, count_is)) ∙ sym (take-append-le 256 line (x ∷ []) (omega (arith, long_is))) ∙ ap (λ z. take 256 z) (sym (byte_last x input other at count_is)))

      -- a byte that is kept, at its place
      pub kept_byte : get_or lengths at 0 < 256 → (p : ℕ) → p ≡ 256 * at + get_or lengths at 0 → NamesKept (input ++ (x ∷ [])) at (set names p x) (set lengths at (get_or lengths at 0 + 1))
      kept_byte small p e = record {
        long = length-set names p x ∙ h.long;
        room = length-set lengths at (get_or lengths at 0 + 1) ∙ h.room;
        last = omega (arith, h.last, byte_count x input other);
        size = λ k l m. by_size k l (below_or_at k at (omega (arith, count_is, byte_count x input other)));
        line = λ k l m. by_line k l (below_or_at k at (omega (arith, count_is, byte_count x input other)));
      }
        where
          n : ℕ
          n = get_or lengths at 0

          next : List ℕ
          next = set lengths at (get_or lengths at 0 + 1)

          now_is : get_or next at 0 ≡ get_or lengths at 0 + 1
          now_is = get_or-set_same lengths at (get_or lengths at 0 + 1) 0 (omega (arith, h.room))

          old : (k : ℕ) → k < at → get_or next k 0 ≡ get_or lengths k 0
          old k l = get_or-set_other lengths at k (get_or lengths at 0 + 1) 0 (λ e. omega (arith, e))

          whole : length line ≡ get_or lengths at 0
          whole = omega (arith, long_is)

          by_size : (k : ℕ) → k < 65 → (k < at) ⊎ (k ≡ at) → get_or next k 0 ≡ min 256 (length (get_or (split lf (input ++ (x ∷ []))) k []))
          by_size k l (inl m) = old k m ∙ h.size k l (omega (arith, count_is)) ∙ ap (λ z. min 256 (length z)) (sym (byte_before x input other k (omega (arith, count_is))))
          by_size k l (inr e) =
              subst (λ z. get_or next z 0 ≡ min 256 (length (get_or (split lf (input ++ (x ∷ []))) z []))) (sym e)
              (omega (arith, now_is, whole, length-append line (x ∷ []), ap length (byte_last x input other at count_is)))

          -- a line before is not touched
          apart : (k m : ℕ) → k < at → m ≤ 256 → take m (drop (256 * k) (set names p x)) ≡ take m (drop (256 * k) names)
          apart k m l f =
              ap (λ z. take m (drop (256 * k) (set names z x))) (omega (arith, e)) ∙ ap (take m) (drop-set-add (256 * k) names (p - 256 * k) x) ∙ take-set-le m (drop (256 * k) names) (p - 256 * k) x (omega (arith, e))

          by_line : (k : ℕ) → k < 65 → (k < at) ⊎ (k ≡ at) → take (get_or next k 0) (drop (256 * k) (set names p x)) ≡ take 256 (get_or (split lf (input ++ (x ∷ []))) k [])
          by_line k l (inl m) =
              ap (λ z. take z (drop (256 * k) (set names p x))) (old k m) ∙ apart k (get_or lengths k 0) m (omega (arith, h.size k l (omega (arith, count_is))))
              ∙ h.line k l (omega (arith, count_is)) ∙ ap (λ z. take 256 z) (sym (byte_before x input other k (omega (arith, count_is))))
          by_line k l (inr f) =
              subst (λ z. take (get_or next z 0) (drop (256 * z) (set names p x)) ≡ take 256 (get_or (split lf (input ++ (x ∷ []))) z [])) (sym f)
              (ap (λ z. take z (drop (256 * at) (set names p x))) (now_is ∙ add-one (get_or lengths at 0))
              ∙ ap (λ z. take (suc (get_or lengths at 0)) (drop (256 * at) (set names z x))) e
              ∙ ap (take (suc (get_or lengths at 0))) (drop-set-add (256 * at) names (get_or lengths at 0) x)
              ∙ take-suc-set (drop (256 * at) names) (get_or lengths at 0) x (simp length-drop (omega (arith, h.long)))
              ∙ ap (λ z. z ++ (x ∷ [])) (h.line at free (omega (arith, count_is)) ∙ take_all 256 line (omega (arith, whole)))
              ∙ sym (take_all 256 (line ++ (x ∷ [])) (simp length-append (omega (arith, whole))))
              ∙ ap (λ z. take 256 z) (sym (byte_last x input other at count_is)))

-- ---- how many names
module _ (input : List ℕ) (at : ℕ) (names lengths : List ℕ) (h : NamesKept input at names lengths) where
  -- more than 64
  pub too_many : 65 ≤ at → listed (names_of input) ≡ 0
  unfolding listed names_of
  too_many full = by (leb 1 (length (until_last (split lf input)))) (lt-leb (length (until_last (split lf input))) 64 (omega (arith, h.last, names_most (split lf input))))
    where
      by : (c : Bool) → leb (length (until_last (split lf input))) 64 ≡ false → cond (c && leb (length (until_last (split lf input))) 64) (length (until_last (split lf input))) 0 ≡ 0
      by true e = rw e
      by false e = refl

  module _ (free : at < 65) where
    lines_are : at + 1 ≡ length (split lf input)
    lines_are = omega (arith, h.last)

    pub names_are : length (names_of input) ≡ at + cond (eqb (get_or lengths at 0) 0) 0 1
    unfolding names_of
    names_are = by (eqb (get_or lengths at 0) 0) refl
      where
        size : get_or lengths at 0 ≡ min 256 (length (get_or (split lf input) at []))
        size = h.size at free (omega (arith, lines_are))

        by : (c : Bool) → eqb (get_or lengths at 0) 0 ≡ c → length (until_last (split lf input)) ≡ at + cond c 0 1
        by true e = last_none (split lf input) at lines_are (omega (arith, size, eqb-true (get_or lengths at 0) 0 e)) ∙ omega arith
        by false e = last_named (split lf input) at lines_are (by_pos (length (get_or (split lf input) at [])) (λ z. eqb-false (get_or lengths at 0) 0 e (size ∙ ap (min 256) z)))
          where
            by_pos : (n : ℕ) → (n ≡ 0 → ⊥) → 0 < n
            by_pos zero f = absurd (f refl)
            by_pos (suc n) f = omega arith

pub listed_none : (ns : List (List ℕ)) → 64 < length ns → listed ns ≡ 0
unfolding listed
listed_none ns h = by (leb 1 (length ns)) (lt-leb (length ns) 64 h)
  where
    by : (c : Bool) → leb (length ns) 64 ≡ false → cond (c && leb (length ns) 64) (length ns) 0 ≡ 0
    by true e = rw e
    by false e = refl

pub listed_all : (ns : List (List ℕ)) → length ns ≤ 64 → listed ns ≡ length ns
unfolding listed
listed_all [] h = refl
listed_all (n ∷ ns) h = rw (le-leb 1 (length (n ∷ ns)) (omega arith), le-leb (length (n ∷ ns)) 64 h)

-- ---- a 0 byte
pub zeros_are : (s : List ℕ) → list_any (λ b. eqb b 0) s ≡ holds_zero s
unfolding holds_zero
zeros_are [] = refl
zeros_are (b ∷ s) = ap (λ t. eqb b 0 || t) (zeros_are s)

-- ---- which name is opened
pub empty_shut : (name : List ℕ) → length name ≡ 0 → false ≡ good_name name
unfolding good_name
empty_shut name h = rw h

pub short_opens : (name : List ℕ) → (length name ≡ 0 → ⊥) → length name ≤ 255 → {z : Bool} → z ≡ holds_zero name → not z ≡ good_name name
unfolding good_name
short_opens [] f h e = absurd (f refl)
short_opens (b ∷ bs) f h e = rw (e, le-leb 1 (length (b ∷ bs)) (omega arith), le-leb (length (b ∷ bs)) 255 h)

pub long_shut : (name : List ℕ) → 255 < length name → good_name name ≡ false
unfolding good_name
long_shut name h = by (leb 1 (length name)) (lt-leb (length name) 255 h)
  where
    by : (c : Bool) → leb (length name) 255 ≡ false → (c && (leb (length name) 255 && not (holds_zero name))) ≡ false
    by true e = rw e
    by false e = refl

-- none of a name that does not open, all of one that does
pub opened_none : {name bytes : List ℕ} → good_name name ≡ false → bytes ≡ [] → Opened name bytes 0
opened_none {name} e f = record { whole = f ∙ ap (λ c. cond c name []) (sym e); count = ap (λ c. length (cond c name [])) (sym e) }

pub opened_all : {name bytes : List ℕ} (n : ℕ) → good_name name ≡ true → bytes ≡ name → n ≡ length name → Opened name bytes n
opened_all {name} n e f g = record { whole = f ∙ ap (λ c. cond c name []) (sym e); count = g ∙ ap (λ c. length (cond c name [])) (sym e) }

module _ (input : List ℕ) (at : ℕ) (names lengths : List ℕ) (h : NamesKept input at names lengths) (k : ℕ) (l : k < 65) (m : k < length (names_of input)) where
  abbrev name : List ℕ
  name = get_or (names_of input) k []

  name_is : name ≡ get_or (split lf input) k []
  unfolding names_of
  name_is = name_line (split lf input) k m

  there : k < length (split lf input)
  unfolding names_of
  there = omega (arith, names_fewer (split lf input))

  pub name_size : get_or lengths k 0 ≡ min 256 (length name)
  name_size = h.size k l there ∙ ap (λ z. min 256 (length z)) (sym name_is)

  pub name_long : 255 < get_or lengths k 0 → good_name name ≡ false
  name_long f = long_shut name (omega (arith, name_size))

  pub name_kept : get_or lengths k 0 ≤ 255 → take (get_or lengths k 0) (drop (256 * k) names) ≡ name
  name_kept f = h.line k l there ∙ ap (take 256) (sym name_is) ∙ take_all 256 name (omega (arith, name_size))

  pub name_room : get_or lengths k 0 ≤ 255 → 256 * k + get_or lengths k 0 ≤ length names
  name_room f = omega (arith, h.long)

  -- the bytes that code looks at
  pub bytes_are : get_or lengths k 0 ≤ 255 → take (k * 256 + get_or lengths k 0 - k * 256) (drop (k * 256) names) ≡ name
  bytes_are f =
      let a : k * 256 + get_or lengths k 0 - k * 256 ≡ get_or lengths k 0 = omega arith in
      let b : k * 256 ≡ 256 * k = omega arith in
      ap (λ z. take z (drop (k * 256) names)) a ∙ ap (λ z. take (get_or lengths k 0) (drop z names)) b ∙ name_kept f
