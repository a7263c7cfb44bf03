-- Laws of lines: one byte, one word more.
use mathlib.Core.Path.{◌≡◌, refl, sym, ap, ◌∙◌}
use mathlib.Core.Bool.{Bool, true, false, not, cond}
use mathlib.Core.List.{List, [], ◌∷◌}
use Prim.Native.Nat.{ℕ, suc, ◌+◌, ◌-◌, ◌≤◌, ◌<◌, min}
use native.Mathlib.Omega.{arith}
use borrow.Author.Tests.{eq-eqb, ne_eqb, ltb-false, leb-true, leb-false}
use lib.Dec.{eqb, ltb, leb}
use lib.ListN.{length, get_or, take, drop, drop_of_length-le, length-drop}
use lib.Seq.{drop-cons, drop-drop}
use Rattle.rules.specs.Parse.{is_mark}
use Rattle.rules.specs.Text.{space, prefixed, split}
use Rattle.reading.specs.Words.{before}
use Rattle.reading.proofs.TextLaws.{part_rest}
use Rattle.program_words.proofs.Pieces.{piece_within}
use Rattle.std.specs.Prelude.{Option, None, Some}
use Rattle.std.specs.Option.{unwrap_or}
use Rattle.std.specs.List.{position_or_len}
use Rattle.std.specs.Char.{is_ascii_graphic}
use Rattle.line_causes.specs.declared.shapes.Wanted.{Wanted}
use Rattle.line_causes.specs.declared.breaks.Mode.{Mode}
use Rattle.line_causes.specs.declared.breaks.Turn.{Turn}
use Rattle.line_causes.specs.Shapes.{fits, first_word}
use Rattle.line_causes.specs.Breaks.{to_mark, leaf_text, turn_of, broken_from}
use Rattle.line_causes.specs.Causes.{is_plain, to_odd, agree, wanted, word_cause, end_cause, is_last, cause_in}

-- ---- up to a mark, and up to a byte that is not plain
pub marks_are : (s : List ℕ) → position_or_len is_mark s ≡ to_mark s
unfolding to_mark
marks_are [] = refl
marks_are (b ∷ s) = go (is_mark b) (marks_are s)
  where
    go : (t : Bool) → position_or_len is_mark s ≡ to_mark s → cond (not t) (1 + position_or_len is_mark s) 0 ≡ cond t 0 (suc (to_mark s))
    go true e = refl
    go false e = omega arith

pub mark_within : (s : List ℕ) → to_mark s ≤ length s
unfolding to_mark
mark_within [] = omega arith
mark_within (b ∷ s) = go (is_mark b) (mark_within s)
  where
    go : (t : Bool) → to_mark s ≤ length s → cond t 0 (suc (to_mark s)) ≤ suc (length s)
    go true h = omega arith
    go false h = omega arith

pub mark_found : (s : List ℕ) (r : Option ℕ) → r ≡ cond (ltb (position_or_len is_mark s) (length s)) (Some (position_or_len is_mark s)) None → unwrap_or r (length s) ≡ to_mark s
mark_found s r e = ap (λ x. unwrap_or x (length s)) e ∙ go (ltb (position_or_len is_mark s) (length s)) refl ∙ marks_are s
  where
    go : (t : Bool) → ltb (position_or_len is_mark s) (length s) ≡ t → unwrap_or (cond t (Some (position_or_len is_mark s)) None) (length s) ≡ position_or_len is_mark s
    go true h = refl
    go false h = omega (arith, ltb-false _ _ h, marks_are s, mark_within s)

pub odds_are : (s : List ℕ) → position_or_len (λ b. not (is_ascii_graphic b)) s ≡ to_odd s
unfolding to_odd is_plain
odds_are [] = refl
odds_are (b ∷ s) = go (is_ascii_graphic b) (odds_are s)
  where
    go : (t : Bool) → position_or_len (λ c. not (is_ascii_graphic c)) s ≡ to_odd s
        → cond (not (not t)) (1 + position_or_len (λ c. not (is_ascii_graphic c)) s) 0 ≡ cond t (suc (to_odd s)) 0
    go true e = omega arith
    go false e = refl

-- ---- how far a key goes
pub agree_on : (key s : List ℕ) (i : ℕ) → i < length key → i < length s → get_or s i 0 ≡ get_or key i 0 → agree (drop i key) (drop i s) ≡ suc (agree (drop (suc i) key) (drop (suc i) s))
unfolding agree
agree_on key s i h k e = rw (drop-cons key i 0 h, drop-cons s i 0 k, eq-eqb _ _ e)

pub agree_other : (key s : List ℕ) (i : ℕ) → i < length key → i < length s → (get_or s i 0 ≡ get_or key i 0 → ⊥) → agree (drop i key) (drop i s) ≡ 0
unfolding agree
agree_other key s i h k e = rw (drop-cons key i 0 h, drop-cons s i 0 k, ne_eqb _ _ e)

agree_short : (key s : List ℕ) (i : ℕ) → i < length key → length s ≤ i → agree (drop i key) (drop i s) ≡ 0
unfolding agree
agree_short key s i h k = rw (drop-cons key i 0 h, drop_of_length-le s)

agree_end : (key s : List ℕ) (i : ℕ) → length key ≤ i → agree (drop i key) (drop i s) ≡ 0
unfolding agree
agree_end key s i h = rw (drop_of_length-le key)

pub agree_done : (key s : List ℕ) (i : ℕ) → min (length key) (length s) ≤ i → agree (drop i key) (drop i s) ≡ 0
agree_done key s i h = go (leb (length key) i) refl
  where
    go : (t : Bool) → leb (length key) i ≡ t → agree (drop i key) (drop i s) ≡ 0
    go true e = agree_end key s i (leb-true _ _ e)
    go false e = agree_short key s i (leb-false _ _ e) (omega (arith, leb-false _ _ e))

-- ---- expressions
pub head_at : (t : List ℕ) (at : ℕ) → at < length t → get_or (drop at t) 0 0 ≡ get_or t at 0
head_at t at h = rw (drop-cons t at 0 h)

pub leaf_part : (t : List ℕ) (at n : ℕ) → n ≡ to_mark (take (length t - (at + 1)) (drop (at + 1) t)) → take (at + 1 + n - at) (drop at t) ≡ leaf_text (drop at t)
leaf_part t at n e =
    let k : n ≡ to_mark (drop 1 (drop at t)) = e ∙ ap to_mark (part_rest t (at + 1) ∙ sym (drop-drop 1 at t)) in
    let m : at + 1 + n - at ≡ suc n = omega arith in
    ap (λ i. take i (drop at t)) (m ∙ ap suc k)

module _ (t : List ℕ) (at : ℕ) (m : Mode) (d : ℕ) (h : at < length t) where
  pub broken_stop : None ≡ turn_of m d (drop at t) → broken_from m d (drop at t) ≡ 0
  unfolding broken_from
  broken_stop e = let q : None ≡ turn_of m d (get_or t at 0 ∷ drop (suc at) t) = rw (drop-cons t at 0 h) at e in rw (drop-cons t at 0 h, ← q)

  pub broken_on : (r : Turn) → Some r ≡ turn_of m d (drop at t) → broken_from m d (drop at t) ≡ suc (broken_from r.mode r.depth (drop (suc at) t))
  unfolding broken_from
  broken_on r e = let q : Some r ≡ turn_of m d (get_or t at 0 ∷ drop (suc at) t) = rw (drop-cons t at 0 h) at e in rw (drop-cons t at 0 h, ← q)

pub broken_end : (t : List ℕ) (at : ℕ) (m : Mode) (d : ℕ) → length t ≤ at → broken_from m d (drop at t) ≡ 0
unfolding broken_from
broken_end t at m d h = rw (drop_of_length-le t)

-- ---- the words of a line, one more
-- how many bytes words take, each with the space or the end after it
abbrev pub room : List (List ℕ) → ℕ
room [] = 0
room (w ∷ ws) = suc (length w + room ws)

room_prefixed : (x : ℕ) (ps : List (List ℕ)) → 0 < room ps → room (prefixed x ps) ≡ suc (room ps)
unfolding prefixed
room_prefixed x [] h = absurd (omega (arith, h))
room_prefixed x (p ∷ ps) h = omega arith

room_split : (b : ℕ) (s : List ℕ) → room (split b s) ≡ suc (length s)
unfolding split
room_split b [] = refl
room_split b (x ∷ s) = go (eqb x b) (room_split b s)
  where
    go : (u : Bool) → room (split b s) ≡ suc (length s) → room (cond u ([] ∷ split b s) (prefixed x (split b s))) ≡ suc (suc (length s))
    go true e = omega (arith, e)
    go false e = room_prefixed x (split b s) (omega arith) ∙ ap suc e

-- k words are read, and the next begins at byte `at`
pub record WordsRead (shape : List Wanted) (lf : Bool) (s : List ℕ) (from at k : ℕ) : Type 0 where
  pub few : k ≤ at
  pub past : 0 < at
  pub left : at + room (drop k (split space (drop from s))) ≡ suc (length s)
  pub same : cause_in shape lf (split space (drop from s)) 0 from ≡ cause_in shape lf (drop k (split space (drop from s))) k at

pub words_start : (shape : List Wanted) (lf : Bool) (s : List ℕ) (from : ℕ) → 0 < from → from ≤ length s → WordsRead shape lf s from from 0
words_start shape lf s from h k = record {
  few = omega arith;
  past = h;
  left = omega (arith, room_split space (drop from s), length-drop from s);
  same = refl;
}

module _ (shape : List Wanted) (lf : Bool) (s : List ℕ) (from at k : ℕ) (r : WordsRead shape lf s from at k) where
  abbrev words : List (List ℕ)
  words = split space (drop from s)

  module _ (word : List ℕ) (n : ℕ) (m : k ≡ n) (t : (n < length words) × (word ≡ get_or words n word)) (w : Wanted) (q : w ≡ wanted shape k) where
    here : drop k words ≡ word ∷ drop (suc k) words
    here = rw m (drop-cons words n word t.0 ∙ ap (λ x. x ∷ drop (suc n) words) (sym t.1))

    left_here : at + suc (length word + room (drop (suc k) words)) ≡ suc (length s)
    left_here = ap (λ ws. at + room ws) (sym here) ∙ r.left

    pub word_within : at + length word ≤ length s
    word_within = omega (arith, left_here)

    last_here : (ws : List (List ℕ)) → at + suc (length word + room ws) ≡ suc (length s) → is_last ws ≡ eqb (at + length word) (length s)
    last_here [] e = sym (eq-eqb _ _ (omega arith))
    last_here (v ∷ ws) e = sym (ne_eqb (at + length word) (length s) (λ z. omega arith))

    pub words_wrong : fits w word ≡ false → cause_in shape lf words 0 from ≡ word_cause w word at (eqb (at + length word) (length s))
    unfolding cause_in
    words_wrong f = r.same ∙ rw (here, ← q, f) (ap (word_cause w word at) (last_here (drop (suc k) words) left_here))

    one_more : (i j a b : ℕ) → i ≡ j → a ≡ b → a + room (drop i words) ≡ suc (length s) → b + room (drop j words) ≡ suc (length s)
    one_more i j a b e f g = rw (← e, ← f) g

    one_more_cause : (i j a b : ℕ) → i ≡ j → a ≡ b → cause_in shape lf (drop i words) i a ≡ cause_in shape lf (drop j words) j b
    one_more_cause i j a b e f = rw (e, f)

    pub words_more : fits w word ≡ true → WordsRead shape lf s from (at + length word + 1) (k + 1)
    unfolding cause_in
    words_more f = record {
      few = omega (arith, r.few);
      past = omega arith;
      left = one_more (suc k) (k + 1) (suc (at + length word)) (at + length word + 1) (omega arith) (omega arith) (omega (arith, left_here));
      same = r.same ∙ rw (here, ← q, f) (one_more_cause (suc k) (k + 1) (suc (at + length word)) (at + length word + 1) (omega arith) (omega arith));
    }

  pub words_end : k ≡ length words → cause_in shape lf words 0 from ≡ end_cause shape k (length s) lf
  unfolding cause_in
  words_end e =
      let d : drop k words ≡ [] = drop_of_length-le words (omega arith) in
      let z : at - 1 ≡ length s = omega (arith, ap (λ ws. at + room ws) (sym d) ∙ r.left) in
      r.same ∙ rw (d, z)

-- ---- the name of a row
pub first_word_lem : (s : List ℕ) (n : ℕ) → n ≡ before space (take (length s - 4) (drop 4 s)) → take (4 + n - 4) (drop 4 s) ≡ first_word (drop 4 s)
first_word_lem s n e = let m : 4 + n - 4 ≡ n = omega arith in ap (λ i. take i (drop 4 s)) (m ∙ e ∙ ap (before space) (part_rest s 4))

pub first_within : (s : List ℕ) (n : ℕ) → 4 ≤ length s → n ≡ before space (take (length s - 4) (drop 4 s)) → 4 + n ≤ length s
first_within s n h e = (piece_within space s 4 (4 + n) h (ap (λ i. 4 + i) e)).1

pub no_name : (s : List ℕ) → length s < 4 → first_word (drop 4 s) ≡ []
unfolding before
no_name s h = let g : length s ≤ 4 = omega arith in rw (drop_of_length-le s)
