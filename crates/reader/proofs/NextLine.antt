-- The next line of a text, by where its LF stands. Assumes nothing.
use mathlib.Core.Path.{◌≡◌, refl, sym, ap, ◌∙◌, subst}
use mathlib.Core.Bool.{Bool, true, false, not, cond}
use mathlib.Core.List.{List, [], ◌∷◌}
use Prim.Native.Nat.{ℕ, zero, suc, ◌+◌, ◌≤◌, ◌<◌}
use native.Mathlib.Omega.{arith}
use native.Mathlib.Numerals.{add-one}
use lib.Dec.{eqb, ltb}
use borrow.Author.Tests.{ltb-true, ltb-false, eq-eqb, ne_eqb, eqb-true, eqb-false}
use lib.ListN.{length, get_or, take, drop, length-drop}
use Rattle.rules.specs.Text.{prefixed, split, starts_with, words_of, line_texts, next_texts, next_words, next_lines}
use Rattle.rules.specs.declared.Word.{Word}
use Rattle.reading.specs.declared.text.LineWords.{LineWords}
use Rattle.reading.specs.Words.{before, cut_word, HasEnd, parts, following, line_word, LineRead}
use Rattle.reading.proofs.TextLaws.{split_more, split_last}
use Rattle.reader.specs.Lines.{file_lines, keyed, clean}

-- there is always a part
pub split_some : (b : ℕ) (s : List ℕ) → (p : List ℕ) × (ps : List (List ℕ)) × (split b s ≡ p ∷ ps)
unfolding split prefixed
split_some b [] = ([], [], refl)
split_some b (x ∷ s) = go (eqb x b) (split_some b s)
  where
    go : (t : Bool) → (p : List ℕ) × (ps : List (List ℕ)) × (split b s ≡ p ∷ ps) → (q : List ℕ) × (qs : List (List ℕ)) × (cond t ([] ∷ split b s) (prefixed x (split b s)) ≡ q ∷ qs)
    go true h = ([], split b s, refl)
    go false (p, ps, e) = (x ∷ p, ps, ap (prefixed x) e)

next_two : (key p q : List ℕ) (qs : List (List ℕ)) → next_texts key (p ∷ (q ∷ qs)) ≡ line_texts key p
unfolding next_texts
next_two key p q qs = refl

module _ (key s : List ℕ) where
  -- a line
  pub next_line : before 10 s < length s → next_texts key (file_lines s) ≡ line_texts key (take (before 10 s) s)
  next_line h =
      let (q, qs, e) = split_some 10 (drop (suc (before 10 s)) s) in
      ap (next_texts key) (split_more 10 s h ∙ ap (λ (ls : List (List ℕ)). take (before 10 s) s ∷ ls) e) ∙ next_two key _ q qs

  -- no line
  pub next_none : length s ≤ before 10 s → next_texts key (file_lines s) ≡ []
  unfolding next_texts
  next_none h = ap (next_texts key) (split_last 10 s h)

pub lines_next : (s : List ℕ) → before 10 s < length s → next_lines (file_lines s) ≡ file_lines (drop (before 10 s + 1) s)
unfolding next_lines
lines_next s h = ap next_lines (split_more 10 s h) ∙ ap (λ n. file_lines (drop n s)) (sym (add-one (before 10 s)))

-- ---- the key of a line
cases : (a b : Bool) → cond a b false ≡ true → (a ≡ true) × (b ≡ true)
cases true b e = (refl, e)
cases false b e = absurd (let z : ◌≡◌ {A = ℕ} 0 1 = cc in omega arith)

pub keyed_yes : (key s : List ℕ) → keyed key s ≡ true → (before 10 s < length s) × (starts_with key s ≡ true)
unfolding keyed
keyed_yes key s e = let (a, b) = cases (ltb (before 10 s) (length s)) (starts_with key s) e in (ltb-true _ _ a, b)

-- the last byte of a key
unfoldable pub last : List ℕ → ℕ
last [] = 0
last (k ∷ []) = 0
last (k ∷ (l ∷ key)) = suc (last (l ∷ key))

clean_rest : (k l : ℕ) (key : List ℕ) → clean (k ∷ (l ∷ key)) ≡ true → clean (l ∷ key) ≡ true
unfolding clean
clean_rest k l key e = go (eqb k 10) e
  where
    go : (t : Bool) → cond t false (clean (l ∷ key)) ≡ true → clean (l ∷ key) ≡ true
    go true f = absurd (let z : ◌≡◌ {A = ℕ} 0 1 = cc in omega arith)
    go false f = f

pub last_length : (key : List ℕ) → clean key ≡ true → length key ≡ suc (last key)
unfolding clean last
last_length [] e = absurd (let z : ◌≡◌ {A = ℕ} 0 1 = cc in omega arith)
last_length (k ∷ []) e = refl
last_length (k ∷ (l ∷ key)) e = ap suc (last_length (l ∷ key) (clean_rest k l key e))

-- its first byte is no LF
clean_first : (k : ℕ) (key : List ℕ) → clean (k ∷ key) ≡ true → eqb k 10 ≡ false
unfolding clean
clean_first k [] e = go (eqb k 10) e
  where
    go : (t : Bool) → not t ≡ true → t ≡ false
    go true f = absurd (let z : ◌≡◌ {A = ℕ} 0 1 = cc in omega arith)
    go false f = refl
clean_first k (l ∷ key) e = go (eqb k 10) e
  where
    go : (t : Bool) → cond t false (clean (l ∷ key)) ≡ true → t ≡ false
    go true f = absurd (let z : ◌≡◌ {A = ℕ} 0 1 = cc in omega arith)
    go false f = refl

-- a text and its first line start with the same key
start_step : (k b : ℕ) (key s : List ℕ) → eqb k 10 ≡ false → starts_with key (take (before 10 s) s) ≡ starts_with key s → starts_with (k ∷ key) (take (before 10 (b ∷ s)) (b ∷ s)) ≡ starts_with (k ∷ key) (b ∷ s)
unfolding starts_with before
start_step k b key s c ih = go (eqb b 10) refl
  where
    go : (t : Bool) → eqb b 10 ≡ t → starts_with (k ∷ key) (take (cond t 0 (suc (before 10 s))) (b ∷ s)) ≡ cond (eqb b k) (starts_with key s) false
    go true f = let n : eqb b k ≡ false = ne_eqb b k (λ (g : b ≡ k). eqb-false k 10 c (sym g ∙ eqb-true b 10 f)) in rw n
    go false f = rw ih

same_start : (key s : List ℕ) → clean key ≡ true → starts_with key (take (before 10 s) s) ≡ starts_with key s
unfolding starts_with before
same_start [] s e = refl
same_start (k ∷ key) [] e = refl
same_start (k ∷ []) (b ∷ s) e = start_step k b [] s (clean_first k [] e) refl
same_start (k ∷ (l ∷ key)) (b ∷ s) e = start_step k b (l ∷ key) s (clean_first k (l ∷ key) e) (same_start (l ∷ key) s (clean_rest k l key e))

-- the words of a line with the key follow the key's last byte
pub record Words (key s : List ℕ) : Type 0 where
  pub texts : split 32 (drop (length key) (take (before 10 s) s)) ≡ parts (drop (last key) s)
  pub line : last key + before 10 (drop (last key) s) ≡ before 10 s
  pub ends : HasEnd (drop (last key) s)

key_one : (k b : ℕ) (s : List ℕ) → eqb b 10 ≡ false → HasEnd (b ∷ s) → Words (k ∷ []) (b ∷ s)
unfolding before HasEnd parts last
key_one k b s n h = record { texts = simp n; line = simp n (omega arith); ends = h }

key_more : (k l b : ℕ) (key s : List ℕ) → eqb b 10 ≡ false → Words (l ∷ key) s → Words (k ∷ (l ∷ key)) (b ∷ s)
unfolding before last
key_more k l b key s n w = record { texts = simp n w.texts; line = simp n (omega (arith, w.line)); ends = w.ends }

ends_on : (b : ℕ) (s : List ℕ) → eqb b 10 ≡ false → HasEnd (b ∷ s) → HasEnd s
unfolding before HasEnd
ends_on b s n h = let k : suc (before 10 s) < suc (length s) = rw n at h in omega arith

-- the byte that a key's byte meets is no LF
met : (k b : ℕ) (key s : List ℕ) → clean (k ∷ key) ≡ true → starts_with (k ∷ key) (b ∷ s) ≡ true → (eqb b 10 ≡ false) × (starts_with key s ≡ true)
unfolding starts_with
met k b key s c e =
    let (f, g) = cases (eqb b k) (starts_with key s) e in
    (ap (λ x. eqb x 10) (eqb-true b k f) ∙ clean_first k key c, g)

key_words : (key s : List ℕ) → clean key ≡ true → starts_with key s ≡ true → HasEnd s → Words key s
unfolding clean starts_with
key_words [] s c e h = absurd (let z : ◌≡◌ {A = ℕ} 0 1 = cc in omega arith)
key_words (k ∷ key) [] c e h = absurd (let z : ◌≡◌ {A = ℕ} 0 1 = cc in omega arith)
key_words (k ∷ []) (b ∷ s) c e h = key_one k b s (met k b [] s c e).0 h
key_words (k ∷ (l ∷ key)) (b ∷ s) c e h =
    let (n, g) = met k b (l ∷ key) s c e in
    key_more k l b key s n (key_words (l ∷ key) s (clean_rest k l key c) g (ends_on b s n h))

module _ (key s : List ℕ) (c : clean key ≡ true) where
  -- a line with the key
  module _ (e : keyed key s ≡ true) where
    pub at_words : Words key s
    unfolding HasEnd
    at_words = let (h, f) = keyed_yes key s e in key_words key s c f h

    pub at_next : next_texts key (file_lines s) ≡ parts (drop (last key) s)
    unfolding line_texts
    at_next = let (h, f) = keyed_yes key s e in next_line key s h ∙ rw (same_start key s c, f) at_words.texts

  -- none
  pub at_none : keyed key s ≡ false → next_texts key (file_lines s) ≡ []
  unfolding keyed line_texts
  at_none e = go (ltb (before 10 s) (length s)) refl e
    where
      go : (t : Bool) → ltb (before 10 s) (length s) ≡ t → cond t (starts_with key s) false ≡ false → next_texts key (file_lines s) ≡ []
      go true p f = next_line key s (ltb-true _ _ p) ∙ rw (same_start key s c, f)
      go false p f = next_none key s (ltb-false _ _ p)

-- a line ends at its first LF, or before
pub found_line : (s : List ℕ) (i : ℕ) → i < length s → get_or s i 0 ≡ 10 → before 10 s ≤ i
unfolding before
found_line [] i h e = absurd (omega arith)
found_line (x ∷ s) zero h e = rw (eq-eqb x 10 e) (omega arith)
found_line (x ∷ s) (suc i) h e = go (eqb x 10) (found_line s i (omega arith) e)
  where
    go : (t : Bool) → before 10 s ≤ i → cond t 0 (suc (before 10 s)) ≤ suc i
    go true k = omega arith
    go false k = omega arith

-- a line with the key, whose last byte is at p
pub record Keyed (key s : List ℕ) (p : ℕ) : Type 0 where
  pub ends : HasEnd (drop p s)
  pub texts : next_texts key (file_lines s) ≡ parts (drop p s)
  pub words : next_words key (file_lines s) ≡ following (drop p s)
  pub line : p + before 10 (drop p s) ≡ before 10 s

same_words : (ts : List (List ℕ)) (s : List ℕ) → ts ≡ parts s → words_of ts ≡ following s
unfolding following
same_words ts s e = ap words_of e

pub keyed_at : (key s : List ℕ) (p : ℕ) → clean key ≡ true → last key ≡ p → keyed key s ≡ true → Keyed key s p
keyed_at key s p c e k =
    let w = at_words key s c k in
    subst (Keyed key s) e (record { ends = w.ends; texts = at_next key s c k; words = same_words _ _ (at_next key s c k); line = w.line })

-- the words of such a line, their numbers cut off, and the line after it
pub record KeyLine (key s : List ℕ) (l : LineWords) : Type 0 where
  pub word : (k : ℕ) → k < 8 → line_word l k ≡ cut_word (next_words key (file_lines s) k)
  pub next : next_lines (file_lines s) ≡ file_lines (drop (l.end + 1) s)
  pub long : l.end + 1 ≤ length s

pub key_line_lem : (key s : List ℕ) (p : ℕ) (l : LineWords) → Keyed key s p → LineRead s p l → KeyLine key s l
unfolding HasEnd
key_line_lem key s p l k r =
    let e : l.end ≡ before 10 s = r.end ∙ k.line in
    let h : before 10 s < length s = omega (arith, k.ends, k.line, length-drop p s) in
    record {
      word = λ n m. r.word n m ∙ ap (λ (w : ℕ → Word). cut_word (w n)) (sym k.words);
      next = lines_next s h ∙ ap (λ n. file_lines (drop (n + 1) s)) (sym e);
      long = omega (arith, e, h);
    }
