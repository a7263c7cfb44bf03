-- A line's words one after the other. Assumes nothing.
use mathlib.Core.Path.{◌≡◌, refl, sym, ap, ◌∙◌}
use mathlib.Core.Bool.{Bool, true, false, cond}
use mathlib.Core.List.{List, [], ◌∷◌}
use Prim.Native.Nat.{ℕ, zero, suc, ◌+◌, ◌-◌, ◌<◌, ◌≤◌}
use native.Mathlib.Omega.{arith}
use native.Mathlib.Numerals.{add-one}
use lib.ListN.{length, get_or, take, drop, set, replicate, length-drop, length-set}
use lib.Seq.{drop-cons, drop-drop, get_or-set_same, get_or-set_other}
use lib.Dec.{eqb, ltb}
use lib.IntN.{ℤ, pos}
use borrow.Author.Tests.{eq-eqb, ne_eqb, eqb-true, eqb-false, ltb-true, ltb-false}
use Rattle.rules.specs.declared.Word.TheVariants.{Missing}
use Rattle.rules.specs.Text.{prefixed, split, word_of, words_of}
use Rattle.reading.proofs.TextLaws.{stop_within}
use Rattle.reading.specs.Words.{before, stops, stop, front, cut_word, HasEnd, parts, following, spelling, word_in, text_in, Reads, LineRead}
use Rattle.reading.specs.declared.text.WordFound.{WordFound}
use Rattle.reading.specs.declared.text.Tag.{Tag}

-- a line's words: the word at the front, and those after the byte that ends it
record Cuts (s : List ℕ) : Type 0 where
  words : split 32 (take (before 10 s) s) ≡ front s ∷ parts (drop (stop s) s)
  line : stop s + before 10 (drop (stop s) s) ≡ before 10 s
  ends : HasEnd (drop (stop s) s)

cuts : (s : List ℕ) → HasEnd s → Cuts s
unfolding HasEnd before stop stops front parts split prefixed
cuts [] h = absurd (omega arith)
cuts (x ∷ s) h = go (eqb x 10) (eqb x 32) refl refl h (λ k. cuts s k)
  where
    go : (l b : Bool) → eqb x 10 ≡ l → eqb x 32 ≡ b → cond l 0 (suc (before 10 s)) < suc (length s) → (before 10 s < length s → Cuts s) → Cuts (x ∷ s)
    go true true e f k ih = record { words = simp (e, f); line = simp (e, f); ends = simp (e, f) (omega arith) }
    go true false e f k ih = record { words = simp (e, f); line = simp (e, f); ends = simp (e, f) (omega arith) }
    go false true e f k ih = record { words = simp (e, f); line = simp (e, f) (omega arith); ends = simp (e, f) k }
    go false false e f k ih =
        let c = ih (omega arith) in
        record { words = rw (e, f, c.words); line = rw (e, f) (omega (arith, c.line)); ends = rw (e, f) c.ends }

-- one word of a line is read, and the others begin after the byte `end`
record WordRead (s : List ℕ) (at : ℕ) (r : WordFound) : Type 0 where
  word : word_in r.tag r.value ≡ cut_word (following (drop at s) 0)
  text : spelling (drop at s) 0 ≡ text_in s at r.end
  more : (k : ℕ) → following (drop at s) (suc k) ≡ following (drop r.end s) k
  texts : (k : ℕ) → spelling (drop at s) (suc k) ≡ spelling (drop r.end s) k
  line : r.end + before 10 (drop r.end s) ≡ at + before 10 (drop at s)
  ends : HasEnd (drop r.end s)

-- after the first byte
after_some : (b : ℕ) (s : List ℕ) → (b ≡ 10 → ⊥) → HasEnd (b ∷ s) → HasEnd s
unfolding HasEnd before
after_some b s n h = let e = ne_eqb b 10 n in let k : suc (before 10 s) < suc (length s) = rw e at h in omega arith

after_line_lem : (b : ℕ) (s : List ℕ) → (b ≡ 10 → ⊥) → before 10 (b ∷ s) ≡ suc (before 10 s)
unfolding before
after_line_lem b s n = rw (ne_eqb b 10 n)

after_words : (b : ℕ) (s : List ℕ) → (b ≡ 10 → ⊥) → parts (b ∷ s) ≡ split 32 (take (before 10 s) s)
unfolding parts
after_words b s n = rw (ne_eqb b 10 n)

-- the line's LF
no_more : (b : ℕ) (s : List ℕ) → b ≡ 10 → (k : ℕ) → following (b ∷ s) k ≡ Missing
unfolding following parts words_of
no_more b s e k = rw (eq-eqb b 10 e)

no_text : (b : ℕ) (s : List ℕ) → b ≡ 10 → (k : ℕ) → spelling (b ∷ s) k ≡ []
unfolding spelling parts
no_text b s e k = rw (eq-eqb b 10 e)

-- an LF lies within the text
pub ends_within : (s : List ℕ) (at : ℕ) → HasEnd (drop at s) → at < length s
unfolding HasEnd
ends_within s at h = omega (arith, length-drop at s)

-- the first word after a byte that is no LF, and the others
module _ (b : ℕ) (t : List ℕ) (n : b ≡ 10 → ⊥) (h : HasEnd (b ∷ t)) where
  first_word_lem : following (b ∷ t) 0 ≡ word_of (front t)
  unfolding following words_of
  first_word_lem = rw (after_words b t n, (cuts t (after_some b t n h)).words)

  more_words : (k : ℕ) → following (b ∷ t) (suc k) ≡ following (drop (stop t) t) k
  unfolding following words_of
  more_words k = rw (after_words b t n, (cuts t (after_some b t n h)).words)

  first_text : spelling (b ∷ t) 0 ≡ front t
  unfolding spelling
  first_text = rw (after_words b t n, (cuts t (after_some b t n h)).words)

  more_texts : (k : ℕ) → spelling (b ∷ t) (suc k) ≡ spelling (drop (stop t) t) k
  unfolding spelling
  more_texts k = rw (after_words b t n, (cuts t (after_some b t n h)).words)

-- a word of n bytes after the byte `at`
module _ (s : List ℕ) (at : ℕ) (t : Tag) (z : ℤ) (n : ℕ) (h : HasEnd (drop at s)) (other : get_or s at 0 ≡ 10 → ⊥) (r : Reads (drop (at + 1) s) (record { tag = t; value = z; end = n })) where
  head : drop at s ≡ get_or s at 0 ∷ drop (at + 1) s
  head = rw (add-one at) (drop-cons s at 0 (ends_within s at h))

  after : drop (at + 1 + n) s ≡ drop (stop (drop (at + 1) s)) (drop (at + 1) s)
  after = sym (drop-drop n (at + 1) s) ∙ ap (λ m. drop m (drop (at + 1) s)) r.end

  some : HasEnd (get_or s at 0 ∷ drop (at + 1) s)
  some = rw head at h

  text_of : spelling (drop at s) 0 ≡ take (at + 1 + n - (at + 1)) (drop (at + 1) s)
  unfolding front
  text_of =
      let e : at + 1 + n - (at + 1) ≡ stop (drop (at + 1) s) = omega (arith, r.end) in
      ap (λ (l : List ℕ). spelling l 0) head ∙ first_text _ _ other some ∙ ap (λ m. take m (drop (at + 1) s)) (sym e)

  next_some : WordRead s at (record { tag = t; value = z; end = at + 1 + n })
  next_some =
      let c = cuts (drop (at + 1) s) (after_some _ _ other some) in
      let e : before 10 (drop at s) ≡ suc (before 10 (drop (at + 1) s)) = ap (before 10) head ∙ after_line_lem _ _ other in
      let f : before 10 (drop (at + 1 + n) s) ≡ before 10 (drop (stop (drop (at + 1) s)) (drop (at + 1) s)) = ap (before 10) after in
      record {
        word = r.word ∙ ap cut_word (sym (ap (λ (l : List ℕ). following l 0) head ∙ first_word_lem _ _ other some));
        text = text_of;
        texts = λ k. ap (λ (l : List ℕ). spelling l (suc k)) head ∙ more_texts _ _ other some k ∙ ap (λ (l : List ℕ). spelling l k) (sym after);
        more = λ k. ap (λ (l : List ℕ). following l (suc k)) head ∙ more_words _ _ other some k ∙ ap (λ (l : List ℕ). following l k) (sym after);
        line = omega (arith, e, f, c.line, r.end);
        ends = rw after c.ends;
      }

-- ---- m words of a line are read, and the others begin after the byte p
pub record Reached (s : List ℕ) (at m p : ℕ) : Type 0 where
  pub more : (k : ℕ) → following (drop at s) (m + k) ≡ following (drop p s) k
  pub texts : (k : ℕ) → spelling (drop at s) (m + k) ≡ spelling (drop p s) k
  pub line : p + before 10 (drop p s) ≡ at + before 10 (drop at s)
  pub ends : HasEnd (drop p s)

reach_none : (s : List ℕ) (at : ℕ) → HasEnd (drop at s) → Reached s at 0 at
reach_none s at h = record { more = λ k. ap (following (drop at s)) (omega arith); texts = λ k. ap (spelling (drop at s)) (omega arith); line = refl; ends = h }

module _ (s : List ℕ) (at m p : ℕ) (h : Reached s at m p) where
  here : following (drop at s) m ≡ following (drop p s) 0
  here = ap (following (drop at s)) (omega arith) ∙ h.more 0

  reach_more : (r : WordFound) → WordRead s p r → Reached s at (suc m) r.end
  reach_more r n = record {
    more = λ k. ap (following (drop at s)) (let e : suc m + k ≡ m + suc k = omega arith in e) ∙ h.more (suc k) ∙ n.more k;
    texts = λ k. ap (spelling (drop at s)) (let e : suc m + k ≡ m + suc k = omega arith in e) ∙ h.texts (suc k) ∙ n.texts k;
    line = n.line ∙ h.line;
    ends = n.ends;
  }

  -- its text stands after the byte p
  reach_text : (r : WordFound) → WordRead s p r → spelling (drop at s) m ≡ text_in s p r.end
  reach_text r n = ap (spelling (drop at s)) (let e : m ≡ m + 0 = omega arith in e) ∙ h.texts 0 ∙ n.text

-- ---- i words stand in the arrays, the last one ends at the byte `end`, and there is nothing after them
pub record Filled (s : List ℕ) (at : ℕ) (tags : List Tag) (values : List ℤ) (ends : List ℕ) (end i : ℕ) : Type 0 where
  pub few : i ≤ 8
  pub reached : Reached s at i end
  pub here : get_or ends i 0 ≡ end
  pub word : (k : ℕ) → k < i → word_in (get_or tags k Tag.Missing) (get_or values k (pos 0)) ≡ cut_word (following (drop at s) k)
  pub text : (k : ℕ) → k < i → text_in s (get_or ends k 0) (get_or ends (k + 1) 0) ≡ spelling (drop at s) k
  pub long : (k : ℕ) → get_or ends k 0 ≤ length s
  pub blank : (k : ℕ) → i ≤ k → k < 8 → (get_or tags k Tag.Missing ≡ Tag.Missing) × (get_or ends (k + 1) 0 ≡ 0)
  pub sizes : (length tags ≡ 8) × (length values ≡ 8) × (length ends ≡ 9)

blank_from : {A : Type 0} (x : A) (k n : ℕ) → k < n → get_or (replicate n x) k x ≡ x
blank_from x k zero h = absurd (omega arith)
blank_from x zero (suc n) h = refl
blank_from x (suc k) (suc n) h = blank_from x k n (omega arith)

none_from : (k n : ℕ) → ◌≡◌ {A = ℕ} (get_or (replicate n 0) k 0) 0
none_from k zero = refl
none_from zero (suc n) = refl
none_from (suc k) (suc n) = none_from k n

pub filled_none : (s : List ℕ) (at : ℕ) → HasEnd (drop at s) → Filled s at (replicate 8 Tag.Missing) (replicate 8 (pos 0)) (set (replicate 9 0) 0 at) at 0
filled_none s at h = record {
  few = omega arith;
  reached = reach_none s at h;
  here = refl;
  word = λ k l. absurd (omega arith);
  text = λ k l. absurd (omega arith);
  long = λ k. go k;
  blank = λ k _ l. (blank_from Tag.Missing k 8 l, rw (add-one k) (none_from k 8));
  sizes = (refl, refl, refl);
}
  where
    go : (k : ℕ) → get_or (set (replicate 9 0) 0 at) k 0 ≤ length s
    go zero = omega (arith, ends_within s at h)
    go (suc k) = rw (none_from k 8) (omega arith)

module _ (s : List ℕ) (at : ℕ) (tags : List Tag) (values : List ℤ) (ends : List ℕ) (end i : ℕ) (f : Filled s at tags values ends end i) where
  -- one word more
  module _ (room : i < 8) (r : WordFound) (n : WordRead s end r) where
    filled_more : Filled s at (set tags i r.tag) (set values i r.value) (set ends (i + 1) r.end) r.end (i + 1)
    filled_more = record {
      few = omega arith;
      reached = rw (add-one i) (reach_more s at i end f.reached r n);
      here = get_or-set_same ends (i + 1) r.end 0 (omega (arith, f.sizes.2));
      word = λ k h. words k h (eqb k i) refl;
      text = λ k h. texts k h (eqb k i) refl;
      long = λ k. longs k (eqb k (i + 1)) refl;
      blank = λ k h l. (
        get_or-set_other tags i k r.tag Tag.Missing (λ (e : k ≡ i). let z : ⊥ = omega arith in z) ∙ (f.blank k (omega arith) l).0,
        get_or-set_other ends (i + 1) (k + 1) r.end 0 (λ (e : k + 1 ≡ i + 1). let z : ⊥ = omega arith in z) ∙ (f.blank k (omega arith) l).1,
      );
      sizes = (length-set tags i r.tag ∙ f.sizes.0, length-set values i r.value ∙ f.sizes.1, length-set ends (i + 1) r.end ∙ f.sizes.2);
    }
      where
        words : (k : ℕ) → k < i + 1 → (b : Bool) → eqb k i ≡ b → word_in (get_or (set tags i r.tag) k Tag.Missing) (get_or (set values i r.value) k (pos 0)) ≡ cut_word (following (drop at s) k)
        words k h true e = rw (eqb-true k i e, get_or-set_same tags i r.tag Tag.Missing (omega (arith, f.sizes.0)), get_or-set_same values i r.value (pos 0) (omega (arith, f.sizes.1)))
            (n.word ∙ ap cut_word (sym (here s at i end f.reached)))
        words k h false e =
            let o = eqb-false k i e in
            rw (get_or-set_other tags i k r.tag Tag.Missing o, get_or-set_other values i k r.value (pos 0) o) (f.word k (omega (arith, o)))

        texts : (k : ℕ) → k < i + 1 → (b : Bool) → eqb k i ≡ b → text_in s (get_or (set ends (i + 1) r.end) k 0) (get_or (set ends (i + 1) r.end) (k + 1) 0) ≡ spelling (drop at s) k
        texts k h true e =
            rw (eqb-true k i e, get_or-set_other ends (i + 1) i r.end 0 (λ (g : i ≡ i + 1). let z : ⊥ = omega arith in z), get_or-set_same ends (i + 1) r.end 0 (omega (arith, f.sizes.2)), f.here)
            (sym (reach_text s at i end f.reached r n))
        texts k h false e =
            let o = eqb-false k i e in
            rw (get_or-set_other ends (i + 1) k r.end 0 (λ (g : k ≡ i + 1). let z : ⊥ = omega arith in z), get_or-set_other ends (i + 1) (k + 1) r.end 0 (λ (g : k + 1 ≡ i + 1). let z : ⊥ = omega (arith, o) in z))
            (f.text k (omega (arith, o)))

        longs : (k : ℕ) (b : Bool) → eqb k (i + 1) ≡ b → get_or (set ends (i + 1) r.end) k 0 ≤ length s
        longs k true e = rw (eqb-true k (i + 1) e, get_or-set_same ends (i + 1) r.end 0 (omega (arith, f.sizes.2))) (omega (arith, ends_within s r.end n.ends))
        longs k false e = rw (get_or-set_other ends (i + 1) k r.end 0 (eqb-false k (i + 1) e)) (f.long k)

  -- one word more, which is read at the front of what follows
  pub filled_next : i < 8 → (get_or s end 0 ≡ 10 → ⊥) → (r : WordFound) → Reads (drop (end + 1) s) r → Filled s at (set tags i r.tag) (set values i r.value) (set ends (i + 1) (end + 1 + r.end)) (end + 1 + r.end) (i + 1)
  filled_next room other r n = filled_more room _ (next_some s end r.tag r.value r.end f.reached.ends other n)

  pub next_within : (r : WordFound) → Reads (drop (end + 1) s) r → end + 1 + r.end ≤ length s
  next_within r n = omega (arith, n.end, stop_within (drop (end + 1) s), length-drop (end + 1) s, ends_within s end f.reached.ends)

  -- all words of the line, or its first eight
  module _ (none : (k : ℕ) → i ≤ k → k < 8 → (following (drop at s) k ≡ Missing) × (spelling (drop at s) k ≡ [])) (n : ℕ) (e : n ≡ end + before 10 (drop end s)) where
    pub filled_read : LineRead s at (record { tags = tags; values = values; ends = ends; end = n })
    unfolding cut_word
    filled_read = record {
      word = λ k h. words k h (ltb k i) refl;
      text = λ k h. texts k h (ltb k i) refl;
      long = λ k h. f.long (k + 1);
      end = e ∙ f.reached.line;
    }
      where
        words : (k : ℕ) → k < 8 → (b : Bool) → ltb k i ≡ b → word_in (get_or tags k Tag.Missing) (get_or values k (pos 0)) ≡ cut_word (following (drop at s) k)
        words k h true l = f.word k (ltb-true k i l)
        words k h false l = rw ((f.blank k (ltb-false k i l) h).0, (none k (ltb-false k i l) h).0)

        texts : (k : ℕ) → k < 8 → (b : Bool) → ltb k i ≡ b → text_in s (get_or ends k 0) (get_or ends (k + 1) 0) ≡ spelling (drop at s) k
        texts k h true l = f.text k (ltb-true k i l)
        texts k h false l =
            let z : 0 - (get_or ends k 0 + 1) ≡ 0 = omega arith in
            rw ((f.blank k (ltb-false k i l) h).1, (none k (ltb-false k i l) h).1, z)

  -- the line's LF comes next
  pub filled_lf : end < length s → get_or s end 0 ≡ 10 → LineRead s at (record { tags = tags; values = values; ends = ends; end = end })
  filled_lf l e = filled_read none end (let z : before 10 (drop end s) ≡ 0 = lf_here in omega (arith, z))
    where
      lf_here : before 10 (drop end s) ≡ 0
      lf_here = rw (drop-cons s end 0 l) (unfold before in rw (eq-eqb (get_or s end 0) 10 e))

      none : (k : ℕ) → i ≤ k → k < 8 → (following (drop at s) k ≡ Missing) × (spelling (drop at s) k ≡ [])
      none k h _ =
          let m : k ≡ i + (k - i) = omega arith in
          let d = drop-cons s end 0 l in (
            ap (following (drop at s)) m ∙ f.reached.more (k - i) ∙ ap (λ (x : List ℕ). following x (k - i)) d ∙ no_more (get_or s end 0) (drop (suc end) s) e (k - i),
            ap (spelling (drop at s)) m ∙ f.reached.texts (k - i) ∙ ap (λ (x : List ℕ). spelling x (k - i)) d ∙ no_text (get_or s end 0) (drop (suc end) s) e (k - i),
          )

  -- there is no room for more
  pub filled_all : (8 ≤ i) → (n : ℕ) → n ≡ end + before 10 (drop end s) → LineRead s at (record { tags = tags; values = values; ends = ends; end = n })
  filled_all h n e = filled_read (λ k l m. absurd (omega arith)) n e
