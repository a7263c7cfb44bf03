-- Laws of the margin: one row, one line, one byte more. Assumes nothing.
use mathlib.Core.Path.{◌≡◌, refl, sym, ap, ◌∙◌}
use mathlib.Core.Bool.{Bool, true, false, cond}
use mathlib.Core.List.{List, [], ◌∷◌, ◌++◌, map, map-append, append_assoc}
use Prim.Native.Nat.{ℕ, suc, ◌+◌, ◌≤◌, ◌<◌, max}
use native.Mathlib.Numerals.{add-one}
use native.Mathlib.Omega.{arith}
use borrow.Author.Tests.{ltb-true, ltb-false}
use lib.Dec.{eqb, ltb}
use lib.ListN.{length, get_or, take, drop, set, length-take, length-drop, length-map, drop_of_length-le}
use lib.Seq.{drop-cons, drop-drop, get_or-take, take-suc, take_all, length-take-le, set_at}
use Rattle.rules.specs.declared.LoopLine.{LoopLine}
use Rattle.rules.specs.Text.{lf, split}
use Rattle.reading.specs.Words.{before}
use Rattle.reading.proofs.TextLaws.{split_more, split_last}
use Rattle.explain_margin.specs.Figures.{line_figures, put_lines, most_in}
use Rattle.explain_margin.specs.declared.place.LinePlace.TheVariants.{At, Missing}
use Rattle.explain_margin.specs.Places.{line_from, shown_byte}

-- ---- the greatest figure, one row more
pub most_more : (column : ℕ) (t : List (List ℕ)) (i most : ℕ) → i < length t
    → max (max most (get_or (get_or t i []) column 0)) (most_in column (drop (i + 1) t)) ≡ max most (most_in column (drop i t))
unfolding most_in
most_more column t i most h = rw (add-one, drop-cons t i []) (omega arith)

pub most_none : (column : ℕ) (t : List (List ℕ)) (i most : ℕ) → length t ≤ i → max most (most_in column (drop i t)) ≡ most
unfolding most_in
most_none column t i most h = rw (drop_of_length-le t) (omega arith)

-- ---- the report's lines, one more
pub put_more : (all : List LoopLine) (loops k : ℕ) (t : List (List ℕ)) (l d : LoopLine) → k < loops → loops ≤ length all → l ≡ get_or all k d
    → put_lines (drop (k + 1) (take loops all)) (set t l.row (line_figures l)) ≡ put_lines (drop k (take loops all)) t
unfolding put_lines
put_more all loops k t l d h f e =
    let n : k < length (take loops all) = simp length-take (omega arith) in
    let g : get_or (take loops all) k d ≡ l = get_or-take loops all k d h ∙ sym e in
    rw (add-one, drop-cons (take loops all) k d n, g)

pub put_none : (all : List LoopLine) (loops k : ℕ) (t : List (List ℕ)) → loops ≤ k → put_lines (drop k (take loops all)) t ≡ t
unfolding put_lines
put_none all loops k t h =
    let n : length (take loops all) ≤ k = simp length-take (omega arith) in
    rw (drop_of_length-le (take loops all))

-- ---- the lines of a file, one more
before_within : (b : ℕ) (s : List ℕ) → before b s ≤ length s
unfolding before
before_within b [] = omega arith
before_within b (x ∷ s) = go (eqb x b) (before_within b s)
  where
    go : (t : Bool) → before b s ≤ length s → cond t 0 (suc (before b s)) ≤ suc (length s)
    go true h = omega arith
    go false h = omega arith

-- the first line
first_line : (s : List ℕ) → (ps : List (List ℕ)) × (split lf s ≡ take (before lf s) s ∷ ps)
first_line s = go (ltb (before lf s) (length s)) refl
  where
    go : (t : Bool) → ltb (before lf s) (length s) ≡ t → (ps : List (List ℕ)) × (split lf s ≡ take (before lf s) s ∷ ps)
    go true e = (_, split_more lf s (ltb-true _ _ e))
    go false e = ([], split_last lf s (ltb-false _ _ e) ∙ ap (λ p. p ∷ []) (sym (take_all _ s (ltb-false _ _ e))))

-- the lines of a file from byte `at` on
module _ (file : List ℕ) (at : ℕ) where
  pub line_inside : at ≤ length file → at + before lf (drop at file) ≤ length file
  line_inside h = omega (arith, before_within lf (drop at file), length-drop at file)

  pub line_last : at + before lf (drop at file) ≡ length file → (k : ℕ) → line_from at (split lf (drop at file)) (suc k) ≡ Missing
  unfolding line_from
  line_last h k = rw (split_last lf (drop at file) (omega (arith, length-drop at file)))

  first_long : length (take (before lf (drop at file)) (drop at file)) ≡ before lf (drop at file)
  first_long = length-take-le _ (drop at file) (before_within lf (drop at file))

  pub line_next : at + before lf (drop at file) < length file → (k : ℕ)
      → line_from at (split lf (drop at file)) (suc k) ≡ line_from (at + before lf (drop at file) + 1) (split lf (drop (at + before lf (drop at file) + 1) file)) k
  unfolding line_from
  line_next h k =
      let next : at + suc (before lf (drop at file)) ≡ at + before lf (drop at file) + 1 = omega arith in
      let rest : drop (suc (before lf (drop at file))) (drop at file) ≡ drop (at + before lf (drop at file) + 1) file = drop-drop (suc (before lf (drop at file))) at file ∙ ap (λ n. drop n file) next in
      ap (λ ls. line_from at ls (suc k)) (split_more lf (drop at file) (omega (arith, length-drop at file))) ∙ (λ j. line_from (at + first_long j + 1) (split lf (rest j)) k)

  pub line_here : line_from at (split lf (drop at file)) 0 ≡ At at (at + before lf (drop at file))
  unfolding line_from
  line_here = rw ((first_line (drop at file)).1, first_long)

-- ---- a text as it is shown, one byte more
pub shown_more : (text old new : List ℕ) (i b : ℕ) → i < length text → i < length old → new ≡ map shown_byte (take i text) ++ drop i old → b ≡ shown_byte (get_or text i 0)
    → set new i b ≡ map shown_byte (take (i + 1) text) ++ drop (i + 1) old
shown_more text old new i b h k e eb =
    let n : length (map shown_byte (take i text)) ≡ i = length-map (take i text) shown_byte ∙ length-take-le i text (omega arith) in
    rw (add-one, e, drop-cons old i 0 k, eb, take-suc text i 0 h, map-append, append_assoc) (set_at (map shown_byte (take i text)) _ _ _ i n)
