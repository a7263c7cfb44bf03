-- A text and its parts between bytes: lines and words, read and written.
use mathlib.Core.Path.{◌≡◌, refl, sym, ◌∙◌, ap, subst}
use mathlib.Core.Bool.{Bool, true, false, cond}
use mathlib.Core.List.{List, [], ◌∷◌, ◌++◌, append-nil}
use Prim.Native.Nat.{ℕ}
use native.Mathlib.Omega.{arith}
use lib.Dec.{T, ltb, eqb, not_T, ltb→lt, eqb→eq, eqb_refl}
use lib.ListN.{length, drop}
use lib.Seq.{drop-append_seam}
use Rattle.ints.proofs.Diffs.{cond_elim, cond_true, cond_false, both}
use Rattle.rules.specs.Scripts.{All, none, some}
use Rattle.rules.specs.Text.{lf, space, prefixed, split, starts_with, line_texts, next_texts, next_lines}
use Rattle.rules.specs.ScriptText.{between, line_text, ended}
use Rattle.rules.proofs.TextOfWords.{if_in, if_yes, above, above_append, above_less}

abbrev pub Some : {A : Type 0} → List A → Type 0
Some [] = ⊥
Some (x ∷ l) = Unit {0}

pub append_some : {A : Type 0} (l m : List A) → Some m → Some (l ++ m)
append_some [] m h = h
append_some (x ∷ l) m h = tt

-- ---- parts between bytes b
module _ (b : ℕ) where
  split_word : (w r : List ℕ) (ps : List (List ℕ)) → T (above b w) → split b r ≡ [] ∷ ps → split b (w ++ r) ≡ w ∷ ps
  unfolding split prefixed
  split_word [] r ps h e = e
  split_word (x ∷ w) r ps h e =
      let (p, q) = both (ltb b x) (above b w) h in
      cond_false (eqb x b) _ _ (not_T (eqb x b) (λ t. omega (arith, ltb→lt b x p, eqb→eq x b t))) ∙ ap (prefixed x) (split_word w r ps q e)

  -- the parts of what stands with b between
  pub split_between : (w : List ℕ) (ws : List (List ℕ)) → All (λ s. T (above b s)) (w ∷ ws) → split b (between b (w ∷ ws)) ≡ w ∷ ws
  unfolding split between
  split_between w [] (some h t) = subst (λ s. split b s ≡ w ∷ []) (append-nil w) (split_word w [] [] h refl)
  split_between w (x ∷ ws) (some h t) =
      split_word w (b ∷ between b (x ∷ ws)) (x ∷ ws) h (cond_true (eqb b b) _ _ (eqb_refl b) ∙ λ i. [] ∷ split_between x ws t i)

  between_more : (w : List ℕ) (ps : List (List ℕ)) → Some ps → between b (w ∷ ps) ≡ w ++ (b ∷ between b ps)
  unfolding between
  between_more w [] h = absurd h
  between_more w (p ∷ ps) h = refl

  between_prefixed : (x : ℕ) (ps : List (List ℕ)) → Some ps → between b (prefixed x ps) ≡ x ∷ between b ps
  unfolding between prefixed
  between_prefixed x [] h = absurd h
  between_prefixed x (p ∷ []) h = refl
  between_prefixed x (p ∷ (q ∷ ps)) h = refl

  split_some : (s : List ℕ) → Some (split b s)
  unfolding split prefixed
  split_some [] = tt
  split_some (x ∷ s) = cond_elim Some (eqb x b) ([] ∷ split b s) (prefixed x (split b s)) (λ _. tt) (λ _. by (split b s))
    where
      by : (ps : List (List ℕ)) → Some (prefixed x ps)
      by [] = tt
      by (p ∷ ps) = tt

  -- a text is its parts with b between
  pub between_split : (s : List ℕ) → between b (split b s) ≡ s
  unfolding split between
  between_split [] = refl
  between_split (x ∷ s) =
      cond_elim (λ ps. between b ps ≡ x ∷ s) (eqb x b) ([] ∷ split b s) (prefixed x (split b s))
      (λ t. between_more [] (split b s) (split_some s) ∙ λ i. sym (eqb→eq x b t) i ∷ between_split s i)
      (λ _. between_prefixed x (split b s) (split_some s) ∙ λ i. x ∷ between_split s i)

-- ---- lines
ended_between : (ls : List (List ℕ)) → ended ls ≡ between lf (ls ++ ([] ∷ []))
unfolding ended between
ended_between [] = refl
ended_between (l ∷ ls) = ap (λ r. l ++ (lf ∷ r)) (ended_between ls) ∙ sym (between_more lf l (ls ++ ([] ∷ [])) (append_some ls ([] ∷ []) tt))

-- after the last LF there is nothing
pub split_ended : (ls : List (List ℕ)) → All (λ l. T (above lf l)) ls → split lf (ended ls) ≡ ls ++ ([] ∷ [])
split_ended ls h = ap (split lf) (ended_between ls) ∙ by ls h
  where
    last : (l : List (List ℕ)) → All (λ l. T (above lf l)) l → All (λ l. T (above lf l)) (l ++ ([] ∷ []))
    last [] h = some tt none
    last (l ∷ ls) (some h t) = some h (last ls t)

    by : (l : List (List ℕ)) → All (λ l. T (above lf l)) l → split lf (between lf (l ++ ([] ∷ []))) ≡ l ++ ([] ∷ [])
    by [] h = split_between lf [] [] (some tt none)
    by (l ∷ ls) h = split_between lf l (ls ++ ([] ∷ [])) (last (l ∷ ls) h)

pub ended_split : (file : List ℕ) (ls : List (List ℕ)) → split lf file ≡ ls ++ ([] ∷ []) → file ≡ ended ls
ended_split file ls e = sym (between_split lf file) ∙ ap (between lf) e ∙ sym (ended_between ls)

-- ---- a line's words
starts_key : (key s : List ℕ) → T (starts_with key (key ++ s))
unfolding starts_with
starts_key [] s = tt
starts_key (k ∷ key) s = if_in (eqb k k) (starts_with key (key ++ s)) (eqb_refl k) (starts_key key s)

key_first : (key l : List ℕ) → T (starts_with key l) → l ≡ key ++ drop (length key) l
unfolding starts_with
key_first [] l h = refl
key_first (k ∷ key) [] h = absurd h
key_first (k ∷ key) (b ∷ s) h = let (e, t) = if_yes (eqb b k) (starts_with key s) h in λ i. eqb→eq b k e i ∷ key_first key s t i

-- the words of a line that is written, and the line of words that are read
pub line_texts_lem : (key w : List ℕ) (ws ls : List (List ℕ)) → All (λ s. T (above space s)) (w ∷ ws) → Some ls → next_texts key (line_text key (w ∷ ws) ∷ ls) ≡ w ∷ ws
unfolding next_texts line_texts line_text
line_texts_lem key w ws [] h k = absurd k
line_texts_lem key w ws (m ∷ more) h k =
    cond_true (starts_with key (key ++ between space (w ∷ ws))) _ _ (starts_key key (between space (w ∷ ws)))
    ∙ ap (split space) (drop-append_seam key (between space (w ∷ ws))) ∙ split_between space w ws h

no_words : {A : Type 0} (w : List ℕ) (ws : List (List ℕ)) → [] ≡ w ∷ ws → A
no_words w ws e = absurd (let z : ◌≡◌ {A = ℕ} 0 1 = cc in omega arith)

texts_line : (key l w : List ℕ) (ws : List (List ℕ)) → line_texts key l ≡ w ∷ ws → l ≡ line_text key (w ∷ ws)
unfolding line_texts line_text
texts_line key l w ws e = by (starts_with key l) (λ t. t) e
  where
    by : (b : Bool) → (T b → T (starts_with key l)) → cond b (split space (drop (length key) l)) [] ≡ w ∷ ws → l ≡ key ++ between space (w ∷ ws)
    by true f e = key_first key l (f tt) ∙ ap (λ r. key ++ r) (sym (between_split space (drop (length key) l)) ∙ ap (between space) e)
    by false f e = no_words w ws e

-- the next line, and that there is one after it
pub next_line : (key : List ℕ) (ls : List (List ℕ)) (w : List ℕ) (ws : List (List ℕ)) → next_texts key ls ≡ w ∷ ws
    → (ls ≡ line_text key (w ∷ ws) ∷ next_lines ls) × Some (next_lines ls)
unfolding next_texts next_lines
next_line key [] w ws e = no_words w ws e
next_line key (l ∷ []) w ws e = no_words w ws e
next_line key (l ∷ (m ∷ more)) w ws e = (λ i. texts_line key l w ws e i ∷ (m ∷ more), tt)

-- a line of words has no LF
pub line_above : (key : List ℕ) (ws : List (List ℕ)) → T (above lf key) → All (λ s. T (above space s)) ws → T (above lf (line_text key ws))
unfolding line_text between
line_above key ws k h = above_append lf key (between space ws) k (by ws h)
  where
    by : (ws : List (List ℕ)) → All (λ s. T (above space s)) ws → T (above lf (between space ws))
    by [] h = tt
    by (w ∷ []) (some h t) = above_less lf space w (omega arith) h
    by (w ∷ (x ∷ ws)) (some h t) = above_append lf w (space ∷ between space (x ∷ ws)) (above_less lf space w (omega arith) h) (by (x ∷ ws) t)
