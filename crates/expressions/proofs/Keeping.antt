-- The variables of an expression are the `v`s of its text, each with its number: question 10 by the bytes.
use mathlib.Core.Path.{◌≡◌, refl, sym, ◌∙◌, ap}
use mathlib.Core.Bool.{Bool, true, false, not, cond, ◌&&◌}
use mathlib.Core.List.{List, [], ◌∷◌}
use Prim.Native.Nat.{ℕ, zero, suc, ◌+◌, ◌≤◌, ◌<◌, min}
use native.Mathlib.Omega.{arith}
use native.Mathlib.Numerals.{add-one}
use lib.Dec.{T, leb, eqb}
use lib.ListN.{length, get_or, drop, drop_of_length-le, get_or-eq_default}
use lib.Seq.{drop-cons}
use borrow.Author.Tests.{leb-true, leb-false, eqb-true, eqb-false, eq-eqb, ne_eqb}
use Rattle.ints.proofs.Diffs.{cond_elim}
use Rattle.rules.specs.declared.Word.{Word}
use Rattle.rules.specs.declared.Operator.{Operator}
use Rattle.rules.specs.Expressions.{Expr, apply}
use Rattle.rules.specs.Blocks.{Block}
use Rattle.rules.specs.Steps.{assigns}
use Rattle.rules.specs.Trips.{keeps}
use Rattle.rules.specs.Text.{is_digit, all_digits, value_from, is_natural, plain_word, word_of}
use Rattle.rules.specs.Parse.{Parsed, parsed, shapeless, then_parse, is_mark, up_to_mark, from_mark, leaf, atom, Ahead, operator, other, ahead, after_term, after_factor, close, factor_of, expression, term, factor, read_expression, at_end, parse, expr_in}
use Rattle.rules.specs.File.{asks_expr}
use Rattle.rules.specs.Written.{PassedWord}
use Rattle.rules.proofs.Laws.{no_true}
use Rattle.expressions.specs.Leaves.{ceiling, digit_count, digit_value, at_mark}
use Rattle.expressions.specs.Keeping.{kept}
use Rattle.expressions.proofs.LeavesLaws.{stopped, natural_not, whole_value, leaf_plain, word_variable, word_negative, word_other}

true_is : (b : Bool) → T b → b ≡ true
true_is true h = refl
true_is false h = absurd h

and_assoc : (a b c : Bool) → a && (b && c) ≡ (a && b) && c
and_assoc true b c = refl
and_assoc false b c = refl

and_true : (a : Bool) → a && true ≡ a
and_true true = refl
and_true false = refl

-- ---- digits
natural_digits : (w : List ℕ) → is_natural w ≡ true → all_digits w ≡ true
natural_digits w h = by (all_digits w) refl
  where
    by : (t : Bool) → all_digits w ≡ t → t ≡ true
    by true e = refl
    by false e = no_true (sym (natural_not w e) ∙ h)

digits_value : (t : List ℕ) → all_digits (up_to_mark t) ≡ true → digit_value 0 t ≡ value_from 0 (up_to_mark t)
digits_value t h = by (at_mark (drop (digit_count t) t)) refl
  where
    by : (m : Bool) → at_mark (drop (digit_count t) t) ≡ m → digit_value 0 t ≡ value_from 0 (up_to_mark t)
    by true e = whole_value t e
    by false e = no_true (sym (stopped t e) ∙ h)

not_v : (b : ℕ) → is_digit b ≡ true → eqb b 118 ≡ false
unfolding is_digit
not_v b h = ne_eqb b 118 (λ (e : b ≡ 118). no_true (rw e at h))

first_digit : (b : ℕ) (s : List ℕ) → all_digits (b ∷ s) ≡ true → (is_digit b ≡ true) × (all_digits s ≡ true)
unfolding all_digits
first_digit b s h = by (is_digit b) h
  where
    by : (t : Bool) → cond t (all_digits s) false ≡ true → (t ≡ true) × (all_digits s ≡ true)
    by true e = (refl, e)
    by false e = no_true e

module _ (f : ℕ → Bool) where
  -- no variable begins with any other byte
  past : (b : ℕ) (s : List ℕ) → eqb b 118 ≡ false → kept f (b ∷ s) ≡ kept f s
  unfolding kept
  past b s e = rw e

  digits_past : (t : List ℕ) → all_digits (up_to_mark t) ≡ true → kept f t ≡ kept f (from_mark t)
  unfolding up_to_mark from_mark
  digits_past [] h = refl
  digits_past (b ∷ s) h = by (digits_past s) (is_mark b) h
    where
      by : (all_digits (up_to_mark s) ≡ true → kept f s ≡ kept f (from_mark s)) → (m : Bool) → all_digits (cond m [] (b ∷ up_to_mark s)) ≡ true → kept f (b ∷ s) ≡ kept f (cond m (b ∷ s) (from_mark s))
      by g true k = refl
      by g false k = let (d, r) = first_digit b (up_to_mark s) k in past b s (not_v b d) ∙ g r

-- ---- what is read of a text
module _ (body : Block) where
  -- no variable of a text is assigned
  abbrev of : List ℕ → Bool
  of s = kept (λ w. assigns w body) s

  -- g: no variable of what is read, and of the rest
  data Keeps (g : Bool) : Parsed → Type 0 where
    keeps_all : {x : Expr} {r : List ℕ} → g ≡ keeps x body && of r → Keeps g (parsed x r)
    nothing : Keeps g shapeless

  onward_keeps : {g h : Bool} {p : Parsed} {k : Expr → List ℕ → Parsed} → Keeps g p → ((x : Expr) (r : List ℕ) → g ≡ keeps x body && of r → Keeps h (k x r)) → Keeps h (then_parse p k)
  unfolding then_parse
  onward_keeps (keeps_all {x = x} {r = r} e) f = f x r e
  onward_keeps nothing f = nothing

  mark_past : (m b : ℕ) (s : List ℕ) → eqb m 118 ≡ false → T (eqb b m) → of (b ∷ s) ≡ of s
  mark_past m b s e h = past _ b s (ap (λ x. eqb x 118) (eqb-true b m (true_is _ h)) ∙ e)

  -- a leaf
  word_keeps : {g : Bool} (c : Bool) (w s : List ℕ) (v : Word) → (c ≡ true → Keeps g (leaf v s)) → Keeps g (leaf (cond c v (plain_word w)) s)
  word_keeps true w s v h = h refl
  word_keeps false w s v h = rw (leaf_plain w s) nothing

  atom_keeps : (b : ℕ) (t : List ℕ) → Keeps (of (b ∷ t)) (atom (b ∷ t))
  unfolding atom keeps kept
  atom_keeps b t = by (eqb b 118) refl (eqb b 45) refl
    where
      digits : is_natural (up_to_mark t) ≡ true → of t ≡ of (from_mark t)
      digits n = digits_past (λ w. assigns w body) t (natural_digits (up_to_mark t) n)

      named : eqb b 118 ≡ true → is_natural (up_to_mark t) ≡ true → of (b ∷ t) ≡ not (assigns (value_from 0 (up_to_mark t)) body) && of (from_mark t)
      named e n = rw (e, digits_value t (natural_digits (up_to_mark t) n), digits n)

      first : (c d : Bool) → cond c d false ≡ true → c ≡ true
      first true d e = refl
      first false d e = e

      by : (p : Bool) → eqb b 118 ≡ p → (q : Bool) → eqb b 45 ≡ q → Keeps (of (b ∷ t)) (leaf (word_of (b ∷ up_to_mark t)) (from_mark t))
      by true e q d = rw (word_variable b t (eqb-true b 118 e)) (word_keeps (is_natural (up_to_mark t)) _ _ _ (λ n. keeps_all (named e n)))
      by false e true d = rw (word_negative b t (eqb-true b 45 d)) (word_keeps (cond (is_natural (up_to_mark t)) (not (eqb (value_from 0 (up_to_mark t)) 0)) false) _ _ _ (λ n. keeps_all (past (λ w. assigns w body) b t e ∙ digits (first _ _ n))))
      by false e false d =
          rw (word_other b t (eqb-false b 45 d) (eqb-false b 118 e))
          (word_keeps (is_natural (b ∷ up_to_mark t)) _ _ _ (λ n. keeps_all (past (λ w. assigns w body) b t e ∙ digits_past (λ w. assigns w body) t (first_digit b (up_to_mark t) (natural_digits (b ∷ up_to_mark t) n)).1)))

  -- the operator after a part
  data Next (r : List ℕ) : Ahead → Type 0 where
    goes_on : {o : Operator} {t : List ℕ} → of r ≡ of t → Next r (operator o t)
    stops : Next r other

  after_factor_lem : (r : List ℕ) → Next r (after_factor r)
  unfolding after_factor
  after_factor_lem [] = stops
  after_factor_lem (b ∷ t) = cond_elim (Next (b ∷ t)) (eqb b 42) _ _ (λ h. goes_on (mark_past 42 b t refl h)) (λ _. stops)

  after_term_lem : (r : List ℕ) → Next r (after_term r)
  unfolding after_term
  after_term_lem [] = stops
  after_term_lem (b ∷ t) =
      cond_elim (Next (b ∷ t)) (eqb b 43) _ _ (λ h. goes_on (mark_past 43 b t refl h))
      (λ _. cond_elim (Next (b ∷ t)) (eqb b 45) _ _ (λ h. goes_on (mark_past 45 b t refl h)) (λ _. stops))

  ahead_keeps : {g : Bool} {r : List ℕ} {q : Ahead} (y : Expr) {k : Operator → List ℕ → Parsed} → Next r q → g ≡ keeps y body && of r → ((o : Operator) (t : List ℕ) → Keeps (keeps y body && of t) (k o t)) → Keeps g (ahead q k (parsed y r))
  unfolding ahead
  ahead_keeps y (goes_on {o = o} {t = t} n) e f = rw (e, n) (f o t)
  ahead_keeps y stops e f = keeps_all e

  -- a factor
  close_keeps : {g : Bool} (x : Expr) (r : List ℕ) → g ≡ keeps x body && of r → Keeps g (close x r)
  unfolding close keeps
  close_keeps x [] e = nothing
  close_keeps {g} x (b ∷ s) e = cond_elim (Keeps g) (eqb b 41) _ _ (λ h. keeps_all (e ∙ ap (λ z. keeps x body && z) (mark_past 41 b s refl h))) (λ _. nothing)

  inner_keeps : (inner : List ℕ → Parsed) (s : List ℕ) → ((r : List ℕ) → Keeps (of r) (inner r)) → Keeps (of s) (factor_of inner s)
  unfolding factor_of
  inner_keeps inner [] f = nothing
  inner_keeps inner (b ∷ s) f =
      cond_elim (Keeps (of (b ∷ s))) (eqb b 40) _ _ (λ h. onward_keeps (f s) (λ x r e. close_keeps x r (mark_past 40 b s refl h ∙ e))) (λ _. atom_keeps b s)

  -- what stands before a part: a, none of its variables is assigned
  joined : (a : Bool) (left : Expr → Expr) → ((y : Expr) → keeps (left y) body ≡ a && keeps y body) → {g : Bool} (x : Expr) (r : List ℕ) → g ≡ keeps x body && of r → a && g ≡ keeps (left x) body && of r
  joined a left l x r e = ap (λ z. a && z) e ∙ and_assoc a (keeps x body) (of r) ∙ ap (λ z. z && of r) (sym (l x))

  mutual
    unfolding expression keeps

    expression_keeps : (n : ℕ) (a : Bool) (left : Expr → Expr) → ((y : Expr) → keeps (left y) body ≡ a && keeps y body) → (s : List ℕ) → Keeps (a && of s) (expression n left s)
    expression_keeps zero a left l s = nothing
    expression_keeps (suc n) a left l s = onward_keeps (term_keeps n true (λ x. x) (λ y. refl) s) λ x r e.
        ahead_keeps (left x) (after_term_lem r) (joined a left l x r e) λ o t. expression_keeps n (keeps (left x) body) (apply o (left x)) (λ y. refl) t

    term_keeps : (n : ℕ) (a : Bool) (left : Expr → Expr) → ((y : Expr) → keeps (left y) body ≡ a && keeps y body) → (s : List ℕ) → Keeps (a && of s) (term n left s)
    term_keeps zero a left l s = nothing
    term_keeps (suc n) a left l s = onward_keeps (factor_keeps n s) λ x r e.
        ahead_keeps (left x) (after_factor_lem r) (joined a left l x r e) λ o t. term_keeps n (keeps (left x) body) (apply o (left x)) (λ y. refl) t

    factor_keeps : (n : ℕ) (s : List ℕ) → Keeps (of s) (factor n s)
    factor_keeps zero s = nothing
    factor_keeps (suc n) s = inner_keeps (λ r. expression n (λ x. x) r) s (λ r. expression_keeps n true (λ x. x) (λ y. refl) r)

  whole_keeps : {g : Bool} (vars : ℕ) {p : Parsed} → Keeps g p → asks_expr vars (then_parse p at_end) ≡ 0 → g ≡ keeps (expr_in (then_parse p at_end)) body
  unfolding then_parse at_end kept
  whole_keeps vars (keeps_all {x = x} {r = []} e) h = e ∙ and_true (keeps x body)
  whole_keeps vars (keeps_all {x = x} {r = b ∷ r} e) h = absurd (omega arith)
  whole_keeps vars nothing h = absurd (omega arith)

  pub passed_keeps : (word : List ℕ) → PassedWord word → of word ≡ keeps (expr_in (parse word)) body
  unfolding parse read_expression keeps
  passed_keeps word p = whole_keeps p.vars (expression_keeps _ true (λ x. x) (λ y. refl) word) p.asks

-- ---- the walk over the bytes
-- no variable of the set has been named up to i
pub record Unnamed (f : ℕ → Bool) (word : List ℕ) (i : ℕ) : Type 0 where
  pub same : kept f word ≡ kept f (drop i word)

module _ (f : ℕ → Bool) (word : List ℕ) (i : ℕ) where
  pub unnamed_none : Unnamed f word 0
  unnamed_none = record { same = refl }

  pub unnamed_more : i < length word → Unnamed f word i → eqb (get_or word i 0) 118 && f (digit_value 0 (drop (i + 1) word)) ≡ false → Unnamed f word (i + 1)
  unfolding kept
  unnamed_more h u e = record { same = u.same ∙ rw (drop-cons word i 0 h, ap (λ n. eqb (get_or word i 0) 118 && f (digit_value 0 (drop n word))) (sym (add-one i)) ∙ e, add-one i) }

  pub named_at : i < length word → Unnamed f word i → eqb (get_or word i 0) 118 && f (digit_value 0 (drop (i + 1) word)) ≡ true → kept f word ≡ false
  unfolding kept
  named_at h u e = u.same ∙ rw (drop-cons word i 0 h, ap (λ n. eqb (get_or word i 0) 118 && f (digit_value 0 (drop n word))) (sym (add-one i)) ∙ e)

  pub unnamed_all : length word ≤ i → Unnamed f word i → kept f word ≡ true
  unfolding kept
  unnamed_all h u = u.same ∙ rw (drop_of_length-le word h)

-- a number that was cut off is no variable's
pub cut_member : (set : List Bool) → length set ≡ 16 → (n : ℕ) → get_or set (min n ceiling) false ≡ get_or set n false
unfolding ceiling
cut_member set h n = by (leb n 2_000_000_001) refl
  where
    by : (t : Bool) → leb n 2_000_000_001 ≡ t → get_or set (min n 2_000_000_001) false ≡ get_or set n false
    by true e = ap (λ m. get_or set m false) (let l = leb-true n 2_000_000_001 e in let q : min n 2_000_000_001 ≡ n = omega arith in q)
    by false e = let l = leb-false n 2_000_000_001 e in get_or-eq_default set false {n = min n 2_000_000_001} (omega arith) ∙ sym (get_or-eq_default set false {n = n} (omega arith))

-- a `v` and a number: is the variable in the set? No other byte names one
pub names_variable : (set : List Bool) → length set ≡ 16 → (b v n : ℕ) → b ≡ 118 → v ≡ min n ceiling → get_or set v false ≡ eqb b 118 && get_or set n false
names_variable set h b v n e f = rw (eq-eqb b 118 e, f) (cut_member set h n)

pub names_nothing : (b : ℕ) (t : Bool) → (b ≡ 118 → ⊥) → false ≡ eqb b 118 && t
names_nothing b t h = rw (ne_eqb b 118 h)
