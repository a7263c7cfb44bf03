-- The text of an expression is read as that expression, and no other text is.
use mathlib.Core.Path.{◌≡◌, refl, sym, ◌∙◌, ap, subst}
use mathlib.Core.Bool.{Bool, true, false, not, cond, ◌&&◌, ◌||◌}
use mathlib.Core.List.{List, [], ◌∷◌, ◌++◌, append_assoc, append-nil}
use Prim.Native.Nat.{ℕ, zero, suc, ◌≤◌}
use native.Mathlib.Omega.{arith}
use lib.Dec.{T, leb, eqb, not_T, leb→le, eqb→eq}
use lib.IntN.{ℤ, pos, negsuc}
use lib.Signed.{◌≤ℤ◌}
use Rattle.ints.proofs.Diffs.{cond_elim, cond_false}
use Rattle.rules.specs.declared.Operator.{Operator}
use Rattle.rules.specs.declared.Operator.TheVariants.{Add, Sub, Mul}
use Rattle.rules.specs.declared.Word.{Word}
use Rattle.rules.specs.declared.Word.TheVariants.{Missing, Number, Variable, Compares, Keyword, Other}
use Rattle.rules.specs.Expressions.{Expr, constant, variable, group, apply}
use Rattle.rules.specs.Values.{lowest, highest}
use Rattle.rules.specs.Text.{minus, letter_v, is_digit, all_digits, is_natural, word_of}
use Rattle.rules.specs.Parse.{Parsed, parsed, shapeless, then_parse, is_mark, up_to_mark, from_mark, leaf, atom, Ahead, operator, other, ahead, after_term, after_factor, close, factor_of, expression, term, factor, read_expression, read_term, read_factor, at_end, parse}
use Rattle.rules.specs.Scripts.{ExprLimits, ExprBelow}
use Rattle.rules.specs.Report.{decimal, sign, size}
use Rattle.rules.specs.Readable.{TwentyDigits}
use Rattle.rules.specs.ScriptText.{number_text, variable_text, operator_byte, expr_text, Level, as_expression, as_term, as_factor, Shaped}
use Rattle.rules.proofs.Readable.{decimal_natural}
use Rattle.rules.proofs.Parsing.{expression_is, term_is, factor_is}
use Rattle.rules.proofs.TextOfWords.{if_yes, digit_between, natural_digits, Spelled, spelled, number_reads, variable_reads, above, above_append, number_above, variable_above}

-- ---- numbers of at most 20 digits
abbrev pub Short : Expr → Type 0
Short (constant z) = TwentyDigits (size z)
Short (variable w) = TwentyDigits w
Short (group x) = Short x
Short (apply o x y) = Short x × Short y

pub limit_short : (z : ℤ) → (lowest ≤ℤ z) × (z ≤ℤ highest) → TwentyDigits (size z)
unfolding lowest highest size
limit_short (pos n) (l, h) = omega (arith, leb→le n 1_000_000_000 h.le)
limit_short (negsuc n) (l, h) = omega (arith, leb→le n 999_999_999 l.le)

pub limits_short : (n : ℕ) → n ≤ 16 → (x : Expr) → ExprLimits x → ExprBelow n x → Short x
unfolding ExprLimits ExprBelow
limits_short n h (constant z) l b = limit_short z l
limits_short n h (variable w) l b = omega arith
limits_short n h (group x) l b = limits_short n h x l b
limits_short n h (apply o x y) (l, m) (b, c) = (limits_short n h x l b, limits_short n h y m c)

-- ---- what is read has the text that was read
-- after a left side c, whose text with its operator is p, s is read as y with r left
abbrev Gives : Level → Expr → List ℕ → List ℕ → Parsed → Type 0
Gives l c p s (parsed y r) = Shaped l y × (Short y → Short c × (expr_text y ++ r ≡ p ++ s))
Gives l c p s shapeless = Unit {0}

-- a left side, of terms in an expression or of factors in a term
record Left (part whole : Level) (c : Expr) (p : List ℕ) (left : Expr → Expr) : Type 0 where
  shape : (x : Expr) → Shaped part x → Shaped whole (left x)
  short : (x : Expr) → Short (left x) → Short c × Short x
  text : (x : Expr) → expr_text (left x) ≡ p ++ expr_text x

-- none
abbrev nought : Expr
nought = constant (pos 0)

nought_short : Short nought
unfolding size
nought_short = omega arith

alone : (part whole : Level) → ((x : Expr) → Shaped part x → Shaped whole x) → Left part whole nought [] (λ x. x)
alone part whole f = record { shape = f; short = λ x h. (nought_short, h); text = λ x. refl }

factor_term : (x : Expr) → Shaped as_factor x → Shaped as_term x
unfolding Shaped
factor_term (constant z) h = tt
factor_term (variable w) h = tt
factor_term (group x) h = h
factor_term (apply o x y) h = absurd h

term_expression : (x : Expr) → Shaped as_term x → Shaped as_expression x
unfolding Shaped
term_expression (constant z) h = tt
term_expression (variable w) h = tt
term_expression (group x) h = h
term_expression (apply Add x y) h = absurd h
term_expression (apply Sub x y) h = absurd h
term_expression (apply Mul x y) h = h

-- the operator ahead of a part
abbrev Follows : Level → Level → List ℕ → Ahead → Type 0
Follows part whole r (operator o t) = (r ≡ operator_byte o ∷ t) × ((x y : Expr) → Shaped whole x → Shaped part y → Shaped whole (apply o x y))
Follows part whole r other = Unit {0}

after_term_lem : (r : List ℕ) → Follows as_term as_expression r (after_term r)
unfolding after_term operator_byte Shaped
after_term_lem [] = tt
after_term_lem (b ∷ s) =
    cond_elim (Follows as_term as_expression (b ∷ s)) (eqb b 43) _ _ (λ t. (λ i. eqb→eq b 43 t i ∷ s, λ x y h k. (h, k))) λ _.
    cond_elim (Follows as_term as_expression (b ∷ s)) (eqb b minus) _ _ (λ t. (λ i. eqb→eq b minus t i ∷ s, λ x y h k. (h, k))) λ _. tt

after_factor_lem : (r : List ℕ) → Follows as_factor as_term r (after_factor r)
unfolding after_factor operator_byte Shaped
after_factor_lem [] = tt
after_factor_lem (b ∷ s) = cond_elim (Follows as_factor as_term (b ∷ s)) (eqb b 42) _ _ (λ t. (λ i. eqb→eq b 42 t i ∷ s, λ x y h k. (h, k))) (λ _. tt)

gives_then : (l m : Level) (c : Expr) (p s t : List ℕ) (q : Parsed) (f : Expr → List ℕ → Parsed) → Gives l nought [] s q
    → ((x : Expr) (r : List ℕ) → Shaped l x → (Short x → expr_text x ++ r ≡ s) → Gives m c p t (f x r)) → Gives m c p t (then_parse q f)
unfolding then_parse
gives_then l m c p s t (parsed x r) f (h, e) k = k x r h (λ j. (e j).1)
gives_then l m c p s t shapeless f h k = tt

gives_on : (l : Level) (c d : Expr) (p q s t : List ℕ) (r : Parsed) → (Short d → Short c × (q ++ t ≡ p ++ s)) → Gives l d q t r → Gives l c p s r
gives_on l c d p q s t (parsed y r) f (h, e) = (h, λ k. let (j, a) = e k in let (i, b) = f j in (i, a ∙ b))
gives_on l c d p q s t shapeless f h = tt

-- a part, and the parts after it
gives_ahead : (part whole : Level) (c : Expr) (p s : List ℕ) (left : Expr → Expr) → Left part whole c p left
    → (x : Expr) (r : List ℕ) → Shaped part x → (Short x → expr_text x ++ r ≡ s) → (a : Ahead) → Follows part whole r a → (next : Operator → List ℕ → Parsed)
    → ((o : Operator) (t q : List ℕ) → Left part whole (left x) q (apply o (left x)) → Gives whole (left x) q t (next o t))
    → Gives whole c p s (ahead a next (parsed (left x) r))
unfolding ahead expr_text
gives_ahead part whole c p s left fits x r h e a f next k = by a f
  where
    reads : Short (left x) → Short c × (expr_text (left x) ++ r ≡ p ++ s)
    reads j = let (d, i) = fits.short x j in (d, ap (λ l. l ++ r) (fits.text x) ∙ append_assoc p (expr_text x) r ∙ ap (λ l. p ++ l) (e i))

    by : (a : Ahead) → Follows part whole r a → Gives whole c p s (ahead a next (parsed (left x) r))
    by (operator o t) (q, join) =
        gives_on whole c (left x) p (expr_text (left x) ++ (operator_byte o ∷ [])) s t (next o t)
        (λ j. ((reads j).0, append_assoc (expr_text (left x)) (operator_byte o ∷ []) t ∙ ap (λ l. expr_text (left x) ++ l) (sym q) ∙ (reads j).1))
        (k o t (expr_text (left x) ++ (operator_byte o ∷ [])) (record {
          shape = λ y u. join (left x) y (fits.shape x h) u;
          short = λ y u. u;
          text = λ y. sym (append_assoc (expr_text (left x)) (operator_byte o ∷ []) (expr_text y));
        }))
    by other q = (fits.shape x h, reads)

up_from : (s : List ℕ) → up_to_mark s ++ from_mark s ≡ s
unfolding up_to_mark from_mark
up_from [] = refl
up_from (b ∷ s) = by (is_mark b) (up_from s)
  where
    by : (m : Bool) → up_to_mark s ++ from_mark s ≡ s → cond m [] (b ∷ up_to_mark s) ++ cond m (b ∷ s) (from_mark s) ≡ b ∷ s
    by true e = refl
    by false e = λ i. b ∷ e i

atom_gives : (b : ℕ) (s : List ℕ) → Gives as_factor nought [] (b ∷ s) (atom (b ∷ s))
unfolding atom Shaped expr_text
atom_gives b s = by (word_of (b ∷ up_to_mark s)) (spelled (b ∷ up_to_mark s))
  where
    whole : (w : List ℕ) → b ∷ up_to_mark s ≡ w → w ++ from_mark s ≡ b ∷ s
    whole w e = ap (λ l. l ++ from_mark s) (sym e) ∙ λ i. b ∷ up_from s i

    by : (w : Word) → Spelled (b ∷ up_to_mark s) w → Gives as_factor nought [] (b ∷ s) (leaf w (from_mark s))
    by Missing h = tt
    by (Number z) h = (tt, λ k. (nought_short, whole (number_text z) (h k)))
    by (Variable v) h = (tt, λ k. (nought_short, whole (variable_text v) (h k)))
    by (Compares c) h = tt
    by (Keyword n) h = tt
    by Other h = tt

close_gives : (b : ℕ) (s : List ℕ) (x : Expr) (r : List ℕ) → b ≡ 40 → Shaped as_expression x → (Short x → expr_text x ++ r ≡ s)
    → Gives as_factor nought [] (b ∷ s) (close x r)
unfolding close Shaped expr_text
close_gives b s x [] q h e = tt
close_gives b s x (c ∷ r) q h e =
    cond_elim (Gives as_factor nought [] (b ∷ s)) (eqb c 41) (parsed (group x) r) shapeless
    (λ t. (h, λ k. (nought_short, λ i. sym q i ∷ (append_assoc (expr_text x) (41 ∷ []) r ∙ (λ j. expr_text x ++ (sym (eqb→eq c 41 t) j ∷ r)) ∙ e k) i))) (λ _. tt)

factor_of_lem : (inner : List ℕ → Parsed) (s : List ℕ) → ((r : List ℕ) → Gives as_expression nought [] r (inner r)) → Gives as_factor nought [] s (factor_of inner s)
unfolding factor_of
factor_of_lem inner [] f = tt
factor_of_lem inner (b ∷ s) f =
    cond_elim (Gives as_factor nought [] (b ∷ s)) (eqb b 40) (then_parse (inner s) close) (atom (b ∷ s))
    (λ t. gives_then as_expression as_factor nought [] s (b ∷ s) (inner s) close (f s) (λ x r h e. close_gives b s x r (eqb→eq b 40 t) h e))
    (λ _. atom_gives b s)

mutual
  unfolding expression

  expression_gives : (n : ℕ) (left : Expr → Expr) (s : List ℕ) (c : Expr) (p : List ℕ) → Left as_term as_expression c p left → Gives as_expression c p s (expression n left s)
  expression_gives zero left s c p f = tt
  expression_gives (suc n) left s c p f =
      gives_then as_term as_expression c p s s (term n (λ x. x) s) _ (term_gives n (λ x. x) s nought [] (alone as_factor as_term factor_term)) λ x r h e.
      gives_ahead as_term as_expression c p s left f x r h e (after_term r) (after_term_lem r) (λ o t. expression n (apply o (left x)) t)
      (λ o t q g. expression_gives n (apply o (left x)) t (left x) q g)

  term_gives : (n : ℕ) (left : Expr → Expr) (s : List ℕ) (c : Expr) (p : List ℕ) → Left as_factor as_term c p left → Gives as_term c p s (term n left s)
  term_gives zero left s c p f = tt
  term_gives (suc n) left s c p f =
      gives_then as_factor as_term c p s s (factor n s) _ (factor_gives n s) λ x r h e.
      gives_ahead as_factor as_term c p s left f x r h e (after_factor r) (after_factor_lem r) (λ o t. term n (apply o (left x)) t)
      (λ o t q g. term_gives n (apply o (left x)) t (left x) q g)

  factor_gives : (n : ℕ) (s : List ℕ) → Gives as_factor nought [] s (factor n s)
  factor_gives zero s = tt
  factor_gives (suc n) s = factor_of_lem (λ r. expression n (λ x. x) r) s (λ r. expression_gives n (λ x. x) r nought [] (alone as_term as_expression term_expression))

-- a word that is read as an expression is its text
pub parse_text : (w : List ℕ) (x : Expr) (r : List ℕ) → parse w ≡ parsed x r → Shaped as_expression x × (Short x → w ≡ expr_text x)
unfolding parse read_expression at_end then_parse
parse_text w x r e = by (read_expression (λ y. y) w) (expression_gives _ (λ y. y) w nought [] (alone as_term as_expression term_expression)) e
  where
    end : (y : Expr) (s : List ℕ) → Shaped as_expression y → (Short y → expr_text y ++ s ≡ w) → at_end y s ≡ parsed x r → Shaped as_expression x × (Short x → w ≡ expr_text x)
    end y [] h f e =
        let q : y ≡ x = cc in
        subst (λ z. Shaped as_expression z × (Short z → w ≡ expr_text z)) q (h, λ k. sym (f k) ∙ append-nil (expr_text y))
    end y (b ∷ s) h f e = absurd (let z : ◌≡◌ {A = ℕ} 0 1 = cc in omega arith)

    by : (q : Parsed) → Gives as_expression nought [] w q → then_parse q at_end ≡ parsed x r → Shaped as_expression x × (Short x → w ≡ expr_text x)
    by (parsed y s) (h, f) e = end y s h (λ k. (f k).1) e
    by shapeless h e = absurd (let z : ◌≡◌ {A = ℕ} 0 1 = cc in omega arith)

-- ---- the text of an expression is read as it
-- a text that ends a word
abbrev Ends : List ℕ → Type 0
Ends r = (up_to_mark r ≡ []) × (from_mark r ≡ r)

not_mark : (b : ℕ) → T (is_digit b) → T (not (is_mark b))
unfolding is_mark
not_mark b h =
    let (lo, hi) = digit_between b h in
    not_T (is_mark b) (by (leb 40 b) (leb b 43) (eqb b minus) (λ t. omega (arith, leb→le b 43 t)) (λ t. omega (arith, eqb→eq b minus t)))
  where
    by : (x y z : Bool) → (T y → ⊥) → (T z → ⊥) → T (x && y || z) → ⊥
    by true true z f g h = f tt
    by true false z f g h = g h
    by false y z f g h = g h

digits_up : (s r : List ℕ) → T (all_digits s) → Ends r → (up_to_mark (s ++ r) ≡ s) × (from_mark (s ++ r) ≡ r)
unfolding all_digits up_to_mark from_mark
digits_up [] r h e = e
digits_up (b ∷ s) r h e =
    let (t, u) = if_yes (is_digit b) (all_digits s) h in
    let (up, from) = digits_up s r u e in
    (cond_false (is_mark b) _ _ (not_mark b t) ∙ (λ i. b ∷ up i), cond_false (is_mark b) _ _ (not_mark b t) ∙ from)

atom_reads : (b : ℕ) (s r : List ℕ) → T (not (eqb b 40)) → T (all_digits s) → Ends r → read_factor (b ∷ (s ++ r)) ≡ leaf (word_of (b ∷ s)) r
unfolding factor_of atom
atom_reads b s r n h e =
    let (up, from) = digits_up s r h e in
    factor_is (b ∷ (s ++ r)) ∙ cond_false (eqb b 40) _ _ n ∙ λ i. leaf (word_of (b ∷ up i)) (from i)

natural_factor : (w r : List ℕ) → T (is_natural w) → Ends r → read_factor (w ++ r) ≡ leaf (word_of w) r
unfolding is_natural all_digits
natural_factor [] r h e = absurd h
natural_factor (b ∷ s) r h e =
    let (t, u) = if_yes (is_digit b) (all_digits s) (natural_digits (b ∷ s) h) in
    atom_reads b s r (not_T (eqb b 40) (λ q. omega (arith, eqb→eq b 40 q, digit_between b t))) u e

number_factor : (z : ℤ) (r : List ℕ) → TwentyDigits (size z) → Ends r → read_factor (number_text z ++ r) ≡ parsed (constant z) r
unfolding number_text sign size
number_factor (pos n) r h e = natural_factor (decimal n) r (decimal_natural n h) e ∙ ap (λ w. leaf w r) (number_reads (pos n) h)
number_factor (negsuc n) r h e =
    atom_reads minus (decimal (suc n)) r tt (natural_digits (decimal (suc n)) (decimal_natural (suc n) h)) e ∙ ap (λ w. leaf w r) (number_reads (negsuc n) h)

variable_factor : (v : ℕ) (r : List ℕ) → TwentyDigits v → Ends r → read_factor (variable_text v ++ r) ≡ parsed (variable v) r
unfolding variable_text
variable_factor v r h e = atom_reads letter_v (decimal v) r tt (natural_digits (decimal v) (decimal_natural v h)) e ∙ ap (λ w. leaf w r) (variable_reads v h)

-- after a left side
term_on : (left : Expr → Expr) (x : Expr) (r : List ℕ) → read_factor (expr_text x ++ r) ≡ parsed x r
    → read_term left (expr_text x ++ r) ≡ ahead (after_factor r) (λ o t. read_term (apply o (left x)) t) (parsed (left x) r)
unfolding then_parse
term_on left x r e =
    term_is left (expr_text x ++ r) ∙ ap (λ p. then_parse p (λ y r. ahead (after_factor r) (λ o t. read_term (apply o (left y)) t) (parsed (left y) r))) e

expression_on : (left : Expr → Expr) (x : Expr) (r : List ℕ) → after_factor r ≡ other
    → read_term (λ y. y) (expr_text x ++ r) ≡ ahead (after_factor r) (λ o t. read_term (apply o x) t) (parsed x r)
    → read_expression left (expr_text x ++ r) ≡ ahead (after_term r) (λ o t. read_expression (apply o (left x)) t) (parsed (left x) r)
unfolding then_parse ahead
expression_on left x r n e =
    expression_is left (expr_text x ++ r)
    ∙ ap (λ p. then_parse p (λ y r. ahead (after_term r) (λ o t. read_expression (apply o (left y)) t) (parsed (left y) r)))
    (e ∙ ap (λ a. ahead a (λ o t. read_term (apply o x) t) (parsed x r)) n)

-- as a factor, a term, an expression
record Reads (x : Expr) : Type 0 where
  factor : Shaped as_factor x → (r : List ℕ) → Ends r → read_factor (expr_text x ++ r) ≡ parsed x r
  term : Shaped as_term x → (r : List ℕ) → Ends r → read_term (λ y. y) (expr_text x ++ r) ≡ ahead (after_factor r) (λ o t. read_term (apply o x) t) (parsed x r)
  expression : Shaped as_expression x → (r : List ℕ) → Ends r → after_factor r ≡ other
      → read_expression (λ y. y) (expr_text x ++ r) ≡ ahead (after_term r) (λ o t. read_expression (apply o x) t) (parsed x r)

-- one factor
single : (x : Expr) → ((l : Level) → Shaped l x → Shaped as_factor x) → (Shaped as_factor x → (r : List ℕ) → Ends r → read_factor (expr_text x ++ r) ≡ parsed x r) → Reads x
single x s f = record {
  factor = f;
  term = λ h r e. term_on (λ y. y) x r (f (s as_term h) r e);
  expression = λ h r e n. expression_on (λ y. y) x r n (term_on (λ y. y) x r (f (s as_expression h) r e));
}

text_reads : (x : Expr) → Short x → Reads x
unfolding Shaped expr_text operator_byte up_to_mark from_mark is_mark after_term after_factor ahead then_parse close factor_of
text_reads (constant z) k = single (constant z) (λ l h. tt) (λ h r e. number_factor z r k e)
text_reads (variable w) k = single (variable w) (λ l h. tt) (λ h r e. variable_factor w r k e)
text_reads (group x) k = single (group x) (λ l h. h) (λ h r e. inner h r (text_reads x k))
  where
    inner : Shaped as_expression x → (r : List ℕ) → Reads x → read_factor (40 ∷ ((expr_text x ++ (41 ∷ [])) ++ r)) ≡ parsed (group x) r
    inner h r i =
        factor_is (40 ∷ ((expr_text x ++ (41 ∷ [])) ++ r)) ∙ ap (λ s. then_parse (read_expression (λ y. y) s) close) (append_assoc (expr_text x) (41 ∷ []) r)
        ∙ ap (λ p. then_parse p close) (i.expression h (41 ∷ r) (refl, refl) refl)
text_reads (apply Add x y) (k, l) = record {
  factor = λ h. absurd h;
  term = λ h. absurd h;
  expression = λ (h, g) r e n. ap (read_expression (λ z. z)) (append_assoc (expr_text x) (43 ∷ expr_text y) r)
      ∙ (text_reads x k).expression h (43 ∷ (expr_text y ++ r)) (refl, refl) refl ∙ expression_on (apply Add x) y r n ((text_reads y l).term g r e);
}
text_reads (apply Sub x y) (k, l) = record {
  factor = λ h. absurd h;
  term = λ h. absurd h;
  expression = λ (h, g) r e n. ap (read_expression (λ z. z)) (append_assoc (expr_text x) (minus ∷ expr_text y) r)
      ∙ (text_reads x k).expression h (minus ∷ (expr_text y ++ r)) (refl, refl) refl ∙ expression_on (apply Sub x) y r n ((text_reads y l).term g r e);
}
text_reads (apply Mul x y) (k, l) = record {
  factor = λ h. absurd h;
  term = times (text_reads x k) (text_reads y l);
  expression = λ h r e n. expression_on (λ z. z) (apply Mul x y) r n (times (text_reads x k) (text_reads y l) h r e);
}
  where
    times : Reads x → Reads y → Shaped as_term x × Shaped as_factor y → (r : List ℕ) → Ends r
        → read_term (λ z. z) ((expr_text x ++ (42 ∷ expr_text y)) ++ r) ≡ ahead (after_factor r) (λ o t. read_term (apply o (apply Mul x y)) t) (parsed (apply Mul x y) r)
    times i j (h, g) r e =
        ap (read_term (λ z. z)) (append_assoc (expr_text x) (42 ∷ expr_text y) r) ∙ i.term h (42 ∷ (expr_text y ++ r)) (refl, refl) ∙ term_on (apply Mul x) y r (j.factor g r e)

-- the word is read as its expression
pub expression_reads : (x : Expr) → Short x → Shaped as_expression x → parse (expr_text x) ≡ parsed x []
unfolding parse then_parse at_end up_to_mark from_mark after_factor after_term ahead
expression_reads x k h =
    ap (λ s. then_parse (read_expression (λ y. y) s) at_end) (sym (append-nil (expr_text x))) ∙ ap (λ p. then_parse p at_end) ((text_reads x k).expression h [] (refl, refl) refl)

-- ---- no byte of it is a space or LF
pub expression_above : (x : Expr) → Short x → T (above 32 (expr_text x))
unfolding expr_text operator_byte
expression_above (constant z) k = number_above z k
expression_above (variable w) k = variable_above w k
expression_above (group x) k = above_append 32 (expr_text x) (41 ∷ []) (expression_above x k) tt
expression_above (apply o x y) (k, l) = above_append 32 (expr_text x) (operator_byte o ∷ expr_text y) (expression_above x k) (by o (expression_above y l))
  where
    by : (o : Operator) → T (above 32 (expr_text y)) → T (above 32 (operator_byte o ∷ expr_text y))
    by Add h = h
    by Sub h = h
    by Mul h = h
