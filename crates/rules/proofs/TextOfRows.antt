-- The words of a row are read as that row, and no other words are.
use mathlib.Core.Path.{◌≡◌, refl, sym, ◌∙◌, ap, subst}
use mathlib.Core.Bool.{◌&&◌}
use mathlib.Core.List.{List, [], ◌∷◌}
use Prim.Native.Nat.{ℕ, zero, suc, ◌≤◌, ◌<◌}
use native.Mathlib.Omega.{arith}
use lib.Dec.{T, leb, ltb, leb→le, le→leb, lt→ltb}
use lib.IntN.{ℤ, pos, negsuc, nat_abs}
use lib.ListN.{get_or, drop}
use lib.Signed.{le_z, ◌≤ℤ◌}
use Rattle.ints.proofs.Parts.{ints}
use Rattle.ints.proofs.Diffs.{cond_true, both, and_in}
use Rattle.rules.specs.declared.Change.{Change}
use Rattle.rules.specs.declared.Comparison.{Comparison}
use Rattle.rules.specs.declared.Name.{Name}
use Rattle.rules.specs.declared.Word.{Word}
use Rattle.rules.specs.declared.Word.TheVariants.{Missing, Number, Variable, Compares, Keyword, Other}
use Rattle.rules.specs.Expressions.{Expr, constant, variable, group, apply}
use Rattle.rules.specs.Values.{lowest, highest}
use Rattle.rules.specs.Text.{word_of, words_of}
use Rattle.rules.specs.Parse.{Parsed, parsed, shapeless, then_parse, factor_of, expression, read_expression, parse, expr_in, depth, operators}
use Rattle.rules.specs.Blocks.{RowKind, End, Else, Pick, Set, Move, Off, Cue, While, Do, For, Hold}
use Rattle.rules.specs.Ranges.{ordered, sort}
use Rattle.rules.specs.Scripts.{All, none, some, ExprLimits, ExprBelow, ChangeLimits, RowLimits, RowBelow}
use Rattle.rules.specs.Report.{decimal, sign, size}
use Rattle.rules.specs.Readable.{TwentyDigits, DecimalReads}
use Rattle.rules.specs.File
use Rattle.rules.specs.File.{Read}
use Rattle.rules.specs.ScriptText.{number_text, variable_text, expr_text, comparison_text, name_text, change_name, change_number, row_words, as_expression, Shaped, SmallExpr, Writable}
use Rattle.rules.proofs.Readable.{decimal_reads}
use Rattle.rules.proofs.ReadLegal.{no_zero, yes_of, refusal_yes, number_yes, variable_yes, expr_yes, wrong_not, checked_yes}
use Rattle.rules.proofs.TextOfWords.{Spelled, spelled, number_reads, variable_reads, comparison_reads, name_reads, above, decimal_above, number_above, variable_above, comparison_above, name_above}
use Rattle.rules.proofs.TextOfExpressions.{limit_short, limits_short, parse_text, expression_reads, expression_above}

-- ---- words that are read have these texts
abbrev pub Present : Word → Type 0
Present Missing = ⊥
Present (Number z) = Unit {0}
Present (Variable v) = Unit {0}
Present (Compares c) = Unit {0}
Present (Keyword n) = Unit {0}
Present Other = Unit {0}

-- a word is there, and has this text
pub record Says (text : List ℕ) (w : Word) : Type 0 where
  pub present : Present w
  pub spells : (t : List ℕ) → Spelled t w → t ≡ text

variable_says : (vars : ℕ) → vars ≤ 16 → (w : Word) → File.asks_variable vars w ≡ 0 → Says (variable_text (File.variable_of w)) w
variable_says vars h Missing e = no_zero _ e
variable_says vars h (Number z) e = no_zero _ e
variable_says vars h (Variable v) e = record { present = tt; spells = λ t s. s (omega (arith, variable_yes vars (Variable v) e)) }
variable_says vars h (Compares c) e = no_zero _ e
variable_says vars h (Keyword n) e = no_zero _ e
variable_says vars h Other e = no_zero _ e

pub number_says : (w : Word) → File.asks_number lowest highest w ≡ 0 → Says (number_text (File.number_of w)) w
number_says Missing e = no_zero _ e
number_says (Number z) e = record { present = tt; spells = λ t s. s (limit_short z (number_yes lowest highest (Number z) e)) }
number_says (Variable v) e = no_zero _ e
number_says (Compares c) e = no_zero _ e
number_says (Keyword n) e = no_zero _ e
number_says Other e = no_zero _ e

pub amount_says : (k most : ℕ) → TwentyDigits most → (w : Word) → File.asks_number (pos k) (pos most) w ≡ 0 → Says (decimal (nat_abs (File.number_of w))) w
unfolding number_text sign size
amount_says k most h Missing e = no_zero _ e
amount_says k most h (Number (pos n)) e = record { present = tt; spells = λ t s. s (omega (arith, leb→le n most (number_yes (pos k) (pos most) (Number (pos n)) e).1.le)) }
amount_says k most h (Number (negsuc n)) e = no_zero _ e
amount_says k most h (Variable v) e = no_zero _ e
amount_says k most h (Compares c) e = no_zero _ e
amount_says k most h (Keyword n) e = no_zero _ e
amount_says k most h Other e = no_zero _ e

comparison_says : (w : Word) → File.asks_comparison w ≡ 0 → Says (comparison_text (File.comparison_of w)) w
comparison_says Missing e = no_zero _ e
comparison_says (Number z) e = no_zero _ e
comparison_says (Variable v) e = no_zero _ e
comparison_says (Compares c) e = record { present = tt; spells = λ t s. s }
comparison_says (Keyword n) e = no_zero _ e
comparison_says Other e = no_zero _ e

ordered_says : (w : Word) → File.asks_ordered w ≡ 0 → Says (comparison_text (File.comparison_of w)) w × T (ordered (sort (File.comparison_of w)))
ordered_says Missing e = no_zero _ e
ordered_says (Number z) e = no_zero _ e
ordered_says (Variable v) e = no_zero _ e
ordered_says (Compares c) e = (record { present = tt; spells = λ t s. s }, yes_of (ordered (sort c)) 2 e)
ordered_says (Keyword n) e = no_zero _ e
ordered_says Other e = no_zero _ e

change_says : (n : Name) (w : Word) → File.asks_change n w ≡ 0 → Says (decimal (change_number (File.change_of n w))) w × (change_name (File.change_of n w) ≡ n)
unfolding highest
change_says Name.Set w e = no_zero _ e
change_says Name.Add w e = (amount_says 0 1_000_000_000 (omega arith) w e, refl)
change_says Name.Sub w e = (amount_says 0 1_000_000_000 (omega arith) w e, refl)
change_says Name.Mul w e = (amount_says 1 1_000_000_000 (omega arith) w e, refl)
change_says Name.Div w e = (amount_says 1 1_000_000_000 (omega arith) w e, refl)
change_says Name.Off w e = no_zero _ e
change_says Name.Cue w e = no_zero _ e
change_says Name.Pick w e = no_zero _ e
change_says Name.Else w e = no_zero _ e
change_says Name.End w e = no_zero _ e
change_says Name.While w e = no_zero _ e
change_says Name.Do w e = no_zero _ e
change_says Name.For w e = no_zero _ e
change_says Name.Hold w e = no_zero _ e

step_says : (x w : Word) → File.asks_step x w ≡ 0 → Says (name_text (change_name (File.step_of x w))) x × Says (decimal (change_number (File.step_of x w))) w
step_says Missing w e = no_zero _ e
step_says (Number z) w e = no_zero _ e
step_says (Variable v) w e = no_zero _ e
step_says (Compares c) w e = no_zero _ e
step_says (Keyword n) w e = let (a, b) = change_says n w e in (record { present = tt; spells = λ t s. s ∙ ap name_text (sym b) }, a)
step_says Other w e = no_zero _ e

-- ---- an expression
-- the text of an expression, its shape, and 17
expr_says : (vars : ℕ) → vars ≤ 16 → (t : List ℕ) → File.asks_expr vars (parse t) ≡ 0
    → (t ≡ expr_text (expr_in (parse t))) × Shaped as_expression (expr_in (parse t)) × SmallExpr (expr_in (parse t))
unfolding File.asks_size
expr_says vars h t a = by (parse t) refl a
  where
    by : (p : Parsed) → parse t ≡ p → File.asks_expr vars p ≡ 0 → (t ≡ expr_text (expr_in p)) × Shaped as_expression (expr_in p) × SmallExpr (expr_in p)
    by (parsed x r) q a =
        let (l, b) = expr_yes vars (parsed x r) a in
        let (s, f) = parse_text t x r q in
        let (d, o) = both (leb (depth x) 8) (leb (operators x) 15) (yes_of (leb (depth x) 8 && leb (operators x) 15) 16 (refusal_yes _ _ a).0) in
        (f (limits_short vars h x l b), s, (leb→le (depth x) 8 d, leb→le (operators x) 15 o))
    by shapeless q a = no_zero _ a

parse_nothing : parse [] ≡ shapeless
unfolding parse read_expression expression factor_of then_parse
parse_nothing = refl

-- ---- a line's texts from its last word to its first
pub word_tail : (text : List ℕ) (texts : List (List ℕ)) (i : ℕ) (ws : List (List ℕ)) → Says text (words_of texts i) → drop (suc i) texts ≡ ws → drop i texts ≡ text ∷ ws
unfolding words_of
word_tail text [] i ws s e = absurd s.present
word_tail text (t ∷ texts) zero ws s e = λ j. s.spells t (spelled t) j ∷ e j
word_tail text (t ∷ texts) (suc i) ws s e = word_tail text texts i ws s e

expr_tail : (vars : ℕ) → vars ≤ 16 → (texts : List (List ℕ)) (i : ℕ) (ws : List (List ℕ)) → File.asks_expr vars (parse (get_or texts i [])) ≡ 0 → drop (suc i) texts ≡ ws
    → drop i texts ≡ expr_text (expr_in (parse (get_or texts i []))) ∷ ws
expr_tail vars h [] i ws a e = no_zero 2 (sym (ap (File.asks_expr vars) parse_nothing) ∙ a)
expr_tail vars h (t ∷ texts) zero ws a e = λ j. (expr_says vars h t a).0 j ∷ e j
expr_tail vars h (t ∷ texts) (suc i) ws a e = expr_tail vars h texts i ws a e

pub end_tail : (texts : List (List ℕ)) (i : ℕ) → File.asks_end (words_of texts i) ≡ 0 → drop i texts ≡ []
unfolding words_of
end_tail [] zero a = refl
end_tail [] (suc i) a = refl
end_tail (t ∷ texts) zero a = by (word_of t) (spelled t) a
  where
    by : (w : Word) → Spelled t w → File.asks_end w ≡ 0 → t ∷ texts ≡ []
    by Missing s a = absurd s
    by (Number z) s a = no_zero _ a
    by (Variable v) s a = no_zero _ a
    by (Compares c) s a = no_zero _ a
    by (Keyword n) s a = no_zero _ a
    by Other s a = no_zero _ a
end_tail (t ∷ texts) (suc i) a = end_tail texts i a

-- ---- a row that is read has these words
pub record Spells (texts : List (List ℕ)) (k : RowKind) : Type 0 where
  pub words : texts ≡ row_words k
  pub writable : Writable k

module _ (vars : ℕ) (h : vars ≤ 16) (texts : List (List ℕ)) where
  abbrev word : ℕ → Word
  word i = words_of texts i

  abbrev expr : ℕ → Parsed
  expr i = parse (get_or texts i [])

  name_tail : (n : Name) (ws : List (List ℕ)) → word 0 ≡ Keyword n → drop 1 texts ≡ ws → texts ≡ name_text n ∷ ws
  name_tail n ws q e = word_tail (name_text n) texts 0 ws (subst (Says (name_text n)) (sym q) (record { present = tt; spells = λ t s. s })) e

  variable_tail : (i : ℕ) (ws : List (List ℕ)) → File.asks_variable vars (word i) ≡ 0 → drop (suc i) texts ≡ ws → drop i texts ≡ variable_text (File.variable_of (word i)) ∷ ws
  variable_tail i ws a e = word_tail _ texts i ws (variable_says vars h (word i) a) e

  move_text : (n : Name) (k : RowKind) → word 0 ≡ Keyword n → File.move_row vars word expr n ≡ Read k → Spells texts k
  unfolding File.move_row row_words
  move_text n k q e = checked_yes (Spells texts) _ _ k e λ z.
      let (a, b) = refusal_yes _ _ z in
      let (c, d) = refusal_yes _ _ b in
      let (s, m) = change_says n (word 2) c in
      record {
        words = name_tail n _ q (variable_tail 1 _ a (word_tail _ texts 2 _ s (end_tail texts 3 d)))
            ∙ λ i. name_text (sym m i) ∷ variable_text (File.variable_of (word 1)) ∷ decimal (change_number (File.change_of n (word 2))) ∷ [];
        writable = record { shaped = tt; ordered = tt; small = tt };
      }

  bare_text : (n : Name) (r k : RowKind) → row_words r ≡ name_text n ∷ [] → Writable r → word 0 ≡ Keyword n → File.bare_row vars word expr r ≡ Read k → Spells texts k
  unfolding File.bare_row
  bare_text n r k f w q e = checked_yes (Spells texts) _ r k e λ a. record { words = name_tail n [] q (end_tail texts 1 a) ∙ sym f; writable = w }

  test_text : File.asks_test vars word expr ≡ 0
      → (drop 1 texts ≡ variable_text (File.variable_of (word 1)) ∷ comparison_text (File.comparison_of (word 2)) ∷ expr_text (expr_in (expr 3)) ∷ [])
      × Shaped as_expression (expr_in (expr 3)) × SmallExpr (expr_in (expr 3))
  unfolding File.asks_test
  test_text z =
      let (a, b) = refusal_yes _ _ z in
      let (c, d) = refusal_yes _ _ b in
      let (f, g) = refusal_yes _ _ d in
      let (_, s, m) = expr_says vars h (get_or texts 3 []) f in
      (variable_tail 1 _ a (word_tail _ texts 2 _ (comparison_says (word 2) c) (expr_tail vars h texts 3 _ f (end_tail texts 4 g))), s, m)

  named_text : (n : Name) (k : RowKind) → word 0 ≡ Keyword n → File.named_row vars word expr n ≡ Read k → Spells texts k
  unfolding File.set_row File.cue_row File.while_row File.do_row File.for_row File.asks_for File.off_row File.hold_row row_words
  named_text Name.Set k q e = checked_yes (Spells texts) _ _ k e λ z.
      let (a, b) = refusal_yes _ _ z in
      let (c, d) = refusal_yes _ _ b in
      let (_, s, m) = expr_says vars h (get_or texts 2 []) c in
      record {
        words = name_tail Name.Set _ q (variable_tail 1 _ a (expr_tail vars h texts 2 _ c (end_tail texts 3 d)));
        writable = record { shaped = s; ordered = tt; small = m };
      }
  named_text Name.Add k q e = move_text Name.Add k q e
  named_text Name.Sub k q e = move_text Name.Sub k q e
  named_text Name.Mul k q e = move_text Name.Mul k q e
  named_text Name.Div k q e = move_text Name.Div k q e
  named_text Name.Off k q e = checked_yes (Spells texts) _ _ k e λ z.
      let (a, b) = refusal_yes _ _ z in
      let (c, d) = refusal_yes _ _ b in
      let (f, g) = refusal_yes _ _ d in
      let (i, j) = refusal_yes _ _ g in
      let (s, o) = ordered_says (word 3) f in
      record {
        words = name_tail Name.Off _ q (variable_tail 1 _ a (variable_tail 2 _ c (word_tail _ texts 3 _ s (word_tail _ texts 4 _ (number_says (word 4) i) (end_tail texts 5 j)))));
        writable = record { shaped = tt; ordered = o; small = tt };
      }
  named_text Name.Cue k q e = checked_yes (Spells texts) _ _ k e λ z.
      let (a, b) = refusal_yes _ _ z in
      record {
        words = name_tail Name.Cue _ q (word_tail _ texts 1 _ (amount_says 0 9_999 (omega arith) (word 1) a) (end_tail texts 2 b));
        writable = record { shaped = tt; ordered = tt; small = tt };
      }
  named_text Name.Pick k q e = bare_text Name.Pick Pick k refl (record { shaped = tt; ordered = tt; small = tt }) q e
  named_text Name.Else k q e = bare_text Name.Else Else k refl (record { shaped = tt; ordered = tt; small = tt }) q e
  named_text Name.End k q e = bare_text Name.End End k refl (record { shaped = tt; ordered = tt; small = tt }) q e
  named_text Name.While k q e = checked_yes (Spells texts) _ _ k e λ z.
      let (t, s, m) = test_text z in record { words = name_tail Name.While _ q t; writable = record { shaped = s; ordered = tt; small = m } }
  named_text Name.Do k q e = checked_yes (Spells texts) _ _ k e λ z.
      let (t, s, m) = test_text z in record { words = name_tail Name.Do _ q t; writable = record { shaped = s; ordered = tt; small = m } }
  named_text Name.For k q e = checked_yes (Spells texts) _ _ k e λ z.
      let (a, b) = refusal_yes _ _ z in
      let (c, d) = refusal_yes _ _ b in
      let (f, g) = refusal_yes _ _ d in
      let (i, j) = refusal_yes _ _ g in
      let (x, y) = refusal_yes _ _ j in
      let (_, s, m) = expr_says vars h (get_or texts 2 []) c in
      let (_, s', m') = expr_says vars h (get_or texts 4 []) i in
      let (u, v) = step_says (word 5) (word 6) x in
      record {
        words = name_tail Name.For _ q (variable_tail 1 _ a (expr_tail vars h texts 2 _ c (word_tail _ texts 3 _ (comparison_says (word 3) f) (expr_tail vars h texts 4 _ i
            (word_tail _ texts 5 _ u (word_tail _ texts 6 _ v (end_tail texts 7 y)))))));
        writable = record { shaped = (s, s'); ordered = tt; small = (m, m') };
      }
  named_text Name.Hold k q e = checked_yes (Spells texts) _ _ k e λ z.
      let (a, b) = refusal_yes _ _ z in
      record { words = name_tail Name.Hold _ q (variable_tail 1 _ a (end_tail texts 2 b)); writable = record { shaped = tt; ordered = tt; small = tt } }

  first_text : (w : Word) (k : RowKind) → word 0 ≡ w → File.first_word vars word expr w ≡ Read k → Spells texts k
  first_text Missing k q e = wrong_not 3 k e
  first_text (Number z) k q e = wrong_not 3 k e
  first_text (Variable v) k q e = wrong_not 3 k e
  first_text (Compares c) k q e = wrong_not 3 k e
  first_text (Keyword n) k q e = named_text n k q e
  first_text Other k q e = wrong_not 3 k e

  pub row_text_lem : (k : RowKind) → File.row_of vars texts ≡ Read k → Spells texts k
  unfolding File.row_of File.words_row
  row_text_lem k e = first_text (words_of texts 0) k refl e

-- ---- the words of a row are read as it
pub zeros : (p q : ℕ) → p ≡ 0 → q ≡ 0 → File.first_refusal p q ≡ 0
unfolding File.first_refusal
zeros zero q e f = f
zeros (suc p) zero e f = e
zeros (suc p) (suc q) e f = no_zero p e

checked_reads : (q : ℕ) (r k : RowKind) → q ≡ 0 → r ≡ k → File.checked q r ≡ Read k
unfolding File.checked
checked_reads zero r k e f = ap Read f
checked_reads (suc q) r k e f = no_zero q e

variable_asked : (vars v : ℕ) (w : Word) → w ≡ Variable v → v < vars → File.asks_variable vars w ≡ 0
variable_asked vars v w e h = ap (File.asks_variable vars) e ∙ cond_true (ltb v vars) 0 5 (lt→ltb v vars h)

pub number_asked : (lo hi z : ℤ) (w : Word) → w ≡ Number z → lo ≤ℤ z → z ≤ℤ hi → File.asks_number lo hi w ≡ 0
number_asked lo hi z w e a b = ap (File.asks_number lo hi) e ∙ cond_true (le_z lo z && le_z z hi) 0 4 (and_in (le_z lo z) (le_z z hi) a.le b.le)

leaves_asked : (vars : ℕ) (x : Expr) → ExprLimits x → ExprBelow vars x → File.asks_leaves vars x ≡ 0
unfolding File.asks_leaves ExprLimits ExprBelow
leaves_asked vars (constant z) (a, b) h = cond_true (le_z lowest z && le_z z highest) 0 4 (and_in (le_z lowest z) (le_z z highest) a.le b.le)
leaves_asked vars (variable v) l h = cond_true (ltb v vars) 0 5 (lt→ltb v vars h)
leaves_asked vars (group x) l h = leaves_asked vars x l h
leaves_asked vars (apply o x y) (l, m) (h, k) = zeros _ _ (leaves_asked vars x l h) (leaves_asked vars y m k)

expr_asked : (vars : ℕ) (x : Expr) (p : Parsed) → p ≡ parsed x [] → SmallExpr x → ExprLimits x → ExprBelow vars x → File.asks_expr vars p ≡ 0
unfolding File.asks_size
expr_asked vars x p e (d, o) l b =
    ap (File.asks_expr vars) e
    ∙ zeros _ _ (cond_true (leb (depth x) 8 && leb (operators x) 15) 0 17 (and_in (leb (depth x) 8) (leb (operators x) 15) (le→leb (depth x) 8 d) (le→leb (operators x) 15 o)))
    (leaves_asked vars x l b)

change_asked : (c : Change) (w : Word) → w ≡ Number (pos (change_number c)) → ChangeLimits c
    → (File.asks_change (change_name c) w ≡ 0) × (File.change_of (change_name c) w ≡ c)
change_asked (Change.Add c) w e h = (number_asked (pos 0) highest (pos c) w e (omega ints) h, λ i. Change.Add (nat_abs (File.number_of (e i))))
change_asked (Change.Sub c) w e h = (number_asked (pos 0) highest (pos c) w e (omega ints) h, λ i. Change.Sub (nat_abs (File.number_of (e i))))
change_asked (Change.Mul c) w e (l, h) = (number_asked (pos 1) highest (pos c) w e (omega ints) h, λ i. Change.Mul (nat_abs (File.number_of (e i))))
change_asked (Change.Div c) w e (l, h) = (number_asked (pos 1) highest (pos c) w e (omega ints) h, λ i. Change.Div (nat_abs (File.number_of (e i))))

change_short : (c : Change) → ChangeLimits c → TwentyDigits (change_number c)
unfolding highest
change_short (Change.Add c) h = omega (arith, leb→le c 1_000_000_000 h.le)
change_short (Change.Sub c) h = omega (arith, leb→le c 1_000_000_000 h.le)
change_short (Change.Mul c) (l, h) = omega (arith, leb→le c 1_000_000_000 h.le)
change_short (Change.Div c) (l, h) = omega (arith, leb→le c 1_000_000_000 h.le)

-- a row by its first word
row_by : (vars : ℕ) (n : Name) (ws : List (List ℕ))
    → File.row_of vars (name_text n ∷ ws) ≡ File.named_row vars (words_of (name_text n ∷ ws)) (λ i. parse (get_or (name_text n ∷ ws) i [])) n
unfolding File.row_of File.words_row words_of
row_by vars n ws = ap (File.first_word vars (words_of (name_text n ∷ ws)) (λ i. parse (get_or (name_text n ∷ ws) i []))) (name_reads n)

move_by : (vars : ℕ) (c : Change) (ws : List (List ℕ))
    → File.row_of vars (name_text (change_name c) ∷ ws) ≡ File.move_row vars (words_of (name_text (change_name c) ∷ ws)) (λ i. parse (get_or (name_text (change_name c) ∷ ws) i [])) (change_name c)
move_by vars (Change.Add c) ws = row_by vars Name.Add ws
move_by vars (Change.Sub c) ws = row_by vars Name.Sub ws
move_by vars (Change.Mul c) ws = row_by vars Name.Mul ws
move_by vars (Change.Div c) ws = row_by vars Name.Div ws

module _ (vars : ℕ) (h : vars ≤ 16) where
  variable_here : (v : ℕ) → v < vars → word_of (variable_text v) ≡ Variable v
  variable_here v l = variable_reads v (omega arith)

  expr_here : (x : Expr) → ExprLimits x → ExprBelow vars x → Shaped as_expression x → parse (expr_text x) ≡ parsed x []
  expr_here x l b s = expression_reads x (limits_short vars h x l b) s

  test_asked : (v : ℕ) (c : Comparison) (x : Expr) (w : ℕ → Word) (p : ℕ → Parsed) → w 1 ≡ Variable v → w 2 ≡ Compares c → p 3 ≡ parsed x [] → w 4 ≡ Missing
      → v < vars → SmallExpr x → ExprLimits x → ExprBelow vars x → File.asks_test vars w p ≡ 0
  unfolding File.asks_test
  test_asked v c x w p e f g k b m l d =
      zeros _ _ (variable_asked vars v (w 1) e b) (zeros _ _ (ap File.asks_comparison f) (zeros _ _ (expr_asked vars x (p 3) g m l d) (ap File.asks_end k)))

  pub row_reads : (k : RowKind) → RowLimits k → RowBelow vars k → Writable k → File.row_of vars (row_words k) ≡ Read k
  unfolding row_words words_of DecimalReads File.set_row File.move_row File.off_row File.cue_row File.bare_row File.while_row File.do_row File.for_row File.asks_for File.hold_row
  row_reads (Set v x) l (b, d) w =
      let e = variable_here v b in
      let f = expr_here x l d w.shaped in
      row_by vars Name.Set _ ∙ checked_reads _ _ _ (zeros _ _ (variable_asked vars v _ e b) (zeros _ _ (expr_asked vars x _ f w.small l d) refl))
      (λ i. Set (File.variable_of (e i)) (expr_in (f i)))
  row_reads (Move v c) l b w =
      let e = variable_here v b in
      let (a, s) = change_asked c _ (decimal_reads (change_number c) (change_short c l)) l in
      move_by vars c _ ∙ checked_reads _ _ _ (zeros _ _ (variable_asked vars v _ e b) (zeros _ _ a refl)) (λ i. Move (File.variable_of (e i)) (s i))
  row_reads (Off v u c k) (l, m) (b, d) w =
      let e = variable_here v b in
      let f = variable_here u d in
      let g = comparison_reads c in
      let n = number_reads k (limit_short k (l, m)) in
      row_by vars Name.Off _ ∙ checked_reads _ _ _
      (zeros _ _ (variable_asked vars v _ e b) (zeros _ _ (variable_asked vars u _ f d)
      (zeros _ _ (ap File.asks_ordered g ∙ cond_true (ordered (sort c)) 0 3 w.ordered) (zeros _ _ (number_asked lowest highest k _ n l m) refl))))
      (λ i. Off (File.variable_of (e i)) (File.variable_of (f i)) (File.comparison_of (g i)) (File.number_of (n i)))
  row_reads (Cue n) l b w =
      let e = decimal_reads n (omega arith) in
      row_by vars Name.Cue _ ∙ checked_reads _ _ _ (zeros _ _ (number_asked (pos 0) (pos 9_999) (pos n) _ e (omega ints) (omega ints)) refl) (λ i. Cue (nat_abs (File.number_of (e i))))
  row_reads Pick l b w = row_by vars Name.Pick _ ∙ checked_reads _ _ _ refl refl
  row_reads Else l b w = row_by vars Name.Else _ ∙ checked_reads _ _ _ refl refl
  row_reads End l b w = row_by vars Name.End _ ∙ checked_reads _ _ _ refl refl
  row_reads (While v c x) l (b, d) w =
      let e = variable_here v b in
      let g = comparison_reads c in
      let f = expr_here x l d w.shaped in
      row_by vars Name.While _ ∙ checked_reads _ _ _ (test_asked v c x _ _ e g f refl b w.small l d) (λ i. While (File.variable_of (e i)) (File.comparison_of (g i)) (expr_in (f i)))
  row_reads (Do v c x) l (b, d) w =
      let e = variable_here v b in
      let g = comparison_reads c in
      let f = expr_here x l d w.shaped in
      row_by vars Name.Do _ ∙ checked_reads _ _ _ (test_asked v c x _ _ e g f refl b w.small l d) (λ i. Do (File.variable_of (e i)) (File.comparison_of (g i)) (expr_in (f i)))
  row_reads (For v s c x d) (l, m, n) (b, y, z) w =
      let e = variable_here v b in
      let p = expr_here s l y w.shaped.0 in
      let g = comparison_reads c in
      let q = expr_here x m z w.shaped.1 in
      let r = name_reads (change_name d) in
      let (a, t) = change_asked d _ (decimal_reads (change_number d) (change_short d n)) n in
      row_by vars Name.For _ ∙ checked_reads _ _ _
      (zeros _ _ (variable_asked vars v _ e b) (zeros _ _ (expr_asked vars s _ p w.small.0 l y) (zeros _ _ (ap File.asks_comparison g) (zeros _ _ (expr_asked vars x _ q w.small.1 m z)
      (zeros _ _ (ap (λ o. File.asks_step o (word_of (decimal (change_number d)))) r ∙ a) refl)))))
      ((λ i. For (File.variable_of (e i)) (expr_in (p i)) (File.comparison_of (g i)) (expr_in (q i)) (File.step_of (r i) (word_of (decimal (change_number d))))) ∙ ap (For v s c x) t)
  row_reads (Hold v) b d w =
      let e = variable_here v d in
      row_by vars Name.Hold _ ∙ checked_reads _ _ _ (zeros _ _ (variable_asked vars v _ e d) refl) (λ i. Hold (File.variable_of (e i)))

  -- ---- no byte of them is a space or LF
  variable_clear : (v : ℕ) → v < vars → T (above 32 (variable_text v))
  variable_clear v l = variable_above v (omega arith)

  expr_clear : (x : Expr) → ExprLimits x → ExprBelow vars x → T (above 32 (expr_text x))
  expr_clear x l b = expression_above x (limits_short vars h x l b)

  pub row_clear : (k : RowKind) → RowLimits k → RowBelow vars k → All (λ s. T (above 32 s)) (row_words k)
  unfolding row_words
  row_clear (Set v x) l (b, d) = some (name_above Name.Set) (some (variable_clear v b) (some (expr_clear x l d) none))
  row_clear (Move v c) l b = some (name_above (change_name c)) (some (variable_clear v b) (some (decimal_above (change_number c) (change_short c l)) none))
  row_clear (Off v u c k) l (b, d) = some (name_above Name.Off) (some (variable_clear v b) (some (variable_clear u d) (some (comparison_above c) (some (number_above k (limit_short k l)) none))))
  row_clear (Cue n) l b = some (name_above Name.Cue) (some (decimal_above n (omega arith)) none)
  row_clear Pick l b = some (name_above Name.Pick) none
  row_clear Else l b = some (name_above Name.Else) none
  row_clear End l b = some (name_above Name.End) none
  row_clear (While v c x) l (b, d) = some (name_above Name.While) (some (variable_clear v b) (some (comparison_above c) (some (expr_clear x l d) none)))
  row_clear (Do v c x) l (b, d) = some (name_above Name.Do) (some (variable_clear v b) (some (comparison_above c) (some (expr_clear x l d) none)))
  row_clear (For v s c x d) (l, m, n) (b, y, z) =
      some (name_above Name.For) (some (variable_clear v b) (some (expr_clear s l y) (some (comparison_above c) (some (expr_clear x m z)
      (some (name_above (change_name d)) (some (decimal_above (change_number d) (change_short d n)) none))))))
  row_clear (Hold v) l b = some (name_above Name.Hold) (some (variable_clear v b) none)
