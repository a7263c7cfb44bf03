-- Laws of a row's words. Assumes nothing.
use mathlib.Core.Path.{◌≡◌, refl, sym, ap, ◌∙◌}
use mathlib.Core.Bool.{Bool, true, false, cond}
use mathlib.Core.List.{List, [], ◌∷◌}
use Prim.Native.Nat.{ℕ, zero, suc, ◌+◌, ◌-◌, ◌≤◌, ◌<◌}
use native.Mathlib.Omega.{arith}
use lib.Dec.{ltb}
use lib.IntN.{ℤ}
use lib.ListN.{length, get_or, take, drop, length-drop}
use lib.Seq.{drop-drop}
use borrow.Author.Tests.{ltb-true, ltb-false}
use Rattle.rules.specs.declared.Comparison.{Comparison}
use Rattle.rules.specs.declared.Kind.{Kind}
use Rattle.rules.specs.declared.Name.{Name}
use Rattle.rules.specs.declared.Operand.{Operand}
use Rattle.rules.specs.declared.Word.{Word}
use Rattle.rules.specs.declared.Word.TheVariants.{Missing, Number, Variable, Compares, Keyword, Other}
use Rattle.rules.specs.Blocks.{RowKind, expr_of, kind_of}
use Rattle.rules.specs.Expressions.{constant, variable, group, apply}
use Rattle.rules.specs.Text.{word_of, words_of}
use Rattle.rules.specs.Parse.{Parsed, parsed, shapeless, parse, expr_in, depth, operators}
use Rattle.rules.specs.Values.{lowest, highest}
use Rattle.rules.specs.Written.{Composed, InText, WrittenOperand, Written}
use Rattle.rules.specs.File.{RowRead, Read, Wrong, first_refusal, asks_end, asks_number, asks_variable, asks_size, asks_leaves, asks_expr, asks_step, asks_test, asks_for, checked, variable_of, comparison_of, while_row, do_row, named_row, first_word, words_row, row_of}
use Rattle.rules.proofs.ReadLegal.{refusal_yes}
use Rattle.reader.proofs.Bare.{bare, bare_in}
use Rattle.reader.proofs.Words.{Alone, alone}
use Rattle.reading.specs.declared.text.LineWords.{LineWords}
use Rattle.reading.specs.Words.{cut_word, parts, following, spelling, line_word, line_text, LineRead}
use Rattle.reading.proofs.Cut.{lowest_below, cut_number, cut_number_of, cut_variable, cut_variable_of, row_cut}
use Rattle.std.specs.Prelude.{Result, Ok, Err}
use Rattle.reading.specs.declared.order.LineQuestion.{LineQuestion}
use Rattle.reading.specs.Answers.{question_number}
use Rattle.reader.specs.declared.rows.RowLine.{RowLine}
use Rattle.reader.specs.Rows.{Bare, Rowed, TextRow, RowAt}
use Rattle.reading.specs.Meaning.{line_expr, Means, Meant, Small, operand_at, line_operand, OperandFits}
use Rattle.reading.proofs.WordsLaws.{small_variable, none_asks, parse_none}

-- a row's line, whose questions are asked: Q of its words, q by code
module _ (s : List ℕ) (base end q Q : ℕ) (r : RowKind) (e : q ≡ Q) where
  pub line_read : (k : Kind) → q ≡ 0 → ((file : List ℕ) → drop base file ≡ s → (kind_of file k ≡ r) × Written file k) → Rowed s base (checked Q r) end (Ok (record { kind = k; end = end }))
  unfolding checked
  line_read k z f = record { line = λ file d. rw (sym e ∙ z) (ap Read (f file d).0); written = λ file d. (f file d).1; ends = refl }

  pub line_wrong : (x : LineQuestion) → q ≡ question_number x → Rowed s base (checked Q r) end (Err x)
  unfolding checked
  line_wrong x w = record { line = λ file d. rw (sym e ∙ w) (no x); written = λ file d. tt; ends = tt }
    where
      no : (x : LineQuestion) → Wrong (question_number x) ≡ checked (question_number x) r
      no LineQuestion.Shape = refl
      no LineQuestion.Size = refl
      no LineQuestion.Limits = refl
      no LineQuestion.Variable = refl

-- a row's words, whose questions all have yes: of two words, of a test, of four words, of a for
pub two_yes : (a b c q : ℕ) → q ≡ first_refusal a (first_refusal b c) → q ≡ 0 → (a ≡ 0) × (b ≡ 0) × (c ≡ 0)
two_yes a b c q e z =
    let (f, g) = refusal_yes _ _ (sym e ∙ z) in
    let (h, i) = refusal_yes _ _ g in
    (f, h, i)

pub test_yes : (vars : ℕ) (w : ℕ → Word) (x : ℕ → Parsed) (q : ℕ) → q ≡ asks_test vars w x → q ≡ 0 → (asks_variable vars (w 1) ≡ 0) × (asks_expr vars (x 3) ≡ 0) × (asks_end (w 4) ≡ 0)
unfolding asks_test
test_yes vars w x q e z =
    let (a, _, b) = two_yes _ _ _ q e z in
    let (c, d) = refusal_yes _ _ b in
    (a, c, d)

pub four_yes : (a b c d e q : ℕ) → q ≡ first_refusal a (first_refusal b (first_refusal c (first_refusal d e))) → q ≡ 0 → (a ≡ 0) × (b ≡ 0) × (e ≡ 0)
four_yes a b c d e q h z =
    let (f, g, i) = two_yes _ _ _ q h z in
    let (_, j) = refusal_yes _ _ i in
    (f, g, (refusal_yes _ _ j).1)

pub for_yes : (vars : ℕ) (w : ℕ → Word) (x : ℕ → Parsed) (q : ℕ) → q ≡ asks_for vars w x → q ≡ 0
    → (asks_variable vars (w 1) ≡ 0) × (asks_expr vars (x 2) ≡ 0) × (asks_expr vars (x 4) ≡ 0) × (asks_step (w 5) (w 6) ≡ 0) × (asks_end (w 7) ≡ 0)
unfolding asks_for
for_yes vars w x q e z =
    let (a, b, c) = two_yes _ _ _ q e z in
    let (_, d) = refusal_yes _ _ c in
    let (f, g) = refusal_yes _ _ d in
    let (h, i) = refusal_yes _ _ g in
    (a, b, f, h, i)

-- ---- a word, and what is read of it as an expression
constant_asks : (vars : ℕ) (z : ℤ) → asks_expr vars (parsed (constant z) []) ≡ asks_number lowest highest (Number z)
unfolding first_refusal asks_size asks_leaves depth operators
constant_asks vars z = refl

variable_asks : (vars v : ℕ) → asks_expr vars (parsed (variable v) []) ≡ asks_variable vars (Variable v)
unfolding first_refusal asks_size asks_leaves depth operators
variable_asks vars v = refl

-- neither a constant nor a variable alone
neither : (vars : ℕ) (p : Parsed) → bare_in p ≡ shapeless → asks_expr vars p ≡ 0 → Composed (expr_in p)
unfolding bare_in bare Composed
neither vars (parsed (constant k) s) e z = let y : ◌≡◌ {A = ℕ} 0 1 = cc in omega arith
neither vars (parsed (variable v) s) e z = let y : ◌≡◌ {A = ℕ} 0 1 = cc in omega arith
neither vars (parsed (group x) s) e z = tt
neither vars (parsed (apply o x y) s) e z = tt
neither vars shapeless e z = absurd (omega arith)

by_word : (vars : ℕ) → vars ≤ 16 → (w : Word) (p : Parsed) → Alone w p → Means vars (cut_word w) p
unfolding cut_word
by_word vars few Missing p e = neither vars p e
by_word vars few (Number z) p e =
    let f : asks_expr vars p ≡ asks_number lowest highest (Number z) = rw e (constant_asks vars z) in
    (f ∙ sym (cut_number lowest highest (Number z) lowest_below), λ h. ap expr_in e ∙ ap constant (sym (cut_number_of lowest highest (Number z) lowest_below (sym f ∙ h))))
by_word vars few (Variable v) p e =
    let f : asks_expr vars p ≡ asks_variable vars (Variable v) = rw e (variable_asks vars v) in
    (f ∙ sym (cut_variable vars (Variable v) few), λ h. ap expr_in e ∙ ap variable (sym (cut_variable_of vars (Variable v) few (sym f ∙ h))))
by_word vars few (Compares c) p e = neither vars p e
by_word vars few (Keyword n) p e = neither vars p e
by_word vars few Other p e = neither vars p e

means_of : (vars : ℕ) → vars ≤ 16 → (texts : List (List ℕ)) (k : ℕ) → Means vars (cut_word (words_of texts k)) (parse (get_or texts k []))
unfolding words_of
means_of vars few [] k = by_word vars few Missing (parse []) (unfold bare_in in rw parse_none)
means_of vars few (w ∷ ws) zero = by_word vars few (word_of w) (parse w) (alone w)
means_of vars few (w ∷ ws) (suc k) = means_of vars few ws k

-- of each word of a line
pub meant : (s : List ℕ) (at vars : ℕ) (l : LineWords) → vars ≤ 16 → LineRead s at l → Meant s vars l
unfolding following spelling
meant s at vars l few r = record { few = few; means = λ k h. rw (r.word k h, r.text k h) (means_of vars few (parts (drop at s)) k); long = r.long }

-- a word of a line of the text s, which begins at a file's byte `base`, that has passed as an expression
module _ {s : List ℕ} {vars : ℕ} {l : LineWords} (m : Meant s vars l) (k : ℕ) (h : k < 8) (base : ℕ) (z : asks_expr vars (line_expr s l k) ≡ 0) where
  abbrev from : ℕ
  from = get_or l.ends k 0

  abbrev to : ℕ
  to = get_or l.ends (k + 1) 0

  some : from < to
  some = go (ltb from to) refl
    where
      go : (b : Bool) → ltb from to ≡ b → from < to
      go true e = ltb-true from to e
      go false e = absurd (omega (arith, z, none_asks s from to vars (ltb-false from to e)))

  small : (x : Word) → Means vars x (line_expr s l k) → Small x
  small Missing n = tt
  small (Number y) n = tt
  small (Variable v) n = small_variable vars v m.few (sym n.0 ∙ z)
  small (Compares c) n = tt
  small (Keyword n) o = tt
  small Other n = tt

  pub operand_fits : base + length s ≤ 16_384 → OperandFits base l k
  operand_fits e = record { some = some; place = omega (arith, m.long k h); small = small (line_word l k) (m.means k h) }

  module _ (file : List ℕ) (e : drop base file ≡ s) where
    same_text : take (to - (from + 1)) (drop (base + (from + 1)) file) ≡ line_text s l k
    same_text = ap (take (to - (from + 1))) (sym (drop-drop (from + 1) base file) ∙ ap (drop (from + 1)) e)

    in_text : Composed (expr_in (line_expr s l k)) → InText file (base + (from + 1)) (to - (from + 1))
    in_text c = record {
      within = omega (arith, some, m.long k h, ap length e, length-drop base file);
      passed = record { vars = vars; few = m.few; asks = rw same_text z };
      composed = rw same_text c;
    }

    -- it says what it is read as, and stands in the file
    says : (x : Word) → Means vars x (line_expr s l k) → (expr_of file (operand_at base from to x) ≡ expr_in (line_expr s l k)) × WrittenOperand file (operand_at base from to x)
    unfolding expr_of
    says Missing n = (ap (λ t. expr_in (parse t)) same_text, in_text (n z))
    says (Number y) n = (sym (n.1 z), tt)
    says (Variable v) n = (sym (n.1 z), tt)
    says (Compares c) n = (ap (λ t. expr_in (parse t)) same_text, in_text (n z))
    says (Keyword n) o = (ap (λ t. expr_in (parse t)) same_text, in_text (o z))
    says Other n = (ap (λ t. expr_in (parse t)) same_text, in_text (n z))

    pub operand_says : (x : Operand) → x ≡ line_operand base l k → (expr_of file x ≡ expr_in (line_expr s l k)) × WrittenOperand file x
    operand_says x f = rw f (says (line_word l k) (m.means k h))

-- a row without words says the same in each text
pub bare_says : (k : Kind) → Bare k → (file : List ℕ) → (kind_of file k ≡ kind_of [] k) × Written file k
unfolding kind_of
bare_says Kind.End b file = (refl, tt)
bare_says Kind.Else b file = (refl, tt)
bare_says Kind.Pick b file = (refl, tt)
bare_says (Kind.Set v x) b file = absurd b
bare_says (Kind.Move v c) b file = absurd b
bare_says (Kind.Off v w c k) b file = absurd b
bare_says (Kind.Cue n) b file = absurd b
bare_says (Kind.While v c x) b file = absurd b
bare_says (Kind.Do v c x) b file = absurd b
bare_says (Kind.For v s c x d) b file = absurd b
bare_says (Kind.Hold v) b file = absurd b

-- a loop with a test
module _ (s : List ℕ) (base end : ℕ) (after : Bool) (vars : ℕ) (w : ℕ → Word) (ex : ℕ → Parsed) (q : ℕ) (e : q ≡ asks_test vars w ex) where
  abbrev the_row : RowRead
  the_row = cond after (do_row vars w ex) (while_row vars w ex)

  pub test_read : (k : Kind) (v : ℕ) (c : Comparison) (x : Operand) → q ≡ 0 → k ≡ cond after (Kind.Do v c x) (Kind.While v c x)
      → v ≡ variable_of (w 1) → c ≡ comparison_of (w 2) → ((file : List ℕ) → drop base file ≡ s → (expr_of file x ≡ expr_in (ex 3)) × WrittenOperand file x) → Rowed s base the_row end (Ok (record { kind = k; end = end }))
  unfolding do_row while_row kind_of
  test_read k v c x z f a b i = go after f
    where
      go : (t : Bool) → k ≡ cond t (Kind.Do v c x) (Kind.While v c x) → Rowed s base (cond t (do_row vars w ex) (while_row vars w ex)) end (Ok (record { kind = k; end = end }))
      go true g = rw g (line_read s base end q _ _ e _ z λ file d. let (h, j) = i file d in (rw (a, b, h), j))
      go false g = rw g (line_read s base end q _ _ e _ z λ file d. let (h, j) = i file d in (rw (a, b, h), j))

  pub test_wrong : (x : LineQuestion) → q ≡ question_number x → Rowed s base the_row end (Err x)
  unfolding do_row while_row
  test_wrong x n = go after
    where
      go : (t : Bool) → Rowed s base (cond t (do_row vars w ex) (while_row vars w ex)) end (Err x)
      go true = line_wrong s base end q _ _ e x n
      go false = line_wrong s base end q _ _ e x n

-- a first word that is no keyword
first_other : (vars : ℕ) (w : ℕ → Word) (x : ℕ → Parsed) (y : Word) → ((n : Name) → y ≡ Keyword n → ⊥) → Wrong 3 ≡ first_word vars w x y
first_other vars w x Missing o = refl
first_other vars w x (Number z) o = refl
first_other vars w x (Variable v) o = refl
first_other vars w x (Compares c) o = refl
first_other vars w x (Keyword n) o = absurd (o n refl)
first_other vars w x Other o = refl

-- the row of a line
module _ (s : List ℕ) (at base vars : ℕ) (l : LineWords) (few : vars ≤ 16) (read : LineRead s at l) where
  whole : words_row vars (line_word l) (line_expr s l) ≡ row_of vars (parts (drop at s))
  unfolding row_of following spelling
  whole = row_cut vars (line_word l) (following (drop at s)) (line_expr s l) _ few read.word (λ k h. ap parse (read.text k h))

  pub row_other : (x : Word) → x ≡ line_word l 0 → ((n : Name) → x ≡ Keyword n → ⊥) → RowAt s at base vars (Err LineQuestion.Shape)
  unfolding words_row
  row_other x e o = record { line = λ file d. first_other vars (line_word l) (line_expr s l) x o ∙ ap (first_word vars (line_word l) (line_expr s l)) e ∙ whole; written = λ file d. tt; ends = tt }

  pub row_named : (x : Word) → x ≡ line_word l 0 → (name : Name) (r : Result RowLine LineQuestion) → x ≡ Keyword name → TextRow s base l (λ w y. named_row vars w y name) r → RowAt s at base vars r
  unfolding words_row
  row_named x e name r f t =
      let same : named_row vars (line_word l) (line_expr s l) name ≡ row_of vars (parts (drop at s)) = ap (first_word vars (line_word l) (line_expr s l)) (sym f ∙ e) ∙ whole in
      rw (← same, ← read.end) t
