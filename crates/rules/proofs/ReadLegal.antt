-- A file that is read is legal: what the questions 2 to 7 give of its script.
use mathlib.Core.Path.{◌≡◌, refl, sym, ◌∙◌, ap, subst}
use mathlib.Core.Bool.{Bool, true, false, cond, ◌&&◌}
use mathlib.Core.List.{List, [], ◌∷◌, ◌++◌}
use Prim.Native.Nat.{ℕ, zero, suc, ◌+◌, ◌≤◌, ◌<◌}
use native.Mathlib.Omega.{arith}
use lib.Dec.{T, leb, ltb, ltb→lt}
use lib.IntN.{ℤ, pos, nat_abs}
use borrow.Author.Tests.{leb-true}
use lib.Signed.{le_z, le_z_yes, ◌≤ℤ◌}
use lib.ListN.{length, get_or, length-append}
use Rattle.ints.proofs.Parts.{ints, abs_up}
use Rattle.ints.proofs.Diffs.{both}
use Rattle.rules.specs.Blocks.{RowKind, view_of}
use Rattle.rules.specs.declared.Name.{Name}
use Rattle.rules.specs.declared.Word.{Word}
use Rattle.rules.specs.declared.Word.TheVariants.{Missing, Number, Variable, Compares, Keyword, Other}
use Rattle.rules.specs.Values.{lowest, highest}
use Rattle.rules.specs.Nesting.{Open, Nest, Nested, nested, wrong, nest, nest_row, and_rows, nest_rows}
use Rattle.rules.specs.Ranges.{Range}
use Rattle.rules.specs.Scripts.{All, none, some, Script, ExprLimits, ChangeLimits, RowLimits, RangeLimits, ExprBelow, RowBelow, Legal}
use Rattle.rules.specs.Expressions.{Expr, constant, variable, group, apply}
use Rattle.rules.specs.Text.{lf, split, words_of, next_texts, next_words, next_lines}
use Rattle.rules.specs.Parse.{Parsed, parsed, shapeless, parse, expr_in}
use Rattle.rules.specs.File
use Rattle.rules.specs.File.{RowRead, Read, Wrong}

-- a number is not 0 and a question too
pub no_zero : {A : Type 0} (q : ℕ) → suc q ≡ 0 → A
no_zero q e = absurd (omega arith)

-- of two questions that have yes
pub refusal_yes : (p q : ℕ) → File.first_refusal p q ≡ 0 → (p ≡ 0) × (q ≡ 0)
unfolding File.first_refusal
refusal_yes zero q e = (refl, e)
refusal_yes (suc p) zero e = no_zero p e
refusal_yes (suc p) (suc q) e = go (leb (File.turn_of (suc p)) (File.turn_of (suc q))) e
  where
    go : (b : Bool) → cond b (suc p) (suc q) ≡ 0 → (suc p ≡ 0) × (suc q ≡ 0)
    go true h = no_zero p h
    go false h = no_zero q h

pub yes_of : (b : Bool) (q : ℕ) → cond b 0 (suc q) ≡ 0 → T b
yes_of true q e = tt
yes_of false q e = no_zero q e

-- what a word that passes its question says
pub number_yes : (lo hi : ℤ) (w : Word) → File.asks_number lo hi w ≡ 0 → (lo ≤ℤ File.number_of w) × (File.number_of w ≤ℤ hi)
number_yes lo hi Missing e = no_zero _ e
number_yes lo hi (Number z) e = let (a, b) = both (le_z lo z) (le_z z hi) (yes_of (le_z lo z && le_z z hi) 3 e) in (le_z_yes a, le_z_yes b)
number_yes lo hi (Variable v) e = no_zero _ e
number_yes lo hi (Compares c) e = no_zero _ e
number_yes lo hi (Keyword n) e = no_zero _ e
number_yes lo hi Other e = no_zero _ e

pub variable_yes : (vars : ℕ) (w : Word) → File.asks_variable vars w ≡ 0 → File.variable_of w < vars
variable_yes vars Missing e = no_zero _ e
variable_yes vars (Number z) e = no_zero _ e
variable_yes vars (Variable v) e = ltb→lt v vars (yes_of (ltb v vars) 4 e)
variable_yes vars (Compares c) e = no_zero _ e
variable_yes vars (Keyword n) e = no_zero _ e
variable_yes vars Other e = no_zero _ e

leaves_yes : (vars : ℕ) (x : Expr) → File.asks_leaves vars x ≡ 0 → ExprLimits x × ExprBelow vars x
unfolding File.asks_leaves ExprLimits ExprBelow
leaves_yes vars (constant z) e =
    let (a, b) = both (le_z lowest z) (le_z z highest) (yes_of (le_z lowest z && le_z z highest) 3 e) in ((le_z_yes a, le_z_yes b), tt)
leaves_yes vars (variable v) e = (tt, ltb→lt v vars (yes_of (ltb v vars) 4 e))
leaves_yes vars (group x) e = leaves_yes vars x e
leaves_yes vars (apply o x y) e =
    let (a, b) = refusal_yes _ _ e in
    let (c, d) = leaves_yes vars x a in
    let (f, g) = leaves_yes vars y b in
    ((c, f), (d, g))

pub expr_yes : (vars : ℕ) (p : Parsed) → File.asks_expr vars p ≡ 0 → ExprLimits (expr_in p) × ExprBelow vars (expr_in p)
expr_yes vars (parsed x s) e = leaves_yes vars x (refusal_yes _ _ e).1
expr_yes vars shapeless e = no_zero _ e

-- a number not below k, as a natural number
pub amount_yes : (k : ℕ) (hi : ℤ) (w : Word) → File.asks_number (pos k) hi w ≡ 0 → (k ≤ nat_abs (File.number_of w)) × (pos (nat_abs (File.number_of w)) ≤ℤ hi)
amount_yes k hi w e = let (a, b) = number_yes (pos k) hi w e in let f = abs_up a in (omega arith, omega ints)

pub change_yes : (n : Name) (w : Word) → File.asks_change n w ≡ 0 → ChangeLimits (File.change_of n w)
change_yes Name.Set w e = no_zero _ e
change_yes Name.Add w e = (amount_yes 0 highest w e).1
change_yes Name.Sub w e = (amount_yes 0 highest w e).1
change_yes Name.Mul w e = amount_yes 1 highest w e
change_yes Name.Div w e = amount_yes 1 highest w e
change_yes Name.Off w e = no_zero _ e
change_yes Name.Cue w e = no_zero _ e
change_yes Name.Pick w e = no_zero _ e
change_yes Name.Else w e = no_zero _ e
change_yes Name.End w e = no_zero _ e
change_yes Name.While w e = no_zero _ e
change_yes Name.Do w e = no_zero _ e
change_yes Name.For w e = no_zero _ e
change_yes Name.Hold w e = no_zero _ e

pub step_yes : (x w : Word) → File.asks_step x w ≡ 0 → ChangeLimits (File.step_of x w)
step_yes Missing w e = no_zero _ e
step_yes (Number z) w e = no_zero _ e
step_yes (Variable v) w e = no_zero _ e
step_yes (Compares c) w e = no_zero _ e
step_yes (Keyword n) w e = change_yes n w e
step_yes Other w e = no_zero _ e

-- a row inside its limits, with its variables below V
abbrev Limited : ℕ → RowKind → Type 0
Limited vars k = RowLimits k × RowBelow vars k

pub wrong_not : {A : Type 0} (q : ℕ) (k : RowKind) → Wrong q ≡ Read k → A
wrong_not q k e = absurd (let z : ◌≡◌ {A = ℕ} 0 1 = cc in omega arith)

-- a row that is read: its questions have yes
pub checked_yes : (Q : RowKind → Type 0) (q : ℕ) (r k : RowKind) → File.checked q r ≡ Read k → (q ≡ 0 → Q r) → Q k
unfolding File.checked
checked_yes Q zero r k e f = subst Q (let h : r ≡ k = cc in h) (f refl)
checked_yes Q (suc q) r k e f = wrong_not _ k e

module _ (vars : ℕ) (w : ℕ → Word) (x : ℕ → Parsed) where
  move_fine : (n : Name) (k : RowKind) → File.move_row vars w x n ≡ Read k → Limited vars k
  unfolding File.move_row
  move_fine n k e = checked_yes (Limited vars) _ _ k e λ h.
      let (a, b) = refusal_yes _ _ h in
      let (c, _) = refusal_yes _ _ b in
      (change_yes n (w 2) c, variable_yes vars (w 1) a)

  test_fine : File.asks_test vars w x ≡ 0 → (File.variable_of (w 1) < vars) × ExprLimits (expr_in (x 3)) × ExprBelow vars (expr_in (x 3))
  unfolding File.asks_test
  test_fine h =
      let (a, b) = refusal_yes _ _ h in
      let (_, d) = refusal_yes _ _ b in
      let (e, _) = refusal_yes _ _ d in
      let (f, g) = expr_yes vars (x 3) e in
      (variable_yes vars (w 1) a, f, g)

  bare_fine : (r k : RowKind) → Limited vars r → File.bare_row vars w x r ≡ Read k → Limited vars k
  unfolding File.bare_row
  bare_fine r k f e = checked_yes (Limited vars) _ r k e (λ _. f)

  named_fine : (n : Name) (k : RowKind) → File.named_row vars w x n ≡ Read k → Limited vars k
  unfolding File.set_row File.cue_row File.while_row File.do_row File.for_row File.asks_for File.off_row File.hold_row
  named_fine Name.Set k e = checked_yes (Limited vars) _ _ k e λ h.
      let (a, b) = refusal_yes _ _ h in
      let (c, _) = refusal_yes _ _ b in
      let (f, g) = expr_yes vars (x 2) c in
      (f, (variable_yes vars (w 1) a, g))
  named_fine Name.Add k e = move_fine Name.Add k e
  named_fine Name.Sub k e = move_fine Name.Sub k e
  named_fine Name.Mul k e = move_fine Name.Mul k e
  named_fine Name.Div k e = move_fine Name.Div k e
  named_fine Name.Off k e = checked_yes (Limited vars) _ _ k e λ h.
      let (a, b) = refusal_yes _ _ h in
      let (c, d) = refusal_yes _ _ b in
      let (_, f) = refusal_yes _ _ d in
      let (g, _) = refusal_yes _ _ f in
      (number_yes lowest highest (w 4) g, (variable_yes vars (w 1) a, variable_yes vars (w 2) c))
  named_fine Name.Hold k e = checked_yes (Limited vars) _ _ k e λ h. let (a, _) = refusal_yes _ _ h in (tt, variable_yes vars (w 1) a)
  named_fine Name.Cue k e = checked_yes (Limited vars) _ _ k e λ h. let (a, _) = refusal_yes _ _ h in (omega (ints, (amount_yes 0 (pos 9_999) (w 1) a).1), tt)
  named_fine Name.Pick k e = bare_fine RowKind.Pick k (tt, tt) e
  named_fine Name.Else k e = bare_fine RowKind.Else k (tt, tt) e
  named_fine Name.End k e = bare_fine RowKind.End k (tt, tt) e
  named_fine Name.While k e = checked_yes (Limited vars) _ _ k e λ h. let (a, b, c) = test_fine h in (b, (a, c))
  named_fine Name.Do k e = checked_yes (Limited vars) _ _ k e λ h. let (a, b, c) = test_fine h in (b, (a, c))
  named_fine Name.For k e = checked_yes (Limited vars) _ _ k e λ h.
      let (a, b) = refusal_yes _ _ h in
      let (c, d) = refusal_yes _ _ b in
      let (_, f) = refusal_yes _ _ d in
      let (g, i) = refusal_yes _ _ f in
      let (j, _) = refusal_yes _ _ i in
      let (sl, sb) = expr_yes vars (x 2) c in
      let (xl, xb) = expr_yes vars (x 4) g in
      ((sl, xl, step_yes (w 5) (w 6) j), (variable_yes vars (w 1) a, sb, xb))

  first_fine : (y : Word) (k : RowKind) → File.first_word vars w x y ≡ Read k → Limited vars k
  first_fine Missing k e = wrong_not 3 k e
  first_fine (Number z) k e = wrong_not 3 k e
  first_fine (Variable v) k e = wrong_not 3 k e
  first_fine (Compares c) k e = wrong_not 3 k e
  first_fine (Keyword n) k e = named_fine n k e
  first_fine Other k e = wrong_not 3 k e

pub row_fine : (vars : ℕ) (texts : List (List ℕ)) (k : RowKind) → File.row_of vars texts ≡ Read k → RowLimits k × RowBelow vars k
unfolding File.row_of File.words_row
row_fine vars texts k e = first_fine vars (words_of texts) (λ i. parse (get_or texts i [])) (words_of texts 0) k e

pub refused_not : {A B : Type 0} (q p : ℕ) (x : A) (ls : List (List ℕ)) → File.refused q p ≡ File.read x ls → B
refused_not q p x ls e = absurd (let z : ◌≡◌ {A = ℕ} 0 1 = cc in omega arith)

-- a question that has yes, and what follows it
pub unless_yes : {A : Type 0} (q p : ℕ) (r : File.Reading A) (x : A) (ls : List (List ℕ)) → File.unless q p r ≡ File.read x ls → (q ≡ 0) × (r ≡ File.read x ls)
unfolding File.unless
unless_yes zero p r x ls e = (refl, e)
unless_yes (suc q) p r x ls e = refused_not _ p x ls e

-- what was read first
pub data First {A B : Type 0} (r : File.Reading A) (k : A → List (List ℕ) → File.Reading B) (y : B) (ms : List (List ℕ)) : Type 0 where
  first : (x : A) (ls : List (List ℕ)) → r ≡ File.read x ls → k x ls ≡ File.read y ms → First r k y ms

pub then_yes : {A B : Type 0} (r : File.Reading A) (k : A → List (List ℕ) → File.Reading B) (y : B) (ms : List (List ℕ)) → File.then_lines r k ≡ File.read y ms → First r k y ms
unfolding File.then_lines
then_yes (File.read x ls) k y ms e = first x ls refl e
then_yes (File.refused q p) k y ms e = refused_not q p y ms e

all_snoc : {A : Type 0} {Q : A → Type 0} (l : List A) (x : A) → All Q l → Q x → All Q (l ++ (x ∷ []))
all_snoc [] x none q = some q none
all_snoc (y ∷ l) x (some p a) q = some p (all_snoc l x a q)

-- the ranges
range_fine : (w : ℕ → Word) → File.asks_range w ≡ 0 → RangeLimits (File.range_words w)
unfolding File.asks_range File.range_words File.asks_order
range_fine w h =
    let (a, b) = refusal_yes _ _ h in
    let (c, d) = refusal_yes _ _ b in
    let (_, f) = refusal_yes _ _ d in
    ((number_yes lowest highest (w 0) a).0, le_z_yes (yes_of (le_z (File.number_of (w 0)) (File.number_of (w 1))) 3 f), (number_yes lowest highest (w 1) c).1)

ranges_fine : (n p : ℕ) (ls : List (List ℕ)) (done rs : List Range) (ms : List (List ℕ)) → All RangeLimits done
    → File.range_lines n p ls done ≡ File.read rs ms → All RangeLimits rs × (length rs ≡ length done + n)
unfolding File.range_lines
ranges_fine zero p ls done rs ms a e = let h : done ≡ rs = cc in (subst (All RangeLimits) h a, omega (arith, ap length h))
ranges_fine (suc n) p ls done rs ms a e =
    let w = next_words File.range_key ls in
    let (q, f) = unless_yes _ p _ rs ms e in
    let (g, l) = ranges_fine n (suc p) (next_lines ls) (done ++ (File.range_words w ∷ [])) rs ms (all_snoc done _ a (range_fine w q)) f in
    (g, omega (arith, length-append done (File.range_words w ∷ [])))

-- the rows
pub nest_snoc : (ks : List RowKind) (k : RowKind) (s : Nest) → nest_rows (ks ++ (k ∷ [])) s ≡ and_rows (nest_rows ks s) (nest_row (view_of k))
unfolding nest_rows and_rows
nest_snoc [] k s = last (nest_row (view_of k) s)
  where
    last : (n : Nested) → and_rows n (λ t. nest_rows [] t) ≡ n
    last (nested t) = refl
    last (wrong q) = refl
nest_snoc (j ∷ ks) k s = go (nest_row (view_of j) s) (λ t. nest_snoc ks k t)
  where
    go : (n : Nested) → ((t : Nest) → nest_rows (ks ++ (k ∷ [])) t ≡ and_rows (nest_rows ks t) (nest_row (view_of k)))
        → and_rows n (λ t. nest_rows (ks ++ (k ∷ [])) t) ≡ and_rows (and_rows n (λ t. nest_rows ks t)) (nest_row (view_of k))
    go (nested t) ih = ih t
    go (wrong q) ih = refl

-- the rows read so far
record Sound (vars : ℕ) (rows : File.Rows) : Type 0 where
  limits : All RowLimits rows.kinds
  below : All (RowBelow vars) rows.kinds
  nests : nest_rows rows.kinds (record { open_blocks = []; loops = 0 }) ≡ nested rows.nest

sound_more : (vars : ℕ) (rows : File.Rows) (k : RowKind) (s : Nest) → Sound vars rows → RowLimits k × RowBelow vars k → nest_row (view_of k) rows.nest ≡ nested s
    → Sound vars (record { kinds = rows.kinds ++ (k ∷ []); nest = s })
unfolding and_rows
sound_more vars rows k s h f e = record {
  limits = all_snoc rows.kinds k h.limits f.0;
  below = all_snoc rows.kinds k h.below f.1;
  nests = nest_snoc rows.kinds k _ ∙ ap (λ n. and_rows n (nest_row (view_of k))) h.nests ∙ e;
}

rows_fine : (vars n p : ℕ) (ls : List (List ℕ)) (done rows : File.Rows) (ms : List (List ℕ)) → Sound vars done
    → File.row_lines vars n p ls done ≡ File.read rows ms → Sound vars rows × (length rows.kinds ≡ length done.kinds + n)
unfolding File.row_lines File.row_line File.placed
rows_fine vars zero p ls done rows ms h e = let f : done ≡ rows = cc in (subst (Sound vars) f h, omega (arith, ap (λ (r : File.Rows). length r.kinds) f))
rows_fine vars (suc n) p ls done rows ms h e = by (File.row_of vars (next_texts File.row_key ls)) refl (λ r a g. rows_fine vars n (suc p) (next_lines ls) r rows ms a g) e
  where
    more : (k : RowKind) → File.row_of vars (next_texts File.row_key ls) ≡ Read k → (m : Nested) → nest_row (view_of k) done.nest ≡ m
        → ((r : File.Rows) → Sound vars r → File.row_lines vars n (suc p) (next_lines ls) r ≡ File.read rows ms → Sound vars rows × (length rows.kinds ≡ length r.kinds + n))
        → File.placed p done.kinds k m (λ r. File.row_lines vars n (suc p) (next_lines ls) r) ≡ File.read rows ms
        → Sound vars rows × (length rows.kinds ≡ length done.kinds + suc n)
    more k r (nested s) q ih f =
        let (a, b) = ih _ (sound_more vars done k s h (row_fine vars (next_texts File.row_key ls) k r) q) f in
        (a, omega (arith, length-append done.kinds (k ∷ [])))
    more k r (wrong c) q ih f = refused_not c p rows ms f

    by : (r : RowRead) → File.row_of vars (next_texts File.row_key ls) ≡ r
        → ((r : File.Rows) → Sound vars r → File.row_lines vars n (suc p) (next_lines ls) r ≡ File.read rows ms → Sound vars rows × (length rows.kinds ≡ length r.kinds + n))
        → File.row_line p done r (λ x. File.row_lines vars n (suc p) (next_lines ls) x) ≡ File.read rows ms
        → Sound vars rows × (length rows.kinds ≡ length done.kinds + suc n)
    by (Read k) r ih f = more k r (nest_row (view_of k) done.nest) refl ih f
    by (Wrong c) r ih f = refused_not c p rows ms f

-- a count
pub count_fine : (key : List ℕ) (most p : ℕ) (ls ms : List (List ℕ)) (n : ℕ) → File.count_line key most p ls ≡ File.read n ms → n ≤ most
unfolding File.count_line
count_fine key most p ls ms n e =
    let (q, f) = unless_yes _ p _ n ms e in
    let (a, _) = refusal_yes _ _ q in
    let h : nat_abs (File.number_of (next_words key ls 0)) ≡ n = cc in
    omega (ints, (amount_yes 0 (pos most) (next_words key ls 0) a).1, h)

closed_nest : (s : Nest) → File.asks_closed s.open_blocks ≡ 0 → nested s ≡ nest [] s.loops
unfolding File.asks_closed
closed_nest s h = go s.open_blocks s.loops h
  where
    go : (os : List Open) (n : ℕ) → File.asks_closed os ≡ 0 → nest os n ≡ nest [] n
    go [] n e = refl
    go (o ∷ os) n e = no_zero 5 e

no_rows_lem : (vars : ℕ) → Sound vars File.no_rows
unfolding nest_rows
no_rows_lem vars = record { limits = none; below = none; nests = refl }

rows_legal : (vars : ℕ) (ranges : List Range) (ls ms : List (List ℕ)) (script : Script) → vars ≤ 16 → All RangeLimits ranges → length ranges ≡ vars
    → File.row_part vars ranges ls ≡ File.read script ms → Legal script
unfolding File.row_part File.last_line
rows_legal vars ranges ls ms script v a l e = by_count (then_yes _ _ script ms e)
  where
    by_rows : (n : ℕ) → n ≤ 256 → (k : List (List ℕ)) → First (File.row_lines vars n (4 + vars) k File.no_rows) (λ rows rest. File.last_line (4 + vars + n) ranges rows rest) script ms → Legal script
    by_rows n h k (first rows rest e₁ e₂) =
        let (q, f) = unless_yes _ (4 + vars + n) _ script ms e₂ in
        let (_, closed) = refusal_yes _ _ q in
        let (s, len) = rows_fine vars n (4 + vars) k File.no_rows rows rest (no_rows_lem vars) e₁ in
        let same : record { ranges = ranges; rows = rows.kinds } ≡ script = cc in
        subst Legal same (record {
          sizes = (omega arith, omega arith);
          numbers = (a, s.limits);
          variables = subst (λ m. All (RowBelow m) rows.kinds) (sym l) s.below;
          closed = (rows.nest.loops, s.nests ∙ closed_nest rows.nest closed);
        })

    by_count : First (File.count_line File.rows_key 256 (3 + vars) ls) (λ n more. File.then_lines (File.row_lines vars n (4 + vars) more File.no_rows) (λ rows rest. File.last_line (4 + vars + n) ranges rows rest)) script ms → Legal script
    by_count (first n more e₁ e₂) = by_rows n (count_fine File.rows_key 256 (3 + vars) ls more n e₁) more (then_yes _ _ script ms e₂)

-- a file that is read is legal
pub read_legal : (file : List ℕ) (script : Script) (ms : List (List ℕ)) → File.file_script file ≡ File.read script ms → Legal script
unfolding File.file_script File.lines_script File.range_part
read_legal file script ms e = by_size (leb (length file) 16_384) e
  where
    by_ranges : (vars : ℕ) → vars ≤ 16 → (ls : List (List ℕ)) → First (File.range_lines vars 3 ls []) (λ ranges more. File.row_part vars ranges more) script ms → Legal script
    by_ranges vars v ls (first ranges more e₁ e₂) =
        let (a, l) = ranges_fine vars 3 ls [] ranges more none e₁ in rows_legal vars ranges more ms script v a (omega (arith, l)) e₂

    by_vars : (ls : List (List ℕ)) → First (File.count_line File.vars_key 16 2 ls) (λ vars rest. File.range_part vars rest) script ms → Legal script
    by_vars ls (first vars more e₁ e₂) = by_ranges vars (count_fine File.vars_key 16 2 ls more vars e₁) more (then_yes _ _ script ms e₂)

    by_script : First (File.script_line (split lf file)) (λ _ more. File.then_lines (File.count_line File.vars_key 16 2 more) (λ vars rest. File.range_part vars rest)) script ms → Legal script
    by_script (first x more e₁ e₂) = by_vars more (then_yes _ _ script ms e₂)

    by_size : (b : Bool) → cond b (File.lines_script (split lf file)) (File.refused 2 16_384) ≡ File.read script ms → Legal script
    by_size true h = by_script (then_yes _ _ script ms h)
    by_size false h = refused_not 2 16_384 script ms h

-- and not too long
pub read_short : (file : List ℕ) (script : Script) (ms : List (List ℕ)) → File.file_script file ≡ File.read script ms → length file ≤ 16_384
unfolding File.file_script
read_short file script ms e = by_size (leb (length file) 16_384) refl e
  where
    by_size : (b : Bool) → leb (length file) 16_384 ≡ b → cond b (File.lines_script (split lf file)) (File.refused 2 16_384) ≡ File.read script ms → length file ≤ 16_384
    by_size true f h = leb-true (length file) 16_384 f
    by_size false f h = refused_not 2 16_384 script ms h
