-- A refusal's number and place are those of the first no in the ordered list of questions.
use mathlib.Core.Path.{◌≡◌, refl, sym, ◌∙◌, ap, ap₂, fun_ext}
use mathlib.Core.Bool.{Bool, true, false, not, cond, ◌&&◌}
use mathlib.Core.List.{List, [], ◌∷◌, ◌++◌, map, flat_map, append_assoc}
use Prim.Native.Nat.{ℕ, zero, suc, ◌+◌, ◌<◌}
use native.Mathlib.Omega.{arith}
use lib.Dec.{T, leb, ltb, eqb, eqb→eq}
use borrow.Author.Tests.{le-leb, lt-leb}
use lib.IntN.{ℤ, pos}
use lib.Signed.{le_z}
use lib.ListN.{length, get_or}
use Rattle.ints.proofs.Diffs.{cond_elim}
use Rattle.rules.specs.declared.Comparison.{Comparison}
use Rattle.rules.specs.declared.Name.{Name}
use Rattle.rules.specs.declared.Word.{Word}
use Rattle.rules.specs.declared.Word.TheVariants.{Missing, Number, Variable, Compares, Keyword, Other}
use Rattle.rules.specs.Expressions.{Expr, constant, variable, group, apply}
use Rattle.rules.specs.Values.{lowest, highest}
use Rattle.rules.specs.Text.{lf, split, words_of, next_texts, next_words, next_lines}
use Rattle.rules.specs.Parse.{Parsed, parsed, shapeless, parse, depth, operators}
use Rattle.rules.specs.Blocks.{RowKind, View, is_plain, is_pick, is_else, is_end, is_loop, view_of, Block, done, plain, pick, loop}
use Rattle.rules.specs.Nesting.{Open, in_loop, in_pick, in_else, Nest, Nested, nested, wrong, opens, elses, ends, nest_row}
use Rattle.rules.specs.Ranges.{Range, ordered, sort, Env, after_row, join, at_start}
use Rattle.rules.specs.Trips.{Trip, trip, inside, outside, after}
use Rattle.rules.specs.Figures.{Prices}
use Rattle.rules.specs.Questions.{Verdict, passed, refused, and_then, asked, loop_verdict, of_trip, tick_limit, loops_verdict, verdict}
use Rattle.rules.specs.FirstOver.{BlockTicks, script_blocks}
use Rattle.rules.specs.Scripts.{Script, start_env, tree_of}
use Rattle.rules.specs.Stepping.{loops_in}
use Rattle.rules.specs.File
use Rattle.rules.specs.File.{Read, Wrong, Rows, first_refusal, turn_of}
use Rattle.rules.specs.Calls.{Judged, accepted, refuses, judged_by, judged_file, judged_priced, judged, prices_verdict, prices_of}
use Rattle.rules.specs.Order
use Rattle.rules.specs.Order.{Question, first_no, line_order, has_yes, lines_questions, nest_of, nest_no, nest_after, JudgedInOrder, AcceptedInOrder}
use Rattle.rules.proofs.PlaceOf13.{asked_then, listed, blocks_listed}

infixr 20 ◌and◌
-- ---- the first no of two lists
first_append : (xs ys : List Question) → first_no (xs ++ ys) ≡ and_then (first_no xs) (first_no ys)
unfolding first_no and_then
first_append [] ys = refl
first_append (q ∷ xs) ys = ap (asked q.number q.place q.yes) (first_append xs ys) ∙ asked_then q.number q.place q.yes (first_no xs) (first_no ys)

flat_append : {A : Type 0} (f : A → List Question) (xs ys : List A) → flat_map f (xs ++ ys) ≡ flat_map f xs ++ flat_map f ys
unfolding flat_map
flat_append f [] ys = refl
flat_append f (x ∷ xs) ys = ap (λ l. f x ++ l) (flat_append f xs ys) ∙ sym (append_assoc (f x) (flat_map f xs) (flat_map f ys))

each_append : {A : Type 0} (f : A → List Question) (xs ys : List A) → first_no (flat_map f (xs ++ ys)) ≡ and_then (first_no (flat_map f xs)) (first_no (flat_map f ys))
each_append f xs ys = ap first_no (flat_append f xs ys) ∙ first_append (flat_map f xs) (flat_map f ys)

-- ---- 16
asked_cond : (q p : ℕ) (b : Bool) (v : Verdict) → asked q p b v ≡ cond b v (refused q p)
unfolding asked
asked_cond q p true v = refl
asked_cond q p false v = refl

pub prices_order : (prices : List ℕ) → first_no (Order.price_questions prices) ≡ prices_verdict 4 0 prices
unfolding Order.price_questions first_no prices_verdict
prices_order [] = simp asked_cond
prices_order (a ∷ []) = simp asked_cond
prices_order (a ∷ b ∷ []) = simp asked_cond
prices_order (a ∷ b ∷ c ∷ []) = simp asked_cond
prices_order (a ∷ b ∷ c ∷ d ∷ []) = simp asked_cond
prices_order (a ∷ b ∷ c ∷ d ∷ e ∷ more) = simp (asked_cond, lt-leb (length (a ∷ b ∷ c ∷ d ∷ e ∷ more)) 4 (omega arith))

-- ---- 19 and 8 to 13
trip_order : (i : ℕ) (τ : Trip) → first_no (Order.trip_questions i τ) ≡ of_trip i τ
unfolding first_no Order.trip_questions loop_verdict
trip_order i τ = refl

loops_order : (b : Block) (ρ : Env) → first_no (flat_map Order.loop_questions (loops_in ρ b)) ≡ loops_verdict ρ b
unfolding flat_map first_no loops_in loops_verdict
loops_order done ρ = refl
loops_order (plain i p rest) ρ = loops_order rest (after_row ρ p)
loops_order (pick i e a b rest) ρ =
    each_append Order.loop_questions (loops_in ρ a) _ ∙ ap₂ and_then (loops_order a ρ)
    (each_append Order.loop_questions (loops_in ρ b) _ ∙ ap₂ and_then (loops_order b ρ) (loops_order rest (join (after ρ a) (after ρ b))))
loops_order (loop i e form test body rest) ρ =
    let σ = at_start form test ρ in
    first_append (Order.trip_questions i (trip form σ test body)) _ ∙ ap₂ and_then (trip_order i (trip form σ test body))
    (each_append Order.loop_questions (loops_in (inside form σ test body) body) _
    ∙ ap₂ and_then (loops_order body (inside form σ test body)) (loops_order rest (outside form σ test body)))

blocks_order : (bs : List BlockTicks) → first_no (map Order.block_question bs) ≡ listed bs
unfolding first_no listed
blocks_order [] = refl
blocks_order (b ∷ bs) = ap (asked 13 b.row (leb b.ticks tick_limit)) (blocks_order bs)

script_order : (π : Prices) (s : Script) → first_no (Order.script_questions π s) ≡ verdict π (length s.rows) (start_env s.ranges) (tree_of s.rows)
unfolding first_no Order.script_questions verdict
script_order π s =
    let ρ = start_env s.ranges in
    let tree = tree_of s.rows in
    first_append (flat_map Order.loop_questions (loops_in ρ tree)) _ ∙ ap₂ and_then (loops_order tree ρ)
    (first_append (map Order.block_question (script_blocks π s)) _ ∙ ap₂ and_then (blocks_order (script_blocks π s) ∙ sym (blocks_listed π tree ρ)) refl)

-- ---- the first no of a line
-- the first of some questions that has no, or 0
abbrev earliest : List ℕ → (ℕ → Bool) → ℕ
earliest [] f = 0
earliest (q ∷ qs) f = cond (f q) (earliest qs f) q

-- r is 0, or its turn comes after that of q
abbrev Behind : ℕ → ℕ → Type 0
Behind q zero = Unit {0}
Behind q (suc r) = turn_of q < turn_of (suc r)

abbrev AllBehind : ℕ → List ℕ → Type 0
AllBehind q [] = Unit {0}
AllBehind q (r ∷ rs) = Behind q r × AllBehind q rs

abbrev InTurn : List ℕ → Type 0
InTurn [] = Unit {0}
InTurn (zero ∷ qs) = ⊥
InTurn (suc q ∷ qs) = AllBehind (suc q) qs × InTurn qs

in_turn : InTurn line_order
unfolding turn_of
in_turn = omega arith

earliest_behind : (q : ℕ) (rs : List ℕ) (f : ℕ → Bool) → AllBehind q rs → Behind q (earliest rs f)
earliest_behind q [] f h = tt
earliest_behind q (r ∷ rs) f (a, h) = cond_elim (Behind q) (f r) (earliest rs f) r (λ _. earliest_behind q rs f h) (λ _. a)

first_left : (q r : ℕ) → Behind (suc q) r → first_refusal (suc q) r ≡ suc q
unfolding first_refusal
first_left q zero h = refl
first_left q (suc r) h = rw (le-leb (turn_of (suc q)) (turn_of (suc r)) (omega arith))

first_right : (q r : ℕ) → Behind (suc q) r → first_refusal r (suc q) ≡ suc q
unfolding first_refusal
first_right q zero h = refl
first_right q (suc r) h = rw (lt-leb (turn_of (suc r)) (turn_of (suc q)) h)

earliest_and : (qs : List ℕ) → InTurn qs → (f g : ℕ → Bool) → first_refusal (earliest qs f) (earliest qs g) ≡ earliest qs (λ q. f q && g q)
unfolding first_refusal
earliest_and [] h f g = refl
earliest_and (zero ∷ qs) h f g = absurd h
earliest_and (suc q ∷ qs) (a, h) f g = by (f (suc q)) (g (suc q)) (earliest_and qs h f g)
  where
    by : (x y : Bool) {k : ℕ} → first_refusal (earliest qs f) (earliest qs g) ≡ k → first_refusal (cond x (earliest qs f) (suc q)) (cond y (earliest qs g) (suc q)) ≡ cond (x && y) k (suc q)
    by true true e = e
    by true false e = first_right q (earliest qs f) (earliest_behind (suc q) qs f a)
    by false true e = first_left q (earliest qs g) (earliest_behind (suc q) qs g a)
    by false false e = cond_elim (λ z. z ≡ suc q) (leb (turn_of (suc q)) (turn_of (suc q))) (suc q) (suc q) (λ _. refl) (λ _. refl)

yes_append : (q : ℕ) (xs ys : List ℕ) → has_yes q (xs ++ ys) ≡ has_yes q xs && has_yes q ys
yes_append q [] ys = refl
yes_append q (x ∷ xs) ys = ap (λ z. not (eqb x q) && z) (yes_append q xs ys) ∙ by (not (eqb x q))
  where
    by : (a : Bool) → a && (has_yes q xs && has_yes q ys) ≡ a && has_yes q xs && has_yes q ys
    by true = refl
    by false = refl

-- q is the first of a line's noes, or 0 and there is none
record Tells (noes : List ℕ) (q : ℕ) : Type 0 where
  first : q ≡ earliest line_order (λ r. has_yes r noes)

◌and◌ : {xs ys : List ℕ} {a b : ℕ} → Tells xs a → Tells ys b → Tells (xs ++ ys) (first_refusal a b)
◌and◌ {xs} {ys} h k = record {
  first = ap₂ first_refusal h.first k.first ∙ earliest_and line_order in_turn (λ q. has_yes q xs) (λ q. has_yes q ys) ∙ ap (earliest line_order) (fun_ext (λ q. sym (yes_append q xs ys)));
}

-- then the lines after it
abbrev after_line : ℕ → ℕ → Verdict → Verdict
after_line zero p v = v
after_line (suc q) p v = refused (suc q) p

line_order_lem : (p : ℕ) {noes : List ℕ} {q : ℕ} → Tells noes q → (more : List (List ℕ))
    → first_no (lines_questions p (noes ∷ more)) ≡ after_line q p (first_no (lines_questions (suc p) more))
unfolding first_no lines_questions Order.line_questions asked
line_order_lem p {noes} {q} h more =
    by (has_yes 3 noes) (has_yes 17 noes) (has_yes 4 noes) (has_yes 5 noes) (has_yes 6 noes) (has_yes 7 noes) ∙ ap (λ z. after_line z p rest) (sym h.first)
  where
    rest : Verdict
    rest = first_no (lines_questions (suc p) more)

    by : (a b c d e f : Bool) → asked 3 p a (asked 17 p b (asked 4 p c (asked 5 p d (asked 6 p e (asked 7 p f rest)))))
        ≡ after_line (cond a (cond b (cond c (cond d (cond e (cond f 0 7) 6) 5) 4) 17) 3) p rest
    by true true true true true true = refl
    by true true true true true false = refl
    by true true true true false f = refl
    by true true true false e f = refl
    by true true false d e f = refl
    by true false c d e f = refl
    by false b c d e f = refl

-- ---- what a word says
abbrev One : ℕ → Type 0
One q = Tells (q ∷ []) q

tells : {q : ℕ} → T (eqb q (earliest line_order (λ r. has_yes r (q ∷ [])))) → One q
tells {q} t = record { first = eqb→eq q _ t }

if_tells : (b : Bool) (q : ℕ) → T (eqb q (earliest line_order (λ r. has_yes r (q ∷ [])))) → One (cond b 0 q)
if_tells b q t = cond_elim One b 0 q (λ _. tells tt) (λ _. tells t)

by_word : (Q : Word → Type 0) → Q Missing → ((z : ℤ) → Q (Number z)) → ((v : ℕ) → Q (Variable v)) → ((c : Comparison) → Q (Compares c))
    → ((n : Name) → Q (Keyword n)) → Q Other → (w : Word) → Q w
by_word Q m n v c k o Missing = m
by_word Q m n v c k o (Number x) = n x
by_word Q m n v c k o (Variable x) = v x
by_word Q m n v c k o (Compares x) = c x
by_word Q m n v c k o (Keyword x) = k x
by_word Q m n v c k o Other = o

end_tells : (w : Word) → One (File.asks_end w)
end_tells = by_word (λ w. One (File.asks_end w)) (tells tt) (λ _. tells tt) (λ _. tells tt) (λ _. tells tt) (λ _. tells tt) (tells tt)

number_tells : (lo hi : ℤ) (w : Word) → One (File.asks_number lo hi w)
number_tells lo hi = by_word (λ w. One (File.asks_number lo hi w)) (tells tt) (λ z. if_tells (le_z lo z && le_z z hi) 4 tt) (λ _. tells tt) (λ _. tells tt) (λ _. tells tt) (tells tt)

one_tells : (w : Word) → One (File.asks_one w)
one_tells = by_word (λ w. One (File.asks_one w)) (tells tt) (λ z. if_tells (le_z (pos 1) z && le_z z (pos 1)) 3 tt) (λ _. tells tt) (λ _. tells tt) (λ _. tells tt) (tells tt)

variable_tells : (vars : ℕ) (w : Word) → One (File.asks_variable vars w)
variable_tells vars = by_word (λ w. One (File.asks_variable vars w)) (tells tt) (λ _. tells tt) (λ v. if_tells (ltb v vars) 5 tt) (λ _. tells tt) (λ _. tells tt) (tells tt)

comparison_tells : (w : Word) → One (File.asks_comparison w)
comparison_tells = by_word (λ w. One (File.asks_comparison w)) (tells tt) (λ _. tells tt) (λ _. tells tt) (λ _. tells tt) (λ _. tells tt) (tells tt)

ordered_tells : (w : Word) → One (File.asks_ordered w)
ordered_tells = by_word (λ w. One (File.asks_ordered w)) (tells tt) (λ _. tells tt) (λ _. tells tt) (λ c. if_tells (ordered (sort c)) 3 tt) (λ _. tells tt) (tells tt)

change_tells : (n : Name) (w : Word) → One (File.asks_change n w)
change_tells Name.Set w = tells tt
change_tells Name.Add w = number_tells (pos 0) highest w
change_tells Name.Sub w = number_tells (pos 0) highest w
change_tells Name.Mul w = number_tells (pos 1) highest w
change_tells Name.Div w = number_tells (pos 1) highest w
change_tells Name.Off w = tells tt
change_tells Name.Cue w = tells tt
change_tells Name.Pick w = tells tt
change_tells Name.Else w = tells tt
change_tells Name.End w = tells tt
change_tells Name.While w = tells tt
change_tells Name.Do w = tells tt
change_tells Name.For w = tells tt
change_tells Name.Hold w = tells tt

step_tells : (x w : Word) → One (File.asks_step x w)
step_tells x w = by_word (λ x. One (File.asks_step x w)) (tells tt) (λ _. tells tt) (λ _. tells tt) (λ _. tells tt) (λ n. change_tells n w) (tells tt) x

leaves_tell : (vars : ℕ) (x : Expr) → Tells (Order.leaf_noes vars x) (File.asks_leaves vars x)
unfolding Order.leaf_noes File.asks_leaves
leaves_tell vars (constant z) = if_tells (le_z lowest z && le_z z highest) 4 tt
leaves_tell vars (variable v) = if_tells (ltb v vars) 5 tt
leaves_tell vars (group x) = leaves_tell vars x
leaves_tell vars (apply o x y) = leaves_tell vars x and leaves_tell vars y

size_tells : (x : Expr) → One (File.asks_size x)
unfolding File.asks_size
size_tells x = if_tells (leb (depth x) 8 && leb (operators x) 15) 17 tt

expr_tells : (vars : ℕ) (p : Parsed) → Tells (Order.expr_noes vars p) (File.asks_expr vars p)
expr_tells vars (parsed x s) = size_tells x and leaves_tell vars x
expr_tells vars shapeless = tells tt

-- ---- a row's line
-- q is a question, and the first of the line's noes
abbrev Says : List ℕ → ℕ → Type 0
Says noes zero = ⊥
Says noes (suc q) = Tells noes (suc q)

abbrev RowTells : List ℕ → File.RowRead → Type 0
RowTells noes (Read k) = Tells noes 0
RowTells noes (Wrong q) = Says noes q

checked_tells : {noes : List ℕ} (q : ℕ) (k : RowKind) → Tells noes q → RowTells noes (File.checked q k)
unfolding File.checked
checked_tells zero k h = h
checked_tells (suc q) k h = h

module _ (vars : ℕ) (word : ℕ → Word) (expr : ℕ → Parsed) where
  test_tells : Tells (Order.test_noes vars word expr) (File.asks_test vars word expr)
  unfolding File.asks_test
  test_tells = variable_tells vars (word 1) and comparison_tells (word 2) and expr_tells vars (expr 3) and end_tells (word 4)

  move_tells : (n : Name) → RowTells (Order.move_noes vars word expr n) (File.move_row vars word expr n)
  unfolding File.move_row
  move_tells n = checked_tells _ _ (variable_tells vars (word 1) and change_tells n (word 2) and end_tells (word 3))

  named_tells : (n : Name) → RowTells (Order.named_noes vars word expr n) (File.named_row vars word expr n)
  unfolding File.set_row File.off_row File.cue_row File.bare_row File.while_row File.do_row File.for_row File.asks_for File.hold_row
  named_tells Name.Set = checked_tells _ _ (variable_tells vars (word 1) and expr_tells vars (expr 2) and end_tells (word 3))
  named_tells Name.Add = move_tells Name.Add
  named_tells Name.Sub = move_tells Name.Sub
  named_tells Name.Mul = move_tells Name.Mul
  named_tells Name.Div = move_tells Name.Div
  named_tells Name.Off =
      checked_tells _ _ (variable_tells vars (word 1) and variable_tells vars (word 2) and ordered_tells (word 3) and number_tells lowest highest (word 4) and end_tells (word 5))
  named_tells Name.Cue = checked_tells _ _ (number_tells (pos 0) (pos 9_999) (word 1) and end_tells (word 2))
  named_tells Name.Pick = checked_tells _ _ (end_tells (word 1))
  named_tells Name.Else = checked_tells _ _ (end_tells (word 1))
  named_tells Name.End = checked_tells _ _ (end_tells (word 1))
  named_tells Name.While = checked_tells _ _ test_tells
  named_tells Name.Do = checked_tells _ _ test_tells
  named_tells Name.For =
      checked_tells _ _ (variable_tells vars (word 1) and expr_tells vars (expr 2) and comparison_tells (word 3) and expr_tells vars (expr 4) and step_tells (word 5) (word 6)
      and end_tells (word 7))
  named_tells Name.Hold = checked_tells _ _ (variable_tells vars (word 1) and end_tells (word 2))

row_tells : (vars : ℕ) (texts : List (List ℕ)) → RowTells (Order.row_noes vars texts) (File.row_of vars texts)
unfolding Order.row_noes File.row_of File.words_row
row_tells vars texts =
    let word = words_of texts in
    let expr : ℕ → Parsed = λ i. parse (get_or texts i []) in
    by_word (λ w. RowTells (Order.first_word_noes vars word expr w) (File.first_word vars word expr w))
    (tells tt) (λ _. tells tt) (λ _. tells tt) (λ _. tells tt) (named_tells vars word expr) (tells tt) (word 0)

abbrev NestTells : Nested → Type 0
NestTells (nested s) = Unit {0}
NestTells (wrong q) = Says (q ∷ []) q

opens_tell : (o : Open) (st : List Open) (n : ℕ) → NestTells (opens o st n)
unfolding opens
opens_tell in_loop st n = cond_elim NestTells (ltb (length st) 8 && ltb n 16) _ (wrong 7) (λ _. tt) (λ _. tells tt)
opens_tell in_pick st n = cond_elim NestTells (ltb (length st) 8) _ (wrong 7) (λ _. tt) (λ _. tells tt)
opens_tell in_else st n = tells tt

elses_tell : (st : List Open) (n : ℕ) → NestTells (elses st n)
unfolding elses
elses_tell [] n = tells tt
elses_tell (in_loop ∷ st) n = tells tt
elses_tell (in_pick ∷ st) n = tt
elses_tell (in_else ∷ st) n = tells tt

ends_tell : (st : List Open) (n : ℕ) → NestTells (ends st n)
unfolding ends
ends_tell [] n = tells tt
ends_tell (o ∷ st) n = tt

nest_tells : (v : View) (s : Nest) → NestTells (nest_row v s)
unfolding nest_row
nest_tells (is_plain p) s = tt
nest_tells is_pick s = opens_tell in_pick s.open_blocks s.loops
nest_tells is_else s = elses_tell s.open_blocks s.loops
nest_tells is_end s = ends_tell s.open_blocks s.loops
nest_tells (is_loop form test last) s = opens_tell in_loop s.open_blocks s.loops

-- ---- lines
-- what a reading refuses
abbrev pub said : {A : Type 0} → File.Reading A → Verdict
said (File.read x ls) = passed
said (File.refused q p) = refused q p

-- a row's line, and those after it
module _ (p : ℕ) (so_far : Rows) (lines : Nest → List (List ℕ)) (next : Rows → File.Reading Rows) (k : Rows → List (List ℕ) → File.Reading Script)
    (ih : (rows : Rows) → first_no (lines_questions (suc p) (lines rows.nest)) ≡ said (File.then_lines (next rows) k)) where
  placed_order : (kind : RowKind) (m : Nested) {noes : List ℕ} → Tells noes 0 → NestTells m
      → first_no (lines_questions p ((noes ++ (nest_no m ∷ [])) ∷ lines (nest_after so_far.nest m))) ≡ said (File.then_lines (File.placed p so_far.kinds kind m next) k)
  unfolding File.placed File.then_lines first_refusal
  placed_order kind (nested s) t h = line_order_lem p (t and tells tt) (lines s) ∙ ih (record { kinds = so_far.kinds ++ (kind ∷ []); nest = s })
  placed_order kind (wrong zero) t h = absurd h
  placed_order kind (wrong (suc q)) t h = line_order_lem p (t and h) (lines so_far.nest)

  row_order : (r : File.RowRead) (noes : List ℕ) → RowTells noes r
      → first_no (lines_questions p ((noes ++ (nest_no (nest_of so_far.nest r) ∷ [])) ∷ lines (nest_after so_far.nest (nest_of so_far.nest r))))
      ≡ said (File.then_lines (File.row_line p so_far r next) k)
  unfolding File.row_line File.then_lines first_refusal
  row_order (Read kind) noes t = placed_order kind (nest_row (view_of kind) so_far.nest) t (nest_tells (view_of kind) so_far.nest)
  row_order (Wrong zero) noes t = absurd t
  row_order (Wrong (suc q)) noes t = line_order_lem p (t and tells tt) (lines so_far.nest)

unless_said : {A : Type 0} (q p : ℕ) (r : File.Reading A) → said (File.unless q p r) ≡ after_line q p (said r)
unfolding File.unless
unless_said zero p r = refl
unless_said (suc q) p r = refl

then_unless : {A B : Type 0} (q p : ℕ) (r : File.Reading A) (k : A → List (List ℕ) → File.Reading B) → File.then_lines (File.unless q p r) k ≡ File.unless q p (File.then_lines r k)
unfolding File.unless File.then_lines
then_unless zero p r k = refl
then_unless (suc q) p r k = refl

-- another line, and those after it
next_line : {A B : Type 0} (p : ℕ) {noes : List ℕ} {q : ℕ} (more : List (List ℕ)) (r : File.Reading A) (k : A → List (List ℕ) → File.Reading B) → Tells noes q
    → first_no (lines_questions (suc p) more) ≡ said (File.then_lines r k) → first_no (lines_questions p (noes ∷ more)) ≡ said (File.then_lines (File.unless q p r) k)
next_line p {q = q} more r k h e = line_order_lem p h more ∙ ap (after_line q p) e ∙ sym (unless_said q p (File.then_lines r k)) ∙ ap said (sym (then_unless q p r k))

rest_tells : (ls : List (List ℕ)) → One (File.asks_rest ls)
unfolding File.asks_rest
rest_tells [] = tells tt
rest_tells ([] ∷ []) = tells tt
rest_tells ([] ∷ (m ∷ more)) = tells tt
rest_tells ((b ∷ s) ∷ ls) = tells tt

closed_tells : (os : List Open) → One (File.asks_closed os)
unfolding File.asks_closed
closed_tells [] = tells tt
closed_tells (o ∷ os) = tells tt

rows_order : (vars : ℕ) (ranges : List Range) (n p l : ℕ) (ls : List (List ℕ)) (so_far : Rows) → p + n ≡ l
    → first_no (lines_questions p (Order.rows_noes vars n ls so_far.nest)) ≡ said (File.then_lines (File.row_lines vars n p ls so_far) (λ rows rest. File.last_line l ranges rows rest))
unfolding Order.rows_noes File.row_lines File.then_lines File.last_line first_no lines_questions
rows_order vars ranges zero p l ls so_far e =
    line_order_lem p (rest_tells ls and closed_tells so_far.nest.open_blocks) []
    ∙ ap (λ z. after_line (first_refusal (File.asks_rest ls) (File.asks_closed so_far.nest.open_blocks)) z passed) (omega arith) ∙ sym (unless_said _ l _)
rows_order vars ranges (suc n) p l ls so_far e =
    row_order p so_far (λ s. Order.rows_noes vars n (next_lines ls) s) (λ rows. File.row_lines vars n (suc p) (next_lines ls) rows) (λ rows rest. File.last_line l ranges rows rest)
    (λ rows. rows_order vars ranges n (suc p) l (next_lines ls) rows (omega arith)) (File.row_of vars (next_texts File.row_key ls)) _ (row_tells vars (next_texts File.row_key ls))

order_tells : (lo hi : Word) → One (File.asks_order lo hi)
unfolding File.asks_order
order_tells lo hi = if_tells (le_z (File.number_of lo) (File.number_of hi)) 4 tt

range_tells : (w : ℕ → Word) → Tells (Order.range_noes w) (File.asks_range w)
unfolding File.asks_range
range_tells w = number_tells lowest highest (w 0) and number_tells lowest highest (w 1) and end_tells (w 2) and order_tells (w 0) (w 1)

at_line : (lines : List (List ℕ)) (p q : ℕ) → p ≡ q → first_no (lines_questions p lines) ≡ first_no (lines_questions q lines)
at_line lines p q e = ap (λ z. first_no (lines_questions z lines)) e

ranges_order : (vars n p : ℕ) (ls : List (List ℕ)) (so_far : List Range) → p + n ≡ 3 + vars
    → first_no (lines_questions p (Order.ranges_noes vars n ls)) ≡ said (File.then_lines (File.range_lines n p ls so_far) (λ ranges more. File.row_part vars ranges more))
unfolding Order.ranges_noes File.range_lines File.then_lines File.row_part File.count_line
ranges_order vars zero p ls so_far e =
    at_line _ p (3 + vars) (omega arith)
    ∙ next_line (3 + vars) _ _ _ (number_tells (pos 0) (pos 256) (next_words File.rows_key ls 0) and end_tells (next_words File.rows_key ls 1))
    (at_line _ _ (4 + vars) (omega arith) ∙ rows_order vars so_far _ (4 + vars) _ (next_lines ls) File.no_rows refl)
ranges_order vars (suc n) p ls so_far e =
    next_line p _ _ _ (range_tells (next_words File.range_key ls)) (ranges_order vars n (suc p) (next_lines ls) _ (omega arith))

pub lines_order : (ls : List (List ℕ)) → first_no (lines_questions 1 (Order.file_noes ls)) ≡ said (File.lines_script ls)
unfolding Order.file_noes File.lines_script File.script_line File.count_line File.range_part File.then_lines
lines_order ls =
    next_line 1 _ _ _ (one_tells (next_words File.script_key ls 0) and end_tells (next_words File.script_key ls 1))
    (next_line 2 _ _ _ (number_tells (pos 0) (pos 16) (next_words File.vars_key (next_lines ls) 0) and end_tells (next_words File.vars_key (next_lines ls) 1))
    (ranges_order _ _ 3 (next_lines (next_lines ls)) [] refl))

-- ---- all
abbrev told : Judged → Verdict
told (accepted s) = passed
told (refuses q p) = refused q p

script_told : (s : Script) (v : Verdict) → v ≡ told (judged_by s v)
unfolding judged_by
script_told s passed = refl
script_told s (refused q p) = refl

read_order : (π : Prices) (r : File.Reading Script) → and_then (said r) (first_no (Order.read_questions π r)) ≡ told (judged_file π r)
unfolding and_then judged_file
read_order π (File.read s ls) = script_order π s ∙ script_told s _
read_order π (File.refused q p) = refl

file_order : (π : Prices) (file : List ℕ) → first_no (Order.file_questions π file) ≡ told (judged_file π (File.file_script file))
unfolding first_no asked Order.file_questions judged_file File.file_script
file_order π file = by (leb (length file) 16_384)
  where
    ls : List (List ℕ)
    ls = split lf file

    by : (b : Bool) → asked 2 16_384 b (first_no (lines_questions 1 (Order.file_noes ls) ++ Order.read_questions π (File.lines_script ls)))
        ≡ told (judged_file π (cond b (File.lines_script ls) (File.refused 2 16_384)))
    by true =
        first_append (lines_questions 1 (Order.file_noes ls)) _ ∙ ap (λ v. and_then v (first_no (Order.read_questions π (File.lines_script ls)))) (lines_order ls)
        ∙ read_order π (File.lines_script ls)
    by false = refl

judged_order : (prices : List ℕ) (scratch : ℕ) (file : List ℕ) → first_no (Order.questions prices scratch file) ≡ told (judged prices scratch file)
unfolding first_no asked and_then Order.questions judged judged_priced
judged_order prices scratch file = by (leb 1_024 scratch)
  where
    rest : Verdict
    rest = first_no (Order.file_questions (prices_of prices) file)

    priced : (v : Verdict) → and_then v rest ≡ told (judged_priced prices v file)
    priced passed = file_order (prices_of prices) file
    priced (refused q p) = refl

    by : (b : Bool) → asked 1 1_024 b (first_no (Order.price_questions prices ++ Order.file_questions (prices_of prices) file))
        ≡ told (cond b (judged_priced prices (prices_verdict 4 0 prices) file) (refuses 1 1_024))
    by true = first_append (Order.price_questions prices) _ ∙ ap (λ v. and_then v rest) (prices_order prices) ∙ priced (prices_verdict 4 0 prices)
    by false = refl

pub judged_in_order : JudgedInOrder
unfolding JudgedInOrder
judged_in_order prices scratch file q p = (λ e. judged_order prices scratch file ∙ ap told e, λ e. by (judged prices scratch file) (sym (judged_order prices scratch file) ∙ e))
  where
    by : (j : Judged) → told j ≡ refused q p → j ≡ refuses q p
    by (accepted s) e = absurd (let z : ◌≡◌ {A = ℕ} 0 1 = cc in omega arith)
    by (refuses r t) e = cc

pub accepted_in_order : AcceptedInOrder
unfolding AcceptedInOrder
accepted_in_order prices scratch file = (λ (s, e). judged_order prices scratch file ∙ ap told e, λ e. by (judged prices scratch file) (sym (judged_order prices scratch file) ∙ e))
  where
    by : (j : Judged) → told j ≡ passed → (script : Script) × (j ≡ accepted script)
    by (accepted s) e = (s, refl)
    by (refuses q p) e = absurd (let z : ◌≡◌ {A = ℕ} 0 1 = cc in omega arith)
