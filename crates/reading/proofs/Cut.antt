-- Numbers that are cut off past every limit change no answer: a row or a range reads the same from its words and from its cut words. Assumes nothing.
use mathlib.Core.Path.{◌≡◌, refl, sym, ap, ◌∙◌}
use mathlib.Core.Bool.{Bool, true, false, cond, ◌&&◌}
use Prim.Native.Nat.{ℕ, zero, suc, min, ◌≤◌, ◌<◌}
use native.Mathlib.Omega.{arith}
use lib.Dec.{T, ltb, ltb→lt}
use lib.IntN.{ℤ, pos, negsuc, nat_abs}
use lib.Signed.{le_z, ◌≤ℤ◌}
use borrow.Author.Tests.{ltb-true, lt-ltb}
use Rattle.ints.proofs.Parts.{ints, P, N, neg_parts, lone}
use Rattle.rules.specs.declared.Change.{Change}
use Rattle.rules.specs.declared.Name.{Name}
use Rattle.rules.specs.declared.Word.{Word}
use Rattle.rules.specs.declared.Word.TheVariants.{Missing, Number, Variable, Compares, Keyword, Other}
use Rattle.rules.specs.Values.{lowest, highest}
use Rattle.rules.specs.Blocks.{RowKind}
use Rattle.rules.specs.Parse.{Parsed}
use Rattle.rules.specs.File
use Rattle.rules.specs.File.{Read}
use Rattle.rules.proofs.Laws.{no_true}
use Rattle.rules.proofs.ReadLegal.{refusal_yes, number_yes, variable_yes}
use Rattle.expressions.specs.Leaves.{ceiling, cut_z}
use Rattle.reading.specs.Words.{cut_word}

-- limits inside the ceiling
pub record Below (lo hi : ℤ) : Type 0 where
  pub low : negsuc 1_999_999_999 ≤ℤ lo
  pub high : hi ≤ℤ pos 2_000_000_000

-- each part of a number is cut
pub cut_parts_lem : (z : ℤ) → (P (cut_z z) ≡ min (P z) 2_000_000_001) × (N (cut_z z) ≡ min (N z) 2_000_000_001)
unfolding cut_z ceiling
cut_parts_lem (pos n) = (refl, omega arith)
cut_parts_lem (negsuc n) = let f = neg_parts (pos (min (suc n) 2_000_000_001)) in (omega arith, omega arith)

-- two tests that follow from each other
same_test : (s t : Bool) → (s ≡ true → t ≡ true) → (t ≡ true → s ≡ true) → s ≡ t
same_test true t f g = sym (f refl)
same_test false true f g = g refl
same_test false false f g = refl

both_true : (s t : Bool) → (s && t) ≡ true → (s ≡ true) × (t ≡ true)
both_true true t e = (refl, e)
both_true false t e = no_true e

-- a number between limits is not cut, and only such a number is between them when cut
inside_same : (lo hi z : ℤ) → Below lo hi → (le_z lo (cut_z z) && le_z (cut_z z) hi) ≡ (le_z lo z && le_z z hi)
inside_same lo hi z b = same_test _ _
    (λ e. let (l, h) = both_true (le_z lo (cut_z z)) (le_z (cut_z z) hi) e in
    let f : cut_z z ≡ z = omega (ints, cut_parts_lem z, lone z) in rw f at e)
    (λ e. let (l, h) = both_true (le_z lo z) (le_z z hi) e in
    let f : cut_z z ≡ z = omega (ints, cut_parts_lem z, lone z) in rw f e)

below_same : (vars v : ℕ) → vars ≤ 16 → ltb (min v 2_000_000_001) vars ≡ ltb v vars
below_same vars v h = same_test _ _
    (λ e. lt-ltb v vars (let l = ltb-true (min v 2_000_000_001) vars e in omega arith))
    (λ e. lt-ltb (min v 2_000_000_001) vars (let l = ltb-true v vars e in omega arith))

-- what holds of every word beside itself, of a number cut off and of a variable cut off, holds of every word cut off
cut_all : (R : Word → Word → Type 0) → ((w : Word) → R w w) → ((z : ℤ) → R (Number (cut_z z)) (Number z)) → ((v : ℕ) → R (Variable (min v ceiling)) (Variable v)) → (w : Word) → R (cut_word w) w
unfolding cut_word
cut_all R same number variable Missing = same Missing
cut_all R same number variable (Number z) = number z
cut_all R same number variable (Variable v) = variable v
cut_all R same number variable (Compares c) = same (Compares c)
cut_all R same number variable (Keyword n) = same (Keyword n)
cut_all R same number variable Other = same Other

-- what looks at no number
cut_plain : {A : Type 0} (f : Word → A) → ((z : ℤ) → f (Number (cut_z z)) ≡ f (Number z)) → ((v : ℕ) → f (Variable (min v ceiling)) ≡ f (Variable v)) → (w : Word) → f (cut_word w) ≡ f w
cut_plain f number variable w = cut_all (λ x y. f x ≡ f y) (λ x. refl) number variable w

-- a number from lo to hi
pub cut_number : (lo hi : ℤ) (w : Word) → Below lo hi → File.asks_number lo hi (cut_word w) ≡ File.asks_number lo hi w
cut_number lo hi w b = cut_plain (File.asks_number lo hi) (λ z. ap (λ t. cond t 0 4) (inside_same lo hi z b)) (λ v. refl) w

pub cut_number_of : (lo hi : ℤ) (w : Word) → Below lo hi → File.asks_number lo hi w ≡ 0 → File.number_of (cut_word w) ≡ File.number_of w
cut_number_of lo hi w b =
    cut_all (λ x y. File.asks_number lo hi y ≡ 0 → File.number_of x ≡ File.number_of y) (λ x e. refl)
    (λ z e. let (l, h) = number_yes lo hi (Number z) e in omega (ints, cut_parts_lem z, lone z)) (λ v e. refl) w

-- words with no number
pub cut_end : (w : Word) → File.asks_end (cut_word w) ≡ File.asks_end w
cut_end w = cut_plain File.asks_end (λ z. refl) (λ v. refl) w

pub cut_comparison : (w : Word) → File.asks_comparison (cut_word w) ≡ File.asks_comparison w
cut_comparison w = cut_plain File.asks_comparison (λ z. refl) (λ v. refl) w

pub cut_ordered : (w : Word) → File.asks_ordered (cut_word w) ≡ File.asks_ordered w
cut_ordered w = cut_plain File.asks_ordered (λ z. refl) (λ v. refl) w

pub cut_comparison_of : (w : Word) → File.comparison_of (cut_word w) ≡ File.comparison_of w
cut_comparison_of w = cut_plain File.comparison_of (λ z. refl) (λ v. refl) w

-- the script number
pub cut_one : (w : Word) → File.asks_one (cut_word w) ≡ File.asks_one w
cut_one w = cut_plain File.asks_one (λ z. ap (λ t. cond t 0 3) (inside_same (pos 1) (pos 1) z (record { low = omega ints; high = omega ints }))) (λ v. refl) w

-- a variable
pub cut_variable : (vars : ℕ) (w : Word) → vars ≤ 16 → File.asks_variable vars (cut_word w) ≡ File.asks_variable vars w
unfolding ceiling
cut_variable vars w h = cut_plain (File.asks_variable vars) (λ z. refl) (λ v. ap (λ t. cond t 0 5) (below_same vars v h)) w

pub cut_variable_of : (vars : ℕ) (w : Word) → vars ≤ 16 → File.asks_variable vars w ≡ 0 → File.variable_of (cut_word w) ≡ File.variable_of w
unfolding ceiling
cut_variable_of vars w h =
    cut_all (λ x y. File.asks_variable vars y ≡ 0 → File.variable_of x ≡ File.variable_of y) (λ x e. refl) (λ z e. refl)
    (λ v e. let l = variable_yes vars (Variable v) e in omega arith) w

-- limits of document 01
pub limits_below : (lo : ℤ) → negsuc 1_999_999_999 ≤ℤ lo → Below lo highest
unfolding highest
limits_below lo h = record { low = h; high = omega ints }

pub lowest_below : Below lowest highest
unfolding lowest
lowest_below = limits_below lowest (omega ints)

-- an amount
up_below : (k : ℕ) → Below (pos k) highest
up_below k = limits_below (pos k) (omega ints)

-- a change, and a step
pub cut_change : (n : Name) (w : Word) → File.asks_change n (cut_word w) ≡ File.asks_change n w
cut_change Name.Set w = refl
cut_change Name.Add w = cut_number (pos 0) highest w (up_below 0)
cut_change Name.Sub w = cut_number (pos 0) highest w (up_below 0)
cut_change Name.Mul w = cut_number (pos 1) highest w (up_below 1)
cut_change Name.Div w = cut_number (pos 1) highest w (up_below 1)
cut_change Name.Off w = refl
cut_change Name.Cue w = refl
cut_change Name.Pick w = refl
cut_change Name.Else w = refl
cut_change Name.End w = refl
cut_change Name.While w = refl
cut_change Name.Do w = refl
cut_change Name.For w = refl
cut_change Name.Hold w = refl

pub cut_change_of : (n : Name) (w : Word) → File.asks_change n w ≡ 0 → File.change_of n (cut_word w) ≡ File.change_of n w
cut_change_of Name.Set w e = refl
cut_change_of Name.Add w e = ap (λ z. Change.Add (nat_abs z)) (cut_number_of (pos 0) highest w (up_below 0) e)
cut_change_of Name.Sub w e = ap (λ z. Change.Sub (nat_abs z)) (cut_number_of (pos 0) highest w (up_below 0) e)
cut_change_of Name.Mul w e = ap (λ z. Change.Mul (nat_abs z)) (cut_number_of (pos 1) highest w (up_below 1) e)
cut_change_of Name.Div w e = ap (λ z. Change.Div (nat_abs z)) (cut_number_of (pos 1) highest w (up_below 1) e)
cut_change_of Name.Off w e = refl
cut_change_of Name.Cue w e = refl
cut_change_of Name.Pick w e = refl
cut_change_of Name.Else w e = refl
cut_change_of Name.End w e = refl
cut_change_of Name.While w e = refl
cut_change_of Name.Do w e = refl
cut_change_of Name.For w e = refl
cut_change_of Name.Hold w e = refl

pub cut_step : (x w : Word) → File.asks_step (cut_word x) (cut_word w) ≡ File.asks_step x w
unfolding cut_word
cut_step Missing w = refl
cut_step (Number z) w = refl
cut_step (Variable v) w = refl
cut_step (Compares c) w = refl
cut_step (Keyword n) w = cut_change n w
cut_step Other w = refl

pub cut_step_of : (x w : Word) → File.asks_step x w ≡ 0 → File.step_of (cut_word x) (cut_word w) ≡ File.step_of x w
unfolding cut_word
cut_step_of Missing w e = refl
cut_step_of (Number z) w e = refl
cut_step_of (Variable v) w e = refl
cut_step_of (Compares c) w e = refl
cut_step_of (Keyword n) w e = cut_change_of n w e
cut_step_of Other w e = refl

-- two rows with the same questions, equal where those have yes
pub checked_same : (q Q : ℕ) (k r : RowKind) → q ≡ Q → (Q ≡ 0 → k ≡ r) → File.checked q k ≡ File.checked Q r
unfolding File.checked
checked_same q zero k r e f = rw e (ap Read (f refl))
checked_same q (suc Q) k r e f = rw e

pub refusal_same : {p P q Q : ℕ} → p ≡ P → q ≡ Q → File.first_refusal p q ≡ File.first_refusal P Q
refusal_same e f = cc

-- the words of a line, and the same words cut
module _ (u w : ℕ → Word) (same : (k : ℕ) → k < 8 → u k ≡ cut_word (w k)) where
  at : (k : ℕ) → T (ltb k 8) → u k ≡ cut_word (w k)
  at k t = same k (ltb→lt k 8 t)

  end_at_lem : (k : ℕ) → T (ltb k 8) → File.asks_end (u k) ≡ File.asks_end (w k)
  end_at_lem k t = ap File.asks_end (at k t) ∙ cut_end (w k)

  number_at : (k : ℕ) → T (ltb k 8) → (lo hi : ℤ) → Below lo hi → File.asks_number lo hi (u k) ≡ File.asks_number lo hi (w k)
  number_at k t lo hi b = ap (File.asks_number lo hi) (at k t) ∙ cut_number lo hi (w k) b

  number_of_at : (k : ℕ) → T (ltb k 8) → (lo hi : ℤ) → Below lo hi → File.asks_number lo hi (w k) ≡ 0 → File.number_of (u k) ≡ File.number_of (w k)
  number_of_at k t lo hi b e = ap File.number_of (at k t) ∙ cut_number_of lo hi (w k) b e

  comparison_at : (k : ℕ) → T (ltb k 8) → File.asks_comparison (u k) ≡ File.asks_comparison (w k)
  comparison_at k t = ap File.asks_comparison (at k t) ∙ cut_comparison (w k)

  ordered_at : (k : ℕ) → T (ltb k 8) → File.asks_ordered (u k) ≡ File.asks_ordered (w k)
  ordered_at k t = ap File.asks_ordered (at k t) ∙ cut_ordered (w k)

  comparison_of_at : (k : ℕ) → T (ltb k 8) → File.comparison_of (u k) ≡ File.comparison_of (w k)
  comparison_of_at k t = ap File.comparison_of (at k t) ∙ cut_comparison_of (w k)

  change_at : (n : Name) (k : ℕ) → T (ltb k 8) → File.asks_change n (u k) ≡ File.asks_change n (w k)
  change_at n k t = ap (File.asks_change n) (at k t) ∙ cut_change n (w k)

  change_of_at : (n : Name) (k : ℕ) → T (ltb k 8) → File.asks_change n (w k) ≡ 0 → File.change_of n (u k) ≡ File.change_of n (w k)
  change_of_at n k t e = ap (File.change_of n) (at k t) ∙ cut_change_of n (w k) e

  step_at : (k l : ℕ) → T (ltb k 8) → T (ltb l 8) → File.asks_step (u k) (u l) ≡ File.asks_step (w k) (w l)
  step_at k l s t = ap (λ x. File.asks_step x (u l)) (at k s) ∙ ap (File.asks_step (cut_word (w k))) (at l t) ∙ cut_step (w k) (w l)

  step_of_at : (k l : ℕ) → T (ltb k 8) → T (ltb l 8) → File.asks_step (w k) (w l) ≡ 0 → File.step_of (u k) (u l) ≡ File.step_of (w k) (w l)
  step_of_at k l s t e = ap (λ x. File.step_of x (u l)) (at k s) ∙ ap (File.step_of (cut_word (w k))) (at l t) ∙ cut_step_of (w k) (w l) e

  module _ (vars : ℕ) (few : vars ≤ 16) (ex expr : ℕ → Parsed) (texts : (k : ℕ) → k < 8 → ex k ≡ expr k) where
    text_at : (k : ℕ) → T (ltb k 8) → ex k ≡ expr k
    text_at k t = texts k (ltb→lt k 8 t)

    expr_at : (k : ℕ) → T (ltb k 8) → File.asks_expr vars (ex k) ≡ File.asks_expr vars (expr k)
    expr_at k t = ap (File.asks_expr vars) (text_at k t)

    variable_at : (k : ℕ) → T (ltb k 8) → File.asks_variable vars (u k) ≡ File.asks_variable vars (w k)
    variable_at k t = ap (File.asks_variable vars) (at k t) ∙ cut_variable vars (w k) few

    variable_of_at : (k : ℕ) → T (ltb k 8) → File.asks_variable vars (w k) ≡ 0 → File.variable_of (u k) ≡ File.variable_of (w k)
    variable_of_at k t e = ap File.variable_of (at k t) ∙ cut_variable_of vars (w k) few e

    -- each kind of row
    bare_cut : (k : RowKind) → File.bare_row vars u ex k ≡ File.bare_row vars w expr k
    unfolding File.bare_row
    bare_cut k = checked_same _ _ k k (end_at_lem 1 tt) (λ _. refl)

    move_cut : (n : Name) → File.move_row vars u ex n ≡ File.move_row vars w expr n
    unfolding File.move_row
    move_cut n = checked_same _ _ _ _ (refusal_same (variable_at 1 tt) (refusal_same (change_at n 2 tt) (end_at_lem 3 tt))) λ h.
        let (a, b) = refusal_yes _ _ h in
        let (c, _) = refusal_yes _ _ b in
        let v = variable_of_at 1 tt a in
        let x = change_of_at n 2 tt c in
        cc

    test_same : File.asks_test vars u ex ≡ File.asks_test vars w expr
    unfolding File.asks_test
    test_same = refusal_same (variable_at 1 tt) (refusal_same (comparison_at 2 tt) (refusal_same (expr_at 3 tt) (end_at_lem 4 tt)))

    test_of_same : File.asks_test vars w expr ≡ 0
        → (File.variable_of (u 1) ≡ File.variable_of (w 1)) × (File.comparison_of (u 2) ≡ File.comparison_of (w 2))
    unfolding File.asks_test
    test_of_same h =
        let (a, b) = refusal_yes _ _ h in
        (variable_of_at 1 tt a, comparison_of_at 2 tt)

    for_cut : File.for_row vars u ex ≡ File.for_row vars w expr
    unfolding File.for_row File.asks_for
    for_cut = checked_same _ _ _ _
        (refusal_same (variable_at 1 tt) (refusal_same (expr_at 2 tt) (refusal_same (comparison_at 3 tt) (refusal_same (expr_at 4 tt)
        (refusal_same (step_at 5 6 tt tt) (end_at_lem 7 tt)))))) λ h.
        let (a, b) = refusal_yes _ _ h in
        let (c, d) = refusal_yes _ _ b in
        let (_, e) = refusal_yes _ _ d in
        let (f, g) = refusal_yes _ _ e in
        let (i, _) = refusal_yes _ _ g in
        let v = variable_of_at 1 tt a in
        let o = comparison_of_at 3 tt in
        let s = step_of_at 5 6 tt tt i in
        let x = text_at 2 tt in
        let y = text_at 4 tt in
        cc

    off_cut : File.off_row vars u ex ≡ File.off_row vars w expr
    unfolding File.off_row
    off_cut = checked_same _ _ _ _
        (refusal_same (variable_at 1 tt) (refusal_same (variable_at 2 tt) (refusal_same (ordered_at 3 tt) (refusal_same (number_at 4 tt lowest highest lowest_below) (end_at_lem 5 tt))))) λ h.
        let (a, b) = refusal_yes _ _ h in
        let (c, d) = refusal_yes _ _ b in
        let (_, e) = refusal_yes _ _ d in
        let (f, _) = refusal_yes _ _ e in
        let v = variable_of_at 1 tt a in
        let x = variable_of_at 2 tt c in
        let o = comparison_of_at 3 tt in
        let k = number_of_at 4 tt lowest highest lowest_below f in
        cc

    named_cut : (n : Name) → File.named_row vars u ex n ≡ File.named_row vars w expr n
    unfolding File.set_row File.cue_row File.while_row File.do_row File.hold_row
    named_cut Name.Set = checked_same _ _ _ _ (refusal_same (variable_at 1 tt) (refusal_same (expr_at 2 tt) (end_at_lem 3 tt))) λ h.
        let (a, b) = refusal_yes _ _ h in
        let v = variable_of_at 1 tt a in
        let x = text_at 2 tt in
        cc
    named_cut Name.Add = move_cut Name.Add
    named_cut Name.Sub = move_cut Name.Sub
    named_cut Name.Mul = move_cut Name.Mul
    named_cut Name.Div = move_cut Name.Div
    named_cut Name.Off = off_cut
    named_cut Name.Cue =
        let b : Below (pos 0) (pos 9_999) = record { low = omega ints; high = omega ints } in
        checked_same _ _ _ _ (refusal_same (number_at 1 tt (pos 0) (pos 9_999) b) (end_at_lem 2 tt)) λ h.
        let (a, _) = refusal_yes _ _ h in
        ap (λ z. RowKind.Cue (nat_abs z)) (number_of_at 1 tt (pos 0) (pos 9_999) b a)
    named_cut Name.Pick = bare_cut RowKind.Pick
    named_cut Name.Else = bare_cut RowKind.Else
    named_cut Name.End = bare_cut RowKind.End
    named_cut Name.While = checked_same _ _ _ _ test_same λ h. let (a, b) = test_of_same h in let x = text_at 3 tt in cc
    named_cut Name.Do = checked_same _ _ _ _ test_same λ h. let (a, b) = test_of_same h in let x = text_at 3 tt in cc
    named_cut Name.For = for_cut
    named_cut Name.Hold = checked_same _ _ _ _ (refusal_same (variable_at 1 tt) (end_at_lem 2 tt)) λ h.
        let (a, _) = refusal_yes _ _ h in
        ap RowKind.Hold (variable_of_at 1 tt a)

    first_cut : (x : Word) → File.first_word vars u ex (cut_word x) ≡ File.first_word vars w expr x
    unfolding cut_word
    first_cut Missing = refl
    first_cut (Number z) = refl
    first_cut (Variable v) = refl
    first_cut (Compares c) = refl
    first_cut (Keyword n) = named_cut n
    first_cut Other = refl

-- a row
pub row_cut : (vars : ℕ) (u w : ℕ → Word) (ex expr : ℕ → Parsed) → vars ≤ 16 → ((k : ℕ) → k < 8 → u k ≡ cut_word (w k)) → ((k : ℕ) → k < 8 → ex k ≡ expr k) → File.words_row vars u ex ≡ File.words_row vars w expr
unfolding File.words_row
row_cut vars u w ex expr few same texts = ap (File.first_word vars u ex) (at u w same 0 tt) ∙ first_cut u w same vars few ex expr texts (w 0)

-- the questions of a range: 3, 4, or all have yes
data Early : ℕ → Type 0 where
  none : Early 0
  three : Early 3
  four : Early 4

early_number : (lo hi : ℤ) (w : Word) → Early (File.asks_number lo hi w)
early_number lo hi Missing = three
early_number lo hi (Number z) = go (le_z lo z && le_z z hi)
  where
    go : (b : Bool) → Early (cond b 0 4)
    go true = none
    go false = four
early_number lo hi (Variable v) = three
early_number lo hi (Compares c) = three
early_number lo hi (Keyword n) = three
early_number lo hi Other = three

early_end : (w : Word) → Early (File.asks_end w)
early_end Missing = none
early_end (Number z) = three
early_end (Variable v) = three
early_end (Compares c) = three
early_end (Keyword n) = three
early_end Other = three

-- after a no, the question 4 of the order counts no more
after_no : (p : ℕ) → Early (suc p) → (b : Bool) → File.first_refusal (suc p) (cond b 0 4) ≡ suc p
unfolding File.first_refusal File.turn_of
after_no p three true = refl
after_no p three false = refl
after_no p four true = refl
after_no p four false = refl

same_no : (p : ℕ) → Early (suc p) → (s t : Bool) → File.first_refusal (suc p) (cond s 0 4) ≡ File.first_refusal (suc p) (cond t 0 4)
same_no p h s t = after_no p h s ∙ sym (after_no p h t)

order_same : {a b e : ℕ} → Early e → Early b → Early a → (s t : Bool) → (a ≡ 0 → b ≡ 0 → s ≡ t)
    → File.first_refusal a (File.first_refusal b (File.first_refusal e (cond s 0 4))) ≡ File.first_refusal a (File.first_refusal b (File.first_refusal e (cond t 0 4)))
unfolding File.first_refusal
order_same none none none s t f = rw (f refl refl)
order_same none none three s t f = same_no 2 three s t
order_same none none four s t f = same_no 3 four s t
order_same {a} none three h s t f = ap (File.first_refusal a) (same_no 2 three s t)
order_same {a} none four h s t f = ap (File.first_refusal a) (same_no 3 four s t)
order_same {a} {b} three g h s t f = ap (λ n. File.first_refusal a (File.first_refusal b n)) (same_no 2 three s t)
order_same {a} {b} four g h s t f = ap (λ n. File.first_refusal a (File.first_refusal b n)) (same_no 3 four s t)

-- a range
pub range_of_cut : (u w : ℕ → Word) → ((k : ℕ) → k < 8 → u k ≡ cut_word (w k)) → File.asks_range w ≡ 0 → File.range_words u ≡ File.range_words w
unfolding File.asks_range File.range_words
range_of_cut u w same h =
    let (a, b) = refusal_yes _ _ h in
    let (c, _) = refusal_yes _ _ b in
    let l = number_of_at u w same 0 tt lowest highest lowest_below a in
    let k = number_of_at u w same 1 tt lowest highest lowest_below c in
    cc

pub range_cut : (u w : ℕ → Word) → ((k : ℕ) → k < 8 → u k ≡ cut_word (w k)) → File.asks_range u ≡ File.asks_range w
unfolding File.asks_range File.asks_order
range_cut u w same =
    let number : (k : ℕ) → T (ltb k 8) → File.asks_number lowest highest (u k) ≡ File.asks_number lowest highest (w k) =
    λ k t. number_at u w same k t lowest highest lowest_below in
    let order : File.asks_number lowest highest (w 0) ≡ 0 → File.asks_number lowest highest (w 1) ≡ 0 → le_z (File.number_of (u 0)) (File.number_of (u 1)) ≡ le_z (File.number_of (w 0)) (File.number_of (w 1)) = λ a c.
    let l = number_of_at u w same 0 tt lowest highest lowest_below a in
    let k = number_of_at u w same 1 tt lowest highest lowest_below c in
    cc in
    refusal_same (number 0 tt) (refusal_same (number 1 tt) (refusal_same (end_at_lem u w same 2 tt) refl))
    ∙ order_same (early_end (w 2)) (early_number lowest highest (w 1)) (early_number lowest highest (w 0)) _ _ order
