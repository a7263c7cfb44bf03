-- A row that has passed the questions 4 and 5 can stand in a table.
use mathlib.Core.Path.{◌≡◌, subst}
use mathlib.Core.List.{List, [], ◌∷◌}
use Prim.Native.Nat.{ℕ, zero, suc, ◌≤◌, ◌<◌}
use native.Mathlib.Omega.{arith}
use lib.IntN.{ℤ, pos}
use lib.ListN.{length, get_or, take}
use lib.Signed.{◌≤ℤ◌}
use Rattle.ints.proofs.Parts.{ints, neg_parts}
use Rattle.rules.specs.declared.Row.{Row}
use Rattle.rules.specs.declared.Kind.{Kind}
use Rattle.rules.specs.declared.Kind.TheVariants.{Set, Move, Cue, Pick, Else, End, While, Do, For, Off, Hold}
use Rattle.rules.specs.declared.Operand.{Operand}
use Rattle.rules.specs.declared.Operand.TheVariants.{Constant, Variable, Expression}
use Rattle.rules.specs.declared.Change.{Change}
use Rattle.rules.specs.declared.Change.TheVariants.{Add, Sub, Mul, Div}
use Rattle.rules.specs.Values.{lowest, highest}
use Rattle.rules.specs.Blocks
use Rattle.rules.specs.Blocks.{expr_of, kind_of, kinds_of}
use Rattle.rules.specs.Written.{WrittenOperand, Written}
use Rattle.rules_steps.specs.Ends.{Near}
use Rattle.rules.specs.Bounds.{FineOperand, FineChange, Fine}
use Rattle.rules.specs.Scripts.{All, none, some, ExprLimits, ChangeLimits, RowLimits, ExprBelow, RowBelow, script_of, Legal}
use Rattle.rules.proofs.Laws.{kind_of_lem}
use Rattle.table.specs.Code.{kind_at}

near : (k : ℤ) → lowest ≤ℤ k → k ≤ℤ highest → Near 1 k
unfolding lowest highest
near k h l = omega (ints, neg_parts (pos 1_000_000_000))

small : (c : ℕ) → pos c ≤ℤ highest → c ≤ 1_000_000_000
unfolding highest
small c h = omega ints

change_fine : (c : Change) → ChangeLimits c → FineChange c
change_fine (Add c) h = small c h
change_fine (Sub c) h = small c h
change_fine (Mul c) (l, h) = (l, small c h)
change_fine (Div c) (l, h) = (l, small c h)

module _ (text : List ℕ) (short : length text ≤ 16_384) (m : ℕ) (h : m ≤ 16) where
  operand_fine : (x : Operand) → ExprLimits (expr_of text x) → ExprBelow m (expr_of text x) → WrittenOperand text x → FineOperand x
  unfolding expr_of ExprLimits ExprBelow
  operand_fine (Constant k) (a, b) o w = near k a b
  operand_fine (Variable u) l o w = omega arith
  operand_fine (Expression at n) l o w = omega (arith, w.within)

  pub row_fine : (k : Kind) → RowLimits (kind_of text k) → RowBelow m (kind_of text k) → Written text k → Fine k
  unfolding kind_of
  row_fine (Set v x) l (a, b) w = (omega arith, operand_fine x l b w)
  row_fine (Move v c) l a w = (omega arith, change_fine c l)
  row_fine (Cue n) l b w = tt
  row_fine Pick l b w = tt
  row_fine Else l b w = tt
  row_fine End l b w = tt
  row_fine (While v c x) l (a, b) w = (omega arith, operand_fine x l b w)
  row_fine (Do v c x) l (a, b) w = (omega arith, operand_fine x l b w)
  row_fine (For v s c x d) (p, q, r) (a, b, e) (w, z) = (omega arith, operand_fine s p b w, operand_fine x q e z, change_fine d r)
  row_fine (Off v u c k) (p, q) (a, b) w = (omega arith, omega arith, near k p q)
  row_fine (Hold v) l b w = omega arith

-- what holds of every element holds of each
pub all_get : {A : Type 0} {Q : A → Type 0} (l : List A) → All Q l → (i : ℕ) → i < length l → (d : A) → Q (get_or l i d)
all_get [] none i h d = absurd (omega arith)
all_get (x ∷ l) (some q a) zero h d = q
all_get (x ∷ l) (some q a) (suc i) h d = all_get l a i (omega arith) d

-- each row of a legal script
pub legal_fine : (text : List ℕ) (ranges : List (List ℤ)) (vars : ℕ) (rows : List Row) (count : ℕ) → Legal (script_of text ranges vars rows count) → length text ≤ 16_384
    → length (script_of text ranges vars rows count).rows ≡ count → ((i : ℕ) → i < count → Written text (kind_at rows i)) → (i : ℕ) → i < count → Fine (kind_at rows i)
unfolding script_of
legal_fine text ranges vars rows count legal short long written i h =
    let ks : List Blocks.RowKind = take count (kinds_of text rows) in
    let k : i < length (take count (kinds_of text rows)) = omega (arith, long) in
    let e = kind_of_lem text count rows i h in
    row_fine text short _ legal.sizes.0 (kind_at rows i)
    (subst RowLimits e (all_get ks legal.numbers.1 i k Blocks.End)) (subst (RowBelow _) e (all_get ks legal.variables i k Blocks.End)) (written i h)
