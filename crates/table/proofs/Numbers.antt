-- The fields of a row's numbers, packed and read back. Assumes nothing.
use mathlib.Core.Path.{◌≡◌, refl, sym, ap, subst, ◌∙◌}
use mathlib.Core.List.{List, [], ◌∷◌}
use Prim.Native.Nat.{ℕ, zero, suc, ◌+◌, ◌*◌, ◌/◌, ◌%◌, ◌≤◌, ◌<◌}
use native.Mathlib.Omega.{arith}
use lib.Dec.{eqb}
use lib.IntN.{ℤ, pos}
use borrow.Author.Tests.{lt-ltb, le-ltb}
use Rattle.rules.specs.declared.Kind.TheVariants.{Set, Move, While, Do, For, Off, Hold}
use Rattle.rules.specs.declared.Operand.{Operand}
use Rattle.rules.specs.declared.Operand.TheVariants.{Constant}
use Rattle.rules.specs.declared.Comparison.{Comparison}
use Rattle.rules.specs.declared.Comparison.TheVariants.{Different}
use Rattle.rules.specs.declared.Change.{Change}
use Rattle.table.specs.declared.Tag.{Tag}
use Rattle.table.specs.Code.{constant_in, operand_in, is_expression, comparison_by, change_in, step_in, tag_in, kind_by, kind_in}
use Rattle.table.specs.Packing.{IsComparison, ComparisonCoded, FirstIs, TestIn, TestRow, Stands}

-- ---- the tag of an op, by the range that it is in
module _ (t : ℕ) where
  pub tag_end : t < 3 → tag_in t ≡ Tag.End
  tag_end h = rw (lt-ltb t 3 h)

  pub tag_set : 4 ≤ t → t < 7 → tag_in t ≡ Tag.Set
  tag_set l h = rw (le-ltb t 3 (omega arith), le-ltb t 4 l, lt-ltb t 7 h)

  pub tag_for : 8 ≤ t → t < 11 → tag_in t ≡ Tag.For
  tag_for l h = rw (le-ltb t 3 (omega arith), le-ltb t 4 (omega arith), le-ltb t 7 (omega arith), le-ltb t 8 l, lt-ltb t 11 h)

  pub tag_move : 12 ≤ t → t < 16 → tag_in t ≡ Tag.Move
  tag_move l h =
      rw (
        le-ltb t 3 (omega arith),
        le-ltb t 4 (omega arith),
        le-ltb t 7 (omega arith),
        le-ltb t 8 (omega arith),
        le-ltb t 11 (omega arith),
        le-ltb t 12 l,
        lt-ltb t 16 h,
      )

  pub tag_hold : 19 ≤ t → tag_in t ≡ Tag.Hold
  tag_hold l =
      rw (
        le-ltb t 3 (omega arith),
        le-ltb t 4 (omega arith),
        le-ltb t 7 (omega arith),
        le-ltb t 8 (omega arith),
        le-ltb t 11 (omega arith),
        le-ltb t 12 (omega arith),
        le-ltb t 16 (omega arith),
        le-ltb t 17 (omega arith),
        le-ltb t 18 (omega arith),
        le-ltb t 19 l,
      )

-- ---- the bit of a limit's kind that says an expression
expression_kind : (k x : ℕ) → k < 4 → eqb (k / 2) 1 ≡ is_expression (operand_in k x)
expression_kind zero x h = refl
expression_kind (suc zero) x h = refl
expression_kind (suc (suc zero)) x h = refl
expression_kind (suc (suc (suc zero))) x h = refl
expression_kind (suc (suc (suc (suc k)))) x h = absurd (omega arith)

pub is_expression_lem : (w x : ℕ) → eqb (w / 1_048_576 % 2) 1 ≡ is_expression (operand_in (w / 524_288 % 4) x)
is_expression_lem w x =
    let e : w / 1_048_576 % 2 ≡ w / 524_288 % 4 / 2 = omega arith in
    rw e (expression_kind (w / 524_288 % 4) x (omega arith))

-- a variable is a byte
pub small : (v : ℕ) → v < 16 → v % 256 ≡ v
small v h = omega arith

-- ---- an expression's place and length, from one number
pub place_of : (at n : ℕ) → at + n ≤ 16_384 → (at * 65_536 + n) / 65_536 ≡ at
place_of at n h = omega arith

pub length_of : (at n : ℕ) → at + n ≤ 16_384 → (at * 65_536 + n) % 65_536 ≡ n
length_of at n h = omega arith

-- ---- the numbers of a row by its kind
module _ (w v a : ℕ) where
  pub set_stands : (k : ℕ) (x : Operand) → FirstIs (4 + k) v 0 0 0 w → k < 3 → operand_in k a ≡ x → Stands (Set v x) (w ∷ a ∷ 0 ∷ 0 ∷ [])
  unfolding kind_in kind_by
  set_stands k x f h e =
      let m : w % 256 % 4 ≡ k = omega (arith, f.op_is) in
      record {
        kind = ap (λ g. kind_by g (w ∷ a ∷ 0 ∷ 0 ∷ [])) (ap tag_in f.op_is ∙ tag_set (4 + k) (omega arith) (omega arith)) ∙ (λ z. Set (f.variable_is z) ((ap (λ n. operand_in n a) m ∙ e) z));
        test = tt;
        no_partner = f.no_partner;
      }

  pub move_stands : (k : ℕ) (d : Change) → FirstIs (12 + k) v 0 0 k w → k < 4 → change_in k a ≡ d → Stands (Move v d) (w ∷ 0 ∷ 0 ∷ a ∷ [])
  unfolding kind_in kind_by
  move_stands k d f h e =
      let m : w % 256 % 4 ≡ k = omega (arith, f.op_is) in
      record {
        kind = ap (λ g. kind_by g (w ∷ 0 ∷ 0 ∷ a ∷ [])) (ap tag_in f.op_is ∙ tag_move (12 + k) (omega arith) (omega arith)) ∙ (λ z. Move (f.variable_is z) ((ap (λ n. change_in n a) f.change_is ∙ e) z));
        test = ap (λ n. change_in n a) m ∙ e;
        no_partner = f.no_partner;
      }

  pub off_stands : (b c u : ℕ) (q : Comparison) (k : ℤ) → FirstIs 16 v c 0 0 w → ComparisonCoded q c → a % 256 ≡ u → constant_in b ≡ k → Stands (Off v u q k) (w ∷ a ∷ b ∷ 0 ∷ [])
  unfolding kind_in kind_by
  off_stands b c u q k f e g h =
      record {
        kind = ap (λ r. kind_by r (w ∷ a ∷ b ∷ 0 ∷ [])) (ap tag_in f.op_is) ∙ (λ z. Off (f.variable_is z) (g z) ((ap comparison_by f.comparison_is ∙ e.same) z) (h z));
        test = subst IsComparison (sym f.comparison_is) e.code;
        no_partner = f.no_partner;
      }

  -- a row's test
  test_in_lem : (c l b n : ℕ) (op d : ℕ) (q : Comparison) (x : Operand) → FirstIs op v c l d w → ComparisonCoded q c → operand_in l b ≡ x → TestIn v q x (w ∷ a ∷ b ∷ n ∷ [])
  test_in_lem c l b n op d q x f e h = record {
    variable = f.variable_is;
    comparison = ap comparison_by f.comparison_is ∙ e.same;
    code = subst IsComparison (sym f.comparison_is) e.code;
    limit = ap (λ k. operand_in k b) f.limit_is ∙ h;
  }

  pub for_stands : (b n k c l m : ℕ) (x : Operand) (q : Comparison) (y : Operand) (d : Change) → FirstIs (8 + k) v c l m w → k < 3 → operand_in k a ≡ x → ComparisonCoded q c → operand_in l b ≡ y
      → change_in m n ≡ d → Stands (For v x q y d) (w ∷ a ∷ b ∷ n ∷ [])
  unfolding kind_in kind_by
  for_stands b n k c l m x q y d f h e g i j =
      let p : w % 256 % 4 ≡ k = omega (arith, f.op_is) in
      let t = test_in_lem c l b n (8 + k) m q y f g i in
      let s : step_in (w ∷ a ∷ b ∷ n ∷ []) ≡ d = ap (λ r. change_in r n) f.change_is ∙ j in
      record {
        kind = ap (λ r. kind_by r (w ∷ a ∷ b ∷ n ∷ [])) (ap tag_in f.op_is ∙ tag_for (8 + k) (omega arith) (omega arith))
            ∙ (λ z. For (f.variable_is z) ((ap (λ r. operand_in r a) p ∙ e) z) (t.comparison z) (t.limit z) (s z));
        test = (t, s);
        no_partner = f.no_partner;
      }

pub test_row : (w v b c l op : ℕ) (q : Comparison) (x : Operand) → FirstIs op v c l 0 w → ComparisonCoded q c → operand_in l b ≡ x → TestRow op v q x (w ∷ 0 ∷ b ∷ 0 ∷ [])
test_row w v b c l op q x f e h = record { op_is = f.op_is; test = test_in_lem w v 0 c l b 0 op 0 q x f e h; no_partner = f.no_partner }

-- a while, a do, a hold
module _ (v : ℕ) (e : List ℕ) where
  pub while_stands : (q : Comparison) (x : Operand) → TestRow 17 v q x e → Stands (While v q x) e
  unfolding kind_in kind_by
  while_stands q x t = record {
    kind = ap (λ g. kind_by g e) (ap tag_in t.op_is) ∙ (λ z. While (t.test.variable z) (t.test.comparison z) (t.test.limit z));
    test = t.test;
    no_partner = t.no_partner;
  }

  pub do_stands : (q : Comparison) (x : Operand) → TestRow 18 v q x e → Stands (Do v q x) e
  unfolding kind_in kind_by
  do_stands q x t = record {
    kind = ap (λ g. kind_by g e) (ap tag_in t.op_is) ∙ (λ z. Do (t.test.variable z) (t.test.comparison z) (t.test.limit z));
    test = t.test;
    no_partner = t.no_partner;
  }

  pub hold_stands : TestRow 19 v Different (Constant (pos 0)) e → Stands (Hold v) e
  unfolding kind_in kind_by
  hold_stands t = record { kind = ap (λ g. kind_by g e) (ap tag_in t.op_is) ∙ ap Hold t.test.variable; test = t.test; no_partner = t.no_partner }
