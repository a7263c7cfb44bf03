-- Rows that are the same but for some fields: the same kind, the same test. Assumes nothing.
use mathlib.Core.Path.{◌≡◌, refl, sym, ap, subst, ◌∙◌}
use mathlib.Core.Bool.{true}
use mathlib.Core.List.{List, [], ◌∷◌}
use mathlib.Core.Logic.{◌⊎◌, inl, inr}
use Prim.Native.Nat.{ℕ, ◌+◌, ◌*◌, ◌/◌, ◌%◌, ◌<◌}
use native.Mathlib.Omega.{arith}
use lib.ListN.{length, get_or, set, length-set}
use Rattle.rules.specs.declared.Kind.{Kind}
use Rattle.rules.specs.declared.Kind.TheVariants.{Set, Move, Cue, Pick, Else, End, While, Do, For, Off, Hold}
use Rattle.rules.specs.declared.Operand.{Operand}
use Rattle.rules.specs.declared.Comparison.{Comparison}
use Rattle.rules.specs.Blocks.{no_step, step_by, View, is_plain, is_pick, is_else, is_end, is_loop, view_of, kind_of}
use Rattle.rules.specs.Calls.{is_loop_row}
use Rattle.rules.proofs.Laws.{no_true}
use Rattle.table.specs.declared.Tag.{Tag}
use Rattle.table.specs.Code.{constant_in, operand_in, comparison_by, change_in, number, op_in, variable_in, comparison_in, limit_kind_in, change_kind_in, partner_in, limit_in, step_in, tag_in, row_tag, kind_by, kind_in, numbers_at}
use Rattle.table.specs.Packing.{IsComparison, TestIn, TestOf, NumbersPut}
use Rattle.table.specs.Paired.{columns_in, SameTest, Kept, PartnerPut, end_op, EndsWith, EndPut}
use Rattle.table.proofs.Numbers.{tag_end}
use Rattle.table.proofs.Laws.{first_put, first_others}

-- the fields of the columns
variable_of_lem : (n : ℕ) → n / 256 % 256 ≡ n / 256 % 65_536 % 256
variable_of_lem n = omega arith

comparison_of_lem : (n : ℕ) → n / 65_536 % 8 ≡ n / 256 % 65_536 / 256 % 8
comparison_of_lem n = omega arith

limit_kind_of : (n : ℕ) → n / 524_288 % 4 ≡ n / 256 % 65_536 / 2_048 % 4
limit_kind_of n = omega arith

change_kind_of : (n : ℕ) → n / 2_097_152 % 4 ≡ n / 256 % 65_536 / 8_192 % 4
change_kind_of n = omega arith

module _ (e e' : List ℕ) (s : SameTest e e') where
  same_variable : variable_in e' ≡ variable_in e
  same_variable = variable_of_lem (number e' 0) ∙ ap (λ n. n % 256) s.columns ∙ sym (variable_of_lem (number e 0))

  same_code : comparison_in e' ≡ comparison_in e
  same_code = comparison_of_lem (number e' 0) ∙ ap (λ n. n / 256 % 8) s.columns ∙ sym (comparison_of_lem (number e 0))

  same_comparison : comparison_by (comparison_in e') ≡ comparison_by (comparison_in e)
  same_comparison = ap comparison_by same_code

  code_in : IsComparison (comparison_in e) → IsComparison (comparison_in e')
  code_in = subst IsComparison (sym same_code)

  same_limit : limit_in e' ≡ limit_in e
  same_limit =
      let k : limit_kind_in e' ≡ limit_kind_in e = limit_kind_of (number e' 0) ∙ ap (λ n. n / 2_048 % 4) s.columns ∙ sym (limit_kind_of (number e 0)) in
      λ z. operand_in (k z) (s.limit z)

  same_step : step_in e' ≡ step_in e
  same_step =
      let k : change_kind_in e' ≡ change_kind_in e = change_kind_of (number e' 0) ∙ ap (λ n. n / 8_192 % 4) s.columns ∙ sym (change_kind_of (number e 0)) in
      λ z. change_in (k z) (s.change z)

  test_in_lem : (v : ℕ) (c : Comparison) (x : Operand) → TestIn v c x e → TestIn v c x e'
  test_in_lem v c x t = record { variable = same_variable ∙ t.variable; comparison = same_comparison ∙ t.comparison; code = code_in t.code; limit = same_limit ∙ t.limit }

  -- it tells the same test, if it has the same op, or a loop's head had it
  pub test_of : (text : List ℕ) (k : Kind) → (op_in e' ≡ op_in e) ⊎ (is_loop_row (view_of (kind_of text k)) ≡ true) → TestOf k e → TestOf k e'
  unfolding view_of kind_of is_loop_row
  test_of text End o t = tt
  test_of text Else o t = tt
  test_of text Pick o t = tt
  test_of text (Set v x) o t = tt
  test_of text (Move v d) (inl o) t = (λ z. change_in (o z % 4) (s.change z)) ∙ t
  test_of text (Move v d) (inr l) t = no_true l
  test_of text (Off v w c k) o t = code_in t
  test_of text (Cue n) o t = tt
  test_of text (While v c x) o t = test_in_lem v c x t
  test_of text (Do v c x) o t = test_in_lem v c x t
  test_of text (For v s c x d) o (t, q) = (test_in_lem v c x t, same_step ∙ q)
  test_of text (Hold v) o t = test_in_lem v _ _ t

-- a row that is kept has its kind
module _ (e e' : List ℕ) (k : Kept e e') where
  kind_by_lem : (g : Tag) → kind_by g e' ≡ kind_by g e
  unfolding kind_by
  kind_by_lem Tag.End = refl
  kind_by_lem Tag.Else = refl
  kind_by_lem Tag.Pick = refl
  kind_by_lem Tag.Set = λ z. Set (same_variable e e' k.test z) (operand_in (k.op z % 4) (k.start z))
  kind_by_lem Tag.Move = λ z. Move (same_variable e e' k.test z) (same_step e e' k.test z)
  kind_by_lem Tag.Cue = ap Cue k.test.change
  kind_by_lem Tag.While = λ z. While (same_variable e e' k.test z) (same_comparison e e' k.test z) (same_limit e e' k.test z)
  kind_by_lem Tag.Do = λ z. Do (same_variable e e' k.test z) (same_comparison e e' k.test z) (same_limit e e' k.test z)
  kind_by_lem Tag.For =
      λ z. For (same_variable e e' k.test z) (operand_in (k.op z % 4) (k.start z)) (same_comparison e e' k.test z) (same_limit e e' k.test z) (same_step e e' k.test z)
  kind_by_lem Tag.Off = λ z. Off (same_variable e e' k.test z) (k.start z % 256) (same_comparison e e' k.test z) (constant_in (k.test.limit z))
  kind_by_lem Tag.Hold = ap Hold (same_variable e e' k.test)

  pub kind_same : kind_in e' ≡ kind_in e
  unfolding kind_in
  kind_same = ap (λ o. kind_by (tag_in o) e') k.op ∙ kind_by_lem (row_tag e)

-- rows with the same numbers
pub kept_same : (e e' : List ℕ) → e' ≡ e → Kept e e'
kept_same e e' p = record {
  op = ap op_in p;
  start = ap (λ x. number x 1) p;
  test = record { columns = ap columns_in p; limit = ap (λ x. number x 2) p; change = ap (λ x. number x 3) p };
}

-- one test after the other
pub test_trans : (e f g : List ℕ) → SameTest e f → SameTest f g → SameTest e g
test_trans e f g p q = record { columns = q.columns ∙ p.columns; limit = q.limit ∙ p.limit; change = q.change ∙ p.change }

pub test_sym : (e f : List ℕ) → SameTest e f → SameTest f e
test_sym e f p = record { columns = sym p.columns; limit = sym p.limit; change = sym p.change }

-- ---- the first number with another partner, and that of an `end`
module _ (w j : ℕ) where
  pub partner_op : (w % 16_777_216 + 16_777_216 * j) % 256 ≡ w % 256
  partner_op = omega arith

  pub partner_columns : (w % 16_777_216 + 16_777_216 * j) / 256 % 65_536 ≡ w / 256 % 65_536
  partner_columns = omega arith

  pub partner_is : (w % 16_777_216 + 16_777_216 * j) / 16_777_216 ≡ j
  partner_is = omega arith

module _ (op c h : ℕ) (small : op < 256) (few : c < 65_536) where
  pub end_op_lem : (op + 256 * c + 16_777_216 * h) % 256 ≡ op
  end_op_lem = omega arith

  pub end_columns : (op + 256 * c + 16_777_216 * h) / 256 % 65_536 ≡ c
  end_columns = omega arith

  pub end_partner : (op + 256 * c + 16_777_216 * h) / 16_777_216 ≡ h
  end_partner = omega arith

-- the op of an `end` is one
pub end_small : (v : View) → end_op v < 3
end_small (is_plain p) = omega arith
end_small is_pick = omega arith
end_small is_else = omega arith
end_small is_end = omega arith
end_small (is_loop form test no_step) = omega arith
end_small (is_loop form test (step_by p)) = omega arith

pub end_kind : (e : List ℕ) → op_in e < 3 → kind_in e ≡ End
unfolding kind_in kind_by
end_kind e h = ap (λ g. kind_by g e) (tag_end (op_in e) h)

-- ---- rows that are put
pub partner_put : (t : List ℕ) (h i : ℕ) → 4 * h + 3 < length t
    → PartnerPut h i t (set t (4 * h + 0) (get_or t (4 * h + 0) 0 % 16_777_216 + 16_777_216 * i))
partner_put t h i l =
    let w = get_or t (4 * h + 0) 0 in
    let q = first_put t h (w % 16_777_216 + 16_777_216 * i) l in
    record {
      kept = record {
        op = ap op_in q ∙ partner_op w i;
        start = ap (λ x. number x 1) q;
        test = record { columns = ap columns_in q ∙ partner_columns w i; limit = ap (λ x. number x 2) q; change = ap (λ x. number x 3) q };
      };
      partner = ap partner_in q ∙ partner_is w i;
      only = record { size = length-set t (4 * h + 0) (w % 16_777_216 + 16_777_216 * i); others = first_others t h (w % 16_777_216 + 16_777_216 * i) l };
    }

pub end_put : (t t' : List ℕ) (h i n op c : ℕ) → NumbersPut i ((op + 256 * c + 16_777_216 * h) ∷ n ∷ get_or t (4 * h + 2) 0 ∷ get_or t (4 * h + 3) 0 ∷ []) t t'
    → EndsWith (numbers_at t h) op → c ≡ columns_in (numbers_at t h) → EndPut h i n t t'
end_put t t' h i n op c p e q =
    let small : op < 256 = omega (arith, e [], end_small (view_of (kind_of [] (kind_in (numbers_at t h))))) in
    let few : c < 65_536 = omega (arith, q) in
    record {
      op = λ text. ap op_in p.row ∙ end_op_lem op c h small few ∙ e text;
      partner = ap partner_in p.row ∙ end_partner op c h small few;
      loop = ap (λ x. number x 1) p.row;
      test = record { columns = ap columns_in p.row ∙ end_columns op c h small few ∙ q; limit = ap (λ x. number x 2) p.row; change = ap (λ x. number x 3) p.row };
      only = p.only;
    }
