use mathlib.Core.Path.{◌≡◌, refl, sym, ◌∙◌, ap}
use mathlib.Core.List.{List}
use Prim.Native.Nat.{ℕ}
use Rattle.std.proofs.Common.{inl, inr}
use Rattle.rules.specs.Blocks.{view_of, kind_of}
use Rattle.table.specs.declared.Tag.{Tag}
use Rattle.table.specs.Code.{kind_by, kind_in, row_tag, numbers_at}
use Rattle.table.specs.Paired.{end_op}
use Rattle.table.proofs.Laws.{not_loop}
use Rattle.table.proofs.end_op.Goals as goal

-- the op by the head's tag
is : (e : List ℕ) {g h : Tag} → h ≡ row_tag e → h ≡ g → (text : List ℕ) → end_op (view_of (kind_of text (kind_by g e))) ≡ end_op (view_of (kind_of text (kind_in e)))
unfolding kind_in
is e p q text = ap (λ g. end_op (view_of (kind_of text (kind_by g e)))) (sym q ∙ p)

pub returns-in-While : goal.returns-in-While
unfolding kind_by view_of kind_of
returns-in-While c =
    elim c.in-While.is [
      | inl e ↦ is _ c.tag_at.ensures e
      | inr (inl e) ↦ is _ c.tag_at.ensures e
      | inr (inr e) ↦ is _ c.tag_at.ensures e
    ]

pub returns-in-For : goal.returns-in-For
unfolding kind_by view_of kind_of
returns-in-For c = is _ c.tag_at.ensures c.in-For.is

pub returns-in_default : goal.returns-in_default
returns-in_default c = λ text. sym (not_loop text c.tag_at.result (numbers_at c.args.rows.now c.args.h) c.in_default.not-While c.in_default.not-Do c.in_default.not-For c.in_default.not-Hold) ∙ is _ c.tag_at.ensures refl text
