use mathlib.Core.Path.{◌≡◌, sym, ap}
use Prim.Native.Nat.{ℕ, ◌+◌, ◌*◌, ◌<◌}
use mathlib.Core.List.{List}
use lib.ListN.{length}
use Rattle.std.proofs.Common.{inl, inr}
use Rattle.table.specs.declared.Tag.{Tag}
use Rattle.rules.specs.Blocks.{view_of, kind_of}
use Rattle.table.specs.Code.{numbers_at, row_tag, kind_by, kind_at, rows_of}
use Rattle.table.specs.Shapes.{shape_of}
use Rattle.table.proofs.Laws.{kind_is}
use Rattle.table.proofs.shape_at.Goals as goal

-- the shape of a row whose tag is known
is : (rows : List ℕ) (i : ℕ) → 4 * i + 3 < length rows → {g h : Tag} → g ≡ row_tag (numbers_at rows i) → g ≡ h → shape_of (kind_by h (numbers_at rows i)) ≡ shape_of (kind_at (rows_of rows) i)
is rows i k p q = sym (ap shape_of (kind_is rows i k p q))

pub returns-in-End : goal.returns-in-End
unfolding kind_by view_of kind_of
returns-in-End c = elim c.in-End.is [ inl e ↦ is _ _ c.requires c.tag_at.ensures e | inr e ↦ is _ _ c.requires c.tag_at.ensures e ]

pub returns-in-Pick : goal.returns-in-Pick
unfolding kind_by view_of kind_of
returns-in-Pick c = is _ _ c.requires c.tag_at.ensures c.in-Pick.is

pub returns-in-While : goal.returns-in-While
unfolding kind_by view_of kind_of
returns-in-While c =
    elim c.in-While.is [
      | inl e ↦ is _ _ c.requires c.tag_at.ensures e
      | inr (inl e) ↦ is _ _ c.requires c.tag_at.ensures e
      | inr (inr (inl e)) ↦ is _ _ c.requires c.tag_at.ensures e
      | inr (inr (inr e)) ↦ is _ _ c.requires c.tag_at.ensures e
    ]

pub returns-in-Set : goal.returns-in-Set
unfolding kind_by view_of kind_of
returns-in-Set c =
    elim c.in-Set.is [
      | inl e ↦ is _ _ c.requires c.tag_at.ensures e
      | inr (inl e) ↦ is _ _ c.requires c.tag_at.ensures e
      | inr (inr (inl e)) ↦ is _ _ c.requires c.tag_at.ensures e
      | inr (inr (inr e)) ↦ is _ _ c.requires c.tag_at.ensures e
    ]
