use Rattle.std.proofs.Common.{inl, inr}
use Rattle.rules.specs.Blocks.{view_of, kind_of}
use Rattle.table.proofs.role_of.Goals as goal

pub returns-in-While : goal.returns-in-While
unfolding view_of kind_of
returns-in-While c =
    elim c.in-While.is [
      | inl (_, _, _, e) ↦ rw e
      | inr (inl (_, _, _, e)) ↦ rw e
      | inr (inr (inl (_, _, _, _, _, e))) ↦ rw e
      | inr (inr (inr (_, e))) ↦ rw e
    ]

pub returns-in-Set : goal.returns-in-Set
unfolding view_of kind_of
returns-in-Set c =
    elim c.in-Set.is [
      | inl (_, _, e) ↦ rw e
      | inr (inl (_, _, e)) ↦ rw e
      | inr (inr (inl (_, e))) ↦ rw e
      | inr (inr (inr (_, _, _, _, e))) ↦ rw e
    ]
