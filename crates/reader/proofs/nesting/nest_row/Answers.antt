use Rattle.std.proofs.Common.{◌∙◌, inl, inr}
use Rattle.rules.specs.Blocks.{view_of, kind_of}
use Rattle.rules.specs.Nesting.{nest_row}
use Rattle.reader.specs.Open.{nest_of}
use Rattle.reader.proofs.NestingLaws.{pick_opens}
use Rattle.reader.proofs.nesting.nest_row.Goals as goal

pub returns-in-End-clause-nests : goal.returns-in-End-clause-nests
unfolding view_of kind_of nest_row nest_of
returns-in-End-clause-nests c = λ text. rw c.in-End.is c.end_block.ensures.nests

pub returns-in-Else-clause-nests : goal.returns-in-Else-clause-nests
unfolding view_of kind_of nest_row nest_of
returns-in-Else-clause-nests c = λ text. rw c.in-Else.is c.else_part.ensures.nests

pub returns-in-Pick-clause-nests : goal.returns-in-Pick-clause-nests
unfolding view_of kind_of nest_row nest_of
returns-in-Pick-clause-nests c = λ text. rw c.in-Pick.is (c.opened.ensures.nests ∙ pick_opens c.args.b)

pub returns-in-While-clause-nests : goal.returns-in-While-clause-nests
unfolding view_of kind_of nest_row nest_of
returns-in-While-clause-nests c = λ text.
    elim c.in-While.is [
      | inl (_, _, _, e) ↦ rw e c.open_loop.ensures.nests
      | inr (inl (_, _, _, e)) ↦ rw e c.open_loop.ensures.nests
      | inr (inr (inl (_, _, _, _, _, e))) ↦ rw e c.open_loop.ensures.nests
      | inr (inr (inr (_, e))) ↦ rw e c.open_loop.ensures.nests
    ]

pub returns-in-Set-clause-nests : goal.returns-in-Set-clause-nests
unfolding view_of kind_of nest_row nest_of
returns-in-Set-clause-nests c = λ text.
    elim c.in-Set.is [
      | inl (_, _, e) ↦ rw e
      | inr (inl (_, _, e)) ↦ rw e
      | inr (inr (inl (_, e))) ↦ rw e
      | inr (inr (inr (_, _, _, _, e))) ↦ rw e
    ]
