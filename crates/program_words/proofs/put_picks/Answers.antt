-- `program_words::put_picks` meets its contract.
use mathlib.Core.Path.{sym, ap, ◌∙◌}
use borrow.Author.Tests.{eqb-true, eqb-false}
use Rattle.std.specs.Bool.{then_some}
use Rattle.program_words.proofs.Bits.{then_done, none_put, empty_refused, size_refused, bits_put}
use Rattle.program_words.proofs.put_picks.Goals as goal
use Rattle.program_words.proofs.put_picks.Goals.{then-is_empty-via-then-is_empty, then-is_empty-via-else-is_empty+then-word-picks}

pub returns-then-is_none : goal.returns-then-is_none
returns-then-is_none c =
    none_put _ _ _ (sym c.is_none.ensures ∙ c.if-is_none.true) (c.then_some.ensures ∙ ap (λ t. then_some t tt) c.is_empty.ensures ∙ then_done _)

pub returns-then-is_empty : goal.returns-then-is_empty
returns-then-is_empty c =
    let e = sym c.is_none.ensures ∙ c.if-is_none.false in
    elim c.then-is_empty.branch [
      | then-is_empty-via-then-is_empty w ↦ empty_refused _ _ e (eqb-true _ _ (sym c.is_empty-2.ensures ∙ w.if-is_empty.true))
      | then-is_empty-via-else-is_empty+then-word-picks w ↦ size_refused _ _ e w.if-word-picks.true
    ]

pub returns : goal.returns
returns c =
    bits_put _ _ (sym c.is_none.ensures ∙ c.if-is_none.false) (eqb-false _ _ (sym c.if-is_empty.ensures)) c.if-word-picks.false _ _ c.put_bits.ensures
