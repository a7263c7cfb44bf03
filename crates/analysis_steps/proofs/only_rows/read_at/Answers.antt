-- `analysis_steps::only_rows::read_at` meets its contract.
use borrow.Author.Rules.{rules}
use borrow.Author.Tests.{eq-eqb, ne_eqb}
use mathlib.Core.Path.{sym, ◌∙◌}
use Rattle.analysis_steps.proofs.Walking.{ready}
use Rattle.analysis_steps.proofs.Soles.{rest_is, read_is}
use Rattle.analysis_steps.proofs.only_rows.read_at.Goals as goal

pub returns-then-w-v : goal.returns-then-w-v
returns-then-w-v c = λ text p. record { value = sym (read_is _ _ _ _ _ _ (p.reads _) ∙ rw (eq-eqb _ _ c.if-w-v.true)); small = tt }

pub returns-then-contains : goal.returns-then-contains
returns-then-contains c = λ text p.
    let rest = rest_is c.new-rest.ensures (c.moves_of.ensures text (ready p.ready (search rules))) in
    record {
      value = sym (read_is _ _ _ _ _ _ (p.reads _) ∙ rw (ne_eqb _ _ c.if-w-v.false, sym (rest c.args.v) ∙ sym c.contains.ensures ∙ c.if-contains.true));
      small = tt;
    }

pub returns-then-contains-2 : goal.returns-then-contains-2
returns-then-contains-2 c = λ text p.
    let rest = rest_is c.new-rest.ensures (c.moves_of.ensures text (ready p.ready (search rules))) in
    record {
      value = sym (read_is _ _ _ _ _ _ (p.reads _)
          ∙ rw (ne_eqb _ _ c.if-w-v.false, sym (rest c.args.v) ∙ sym c.contains.ensures ∙ c.if-contains.false, sym c.contains-2.ensures ∙ c.if-contains-2.true));
      small = tt;
    }

pub returns : goal.returns
returns c = λ text p.
    let rest = rest_is c.new-rest.ensures (c.moves_of.ensures text (ready p.ready (search rules))) in
    record {
      value = sym (read_is _ _ _ _ _ _ (p.reads _)
          ∙ rw (ne_eqb _ _ c.if-w-v.false, sym (rest c.args.v) ∙ sym c.contains.ensures ∙ c.if-contains.false, sym c.contains-2.ensures ∙ c.if-contains-2.false, sym c.contains-3.ensures, sym (rest c.args.w) ∙ sym c.contains-4.ensures));
      small = p.other;
    }
