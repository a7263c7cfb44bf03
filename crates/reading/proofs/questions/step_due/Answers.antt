use Rattle.std.proofs.Common.{◌≡◌, ◌∙◌, ap, add-one, rules, None}
use Rattle.rules.specs.File.{first_refusal}
use Rattle.reading.specs.Answers.{answer_number}
use Rattle.reading.proofs.Scanning.{opened, no_leaf, leafed}
use Rattle.reading.proofs.questions.step_due.Goals as goal

pub returns-then-word-c-eq40 : goal.returns-then-word-c-eq40
returns-then-word-c-eq40 c = let p = c.requires in rw (add-one, add-one) (opened _ _ _ p.2 p.1 c.if-word-c-eq40.true)

pub returns-in_default : goal.returns-in_default
returns-in_default c =
    let p = c.requires in
    let n : c.leaf_at.result ≡ None = search rules in
    no_leaf _ _ _ p.2 p.0 p.1 c.if-word-c-eq40.false (rw n at c.leaf_at.ensures)

pub returns : goal.returns
returns c =
    let p = c.requires in
    leafed _ _ _ p.2 p.0 p.1 c.if-word-c-eq40.false c.in-Some.found c.in-Some.ensures _ _ c.max.ensures (c.first_refusal.ensures ∙ ap (λ q. first_refusal (answer_number c.args.c.asks) q) c.asks_leaf.ensures)
