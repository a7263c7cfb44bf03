-- `line_causes::cause_in` meets its contract.
use native.Mathlib.Omega.{arith}
use mathlib.Core.Path.{refl, sym, ◌∙◌}
use borrow.Author.Rules.{rules}
use Rattle.std.proofs.Common.{tests}
use Rattle.std.proofs.lemmas.List.{length_push}
use lib.ListN.{drop}
use Rattle.rules.specs.Text.{space}
use Rattle.reading.proofs.TextLaws.{part_rest}
use Rattle.program_words.proofs.Slices.{word_turn, words_end}
use Rattle.line_causes.proofs.Laws.{words_start, words_wrong, words_more, words_end as line_end}
use Rattle.line_causes.proofs.cause_in.Goals as goal

pub loop-word-init : goal.loop-word-init
loop-word-init c = (refl, words_start _ _ _ _ c.requires.0 c.requires.1)

pub returns-then-not-fits : goal.returns-then-not-fits
returns-then-not-fits c =
    let s = c.split-word-items.ensures in
    let t = word_turn space (drop c.args.from c.args.line.now) _ _ _ (s.rest ∙ part_rest c.args.line.now c.args.from) s.done s.closure c.into_iter-word-iterator.ensures.into_iter_gives c.loop-word.yielded _ c.loop-word.yielded_by _ _ c.next.ensures.steps (λ x b q k. search (rules, tests)) c.in-Some.word c.in-Some.is in
    let i = c.loop-word.invariant in
    c.word_cause.ensures ∙ sym (words_wrong _ _ _ _ _ _ i.1 c.in-Some.word.now _ i.0 t _ c.wanted-w.ensures (sym c.fits.ensures ∙ c.if-not-fits.true))

pub loop-word-preserved : goal.loop-word-preserved
loop-word-preserved c =
    let s = c.split-word-items.ensures in
    let t = word_turn space (drop c.args.from c.args.line.now) _ _ _ (s.rest ∙ part_rest c.args.line.now c.args.from) s.done s.closure c.into_iter-word-iterator.ensures.into_iter_gives c.loop-word.yielded _ c.loop-word.yielded_by _ _ c.next.ensures.steps (λ x b q k. search (rules, tests)) c.in-Some.word c.in-Some.is in
    let i = c.loop-word.invariant in (
      omega (arith, i.0, length_push c.loop-word.yielded c.in-Some.word),
      words_more _ _ _ _ _ _ i.1 c.in-Some.word.now _ i.0 t _ c.wanted-w.ensures (sym c.fits.ensures ∙ c.if-not-fits.false),
    )

pub returns : goal.returns
returns c =
    let s = c.split-word-items.ensures in
    let e = words_end space (drop c.args.from c.args.line.now) _ _ _ (s.rest ∙ part_rest c.args.line.now c.args.from) s.done s.closure c.into_iter-word-iterator.ensures.into_iter_gives c.loop-word.yielded _ c.loop-word.yielded_by _ _ c.next.ensures.steps (λ x b q k. search (rules, tests)) c.in-None.is in
    let i = c.loop-word.invariant in
    c.end_cause.ensures ∙ sym (line_end _ _ _ _ _ _ i.1 (i.0 ∙ e))
