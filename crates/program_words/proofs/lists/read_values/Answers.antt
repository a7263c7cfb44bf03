-- `program_words::lists::read_values` meets its contract.
use mathlib.Core.Path.{sym, ◌∙◌}
use native.Mathlib.Omega.{arith}
use borrow.Author.Rules.{rules}
use Rattle.std.proofs.Common.{tests}
use Rattle.std.proofs.lemmas.Result.{err_from_is_err_and}
use Rattle.std.proofs.lemmas.List.{length_push}
use Rattle.program_words.proofs.Slices.{word_turn, words_end}
use Rattle.program_words.proofs.ListsLaws.{kept_not, kept_one, value_wrong, value_right, values_wrong, values_more, values_end}
use Rattle.program_words.proofs.lists.read_values.Goals as goal

pub returns-in_err-ok_or : goal.returns-in_err-ok_or
returns-in_err-ok_or c =
    let s = c.split-word-items.ensures in
    let t = word_turn c.args.separator c.args.list.now _ _ _ s.rest s.done s.closure c.into_iter-word-iterator.ensures.into_iter_gives c.loop-word.yielded _ c.loop-word.yielded_by _ _ c.next.ensures.steps (λ x b q k. search (rules, tests)) c.in-Some.word c.in-Some.is in
    let o = kept_not _ _ _ c.in_err-ok_or.ensures.value in
    let p = err_from_is_err_and c.from_residual.result c.from_residual.ensures.1 in
    let i = c.loop-word.invariant in
    let r = values_wrong _ _ _ _ i.1 c.in-Some.word.now _ i.0 t _ c.keep_value.ensures.store_after (value_wrong _ (sym o.0 ∙ c.keep_value.ensures.value)) in
    record { value = rw (p.1, p.2, o.1) r.0; store_after = r.1 }

pub loop-word-preserved : goal.loop-word-preserved
loop-word-preserved c =
    let s = c.split-word-items.ensures in
    let t = word_turn c.args.separator c.args.list.now _ _ _ s.rest s.done s.closure c.into_iter-word-iterator.ensures.into_iter_gives c.loop-word.yielded _ c.loop-word.yielded_by _ _ c.next.ensures.steps (λ x b q k. search (rules, tests)) c.in-Some.word c.in-Some.is in
    let i = c.loop-word.invariant in (
      omega (arith, i.0, length_push c.loop-word.yielded c.in-Some.word),
      values_more _ _ _ _ i.1 c.in-Some.word.now _ i.0 t _ c.keep_value.ensures.store_after (value_right _ _ (sym (kept_one _ _ _ c.in_ok-ok_or.ensures.value) ∙ c.keep_value.ensures.value)),
    )

pub returns : goal.returns
returns c =
    let s = c.split-word-items.ensures in
    let e = words_end c.args.separator c.args.list.now _ _ _ s.rest s.done s.closure c.into_iter-word-iterator.ensures.into_iter_gives c.loop-word.yielded _ c.loop-word.yielded_by _ _ c.next.ensures.steps (λ x b q k. search (rules, tests)) c.in-None.is in
    let r = values_end _ _ _ _ c.loop-word.invariant.1 (c.loop-word.invariant.0 ∙ e) in
    record { value = r.0; store_after = r.1 }
