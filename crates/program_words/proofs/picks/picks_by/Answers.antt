-- `picks::picks_by` meets its contract.
use mathlib.Core.Path.{sym, ◌∙◌, ap}
use Rattle.program_words.specs.Picks.{ask_word, random_key, seed_of, picks_by}
use Rattle.program_words.specs.Words.{number_in}
use Rattle.program_words.proofs.Slices.{word_is, starts_is}
use Rattle.program_words.proofs.picks.picks_by.Goals as goal

pub returns-then-eq : goal.returns-then-eq
unfolding picks_by
returns-then-eq c = rw (sym (word_is ask_word _ _ _ c.as_slice.ensures c.eq.ensures), c.if-eq.true)

pub returns-in_err-read_number-in-Some : goal.returns-in_err-read_number-in-Some
unfolding picks_by
returns-in_err-read_number-in-Some c =
    let k = c.in-Some.ensures.cases in
    rw (sym (word_is ask_word _ _ _ c.as_slice.ensures c.eq.ensures), c.if-eq.false, starts_is random_key c.args.word.now ∙ k.0)
    (c.from_residual.ensures ∙ ap seed_of (c.in_err-read_number-in-Some.ensures ∙ ap number_in k.1))

pub returns-in_ok-read_number-in-Some : goal.returns-in_ok-read_number-in-Some
unfolding picks_by
returns-in_ok-read_number-in-Some c =
    let k = c.in-Some.ensures.cases in
    rw (sym (word_is ask_word _ _ _ c.as_slice.ensures c.eq.ensures), c.if-eq.false, starts_is random_key c.args.word.now ∙ k.0)
    (ap seed_of (c.in_ok-read_number-in-Some.ensures ∙ ap number_in k.1))

pub returns-in-None : goal.returns-in-None
unfolding picks_by
returns-in-None c =
    rw (sym (word_is ask_word _ _ _ c.as_slice.ensures c.eq.ensures), c.if-eq.false, starts_is random_key c.args.word.now ∙ c.in-None.ensures.cases)
