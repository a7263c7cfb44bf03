use Rattle.std.proofs.Common.{ℕ, Bool, true, List}
use mathlib.Core.Path.{◌≡◌, refl, sym, ap, ◌∙◌}
use mir.Facts.{to_z-of_z}
use Rattle.rules.proofs.PassedOn.{passed_on}
use Rattle.reading.specs.Answers.{answer_number}
use Rattle.reading.specs.Words.{line_word}
use Rattle.rules.specs.File.{asks_range, number_of, range_key}
use Rattle.rules.specs.Values.{lowest, highest}
use Rattle.reader.proofs.Counts.{range_read_lem, range_wrong, range_none}
use Rattle.reader.proofs.NextLine.{Keyed, keyed_at, KeyLine, key_line_lem, at_none, last}
use Rattle.reader.specs.Lines.{clean, keyed}
use borrow.Author.Rules.{sfits_of, rules}
use Rattle.reader.proofs.lines.range_line.Goals as goal
use Rattle.reader.proofs.lines.range_line.Goals.{After-first_refusal, After-line_words-line}

-- the line has the key
key_at : {b : Bool} (rest : List ℕ) → b ≡ keyed range_key rest → b ≡ true → Keyed range_key rest 5
unfolding clean last
key_at rest e h = keyed_at _ _ _ refl refl (sym e ∙ h)

-- its words
line : (c : After-line_words-line) → KeyLine range_key c.args.rest.now c.line_words-line.result
line c = key_line_lem _ _ _ _ (key_at c.args.rest.now c.keyed.ensures c.if-not-keyed.false) c.line_words-line.ensures

asked : (c : After-first_refusal) → answer_number c.first_refusal.result ≡ asks_range (line_word c.line_words-line.result)
unfolding asks_range lowest highest
asked c = rw (c.first_refusal.ensures, c.asks_number-2.ensures, c.first_refusal-high.ensures, c.asks_number.ensures, c.first_refusal-ends.ensures, c.asks_order.ensures, c.asks_end.ensures, c.word.ensures, c.word-hi.ensures, c.word-lo.ensures)

pub line_words-line-requires : goal.line_words-line-requires
line_words-line-requires c = (key_at c.args.rest.now c.keyed.ensures c.if-not-keyed.false).ends

pub overflow_add-result : goal.overflow_add-result
overflow_add-result c = let h = (line (goal.at.overflow_add-result c).After-line_words-line).long in search rules

pub returns : goal.returns
returns c =
    rw (to_z-of_z (sfits_of c.number_of.type_inv), to_z-of_z (sfits_of c.number_of-2.type_inv))
    (range_read_lem _ _ (line (goal.at.returns c).After-line_words-line) _ (asked (goal.at.returns c).After-first_refusal) (ap answer_number c.in_ok-first_refusal.was) _ _ (c.number_of.ensures ∙ ap number_of c.word-lo.ensures) (c.number_of-2.ensures ∙ ap number_of c.word-hi.ensures))

pub returns-in_err-first_refusal : goal.returns-in_err-first_refusal
returns-in_err-first_refusal c =
    rw (passed_on c.from_residual.result c.in_err-first_refusal.field-0.0 c.from_residual.ensures)
    (range_wrong _ _ (line (goal.at.returns-in_err-first_refusal c).After-line_words-line) _ (asked (goal.at.returns-in_err-first_refusal c).After-first_refusal) c.in_err-first_refusal.field-0.0 (ap answer_number c.in_err-first_refusal.was))

pub returns-then-not-keyed : goal.returns-then-not-keyed
unfolding clean
returns-then-not-keyed c = range_none _ (at_none range_key _ refl (sym c.keyed.ensures ∙ c.if-not-keyed.true))
