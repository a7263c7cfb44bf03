use mathlib.Core.Path.{◌≡◌, sym, ap, ◌∙◌}
use Rattle.std.proofs.Common.{List, ℕ, Bool, true}
use Prim.Native.Nat.{◌-◌}
use lib.IntN.{pos, nat_abs}
use lib.ListN.{length}
use mir.Facts.{to_z-of_z}
use native.Mathlib.Omega.{arith}
use Rattle.ints.proofs.Parts.{ints, abs_parts}
use Rattle.rules.proofs.PassedOn.{passed_on}
use Rattle.reading.specs.Answers.{answer_number}
use Rattle.reading.specs.Words.{line_word}
use Rattle.rules.specs.File.{first_refusal, asks_end, asks_number, number_of}
use Rattle.reader.proofs.Counts.{count_read, count_wrong, count_small, count_none}
use Rattle.reader.proofs.NextLine.{Keyed, keyed_at, KeyLine, key_line_lem, at_none, last_length}
use Rattle.reader.specs.Lines.{clean, keyed}
use borrow.Author.Rules.{sfits_of, rules}
use Rattle.reader.proofs.lines.count_line.Goals as goal
use Rattle.reader.proofs.lines.count_line.Goals.{After-first_refusal, After-line_words-line}

-- the line has the key
key_at : {b : Bool} (key rest : List ℕ) → clean key ≡ true → b ≡ keyed key rest → b ≡ true → Keyed key rest (length key - 1)
key_at key rest k e h = keyed_at _ _ _ k (omega (arith, last_length key k)) (sym e ∙ h)

-- its words
line : (c : After-line_words-line) → let a = c.args in KeyLine a.key.now a.rest.now c.line_words-line.result
line c = key_line_lem _ _ _ _ (key_at c.args.key.now c.args.rest.now c.requires.2 c.keyed.ensures c.if-not-keyed.false) c.line_words-line.ensures

asked : (c : After-first_refusal) → let w = line_word c.line_words-line.result in answer_number c.first_refusal.result ≡ first_refusal (asks_number (pos 0) c.args.most (w 0)) (asks_end (w 1))
asked c = rw (c.first_refusal.ensures, simp (to_z-of_z c.ranges.most) at c.asks_number.ensures, c.asks_end.ensures, c.word.ensures, c.word-x.ensures)

pub overflow_sub-key : goal.overflow_sub-key
overflow_sub-key c = let l = last_length c.args.key.now c.requires.2 in search rules

pub line_words-line-requires : goal.line_words-line-requires
line_words-line-requires c = (key_at c.args.key.now c.args.rest.now c.requires.2 c.keyed.ensures c.if-not-keyed.false).ends

pub overflow_cast-result : goal.overflow_cast-result
overflow_cast-result c =
    let value : c.number_of.result ≡ number_of (line_word c.line_words-line.result 0) = c.number_of.ensures ∙ ap number_of c.word-x.ensures in
    let (a, d) = count_small _ _ _ (line (goal.at.overflow_cast-result c).After-line_words-line) _ _ c.requires.0 c.requires.1 (asked (goal.at.overflow_cast-result c).After-first_refusal) (ap answer_number c.in_ok-first_refusal.was) in
    rw (to_z-of_z (sfits_of c.number_of.type_inv)) (omega (ints, value), record { fits = omega (ints, value, abs_parts c.number_of.result) })

pub overflow_add-result : goal.overflow_add-result
overflow_add-result c = let h = (line (goal.at.overflow_add-result c).After-line_words-line).long in search rules

pub returns : goal.returns
returns c =
    let value : c.number_of.result ≡ number_of (line_word c.line_words-line.result 0) = c.number_of.ensures ∙ ap number_of c.word-x.ensures in
    rw (to_z-of_z (sfits_of c.number_of.type_inv)) (count_read _ _ _ (line (goal.at.returns c).After-line_words-line) _ _ c.requires.0 c.requires.1 (asked (goal.at.returns c).After-first_refusal) (ap answer_number c.in_ok-first_refusal.was) _ (ap nat_abs value))

pub returns-in_err-first_refusal : goal.returns-in_err-first_refusal
returns-in_err-first_refusal c =
    rw (passed_on c.from_residual.result c.in_err-first_refusal.field-0.0 c.from_residual.ensures)
    (count_wrong _ _ _ (line (goal.at.returns-in_err-first_refusal c).After-line_words-line) _ _ c.requires.0 c.requires.1 (asked (goal.at.returns-in_err-first_refusal c).After-first_refusal) c.in_err-first_refusal.field-0.0 (ap answer_number c.in_err-first_refusal.was))

pub returns-then-not-keyed : goal.returns-then-not-keyed
returns-then-not-keyed c = count_none _ _ _ (at_none _ _ c.requires.2 (sym c.keyed.ensures ∙ c.if-not-keyed.true))
