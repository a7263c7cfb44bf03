-- `program_words::read_value` meets its contract.
use mathlib.Core.Path.{◌∙◌, ap}
use Rattle.program_words.specs.Words.{upward_of, downward_of}
use Rattle.program_words.proofs.Words.{plain_value, minus_value}
use Rattle.program_words.proofs.Slices.{starts_is}
use Rattle.program_words.proofs.read_value.Goals as goal

pub returns-in_err-read_number-in-Some : goal.returns-in_err-read_number-in-Some
returns-in_err-read_number-in-Some c =
    let k = c.in-Some.ensures.cases in
    c.from_residual.ensures ∙ ap downward_of c.in_err-read_number-in-Some.ensures ∙ minus_value _ _ (starts_is _ _ ∙ k.0) k.1

pub returns-in_ok-read_number-in-Some : goal.returns-in_ok-read_number-in-Some
returns-in_ok-read_number-in-Some c =
    let k = c.in-Some.ensures.cases in
    c.downward.ensures ∙ ap downward_of c.in_ok-read_number-in-Some.ensures ∙ minus_value _ _ (starts_is _ _ ∙ k.0) k.1

pub returns-in_err-read_number-in-None : goal.returns-in_err-read_number-in-None
returns-in_err-read_number-in-None c =
    c.from_residual-in_err-read_number-in-None.ensures ∙ ap upward_of c.in_err-read_number-in-None.ensures ∙ plain_value _ (starts_is _ _ ∙ c.in-None.ensures.cases)

pub returns-in_ok-read_number-in-None : goal.returns-in_ok-read_number-in-None
returns-in_ok-read_number-in-None c =
    c.upward.ensures ∙ ap upward_of c.in_ok-read_number-in-None.ensures ∙ plain_value _ (starts_is _ _ ∙ c.in-None.ensures.cases)
