-- `program_words::is_number` meets its contract.
use mathlib.Core.Path.{refl, sym, ◌∙◌, ap}
use mathlib.Core.Bool.{not, ◌&&◌}
use mathlib.Core.List.{[], ◌∷◌}
use Rattle.rules.specs.Text.{is_natural}
use Rattle.program_words.proofs.Words.{plain_number, minus_number}
use Rattle.program_words.proofs.Slices.{word_is, starts_is}
use Rattle.program_words.proofs.is_number.Goals as goal

pub returns-then-ne : goal.returns-then-ne
returns-then-ne c =
    let k = c.in-Some.ensures.cases in
    let e = word_is (48 ∷ []) _ _ _ c.as_slice.ensures refl in
    c.is_natural.ensures ∙ ap (λ t. t && is_natural c.in-Some.digits.now) (sym c.if-ne.true ∙ c.ne.ensures ∙ ap not e) ∙ minus_number _ _ (starts_is _ _ ∙ k.0) k.1

pub returns-else-ne : goal.returns-else-ne
returns-else-ne c =
    let k = c.in-Some.ensures.cases in
    let e = word_is (48 ∷ []) _ _ _ c.as_slice.ensures refl in
    c.if-ne.false ∙ ap (λ t. t && is_natural c.in-Some.digits.now) (sym c.if-ne.false ∙ c.ne.ensures ∙ ap not e) ∙ minus_number _ _ (starts_is _ _ ∙ k.0) k.1

pub returns-in-None : goal.returns-in-None
returns-in-None c = c.is_natural-in-None.ensures ∙ plain_number _ (starts_is _ _ ∙ c.in-None.ensures.cases)
