use Rattle.std.proofs.Common.{◌≡◌, ◌∙◌, sym, ap, inl, inr, refl}
use mathlib.Core.Logic.{◌⊎◌}
use Rattle.rules.specs.declared.Name.{Name}
use Rattle.rules.specs.declared.Word.{Word}
use Rattle.rules.specs.Values.{highest}
use Rattle.rules.specs.File.{asks_change}
use Rattle.reading.proofs.words.asks_change.Goals as goal

two : (n a b : Name) (w : Word) → ((n ≡ a) ⊎ (n ≡ b)) → asks_change a w ≡ asks_change b w → asks_change a w ≡ asks_change n w
two n a b w (inl e) k = ap (λ x. asks_change x w) (sym e)
two n a b w (inr e) k = k ∙ ap (λ x. asks_change x w) (sym e)

pub returns-in-Add : goal.returns-in-Add
unfolding highest
returns-in-Add c = c.asks_number.ensures ∙ two c.args.name Name.Add Name.Sub c.args.w c.in-Add.is refl

pub returns-in-Mul : goal.returns-in-Mul
unfolding highest
returns-in-Mul c = c.asks_number-in-Mul.ensures ∙ ap (λ x. asks_change x c.args.w) (sym c.in-Mul.is)

pub returns-in-Div : goal.returns-in-Div
unfolding highest
returns-in-Div c = c.asks_number-in-Div.ensures ∙ ap (λ x. asks_change x c.args.w) (sym c.in-Div.is)
