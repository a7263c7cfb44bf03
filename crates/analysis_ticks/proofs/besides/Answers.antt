-- What an entry takes beside its turns, by the kind of row.
use mathlib.Core.Path.{sym, ap}
use Rattle.rules.specs.Blocks.{view_of, kind_of}
use Rattle.analysis_steps.specs.Tree.{form_of, head_of}
use Rattle.analysis_ticks.specs.Capped.{once}
use Rattle.analysis_ticks.proofs.Caps.{once_one}
use Rattle.analysis_ticks.proofs.besides.Goals as goal

pub returns-in-Do : goal.returns-in-Do
unfolding head_of view_of kind_of
returns-in-Do c = λ text. sym (ap (λ k. once c.args.prices (form_of text k)) c.in-Do.is)

pub returns-in-For : goal.returns-in-For
unfolding head_of view_of kind_of
returns-in-For c = λ text. sym (ap (λ k. once c.args.prices (form_of text k)) c.in-For.is)

pub returns-in_default : goal.returns-in_default
returns-in_default c = λ text. once_one c.args.prices text c.args.kind c.in_default.not-Do c.in_default.not-For
