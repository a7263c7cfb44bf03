-- Toward a comparison, in the parts that code asks.
use mathlib.Core.Path.{◌≡◌, refl}
use mathlib.Core.Bool.{◌&&◌}
use Rattle.rules.specs.Ranges.{Sort, rising, falling, same, differ, suits, ordered}
use Rattle.rules_steps.specs.declared.Step.{Step}
use Rattle.rules.specs.Steps.{is_add}
use Rattle.rules.specs.Trips.{toward}

-- toward a comparison, in the parts that code asks
pub toward_parts : (st : Step) (d : Sort) → (ordered d && (is_add st && suits st d)) ≡ toward st d
unfolding toward
toward_parts st rising = refl
toward_parts st falling = refl
toward_parts st same = refl
toward_parts st differ = refl
