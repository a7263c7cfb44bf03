-- The trip by a way, and what is found of a loop.
use Rattle.std.specs.Prelude.{Bool, true, false, cond, ◌≡◌, List, ℕ, ◌<◌}
use Rattle.rules_steps.specs.declared.Step.{Step}
use Rattle.rules.specs.declared.Comparison.{Comparison}
use Rattle.rules.specs.Steps.{assigns}
use Rattle.rules.specs.Values.{opposite}
use Rattle.rules.specs.Ranges.{Range, Env}
use Rattle.rules.specs.Trips as trips
use Rattle.rules.specs.Trips.{untested, tries, flag, trip}
use Rattle.analysis_loops.specs.declared.ways.Way.{Way}
use Rattle.rules.specs.declared.Row.{Row}
use Rattle.rules_steps.specs.Ends.{EndsWithin}
use Rattle.table.specs.Code.{kind_at}
use Rattle.analysis_steps.specs.Tree.{form_of, test_of}
use Rattle.analysis_steps.specs.Sets.{set_of}
use Rattle.analysis_steps.specs.Body.{body_at}
use Rattle.analysis_loops.specs.declared.Loop.{Loop}
use Rattle.analysis_loops.specs.Found.{trip_of, own_from, read_from, chase_from}

-- the trip by a way, ρ the ranges at the loop's start
abbrev pub trip_from : Way → Env → Bool → Step → Comparison → Range → Range → Bool → trips.Trip
trip_from Way.Own ρ is-moved st c s n keep = own_from true is-moved st c s n keep
trip_from (Way.Copied w ahead moved) ρ is-moved st c s n keep = read_from (cond is-moved untested (tries s)) moved c (ρ w) n keep ahead s
trip_from (Way.Chase w apart) ρ is-moved st c s n keep = chase_from is-moved apart c s (ρ w)
trip_from (Way.Watched w d k ahead moved) ρ is-moved st c s n keep = read_from (flag s) moved (opposite d) (ρ w) (record { lo = k; hi = k }) true ahead s
trip_from Way.Broken ρ is-moved st c s n keep = own_from false is-moved st c s n keep

-- the loop at row i, ρ the ranges at its start
pub record LoopAt (text : List ℕ) (rows : List Row) (count i : ℕ) (ρ : Env) (r : Loop) : Type 0 where
  pub trip : trip_of r.trip ≡ trip (form_of text (kind_at rows i)) ρ (test_of text (kind_at rows i)) (body_at text rows count i)
  pub tested : r.tested ≡ (test_of text (kind_at rows i)).tested
  pub small : r.tested < 16
  pub sets : (w : ℕ) → set_of r.set w ≡ assigns w (body_at text rows count i)
  pub near : EndsWithin 512 r.trip.step
