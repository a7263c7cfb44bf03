-- A trip from its parts is that of the rules.
use mathlib.Core.Path.{◌≡◌, refl, ap, ◌∙◌}
use mathlib.Core.Bool.{Bool, true, false, cond, ◌&&◌}
use Prim.Native.Nat.{ℕ}
use native.Mathlib.Omega.{arith}
use lib.IntN.{ℤ}
use Rattle.ints.proofs.Parts.{is_true}
use Rattle.ints.proofs.Diffs.{eq_refl}
use Rattle.rules.specs.declared.Comparison.{Comparison}
use Rattle.rules_steps.specs.declared.Step.{Step}
use Rattle.rules.specs.Values.{opposite}
use Rattle.rules.specs.Blocks.{Test, Form, Block}
use Rattle.rules.specs.Steps.{step}
use Rattle.rules.specs.Ranges.{Range, Env, bounds, single, is_do}
use Rattle.rules_steps.specs.Ends.{EndsWithin}
use Rattle.rules.specs.Trips as trips
use Rattle.rules.specs.Trips.{untested, tries, flag, keeps, way_of, trip_by, trip}
use Rattle.analysis_steps.proofs.Ends.{ends_more}
use Rattle.analysis_loops.specs.declared.ways.Way.{Way}
use Rattle.analysis_loops.specs.Found.{own_from, read_from, chase_from}
use Rattle.analysis_loops.specs.Loops.{trip_from}
use Rattle.analysis_loops.specs.Ways.{way_is, WayStep}

-- a constant is a single number
constant_single : (a b : Bool) (k : ℤ) → a && (b && single (record { lo = k; hi = k })) ≡ a && b
constant_single true true k = is_true _ (eq_refl k)
constant_single true false k = refl
constant_single false b k = refl

-- the trip of a watched variable, by whether its starts are single
abbrev watched_sure : Range → Step → Comparison → Range → ℤ → Bool → Bool → trips.Trip
watched_sure tested st c s k ahead sure = record {
  step = st;
  comparison = c;
  start = s;
  limit = record { lo = k; hi = k };
  moved = ahead;
  lead = flag tested;
  sure = sure;
  keeps = true;
  terms = true;
  free = true;
}

module _ (form : Form) (ρ : Env) (test : Test) (body : Block) {is-moved keep : Bool} {st : Step} {c : Comparison} {s n : Range} where
  pub trip_is : (way : Way) → way_is way ≡ way_of form test body → WayStep test.tested body way → is-moved ≡ is_do form → st ≡ step test.tested body → c ≡ test.comparison → s ≡ ρ test.tested → n ≡ bounds ρ test.limit → keep ≡ keeps test.limit body
      → trip_from way ρ is-moved st c s n keep ≡ trip form ρ test body
  unfolding trip_by
  trip_is Way.Own e u l a d p q b = (λ j. own_from true (l j) (a j) (d j) (p j) (q j) (b j)) ∙ ap (λ y. trip_by y form ρ test body) e
  trip_is (Way.Copied w ahead moved) e (u, k) l a d p q b = (λ j. read_from (cond (l j) untested (tries (p j))) (u j) (d j) (ρ w) (q j) (b j) ahead (p j)) ∙ ap (λ y. trip_by y form ρ test body) e
  trip_is (Way.Chase w apart) e (u, k) l a d p q b = (λ j. chase_from (l j) (u j) (d j) (p j) (ρ w)) ∙ ap (λ y. trip_by y form ρ test body) e
  trip_is (Way.Watched w c k ahead moved) e (u, _) l a d p q b =
      (λ j. read_from (flag (p j)) (u j) (opposite c) (ρ w) (record { lo = k; hi = k }) true ahead (p j)) ∙ ap (watched_sure (ρ test.tested) (step w body) (opposite c) (ρ w) k ahead) (constant_single (single (ρ test.tested)) (single (ρ w)) k) ∙ ap (λ y. trip_by y form ρ test body) e
  trip_is Way.Broken e u l a d p q b = (λ j. own_from false (l j) (a j) (d j) (p j) (q j) (b j)) ∙ ap (λ y. trip_by y form ρ test body) e

pub near_is : (way : Way) (v : ℕ) (body : Block) (ρ : Env) (is-moved keep : Bool) (st : Step) (c : Comparison) (s n : Range) → WayStep v body way → EndsWithin 256 st → EndsWithin 512 (trip_from way ρ is-moved st c s n keep).step
near_is Way.Own v body ρ is-moved keep st c s n u h = ends_more 256 512 (omega arith) st h
near_is (Way.Copied w ahead moved) v body ρ is-moved keep st c s n (u, k) h = k
near_is (Way.Chase w apart) v body ρ is-moved keep st c s n (u, k) h = k
near_is (Way.Watched w d z ahead moved) v body ρ is-moved keep st c s n (u, k) h = k
near_is Way.Broken v body ρ is-moved keep st c s n u h = ends_more 256 512 (omega arith) st h
