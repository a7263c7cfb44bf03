-- The code's trip as the trip of the rules.
use Rattle.std.specs.Prelude.{Bool, true, false, cond, ◌&&◌, pos, ◌-ℤ◌}
use Rattle.rules_steps.specs.declared.Step.{Step}
use Rattle.rules.specs.declared.Comparison.{Comparison}
use Rattle.rules.specs.Ranges.{Range, single}
use Rattle.rules.specs.Trips as trips
use Rattle.rules.specs.Trips.{nothing, untested, tries, flag, keeps}
use Rattle.analysis_loops.specs.declared.trips.Lead.{Lead}
use Rattle.analysis_loops.specs.declared.trips.Counter.{Counter}
use Rattle.analysis_loops.specs.declared.trips.Trip.{Trip}
use Rattle.analysis_intervals.specs.Env.{range_of}

-- the lead of the rules
abbrev pub lead_of : Lead → trips.Lead
lead_of Lead.Nothing = nothing
lead_of Lead.Untested = untested
lead_of (Lead.Tries s) = tries (range_of s)
lead_of (Lead.Flag s) = flag (range_of s)

-- what is counted by starts from s, or from its difference from the limit's n
abbrev pub start_of : Counter → Range → Range → Range
start_of Counter.Own s n = s
start_of Counter.Other s n = s
start_of Counter.Difference s n = record { lo = s.lo -ℤ n.hi; hi = s.hi -ℤ n.lo }

-- and is tested against the limit, or against 0
abbrev pub limit_of : Counter → Range → Range
limit_of Counter.Own n = n
limit_of Counter.Other n = n
limit_of Counter.Difference n = record { lo = pos 0; hi = pos 0 }

-- the tested variable is not what is counted by
abbrev pub free_of : Counter → Bool
free_of Counter.Own = false
free_of Counter.Other = true
free_of Counter.Difference = true

-- the trip of the rules
abbrev pub trip_of : Trip → trips.Trip
trip_of t = record {
  step = t.step;
  comparison = t.comparison;
  start = start_of t.counter (range_of t.start) (range_of t.limit);
  limit = limit_of t.counter (range_of t.limit);
  moved = t.moved;
  lead = lead_of t.lead;
  sure = t.sure;
  keeps = t.keeps;
  terms = t.terms;
  free = free_of t.counter;
}

-- the tested variable's own trip from its parts
abbrev pub own_from : Bool → Bool → Step → Comparison → Range → Range → Bool → trips.Trip
own_from terms is-moved st c s n keep = record {
  step = st;
  comparison = c;
  start = s;
  limit = n;
  moved = is-moved;
  lead = cond is-moved untested nothing;
  sure = single s && single n;
  keeps = keep;
  terms = terms;
  free = false;
}

-- the trip of a variable that the tested one's only row reads, from its parts; tested: the tested variable's start
abbrev pub read_from : trips.Lead → Step → Comparison → Range → Range → Bool → Bool → Range → trips.Trip
read_from lead st c s n keep ahead tested = record {
  step = st;
  comparison = c;
  start = s;
  limit = n;
  moved = ahead;
  lead = lead;
  sure = single tested && (single s && single n);
  keeps = keep;
  terms = true;
  free = true;
}

-- the trip of a difference from its parts
abbrev pub chase_from : Bool → Step → Comparison → Range → Range → trips.Trip
chase_from is-moved st c s n = record {
  step = st;
  comparison = c;
  start = record { lo = s.lo -ℤ n.hi; hi = s.hi -ℤ n.lo };
  limit = record { lo = pos 0; hi = pos 0 };
  moved = is-moved;
  lead = cond is-moved untested nothing;
  sure = single s && single n;
  keeps = true;
  terms = true;
  free = true;
}
