-- Entering and leaving a loop.
use Rattle.std.specs.Option.{is_some}
use Rattle.std.specs.Prelude.{◌≡◌, Bool, not, cond, ◌&&◌, List, ℕ, ◌+◌, ◌*◌, ◌<◌, ℤ, Result, Ok, Err}
use Rattle.rules.specs.declared.Row.{Row}
use Rattle.rules.specs.declared.Kind.{Kind}
use Rattle.rules.specs.Verdicts.{passed, refused}
use Rattle.rules.specs.Steps.{starts, assigns}
use Rattle.rules.specs.Ranges.{Env, at_start}
use Rattle.rules.specs.Trips as trips
use Rattle.rules.specs.Trips.{Trip, turns_of, outer_of, inside}
use Rattle.rules.specs.declared.Prices.{Prices}
use Rattle.rules.specs.Questions.{of_trip}
use Rattle.table.specs.Code.{kind_at}
use Rattle.analysis_steps.specs.Tree.{form_of, test_of}
use Rattle.analysis_steps.specs.Body.{body_at}
use Rattle.analysis_steps.specs.Sets.{set_of}
use Rattle.analysis_loops.specs.declared.Loop.{Loop}
use Rattle.analysis_intervals.specs.Env.{env_of, range_of}
use Rattle.analysis_loops.specs.Found.{trip_of}
use Rattle.analysis_ranges.specs.Env.{widened_env}
use Rattle.analysis_ticks.specs.Capped.{capped, once}
use Rattle.analysis_ticks.specs.declared.passes.Round.{Round}
use Rattle.analysis_ticks.specs.Rounds.{round_of, pass_in, FineRound, walked_by, body_of}
use Rattle.analysis.specs.declared.entries.Exit.{Exit}
use Rattle.analysis.specs.declared.entries.LoopEntry.{LoopEntry}
use Rattle.analysis.specs.declared.entries.PassCounts.{PassCounts}
use Rattle.analysis.specs.declared.tallies.Tally.{Tally}
use Rattle.rules.specs.declared.Refusal.{Refusal}
use Rattle.analysis.specs.Tallies.{LentTally, with_lent, last_ticks, LineAdded, ClosedBy}

-- the ranges at the start of the loop at row i, and its trip
abbrev pub start_at : List ℕ → List Row → ℕ → Env → Env
start_at text rows i ρ = at_start (form_of text (kind_at rows i)) (test_of text (kind_at rows i)) ρ

-- the trip of the loop at row i
abbrev pub trip_at : List ℕ → List Row → ℕ → ℕ → Env → Trip
trip_at text rows count i ρ = trips.trip (form_of text (kind_at rows i)) (start_at text rows i ρ) (test_of text (kind_at rows i)) (body_at text rows count i)

-- its turns in all passes of one entry of the loop round it
abbrev pub walked_at : List ℕ → Round → Bool → Kind → Trip → ℕ
walked_at text r kept k τ = walked_by (round_of r) (pass_in r (kept && not (starts r.v (form_of text k) (test_of text k)))) (form_of text k) (test_of text k).limit τ (turns_of τ)

-- how often its m passes are taken; sums: it sums, `many` its turns in the `count` passes of the loop round it
pub record PassCountsOf (sums : Bool) (m turns many count : ℕ) (r : PassCounts) : Type 0 where
  pub own : r.own ≡ cond sums 1 turns
  pub all : r.all ≡ cond sums count many
  pub tests : r.tests ≡ m

-- the trip τ of the loop at row i, which tests v, has passed: the passes of its body, how often they are taken, its line
pub record EntryPassed (text : List ℕ) (π : Prices) (i v : ℕ) (r : Round) (k : Kind) (τ : Trip) (t : LentTally) (e : LoopEntry) (first : LentTally) : Type 0 where
  pub verdict : of_trip i τ ≡ passed
  pub round : e.round ≡ body_of τ v (turns_of τ) (capped (walked_at text r t.kept k τ * r.times)) r
  pub fine : FineRound e.round
  pub ran : PassCountsOf (is_some e.round.x) e.round.count (turns_of τ) (capped (walked_at text r t.kept k τ)) r.count e.exit.ran
  pub lined : LineAdded t i τ (turns_of τ) (capped (walked_at text r t.kept k τ * r.times)) (e.round.count * last_ticks text π k) (is_some e.round.x) first

-- what leaves a loop, from what is found of it
pub record ExitOf (one : Loop) (counts : PassCounts) (x : Exit) : Type 0 where
  pub tested : x.tested ≡ one.tested
  pub mine : range_of x.mine ≡ outer_of (trip_of one.trip)
  pub sets : x.set ≡ one.set
  pub ran : x.ran ≡ counts

-- what leaves the loop at row i, ρ the ranges at its start
pub record ExitAt (text : List ℕ) (rows : List Row) (count i : ℕ) (ρ : Env) (x : Exit) : Type 0 where
  pub tested : x.tested ≡ (test_of text (kind_at rows i)).tested
  pub small : x.tested < 16
  pub mine : range_of x.mine ≡ outer_of (trips.trip (form_of text (kind_at rows i)) ρ (test_of text (kind_at rows i)) (body_at text rows count i))
  pub sets : (w : ℕ) → set_of x.set w ≡ assigns w (body_at text rows count i)

-- the loop at row i has been entered from the ranges ρ and is not refused: r holds those at its body's start
pub record EnteredAt (text : List ℕ) (π : Prices) (rows : List Row) (count i : ℕ) (round : Round) (ρ : Env) (t : LentTally) (r : List (List ℤ)) (e : LoopEntry) (first : LentTally) : Type 0 where
  pub begun : env_of r ≡ (inside (form_of text (kind_at rows i)) (start_at text rows i ρ) (test_of text (kind_at rows i)) (body_at text rows count i))
  pub exit : ExitAt text rows count i (start_at text rows i ρ) e.exit
  pub whole : EntryPassed text π i (test_of text (kind_at rows i)).tested round (kind_at rows i) (trip_at text rows count i ρ) t e first

-- or it is refused
abbrev pub Entered : List ℕ → Prices → List Row → ℕ → ℕ → Round → Env → LentTally → List (List ℤ) → Result LoopEntry Refusal → List (List ℕ) → List ℕ → Type 0
Entered text π rows count i round ρ t r (Ok e) ls os = EnteredAt text π rows count i round ρ t r e (with_lent e.first ls os)
Entered text π rows count i round ρ t r (Err x) ls os = of_trip i (trip_at text rows count i ρ) ≡ refused x.number x.place

-- a loop has been left, ρ the ranges at its body's start: r holds those after it
pub record LeftLoop (π : Prices) (k : Kind) (exit : Exit) (round : Round) (t body : Tally) (own : List ℕ) (ρ : Env) (r : List (List ℤ)) (x : Tally) (own' : List ℕ) : Type 0 where
  pub env : env_of r ≡ (widened_env (set_of exit.set) (range_of exit.mine) exit.tested ρ)
  pub closed : (text : List ℕ) (B : ℕ) → body.spent ≡ capped B
      → let G : ℕ = B + exit.ran.tests * π.test in
      ClosedBy t body own body.next (capped (exit.ran.own * G + 1 * once π (form_of text k))) (capped (exit.ran.all * G + round.count * once π (form_of text k)))
      ((t.kept && not (starts round.v (form_of text k) (test_of text k))) && not (set_of exit.set round.v)) x own'
