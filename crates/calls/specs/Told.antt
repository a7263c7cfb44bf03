-- What the calls answer, as code holds it.
use Rattle.std.specs.Prelude.{◌≡◌, List, [], ℕ, ◌≤◌, ℤ, Result, Ok, Err, length, take}
use Rattle.rules.specs.declared.Prices.{Prices}
use Rattle.rules.specs.declared.Ending.{Ending}
use Rattle.rules.specs.declared.Ending.TheVariants.{Ended}
use Rattle.rules.specs.declared.LoopCount.{LoopCount}
use Rattle.rules.specs.declared.Refusal.{Refusal}
use Rattle.rules.specs.Replies.{reply_by}
use Rattle.rules.specs.Blocks.{RowKind}
use Rattle.rules.specs.Answers.{Answer}
use Rattle.rules.specs.Scripts.{report_ticks}
use Rattle.rules.specs.Calls.{Judged, accepted, prices_of, reply_of, buffer_of, RunReply, ran, refuses, loop_rows, counts_at, store_after}
use Rattle.run_loops.specs.Loops.{NoneFrom}
use Rattle.runner.specs.Answered.{run_of}
use Rattle.calls.specs.declared.Measured.{Measured}
use Rattle.calls.specs.declared.Outcome.{Outcome}

-- the ticks of an accepted script's report; a refused one has none
abbrev pub judged_ticks : List ℕ → Judged → ℕ
judged_ticks prices (accepted script) = report_ticks (prices_of prices) script
judged_ticks prices (Judged.refuses q p) = 0

-- the answer of a report call, the buffer after it, and the ticks, which question 13 limits
pub record MeasuredAs (prices : List ℕ) (j : Judged) (old new : List ℕ) (m : Measured) : Type 0 where
  pub reply : reply_by m.reply ≡ reply_of prices j (length old)
  pub buffer : new ≡ buffer_of prices j old
  pub ticks : m.ticks ≡ judged_ticks prices j
  pub few : m.ticks ≤ 1_000_000_000_000

-- a run: its figures, and the counts of its loops in row order
pub record ToldRun (o : Outcome) (a : Answer) (cs : List LoopCount) : Type 0 where
  pub ending : o.ending ≡ a.ending
  pub row : o.row ≡ a.row
  pub ticks : o.ticks ≡ a.ticks
  pub used : o.used ≡ a.used
  pub loops : o.loops ≡ length cs
  pub counts : take o.loops o.counts ≡ cs
  pub rest : NoneFrom o.loops o.counts

-- a refusal: its number and place
pub record ToldNo (r : Refusal) (q p : ℕ) : Type 0 where
  pub number : r.number ≡ q
  pub place : r.place ≡ p

-- the answer is what the reply says
abbrev pub Told : Result Outcome Refusal → RunReply → Type 0
Told (Ok o) (ran a counts) = ToldRun o a counts
Told (Ok o) (refuses q p) = ⊥
Told (Err r) (ran a counts) = ⊥
Told (Err r) (refuses q p) = ToldNo r q p

-- the ending, the ticks and the loops' counts of an answer: those of a refusal are none
abbrev pub ending_in : Result Outcome Refusal → Ending
ending_in (Ok o) = o.ending
ending_in (Err r) = Ended

abbrev pub ticks_in : Result Outcome Refusal → ℕ
ticks_in (Ok o) = o.ticks
ticks_in (Err r) = 0

abbrev pub counts_in : Result Outcome Refusal → List LoopCount
counts_in (Ok o) = take o.loops o.counts
counts_in (Err r) = []

-- the answer of a run call, and the store after it
pub record RanAs (reply : RunReply) (old new : List ℤ) (o : Result Outcome Refusal) : Type 0 where
  pub told : Told o reply
  pub store : new ≡ store_after reply old

-- the run of rows, with its counts
abbrev pub ran_rows : Prices → List RowKind → List ℤ → List ℕ → ℕ → RunReply
ran_rows π rows store picks allowance = let a : Answer = run_of π rows store picks allowance in ran a (counts_at a.entries (loop_rows 0 rows))
