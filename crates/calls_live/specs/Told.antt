-- What the two calls of a live run answer, as code holds it.
use Rattle.std.specs.Prelude.{◌≡◌, List, ℕ, ◌≤◌, ℤ, Result, Ok, Err, length, take}
use Rattle.rules.specs.declared.Refusal.{Refusal}
use Rattle.rules.specs.Verdicts.{passed as Passed}
use Rattle.rules.specs.Bounds.{FinePrices}
use Rattle.rules.specs.Figures.{Line}
use Rattle.rules.specs.Calls.{loop_rows}
use Rattle.rules.specs.Scripts.{All, Script, report_lines}
use Rattle.rules_live.specs.Live.{StepLent, StepAnswer, step_of}
use Rattle.rules_live.specs.LiveState.{state_stand, state_verdict}
use Rattle.rules_live.specs.LiveCalls.{StartReply, started, state_started, StepReply, stepped, after_step, store_stepped, state_stepped, cues_stepped}
use Rattle.run_machine.specs.Steps.{script_in, Runs}
use Rattle.run_loops.specs.Loops.{NoneFrom}
use Rattle.live_state.specs.Numbers.{StateAsked}
use Rattle.calls_live.specs.declared.Paced.{Paced}
use Rattle.calls_live.specs.declared.Started.{Started}
use Rattle.calls_live.specs.declared.StepDone.{StepDone}

-- ---- the start
-- the answer is what the reply says
abbrev pub TellsStart : Result Started Refusal → StartReply → Type 0
TellsStart (Ok r) (started ticks loops state) = (r.ticks ≡ ticks) × (r.loops ≡ loops)
TellsStart (Ok r) (StartReply.refuses q p) = ⊥
TellsStart (Err r) (started ticks loops state) = ⊥
TellsStart (Err r) (StartReply.refuses q p) = (r.number ≡ q) × (r.place ≡ p)

-- the answer of a start, and the state after it
pub record StartedAs (reply : StartReply) (old new : List ℕ) (r : Result Started Refusal) : Type 0 where
  pub told : TellsStart r reply
  pub new_state : new ≡ state_started reply old

-- ---- a step
-- what a step does
pub record ToldStep (r : StepDone) (a : StepAnswer) : Type 0 where
  pub status : r.status ≡ a.status
  pub row : r.row ≡ a.row
  pub ticks : r.ticks ≡ a.ticks
  pub all_ticks : r.all_ticks ≡ a.all_ticks
  pub used : r.used ≡ a.used
  pub all_used : r.all_used ≡ a.all_used
  pub cues : r.cues ≡ length a.cues
  pub loops : r.loops ≡ length a.counts
  pub counts : take r.loops r.counts ≡ a.counts
  pub rest : NoneFrom r.loops r.counts

-- the answer is what the reply says: a step, or a refusal's number and place
abbrev pub TellsStep : Result StepDone Refusal → StepReply → Type 0
TellsStep (Ok r) (stepped a store state) = ToldStep r a
TellsStep (Ok r) (StepReply.refuses q p) = ⊥
TellsStep (Err r) (stepped a store state) = ⊥
TellsStep (Err r) (StepReply.refuses q p) = (r.number ≡ q) × (r.place ≡ p)

-- the answer of a step, and store, state and cues after it: "A refused call leaves store, state and cues untouched"
pub record SteppedAs (reply : StepReply) (store store' : List ℤ) (state state' cues cues' : List ℕ) (r : Result StepDone Refusal) : Type 0 where
  pub told : TellsStep r reply
  pub new_store : store' ≡ store_stepped reply store
  pub new_state : state' ≡ state_stepped reply state
  pub new_cues : cues' ≡ cues_stepped reply cues

-- a script in a table, with its report, and a store and a state that its questions have passed
pub record StepReady (script : Script) (text t : List ℕ) (by : Paced) (table : List (List ℕ)) (store : List ℤ) (ns : List ℕ) : Type 0 where
  pub asked : StateAsked by.prices script t by.count by.ticks table by.loops
  pub rows : script.rows ≡ script_in text t by.count
  pub runs : Runs text t by.count (length store)
  pub fine : FinePrices by.prices
  pub heads : length (loop_rows 0 script.rows) ≡ by.loops
  pub totals : All (λ (l : Line). l.total ≤ 1_000_000_000_001) (report_lines script)
  pub few : by.ticks ≤ 1_000_000_000_000
  pub passes : state_verdict by.prices script ns ≡ Passed
  pub q : by.q ≤ 1_000_000

-- the script of a step's questions, with its report
pub record StepAsked (script : Script) (t : List ℕ) (by : Paced) (vars : ℕ) (table : List (List ℕ)) : Type 0 where
  pub asked : StateAsked by.prices script t by.count by.ticks table by.loops
  pub vars_are : length script.ranges ≡ vars
  pub few : vars ≤ 16

-- what a step is lent
abbrev pub step_lent : ℕ → List ℕ → ℕ → StepLent
step_lent q picks room = record { q = q; picks = picks; room = room }

-- the step from there, lent these bytes and room for so many cues
abbrev pub step_from : Script → Paced → List ℤ → List ℕ → List ℕ → ℕ → StepReply
step_from script by store ns picks room =
    after_step by.prices script store ns (step_of by.prices script (step_lent by.q picks room) (state_stand script store ns))
