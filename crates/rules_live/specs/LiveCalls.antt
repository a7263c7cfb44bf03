-- The two calls of request 15, `start` and `step`: their questions in order, and what is answered.
use Rattle.std.specs.Prelude.{◌≡◌, cond, List, [], ◌∷◌, map, ℕ, ◌+◌, ◌≤◌, leb, eqb, ℤ, length}
use Rattle.rules.specs.declared.Prices.{Prices}
use Rattle.rules.specs.Values.{lowest, highest}
use Rattle.rules.specs.Ranges.{Range}
use Rattle.rules.specs.Answers.{store_list}
use Rattle.rules.specs.Verdicts.{Verdict, passed, refused}
use Rattle.rules.specs.Bounds.{FinePrices}
use Rattle.rules.specs.Scripts.{All, Script, report_ticks, report_lines, Accepted}
use Rattle.rules.specs.Calls.{Judged, accepted, prices_of, judged, store_verdict, over}
use Rattle.rules_live.specs.Live.{StepLent, Stepped, Live, beginning, joined, step_of, store_at, StepAnswer, step_answer, after_steps}
use Rattle.rules_live.specs.LiveState.{state_size, at, state_stand, state_verdict, state_numbers}

-- this question, and after it that one
unfoldable pub and_then : Verdict → Verdict → Verdict
and_then passed w = w
and_then (refused q p) w = refused q p

-- ---- start
-- what `start` answers: "the report's ticks T and the number of loops", and the state that it writes
pub data StartReply : Type 0 where
  started : ℕ → ℕ → List ℕ → StartReply
  refuses : ℕ → ℕ → StartReply

-- 21 of `start`, which overwrites the state: has it 64 numbers?
unfoldable pub size_verdict : List ℕ → Verdict
size_verdict ns = cond (eqb (length ns) state_size) passed (refused 21 state_size)

-- the state at the start
unfoldable pub start_state : Prices → Script → List ℤ → List ℕ
start_state π script store = state_numbers π script 0 0 (beginning store).stand

-- after its questions
unfoldable pub started_by : Prices → Script → List ℤ → Verdict → StartReply
started_by π script store passed = started (report_ticks π script) (length (report_lines script)) (start_state π script store)
started_by π script store (refused q p) = refuses q p

-- "asks 1, 16, 2 to 13 and 15 as a run does, and after them 21"
unfoldable pub start_reply : List ℕ → Judged → List ℤ → List ℕ → StartReply
start_reply prices (accepted script) store ns = started_by (prices_of prices) script store (and_then (store_verdict 0 script.ranges store) (size_verdict ns))
start_reply prices (Judged.refuses q p) store ns = refuses q p

-- ---- step
-- what `step` answers, and the store and the state that it writes
pub data StepReply : Type 0 where
  stepped : StepAnswer → List ℤ → List ℕ → StepReply
  refuses : ℕ → ℕ → StepReply

-- from −L to L
abbrev pub whole_range : Range
whole_range = record { lo = lowest; hi = highest }

-- "15 read so: has the store V numbers, each from −L to L?"
unfoldable pub wide_verdict : Script → List ℤ → Verdict
wide_verdict script store = store_verdict 0 (map (λ r. whole_range) script.ranges) store

-- 22: "place 0, for q above 1,000,000"
unfoldable pub ticks_verdict : ℕ → Verdict
ticks_verdict q = cond (leb q 1_000_000) passed (refused 22 0)

-- the questions of a step of an accepted script
unfoldable pub step_verdict : Prices → Script → List ℤ → List ℕ → ℕ → Verdict
step_verdict π script store ns q = and_then (wide_verdict script store) (and_then (state_verdict π script ns) (ticks_verdict q))

-- after a step s from the state ns
unfoldable pub after_step : Prices → Script → List ℤ → List ℕ → Stepped → StepReply
after_step π script store ns s =
    stepped (step_answer π script (at ns 4) (at ns 5) s) (store_list (length store) (store_at s.stand))
    (state_numbers π script (at ns 4 + s.ticks) (at ns 5 + length s.used) s.stand)

-- after its questions
unfoldable pub stepped_by : Prices → Script → List ℤ → List ℕ → StepLent → Verdict → StepReply
stepped_by π script store ns l passed = after_step π script store ns (step_of π script l (state_stand script store ns))
stepped_by π script store ns l (refused q p) = refuses q p

-- "one frame of one script"
unfoldable pub step_reply : List ℕ → Judged → List ℤ → List ℕ → StepLent → StepReply
step_reply prices (accepted script) store ns l = stepped_by (prices_of prices) script store ns l (step_verdict (prices_of prices) script store ns l.q)
step_reply prices (Judged.refuses q p) store ns l = refuses q p

-- ---- what they write; "A refused call leaves store, state and cues untouched"
-- the state after `start`
unfoldable pub state_started : StartReply → List ℕ → List ℕ
state_started (started ticks loops state) old = state
state_started (refuses q p) old = old

-- after `step`: the store
unfoldable pub store_stepped : StepReply → List ℤ → List ℤ
store_stepped (stepped a store state) old = store
store_stepped (refuses q p) old = old

-- the state
unfoldable pub state_stepped : StepReply → List ℕ → List ℕ
state_stepped (stepped a store state) old = state
state_stepped (refuses q p) old = old

-- the list of cues: "numbers past them keep their values"
unfoldable pub cues_stepped : StepReply → List ℕ → List ℕ
cues_stepped (stepped a store state) old = over a.cues old
cues_stepped (refuses q p) old = old

-- ---- what is claimed of them
-- what a caller holds between the calls: store and state
pub record Holding : Type 0 where
  pub store : List ℤ
  pub state : List ℕ

-- after a call of `step`
unfoldable pub holding_after : Holding → StepReply → Holding
holding_after h r = record { store = store_stepped r h.store; state = state_stepped r h.state }

-- a series of calls of `step`, each with what the one before it left
unfoldable pub calls_from : List ℕ → Judged → Holding → List StepLent → Holding
calls_from prices j h [] = h
calls_from prices j h (l ∷ ls) = calls_from prices j (holding_after h (step_reply prices j h.store h.state l)) ls

-- what a caller holds after `start`
unfoldable pub holding_started : List ℕ → Judged → List ℤ → List ℕ → Holding
holding_started prices j store ns = record { store = store; state = state_started (start_reply prices j store ns) ns }

-- the store and state of a live run
unfoldable pub holding_of : Prices → Script → ℕ → Live → Holding
holding_of π script n l = record { store = store_list n (store_at l.stand); state = state_numbers π script l.ticks (length l.used) l.stand }

-- "a state that `start` or `step` wrote passes 21 in the next step with the same file and prices", and the store passes 15, whatever state the
-- step had been lent
unfoldable pub WrittenPasses : Type 0
WrittenPasses =
    (π : Prices) → FinePrices π → (script : Script) → Accepted π script → (store new : List ℤ) (ns written : List ℕ) (l : StepLent) (a : StepAnswer)
    → stepped_by π script store ns l (step_verdict π script store ns l.q) ≡ stepped a new written
    → (wide_verdict script new ≡ passed) × (state_verdict π script written ≡ passed)

-- The calls are the definition's steps: after `start` and steps that are lent these, what the caller holds is what the live run says, and the
-- next step answers so.
unfoldable pub CallsAreSteps : Type 0
CallsAreSteps =
    (prices : List ℕ) (scratch : ℕ) (file : List ℕ) (script : Script) → judged prices scratch file ≡ accepted script
    → (store : List ℤ) → store_verdict 0 script.ranges store ≡ passed → (ns : List ℕ) → length ns ≡ state_size
    → (ls : List StepLent) → All (λ l. l.q ≤ 1_000_000) ls
    → let π : Prices = prices_of prices in
    let live : Live = after_steps π script store ls in
    let h : Holding = calls_from prices (accepted script) (holding_started prices (accepted script) store ns) ls in
    (h ≡ holding_of π script (length store) live)
    × ((l : StepLent) → l.q ≤ 1_000_000 → step_reply prices (accepted script) h.store h.state l
    ≡ stepped (step_answer π script live.ticks (length live.used) (step_of π script l live.stand))
    (holding_of π script (length store) (joined live (step_of π script l live.stand))).store
    (holding_of π script (length store) (joined live (step_of π script l live.stand))).state)
