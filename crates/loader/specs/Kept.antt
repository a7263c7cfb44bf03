-- What the two calls promise.
use Rattle.std.specs.Prelude.{◌≡◌, cond, List, ℕ, ◌<◌, leb, ℤ, Result, Ok, Err, length, drop}
use Rattle.rules.specs.Replies.{Reply}
use Rattle.rules.specs.Replies.{Accepted}
use Rattle.rules.specs.Verdicts.{Verdict}
use Rattle.rules.specs.Verdicts.{passed as Passed}
use Rattle.rules.specs.declared.Refusal.{Refusal}
use Rattle.rules.specs.Calls.{Judged, prices_verdict, scratch_size, judged, reply_of, buffer_of, RunReply, ran, refuses, run_reply, ending_number}
use Rattle.rules.specs.Claim.{Demand3Of}
use Rattle.calls.specs.declared.Outcome.{Outcome}
use Rattle.calls.specs.Told.{ending_in, ticks_in, counts_in, RanAs}

-- the questions 1 and 16, of a scratch of that length and the prices
abbrev pub lent_verdict : List ℕ → ℕ → Verdict
lent_verdict prices scratch = cond (leb scratch_size scratch) (prices_verdict 4 0 prices) (Verdict.refused 1 scratch_size)

-- the questions 1, 16 and 2 to 13 of a call
abbrev pub judgement : List ℕ → List ℕ → List ℕ → Judged
judgement prices scratch file = judged prices (length scratch) file

-- a report's answer by document 01's numbers: 0 and the length, or a refusal's number and place
abbrev pub reply_number : Reply → ℕ
reply_number (Accepted n) = 0
reply_number (Reply.Refused q p) = q

-- the length, or the place
abbrev pub reply_place : Reply → ℕ
reply_place (Accepted n) = n
reply_place (Reply.Refused q p) = p

-- a verdict's: 0, or a refusal's number
abbrev pub verdict_number : Verdict → ℕ
verdict_number Passed = 0
verdict_number (Verdict.refused q p) = q

-- that of a call's answer
abbrev pub answer_number : {A : Type 0} → Result A Refusal → ℕ
answer_number (Ok x) = 0
answer_number (Err r) = r.number

-- the number of a run's ending, or a refusal's place
abbrev pub first_of : Result Outcome Refusal → ℕ
first_of (Ok o) = ending_number o.ending
first_of (Err r) = r.place

-- what a run call's reply has for them
abbrev pub run_number : RunReply → ℕ
run_number (ran a counts) = 0
run_number (refuses q p) = q

-- the ending's number, or a refusal's place
abbrev pub run_first : RunReply → ℕ
run_first (ran a counts) = ending_number a.ending
run_first (refuses q p) = p

-- a report call: its answer, also by its numbers, and every byte of the buffer
pub record Reported (prices : List ℕ) (judgement : Judged) (old new : List ℕ) (r : Reply) : Type 0 where
  pub answer : r ≡ reply_of prices judgement (length old)
  pub number : reply_number r ≡ reply_number (reply_of prices judgement (length old))
  pub place : reply_place r ≡ reply_place (reply_of prices judgement (length old))
  pub buffer : new ≡ buffer_of prices judgement old

-- a run call: its answer, also by its numbers, and the store are document 01's; and for an accepted file, a store inside its ranges and an allowance of the ticks of the
-- report under the same prices or more, this answer keeps within the report: not spent, its ticks, turns and totals at most the report's, exact loops exactly
pub record KeptCall (prices : List ℕ) (judgement : Judged) (store new : List ℤ) (picks : List ℕ) (allowance : ℕ) (o : Result Outcome Refusal) : Type 0 where
  pub answer : RanAs (run_reply prices judgement store picks allowance) store new o
  pub number : answer_number o ≡ run_number (run_reply prices judgement store picks allowance)
  pub first : first_of o ≡ run_first (run_reply prices judgement store picks allowance)
  pub demand3 : Demand3Of prices judgement store picks allowance (ending_in o) (ticks_in o) (counts_in o)

-- the lent scratch: every number past the first 1,024 keeps its value, and all of them where 1 refuses
pub record ScratchKept (old new : List ℕ) : Type 0 where
  pub past : drop scratch_size new ≡ drop scratch_size old
  pub refused : length old < scratch_size → new ≡ old
