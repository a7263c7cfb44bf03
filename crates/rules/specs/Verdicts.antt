-- What questions answer, and what code's result says of it.
use Rattle.std.specs.Prelude.{ℕ, Result, Ok, Err}
use Rattle.rules.specs.declared.Refusal.{Refusal}

-- all answers are yes, or the first no, with number and place
pub data Verdict : Type 0 where
  passed : Verdict
  refused : ℕ → ℕ → Verdict

-- the verdict that code answers
abbrev pub verdict_of : Result (Unit {0}) Refusal → Verdict
verdict_of (Ok _) = passed
verdict_of (Err r) = refused r.number r.place
