-- What a report call answers, and what code's result says of it.
use Rattle.std.specs.Prelude.{ℕ, Result, Ok, Err}
use Rattle.rules.specs.declared.Refusal.{Refusal}

-- the report's length, or a refusal's number and place
pub data Reply : Type 0 where
  Accepted : ℕ → Reply
  Refused : ℕ → ℕ → Reply

-- the reply that code answers
abbrev pub reply_by : Result ℕ Refusal → Reply
reply_by (Ok length) = Accepted length
reply_by (Err r) = Refused r.number r.place
