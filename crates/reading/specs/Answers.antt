-- The numbers of a line's questions, and of what its words answer.
use Rattle.std.specs.Prelude.{ℕ, Result, Ok, Err}
use Rattle.reading.specs.declared.order.LineQuestion.{LineQuestion}

-- a question's number in the documents
abbrev pub question_number : LineQuestion → ℕ
question_number LineQuestion.Shape = 3
question_number LineQuestion.Size = 17
question_number LineQuestion.Limits = 4
question_number LineQuestion.Variable = 5

-- the number of the first question that has no, 0 for none
abbrev pub answer_number : Result (Unit {0}) LineQuestion → ℕ
answer_number (Ok _) = 0
answer_number (Err q) = question_number q
