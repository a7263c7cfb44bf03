use Rattle.std.proofs.Common.{◌≡◌, ◌∙◌, refl, ap, ℕ, zero, suc}
use Rattle.std.specs.Ordering.{ord_min}
use Rattle.rules.specs.File.{turn_of, first_refusal}
use Rattle.reading.specs.contracts.order.LineQuestionOrd.TheImpl as impl
use Rattle.reading.specs.declared.order.LineQuestion.{LineQuestion}
use Rattle.reading.specs.Answers.{question_number}
use Rattle.reading.proofs.order.first_refusal.Goals as goal

refusal_left : (p : ℕ) → p ≡ first_refusal p 0
unfolding first_refusal
refusal_left zero = refl
refusal_left (suc p) = refl

-- the smaller of two questions is the one that comes first
smaller : (a b : LineQuestion) → question_number (ord_min impl.cmp-value.it a b) ≡ first_refusal (question_number a) (question_number b)
unfolding first_refusal turn_of
smaller LineQuestion.Shape LineQuestion.Shape = refl
smaller LineQuestion.Shape LineQuestion.Size = refl
smaller LineQuestion.Shape LineQuestion.Limits = refl
smaller LineQuestion.Shape LineQuestion.Variable = refl
smaller LineQuestion.Size LineQuestion.Shape = refl
smaller LineQuestion.Size LineQuestion.Size = refl
smaller LineQuestion.Size LineQuestion.Limits = refl
smaller LineQuestion.Size LineQuestion.Variable = refl
smaller LineQuestion.Limits LineQuestion.Shape = refl
smaller LineQuestion.Limits LineQuestion.Size = refl
smaller LineQuestion.Limits LineQuestion.Limits = refl
smaller LineQuestion.Limits LineQuestion.Variable = refl
smaller LineQuestion.Variable LineQuestion.Shape = refl
smaller LineQuestion.Variable LineQuestion.Size = refl
smaller LineQuestion.Variable LineQuestion.Limits = refl
smaller LineQuestion.Variable LineQuestion.Variable = refl

pub returns-in_default : goal.returns-in_default
unfolding first_refusal
returns-in_default c = rw c.in_default.is

pub returns-in_default-q : goal.returns-in_default-q
returns-in_default-q c = rw (c.in-Err.is, c.in_default-q.is) (refusal_left (question_number c.in-Err.a))

pub returns : goal.returns
returns c = rw (c.in-Err.is, c.in-Err-q.is) (ap question_number c.min.ensures ∙ smaller c.in-Err.a c.in-Err-q.b)
