-- The operators of an expression: on the ranges of the analysis, and on the numbers of a run.
use Rattle.std.specs.Prelude.{◌≡◌, Bool, true, cond, List, ℕ, suc, ◌<◌, eqb, length, drop, ℤ, Option, None, Some}
use Rattle.rules.specs.declared.Value.{Value}
use Rattle.rules.specs.declared.Operator.{Operator}
use Rattle.rules.specs.Expressions.{Numbers, operate}
use Rattle.rules.specs.Values.{Result, number, past, in_limits}
use Rattle.rules.specs.Evaluate.{not_past, combined}
use Rattle.rules.specs.Parse.{Ahead, operator, other}

-- an operator on two numbers of a run; none is past ±L
unfoldable pub in_run : Operator → Option ℤ → Option ℤ → Option ℤ
in_run o None b = None
in_run o (Some x) None = None
in_run o (Some x) (Some y) = cond (in_limits (operate o x y)) (Some (operate o x y)) None

-- the numbers of the analysis
abbrev pub ranges : Numbers Value
ranges = record { of_constant = λ k. not_past k k; of_operator = combined }

-- those of a run
abbrev pub run_numbers : Numbers (Option ℤ)
run_numbers = record { of_constant = Some; of_operator = in_run }

-- the rules' result of a run's number
abbrev pub run_result : Option ℤ → Result
run_result None = past
run_result (Some z) = number z

-- an operator on two numbers; before the first operator, the second number
abbrev pub joined_by : {A : Type 0} → Numbers A → Option (Operator × A) → A → A
joined_by n None b = b
joined_by n (Some (o, a)) b = n.of_operator o a b

-- the operator that stands at a place of a text, or none
abbrev pub StandsAt : List ℕ → ℕ → Ahead → Option Operator → Type 0
StandsAt text at a None = a ≡ other
StandsAt text at a (Some o) = (a ≡ operator o (drop (suc at) text)) × (at < length text)

-- + or -
unfoldable pub is_sum : ℕ → Bool
is_sum b = cond (eqb b 43) true (eqb b 45)
