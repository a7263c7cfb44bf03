-- The value of an expression in a run as one number.
use Rattle.std.specs.Prelude.{cond, ℤ, pos}
use Rattle.ints.specs.Ints.{eq_z}
use Rattle.rules.specs.Values.{Result, number, past}

-- 4,000,000,000 stands for a result past ±L, any other number for itself
unfoldable pub result_in : ℤ → Result
result_in z = cond (eq_z z (pos 4_000_000_000)) past (number z)
