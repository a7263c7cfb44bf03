use Prim.Native.Nat.{◌≤◌}
use Rattle.program_words.proofs.Digits.{Spelling}
use Rattle.program_words.proofs.spelled.Given as goal

-- the digits passed spell n
abbrev pub invariant-loop-b : goal.invariant-loop-b
invariant-loop-b l = Spelling l.word l.n l.b-index × (l.n ≤ 18_446_744_073_709_551_615)
