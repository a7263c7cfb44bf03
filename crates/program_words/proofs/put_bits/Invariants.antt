use Rattle.program_words.proofs.Bits.{Bits}
use Rattle.program_words.proofs.put_bits.Given as goal

-- the digits passed are put
abbrev pub invariant-loop-i : goal.invariant-loop-i
invariant-loop-i l = Bits l.word l.bits l.i
