-- `program_words::put_bits` meets its contract.
use native.Mathlib.Numerals.{add-one}
use Rattle.program_words.proofs.Bits.{bits_none, bit_none, bit_some, bits_stop, bits_more, bits_all}
use Rattle.program_words.proofs.put_bits.Goals as goal

pub loop-i-init : goal.loop-i-init
loop-i-init c = bits_none _ _ c.requires

pub returns-in_err-bits : goal.returns-in_err-bits
returns-in_err-bits c = rw c.from_residual.ensures (bits_stop _ _ _ c.loop-i.invariant c.loop-i-test.true (bit_none _ c.in_err-bits.ensures))

pub loop-i-preserved : goal.loop-i-preserved
loop-i-preserved c = rw add-one (bits_more _ _ _ c.loop-i.invariant c.loop-i-test.true _ (bit_some _ _ c.in_ok-bits.ensures))

pub returns : goal.returns
returns c = bits_all _ _ _ c.loop-i.invariant c.loop-i-test.false
