use native.Mathlib.Omega.{arith}
use Rattle.report.specs.Pieces.{label_text}
use Rattle.report.proofs.PiecesLaws.{key_length}
use Rattle.report.proofs.pieces.key_len.Goals as goal

pub returns : goal.returns
returns c = let a = c.args in let l = key_length (label_text a.key) a.n in (omega (arith, l, c.label_len.ensures.0, c.digits_len.ensures.0), omega (arith, c.label_len.ensures.1, c.digits_len.ensures.1))
