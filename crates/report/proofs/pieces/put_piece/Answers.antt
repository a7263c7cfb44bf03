use native.Mathlib.Omega.{arith}
use mathlib.Core.Path.{ap}
use lib.ListN.{length}
use Rattle.rules.specs.Report.{decimal}
use Rattle.report.specs.declared.pieces.Piece.{Piece}
use Rattle.report.specs.Pieces.{piece_text}
use Rattle.report.proofs.PiecesLaws.{wrote_nothing}
use Rattle.report.proofs.pieces.put_piece.Goals as goal

pub put_digits-requires : goal.put_digits-requires
unfolding decimal
put_digits-requires c = omega (arith, ap (λ (p : Piece). length (piece_text p)) c.in-Number.is)

pub returns-in-Nothing : goal.returns-in-Nothing
returns-in-Nothing c = rw c.in-Nothing.is (wrote_nothing _)

pub returns-in-Number : goal.returns-in-Number
unfolding decimal
returns-in-Number c = rw c.in-Number.is c.put_digits.ensures
