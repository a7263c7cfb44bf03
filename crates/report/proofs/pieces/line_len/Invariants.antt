use Rattle.report.specs.Pieces.{piece_texts}
use Rattle.report.proofs.PiecesLaws.{Measured}
use Rattle.report.proofs.pieces.line_len.Given as goal

abbrev pub invariant-loop-piece : goal.invariant-loop-piece
invariant-loop-piece l = Measured 20 (piece_texts l.piece-items) l.len l.piece-index
