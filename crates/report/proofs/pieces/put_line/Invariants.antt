use Rattle.report.specs.Pieces.{piece_texts}
use Rattle.report.proofs.PiecesLaws.{Writing}
use Rattle.report.proofs.pieces.put_line.Given as goal

abbrev pub invariant-loop-piece : goal.invariant-loop-piece
invariant-loop-piece l = Writing (piece_texts l.piece-items) l.initial.out l.out l.at l.piece-index
