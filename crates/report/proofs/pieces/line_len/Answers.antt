use borrow.Author.Rules.{rules}
use native.Mathlib.Omega.{arith}
use mathlib.Core.Path.{◌≡◌, sym, ap, ◌∙◌}
use lib.ListN.{length}
use Rattle.report.specs.Pieces.{piece_texts}
use Rattle.report.proofs.PiecesLaws.{measured_none, measured_more, measured_all, pieces_count, piece_at}
use Rattle.report.proofs.pieces.line_len.Goals as goal

pub loop-piece-init : goal.loop-piece-init
loop-piece-init c = measured_none 20 _

pub loop-piece-preserved : goal.loop-piece-preserved
loop-piece-preserved c =
    let n : length (piece_texts c.args.pieces) ≡ 17 = pieces_count c.args.pieces ∙ (search rules) in
    measured_more 20 _ _ _ _ c.loop-piece.invariant (omega (arith, n)) (c.piece_len-len.ensures.0 ∙ ap length (sym (piece_at _ _))) c.piece_len-len.ensures.1

pub returns : goal.returns
returns c =
    let n : length (piece_texts c.args.pieces) ≡ 17 = pieces_count c.args.pieces ∙ (search rules) in
    (measured_all 20 _ _ _ c.loop-piece.invariant (omega (arith, n)), omega (arith, n))
