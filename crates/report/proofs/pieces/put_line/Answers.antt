use borrow.Author.Rules.{rules}
use native.Mathlib.Omega.{arith}
use mathlib.Core.Path.{◌≡◌, ◌∙◌}
use Prim.Native.Nat.{◌≤◌}
use lib.ListN.{length, length-drop}
use Rattle.report.specs.Pieces.{piece_texts}
use Rattle.report.proofs.PiecesLaws.{writing_none, writing_room, writing_more, writing_all, pieces_count, piece_at, part_rest}
use Rattle.report.proofs.pieces.put_line.Goals as goal

pub loop-piece-init : goal.loop-piece-init
loop-piece-init c = writing_none _ _

pub slice_bounds-put_piece-count : goal.slice_bounds-put_piece-count
slice_bounds-put_piece-count c =
    let n : length (piece_texts c.args.pieces) ≡ 17 = pieces_count c.args.pieces ∙ (search rules) in
    let room = rw piece_at at (writing_room _ _ _ _ _ c.loop-piece.invariant (omega (arith, n)) c.requires) in
    omega (arith, room)

pub slice_bounds-put_piece-start : goal.slice_bounds-put_piece-start
slice_bounds-put_piece-start c =
    let n : length (piece_texts c.args.pieces) ≡ 17 = pieces_count c.args.pieces ∙ (search rules) in
    let room = rw piece_at at (writing_room _ _ _ _ _ c.loop-piece.invariant (omega (arith, n)) c.requires) in
    let h : c.loop-piece.at ≤ length c.loop-piece.out = omega (arith, room) in
    search rules

pub put_piece-at-requires : goal.put_piece-at-requires
put_piece-at-requires c =
    let n : length (piece_texts c.args.pieces) ≡ 17 = pieces_count c.args.pieces ∙ (search rules) in
    let room = rw piece_at at (writing_room _ _ _ _ _ c.loop-piece.invariant (omega (arith, n)) c.requires) in
    simp (part_rest, length-drop) (omega (arith, room))

pub overflow_add-at : goal.overflow_add-at
overflow_add-at c =
    let n : length (piece_texts c.args.pieces) ≡ 17 = pieces_count c.args.pieces ∙ (search rules) in
    let room = rw piece_at at (writing_room _ _ _ _ _ c.loop-piece.invariant (omega (arith, n)) c.requires) in
    omega (arith, room, c.put_piece-at.ensures.count)

pub loop-piece-preserved : goal.loop-piece-preserved
loop-piece-preserved c =
    let n : length (piece_texts c.args.pieces) ≡ 17 = pieces_count c.args.pieces ∙ (search rules) in
    writing_more _ _ _ _ _ _ _ c.loop-piece.invariant (omega (arith, n)) c.requires (rw (← piece_at c.args.pieces c.loop-piece.piece-index) at c.put_piece-at.ensures)

pub returns : goal.returns
returns c =
    let n : length (piece_texts c.args.pieces) ≡ 17 = pieces_count c.args.pieces ∙ (search rules) in
    writing_all _ _ _ _ _ c.loop-piece.invariant (omega (arith, n))
