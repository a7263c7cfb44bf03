use Rattle.std.proofs.Common.{ℕ, ◌+◌, sym, ap, ◌∙◌, arith}
use Rattle.report.proofs.PiecesLaws.{room_none, room_one, room_more}
use Rattle.report.proofs.pieces.+digits_len.Goals as goal

pub returns-then-k-eq0 : goal.returns-then-k-eq0
returns-then-k-eq0 t c = (sym (room_none _ _ c.if-k-eq0.true), omega arith)

pub returns-then-n-lt10 : goal.returns-then-n-lt10
returns-then-n-lt10 t c = (sym (room_one _ _ c.if-k-eq0.false c.if-n-lt10.true), omega (arith, c.if-k-eq0.false))

pub returns : goal.returns
returns t c =
    let h = c.digits_len.ensures in
    (ap (λ (n : ℕ). n + 1) h.0 ∙ sym (room_more _ _ c.if-k-eq0.false c.if-n-lt10.false), omega (arith, h.1, c.if-k-eq0.false))
