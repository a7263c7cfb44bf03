use Rattle.std.proofs.Common.{arith}
use Rattle.report.proofs.PiecesLaws.{room_one, room_more, wrote_none, wrote_one, wrote_more}
use Rattle.report.proofs.pieces.+put_digits.Goals as goal

pub returns-then-k-eq0 : goal.returns-then-k-eq0
returns-then-k-eq0 t c = wrote_none _ _ _ c.if-k-eq0.true

pub bounds-out-0 : goal.bounds-out-0
bounds-out-0 t c = omega (arith, room_one c.args.k c.args.n c.if-k-eq0.false c.if-n-lt10.true)

pub returns-then-n-lt10 : goal.returns-then-n-lt10
returns-then-n-lt10 t c = wrote_one _ _ _ c.if-k-eq0.false c.if-n-lt10.true c.requires

pub put_digits-at-requires : goal.put_digits-at-requires
put_digits-at-requires t c = (omega (arith, c.if-k-eq0.false), omega (arith, room_more c.args.k c.args.n c.if-k-eq0.false c.if-n-lt10.false))

pub bounds-out-at : goal.bounds-out-at
bounds-out-at t c = omega (arith, c.put_digits-at.ensures.count, c.put_digits-at.auto.out, room_more c.args.k c.args.n c.if-k-eq0.false c.if-n-lt10.false)

pub overflow_add-result : goal.overflow_add-result
overflow_add-result t c = omega (arith, c.put_digits-at.ensures.count, room_more c.args.k c.args.n c.if-k-eq0.false c.if-n-lt10.false)

pub returns : goal.returns
returns t c = wrote_more _ _ _ _ _ c.if-k-eq0.false c.if-n-lt10.false c.requires c.put_digits-at.ensures
