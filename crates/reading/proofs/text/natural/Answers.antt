use Rattle.std.proofs.Common.{◌∙◌, sym, arith, rules}
use Rattle.reading.proofs.TextLaws.{natural_absent, natural_stopped, natural_leading, natural_found, natural_within}
use Rattle.reading.proofs.text.natural.Goals as goal
use Rattle.reading.proofs.text.natural.Goals.{else-length-s-via-then-length-s+else-not-stops, else-length-s-via-else-length-s}
use Rattle.reading.proofs.text.natural.Goals.{else-leading_zero-via-then-leading_zero+else-length-gt1, else-leading_zero-via-else-leading_zero}

pub returns-then-length-eq0 : goal.returns-then-length-eq0
returns-then-length-eq0 c = natural_absent c.args.s.now c.digits_at-digits.result c.digits_at-digits.ensures c.if-length-eq0.true

pub returns-then-not-stops : goal.returns-then-not-stops
returns-then-not-stops c = natural_stopped c.args.s.now c.digits_at-digits.result c.digits_at-digits.ensures c.if-length-s.true (sym c.stops.ensures ∙ c.if-not-stops.true)

pub bounds-s-0 : goal.bounds-s-0
bounds-s-0 c = let h = natural_within c.args.s.now c.digits_at-digits.result c.digits_at-digits.ensures c.if-length-eq0.false in search rules

pub returns-then-length-gt1 : goal.returns-then-length-gt1
returns-then-length-gt1 c =
    natural_leading c.args.s.now c.digits_at-digits.result c.digits_at-digits.ensures
    (elim c.else-length-s.branch [
      | else-length-s-via-then-length-s+else-not-stops w ↦ λ l. sym w.stops.ensures ∙ w.if-not-stops.false
      | else-length-s-via-else-length-s w ↦ λ l. absurd (omega (arith, l, w.if-length-s.false))
    ])
    c.if-leading_zero.true c.if-length-gt1.true

pub returns : goal.returns
returns c =
    natural_found c.args.s.now c.digits_at-digits.result c.digits_at-digits.ensures
    (elim c.else-length-s.branch [
      | else-length-s-via-then-length-s+else-not-stops w ↦ λ l. sym w.stops.ensures ∙ w.if-not-stops.false
      | else-length-s-via-else-length-s w ↦ λ l. absurd (omega (arith, l, w.if-length-s.false))
    ])
    c.if-length-eq0.false
    (elim c.else-leading_zero.branch [
      | else-leading_zero-via-then-leading_zero+else-length-gt1 w ↦ λ z. w.if-length-gt1.false
      | else-leading_zero-via-else-leading_zero w ↦ λ z. absurd (w.if-leading_zero.false z)
    ])
