use Rattle.std.proofs.Common.{◌≡◌, ◌+◌, ◌≤◌, ap, arith, rules}
use lib.ListN.{length, drop, length-drop}
use mir.Syntax.{w32}
use mir.Val.{SFits}
use mir.Facts.{to_z-of_z}
use Rattle.reading.specs.Words.{before, HasEnd, Reads}
use Rattle.reading.proofs.TextLaws.{part_rest}
use Rattle.reading.proofs.Line.{filled_none, filled_next, next_within, filled_lf, filled_all, ends_within}
use Rattle.reading.proofs.text.line_words.Goals as goal

pub loop-i-init : goal.loop-i-init
loop-i-init c = filled_none _ _ c.requires

pub bounds-s-end : goal.bounds-s-end
bounds-s-end c = ends_within _ _ c.loop-i.invariant.reached.ends

pub returns-then-s-end-eq10 : goal.returns-then-s-end-eq10
returns-then-s-end-eq10 c = filled_lf _ _ _ _ _ _ _ c.loop-i.invariant (ends_within _ _ c.loop-i.invariant.reached.ends) c.if-s-end-eq10.true

pub slice_bounds-word_of-count : goal.slice_bounds-word_of-count
slice_bounds-word_of-count c = let h = ends_within c.args.s.now c.loop-i.end c.loop-i.invariant.reached.ends in search rules

pub slice_bounds-word_of-start : goal.slice_bounds-word_of-start
slice_bounds-word_of-start c = let h = ends_within c.args.s.now c.loop-i.end c.loop-i.invariant.reached.ends in search rules

pub overflow_add-end : goal.overflow_add-end
overflow_add-end c =
    let r : Reads (drop (c.loop-i.end + 1) c.args.s.now) c.word_of-found.result = rw (part_rest c.args.s.now (c.loop-i.end + 1)) at c.word_of-found.ensures in
    let h = next_within _ _ _ _ _ _ _ c.loop-i.invariant _ r in
    search rules

pub loop-i-preserved : goal.loop-i-preserved
loop-i-preserved c =
    let r : Reads (drop (c.loop-i.end + 1) c.args.s.now) c.word_of-found.result = rw (part_rest c.args.s.now (c.loop-i.end + 1)) at c.word_of-found.ensures in
    let f : SFits w32 c.word_of-found.result.value = search rules in
    rw (to_z-of_z f) (filled_next _ _ _ _ _ _ _ c.loop-i.invariant c.loop-i-test.true c.if-s-end-eq10.false _ r)

pub overflow_add-end-2 : goal.overflow_add-end-2
unfolding HasEnd
overflow_add-end-2 c =
    let there : c.position-end.result ≡ before 10 (drop c.loop-i.end c.args.s.now) = rw (part_rest c.args.s.now c.loop-i.end) at c.position-end.ensures in
    let h : c.loop-i.end + c.position-end.result ≤ length c.args.s.now = omega (arith, c.loop-i.invariant.reached.ends, there, length-drop c.loop-i.end c.args.s.now) in
    search rules

pub returns : goal.returns
returns c =
    let there : c.position-end.result ≡ before 10 (drop c.loop-i.end c.args.s.now) = rw (part_rest c.args.s.now c.loop-i.end) at c.position-end.ensures in
    filled_all _ _ _ _ _ _ _ c.loop-i.invariant c.loop-i-test.false _ (ap (λ n. c.loop-i.end + n) there)
