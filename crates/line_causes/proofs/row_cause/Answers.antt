-- `line_causes::row_cause` meets its contract.
use borrow.Author.Rules.{rules}
use Rattle.line_causes.proofs.Laws.{first_within}
use Rattle.line_causes.proofs.row_cause.Goals as goal

pub overflow_add-end : goal.overflow_add-end
overflow_add-end c = let h = first_within c.args.line.now _ c.if-line-lt4.false c.position-end.ensures in search rules

pub slice_bounds-shape_of-end-2 : goal.slice_bounds-shape_of-end-2
slice_bounds-shape_of-end-2 c = let h = first_within c.args.line.now _ c.if-line-lt4.false c.position-end.ensures in search rules
