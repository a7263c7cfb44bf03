use Rattle.std.proofs.Common.{◌≡◌, ◌+◌, add-one, rules}
use Rattle.std.specs.Option.{option_map, option_and_then}
use Rattle.expressions.specs.Leaves.{variable_leaf, constant_leaf, negative_leaf}
use Rattle.expressions.proofs.LeavesLaws.{whole_small, leaf_past, leaf_variable, leaf_negative, leaf_other}
use Rattle.expressions.proofs.leaves.leaf_at.Goals as goal

pub returns-then-at-s : goal.returns-then-at-s
returns-then-at-s c = leaf_past _ _ c.if-at-s.true

pub and_then-requires : goal.and_then-requires
and_then-requires c = whole_small c.args.s.now (c.args.at + 1) _ c.whole_at-in-45.ensures

pub map-requires-in_default : goal.map-requires-in_default
map-requires-in_default c = whole_small c.args.s.now c.args.at _ c.whole_at-in_default.ensures

pub returns-in-118 : goal.returns-in-118
returns-in-118 c =
    let e : c.map.result ≡ option_map variable_leaf c.whole_at.result = search rules in
    rw e (leaf_variable _ _ c.if-at-s.false c.in-118.is _ (rw add-one at c.whole_at.ensures))

pub returns-in-45 : goal.returns-in-45
returns-in-45 c =
    let e : c.and_then.result ≡ option_and_then negative_leaf c.whole_at-in-45.result = search rules in
    rw e (leaf_negative _ _ c.if-at-s.false c.in-45.is _ (rw add-one at c.whole_at-in-45.ensures))

pub returns-in_default : goal.returns-in_default
returns-in_default c =
    let e : c.map-in_default.result ≡ option_map constant_leaf c.whole_at-in_default.result = search rules in
    rw e (leaf_other _ _ c.if-at-s.false (search rules) (search rules) _ c.whole_at-in_default.ensures)
