-- `table::put_end` meets its contract.
use mathlib.Core.Path.{sym, subst, ◌∙◌}
use mathlib.Core.List.{[], ◌∷◌}
use Prim.Native.Nat.{◌+◌, ◌*◌, ◌<◌}
use native.Mathlib.Omega.{arith}
use borrow.Author.Rules.{rules}
use Rattle.rules.specs.Blocks.{view_of, kind_of}
use Rattle.table.specs.Code.{kind_in, numbers_at}
use Rattle.table.proofs.Same.{end_small, end_put}
use Rattle.table.proofs.put_end.Statement.{statement}
use Rattle.table.proofs.put_end.Tie as tie

small : (c : tie.After-end_op-op) → c.end_op-op.result < 3
small c =
    let s = c in
    subst (λ m. m < 3) (sym (c.end_op-op.ensures [])) (end_small (view_of (kind_of [] (kind_in (numbers_at s.args.rows.now s.args.h)))))

add-w : tie.Need-overflow_add-w
add-w c = omega (arith, small c.before.before.before)

add-w-2 : tie.Need-overflow_add-w-2
add-w-2 c = omega (arith, small c.before.before.before)

returns : tie.Need-returns
returns c =
    let s = c in
    let p = c.put_numbers.ensures in
    let op = c.end_op-op in
    let columns = c.columns_at-columns in
    let w = op.result + 256 * columns.result + 16_777_216 * s.args.h in
    end_put s.args.rows.now _ s.args.h s.args.i s.args.number op.result columns.result
    (record {
      row = p.row ∙ (λ z. w ∷ s.args.number ∷ c.limit_value_at-limit.ensures z ∷ c.number_at-change.ensures z ∷ []);
      only = p.only;
    })
    op.ensures
    columns.ensures

pub put_end_spec : {M : Type 1} → statement M
put_end_spec =
    tie.close
    (tie.spec
    (λ c κs. search rules) (λ c κs. search rules) (λ c κs. search rules) (λ c κs. search rules) (λ c. search rules)
    add-w
    (λ c. search rules) (λ c. search rules)
    add-w-2
    (λ c κs. search rules) (λ c. search rules)
    returns)
