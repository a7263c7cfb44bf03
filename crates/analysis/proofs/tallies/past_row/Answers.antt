-- The row's price in all passes.
use native.Mathlib.Nat.{mul-le-mul}
use native.Mathlib.Omega.{arith}
use mathlib.Core.Path.{◌≡◌, refl, sym, ap, ◌∙◌}
use mathlib.Core.Bool.{not, ◌&&◌}
use mathlib.Core.List.{[]}
use Prim.Native.Nat.{◌+◌, ◌*◌, ◌≤◌}
use Rattle.table.specs.Code.{kind_at, rows_of}
use Rattle.table.specs.Shapes.{plain_of}
use Rattle.rules.specs.Steps.{sets}
use Rattle.analysis_ticks.specs.Capped.{capped}
use Rattle.analysis.proofs.Laws.{state_is, price_small}
use Rattle.analysis.proofs.tallies.past_row.Goals as goal
use Rattle.analysis.proofs.tallies.past_row.Goals.{then-t, else-t}

pub overflow_mul-round : goal.overflow_mul-round
overflow_mul-round c =
    let z : c.plain_price.result ≤ 1_000 = omega (arith, c.plain_price.ensures [], price_small c.requires.1 (plain_of [] (kind_at (rows_of c.args.rows.now) c.args.t.next))) in
    let h = mul-le-mul c.requires.2.few z in
    omega arith

pub plus-spent-requires : goal.plus-spent-requires
plus-spent-requires c =
    let z : c.plain_price.result ≤ 1_000 = omega (arith, c.plain_price.ensures [], price_small c.requires.1 (plain_of [] (kind_at (rows_of c.args.rows.now) c.args.t.next))) in
    let h = mul-le-mul c.requires.2.few z in
    (c.requires.3, omega arith)

pub returns : goal.returns
returns c = λ text ls os.
    let a = c.args in
    let row = plain_of text (kind_at (rows_of a.rows.now) a.t.next) in
    let e : c.if-t.kept ≡ a.t.kept && not (sets a.round.v row) = elim c.if-t.branch [
      | then-t w ↦ w.kept-is ∙ ap not (w.sets_it.ensures text) ∙ sym (ap (λ b. b && not (sets a.round.v row)) w.if-t.true)
      | else-t w ↦ w.kept-is ∙ w.if-t.false ∙ sym (ap (λ b. b && not (sets a.round.v row)) w.if-t.false)
    ] in
    record {
      next = refl;
      same = refl;
      value = λ ρ. state_is refl e refl (c.plus-spent.ensures ∙ ap (λ p. capped (a.t.spent + a.round.count * p)) (c.plain_price.ensures text)) refl refl refl refl;
    }
