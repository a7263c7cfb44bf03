-- `analysis::entries::leave_loop` meets its contract.
use native.Mathlib.Nat.{mul-le-mul}
use native.Mathlib.Omega.{arith}
use mathlib.Core.Path.{◌≡◌, sym, ap, ◌∙◌}
use mathlib.Core.Bool.{not, ◌&&◌}
use mathlib.Core.List.{[]}
use Prim.Native.Nat.{ℕ, ◌+◌, ◌*◌}
use Rattle.rules.specs.declared.Kind.{Kind}
use Rattle.rules.specs.Steps.{starts}
use Rattle.table.specs.Code.{kind_at, rows_of}
use Rattle.analysis_steps.specs.Tree.{form_of, test_of}
use Rattle.analysis_steps.specs.Sets.{set_of}
use Rattle.analysis_ticks.specs.Capped.{capped, once}
use Rattle.analysis.proofs.Laws.{closed_is}
use Rattle.analysis.proofs.entries.leave_loop.Goals as goal
use Rattle.analysis.proofs.entries.leave_loop.Goals.{then-kept_at, else-kept_at}

pub overflow_mul-ran : goal.overflow_mul-ran
overflow_mul-ran c = let h = mul-le-mul c.requires.7 c.requires.5.test.small in omega arith

pub plus-inner-requires : goal.plus-inner-requires
plus-inner-requires c = let h = mul-le-mul c.requires.7 c.requires.5.test.small in (c.requires.4, omega arith)

pub loop_ticks-ticks-requires : goal.loop_ticks-ticks-requires
loop_ticks-ticks-requires c = (c.requires.5, omega arith, omega (arith, c.plus-inner.ensures))

pub loop_ticks-all-requires : goal.loop_ticks-all-requires
loop_ticks-all-requires c = (c.requires.5, c.requires.6.few, omega (arith, c.plus-inner.ensures))

pub closed-requires : goal.closed-requires
closed-requires c =
    let x = c.plus-inner.result in
    let e : x ≡ capped x = omega (arith, c.plus-inner.ensures) in
    (c.requires.2, c.requires.3, omega (arith, c.loop_ticks-ticks.ensures [] x e), omega (arith, c.loop_ticks-all.ensures [] x e))

pub returns : goal.returns
returns c = record {
  env = c.widen.ensures;
  closed = λ text B h ks ls os.
      let a = c.args in
      let G : ℕ = B + a.exit.ran.tests * a.prices.test in
      let g : c.plus-inner.result ≡ capped G = omega (arith, c.plus-inner.ensures) in
      let k = c.kind_at-kind.ensures in
      let begun = c.kept_at.ensures text ∙ ap (λ (k : Kind). a.t.kept && not (starts a.round.v (form_of text k) (test_of text k))) k in
      let kept : c.if-kept_at.kept ≡ (a.t.kept && not (starts a.round.v (form_of text (kind_at (rows_of a.rows.now) a.t.next)) (test_of text (kind_at (rows_of a.rows.now) a.t.next)))) && not (set_of a.exit.set a.round.v) = elim c.if-kept_at.branch [
        | then-kept_at w ↦ w.kept-is ∙ ap not w.contains.ensures ∙ sym (ap (λ b. b && not (set_of a.exit.set a.round.v)) (sym begun ∙ w.if-kept_at.true))
        | else-kept_at w ↦ w.kept-is ∙ w.if-kept_at.false ∙ sym (ap (λ b. b && not (set_of a.exit.set a.round.v)) (sym begun ∙ w.if-kept_at.false))
      ] in
      closed_is
      (c.loop_ticks-ticks.ensures text G g ∙ ap (λ (k : Kind). capped (a.exit.ran.own * G + 1 * once a.prices (form_of text k))) k)
      (c.loop_ticks-all.ensures text G g ∙ ap (λ (k : Kind). capped (a.exit.ran.all * G + a.round.count * once a.prices (form_of text k))) k)
      kept
      (c.closed.ensures ks ls os);
}
