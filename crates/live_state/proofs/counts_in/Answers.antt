-- `live_state::counts_in` meets its contract. Assumes nothing.
use mathlib.Core.Path.{◌≡◌, refl}
use native.Mathlib.Omega.{arith}
use borrow.Author.Rules.{rules}
use Rattle.live_state.specs.Numbers.{counts_in}
use Rattle.live_state.proofs.Reading.{counts_next}
use Rattle.live_state.proofs.counts_in.Goals as goal

pub loop-k-init : goal.loop-k-init
unfolding counts_in
loop-k-init c = record { long = refl; before = refl }

pub loop-k-preserved : goal.loop-k-preserved
loop-k-preserved c =
    let l = c.loop-k in record {
      long = search rules;
      before = counts_next c.args.state.now l.k l.counts l.invariant.long (omega (arith, c.requires.1, c.loop-k-test.true)) l.invariant.before;
    }

pub returns : goal.returns
returns c = let l = c.loop-k in let e : c.args.loops ≡ l.k = omega (arith, l.auto.k-end, c.loop-k-test.false) in (rw e l.invariant.before, l.invariant.long)
