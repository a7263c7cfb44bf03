-- `live_state::ask_zeros` meets its contract. Assumes nothing.
use mathlib.Core.Path.{refl, sym, ◌∙◌}
use Rattle.live_state.proofs.StateLaws.{zeros_on, zeros_no, zeros_all}
use native.Mathlib.Omega.{arith}
use Rattle.live_state.proofs.ask_zeros.Goals as goal

pub loop-j-init : goal.loop-j-init
loop-j-init c = record { after = omega arith; before = refl }

pub loop-j-preserved : goal.loop-j-preserved
loop-j-preserved c =
    let l = c.loop-j in record {
      after = omega (arith, l.invariant.after);
      before = l.invariant.before ∙ zeros_on _ _ l.j c.loop-j-test.true c.requires.1 c.if-state-j-ne0.false;
    }

pub returns-then-state-j-ne0 : goal.returns-then-state-j-ne0
returns-then-state-j-ne0 c =
    let l = c.loop-j in c.no.ensures ∙ sym (l.invariant.before ∙ zeros_no _ _ l.j c.loop-j-test.true c.requires.1 c.if-state-j-ne0.true)

pub returns : goal.returns
returns c = let l = c.loop-j in sym (l.invariant.before ∙ zeros_all _ _ l.j (omega (arith, c.loop-j-test.false)))
