-- `runner::live::put_cue` meets its contract. Assumes nothing.
use mathlib.Core.Path.{◌≡◌, refl, sym, ◌∙◌, ap}
use native.Mathlib.Omega.{arith}
use borrow.Author.Rules.{rules}
use borrow.Author.Tests.{not-true, not-false}
use lib.ListN.{set}
use Rattle.runner.specs.Goes.{no_cue, unlisted, dear, last, no_room}
use Rattle.runner.proofs.live.put_cue.Statement.{statement}
use Rattle.runner.proofs.live.put_cue.Tie as tie

returns : tie.Need-returns-then-not-listed
returns c = unlisted (not-true _ c.if-not-listed.true-raw) c.has.ensures.0 c.has.ensures.1 refl

returns_2 : tie.Need-returns-then-op_at-ne-CUE
returns_2 c = no_cue (λ e. c.if-op_at-ne-CUE.true (c.op_at.ensures ∙ e)) c.has-then-op_at-ne-CUE.ensures.0 c.has-then-op_at-ne-CUE.ensures.1 refl

returns_3 : tie.Need-returns-then-m-price
returns_3 c =
    dear (sym c.op_at.ensures ∙ c.if-op_at-ne-CUE.false) c.if-m-price.true c.has-then-m-price.ensures.0 c.has-then-m-price.ensures.1 refl

returns-4 : tie.Need-returns-then-fired-cues
returns-4 c =
    let s = c in
    last (sym c.op_at.ensures ∙ c.if-op_at-ne-CUE.false) (omega (arith, c.if-m-price.false))
    c.if-fired-cues.true (c.has-then-fired-cues.ensures.0 ∙ omega arith) c.has-then-fired-cues.ensures.1 (ap (set s.args.cues.now s.args.fired) c.number_at.ensures)

returns-5 : tie.Need-returns
returns-5 c =
    no_room (not-false _ c.if-not-listed.false-raw) (sym c.op_at.ensures ∙ c.if-op_at-ne-CUE.false) (omega (arith, c.if-m-price.false))
    (omega (arith, c.if-fired-cues.false)) refl refl

pub put_cue_spec : {M : Type 1} → statement M
put_cue_spec =
    tie.close
    (tie.spec
    (λ c κs. search rules)
    returns
    (λ c κs. search rules)
    (λ c κs. search rules)
    returns_2
    (λ c κs. search rules)
    returns_3
    (λ c κs. search rules) (λ c. search rules) (λ c. search rules) (λ c. search rules) (λ c κs. search rules) (λ c. search rules)
    returns-4
    returns-5)
