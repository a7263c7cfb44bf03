-- Both parts.
use mathlib.Core.Bool.{Bool, true, false, ◌&&◌, false≢true}
use mathlib.Core.Path.{◌≡◌, sym, ◌∙◌}
use Rattle.rules.specs.Values.{upward}
use Rattle.rules.specs.Blocks.{expr_of}
use Rattle.rules.specs.Steps.{is_add}
use Rattle.rules.specs.Passes.{is_alone}
use Rattle.analysis_loops.specs.Found.{trip_of}
use Rattle.analysis_ticks.specs.Rounds.{is_base}
use Rattle.analysis_ticks.proofs.passes.climbs_to.Goals as goal

both : (a b : Bool) {c r x : Bool} → r ≡ c → x ≡ a && b → x ≡ true → r ≡ a && (b && c)
both true true p e t = p
both true false p e t = absurd (false≢true (sym e ∙ t))
both false b p e t = absurd (false≢true (sym e ∙ t))

neither : (a b c : Bool) {x : Bool} → x ≡ a && b → x ≡ false → x ≡ a && (b && c)
neither true true c e f = absurd (false≢true (sym f ∙ e))
neither true false c e f = f
neither false b c e f = f

pub returns-then-adds : goal.returns-then-adds
returns-then-adds c = λ text h. both (is_base (trip_of c.args.trip)) (is_add c.args.trip.step) (c.is_up_to.ensures text h) c.adds.ensures c.if-adds.true

pub returns-else-adds : goal.returns-else-adds
returns-else-adds c = λ text h. neither (is_base (trip_of c.args.trip)) (is_add c.args.trip.step) (upward c.args.trip.comparison && is_alone c.args.v (expr_of text c.args.x)) c.adds.ensures c.if-adds.false
