use Rattle.std.proofs.Common.{◌≡◌, Bool, false, List, ℕ, get_or, sym, ◌∙◌, ap}
use mathlib.Core.Path.{fun_ext}
use Rattle.rules.specs.Blocks.{Block}
use Rattle.rules.specs.Steps.{assigns}
use Rattle.rules.specs.Trips.{keeps}
use Rattle.rules.specs.Parse.{expr_in, parse}
use Rattle.rules.specs.Written.{PassedWord}
use Rattle.expressions.specs.Keeping.{kept}
use Rattle.expressions.proofs.Keeping.{unnamed_none, unnamed_more, named_at, unnamed_all, passed_keeps}
use Rattle.expressions.proofs.names.keeps_in.Goals as goal

-- by the bytes as by the tree
same : {r : Bool} (set : List Bool) (word : List ℕ) → PassedWord word → kept (λ w. get_or set w false) word ≡ r → (body : Block) → ((w : ℕ) → get_or set w false ≡ assigns w body) → r ≡ keeps (expr_in (parse word)) body
same set word p e body h = sym e ∙ ap (λ f. kept f word) (fun_ext h) ∙ passed_keeps body word p

pub loop-i-init : goal.loop-i-init
loop-i-init c = unnamed_none _ _ 0

pub returns-then-names : goal.returns-then-names
returns-then-names c = let l = c.loop-i in same c.args.set c.args.word.now c.requires (named_at _ _ l.i c.loop-i-test.true l.invariant (sym c.names.ensures ∙ c.if-names.true))

pub loop-i-preserved : goal.loop-i-preserved
loop-i-preserved c = let l = c.loop-i in unnamed_more _ _ l.i c.loop-i-test.true l.invariant (sym c.names.ensures ∙ c.if-names.false)

pub returns : goal.returns
returns c = let l = c.loop-i in same c.args.set c.args.word.now c.requires (unnamed_all _ _ l.i c.loop-i-test.false l.invariant)
