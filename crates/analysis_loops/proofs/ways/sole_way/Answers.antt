-- The way by what is found of the loop's body.
use borrow.Author.Rules.{rules}
use mathlib.Core.Path.{◌≡◌, sym, ap, ◌∙◌}
use mathlib.Core.Bool.{false}
use mathlib.Core.List.{List}
use Prim.Native.Nat.{ℕ, ◌+◌}
use Rattle.std.proofs.Common.{Option}
use Rattle.rules.specs.declared.Row.{Row}
use Rattle.rules.specs.Steps.{sole_of, sole}
use Rattle.rules.specs.Expressions.{variable}
use Rattle.rules.specs.Trips.{sole_way, way_of}
use Rattle.table.specs.Code.{kind_at}
use Rattle.table.proofs.Laws.{row_in}
use Rattle.analysis_steps.specs.Tree.{block_at, form_of, test_of}
use Rattle.analysis_steps.specs.Body.{body_at}
use Rattle.analysis_steps.specs.declared.only_rows.SoleRead.{SoleRead}
use Rattle.analysis_steps.specs.Soles.{sole_is, source_of, SoleAt}
use Rattle.analysis_steps.proofs.Walking.{ready}
use Rattle.analysis_loops.specs.declared.ways.LoopTest.{LoopTest}
use Rattle.analysis_loops.specs.Heads.{is_for, HeadOf}
use Rattle.analysis_loops.specs.Ways.{SoleFrom}
use Rattle.analysis_loops.proofs.Heads.{no_last}
use Rattle.analysis_loops.proofs.WaysLaws.{for_way, other_way, copy_way, off_way, by_sole}
use Rattle.analysis_loops.proofs.ways.sole_way.Goals as goal

way_found : {text : List ℕ} {rows : List Row} {count i : ℕ} {head : LoopTest} {found : Option SoleRead} → SoleFrom text rows count i → HeadOf text (kind_at rows i) head → is_for (form_of text (kind_at rows i)) ≡ false
    → SoleAt text rows count (i + 1) head.tested found → sole_way (test_of text (kind_at rows i)) (body_at text rows count i) (sole_is found) ≡ way_of (form_of text (kind_at rows i)) (test_of text (kind_at rows i)) (body_at text rows count i)
way_found {text} {rows} {count} {i} p h f s =
    let k = kind_at rows i in
    let b = block_at text rows count (i + 1) in
    ap (sole_way _ _) (s.value ∙ ap (λ v. sole_of v b) h.tested ∙ ap (sole_of (test_of text k).tested) (sym (no_last text k f i b))) ∙ by_sole _ _ _ f p.form

pub kind_at-kind-requires : goal.kind_at-kind-requires
kind_at-kind-requires c = let (text, p) = c.requires in let l = p.loop in row_in c.args.rows.now _ (search rules)

pub returns-then-is_for : goal.returns-then-is_for
returns-then-is_for c = λ text p. record { value = for_way _ _ p.own _ (sym ((rw c.kind_at-kind.ensures at c.is_for.ensures) text) ∙ c.if-is_for.true); small = tt; moves = tt }

pub returns-in-None : goal.returns-in-None
returns-in-None c = λ text p.
    let l = p.loop in
    let h = rw c.kind_at-kind.ensures at (c.head_of-head.ensures text) in
    let f = sym ((rw c.kind_at-kind.ensures at c.is_for.ensures) text) ∙ c.if-is_for.false in
    record { value = other_way _ _ p.own ∙ ap (sole_way _ _) (ap sole_is (sym c.in-None.is)) ∙ way_found p h f (c.sole_of.ensures text (ready l.ready (search rules))); small = tt; moves = tt }

pub returns-in-Copy : goal.returns-in-Copy
returns-in-Copy c = λ text p.
    let l = p.loop in
    let h = rw c.kind_at-kind.ensures at (c.head_of-head.ensures text) in
    let f = sym ((rw c.kind_at-kind.ensures at c.is_for.ensures) text) ∙ c.if-is_for.false in
    let o = c.in-Some.only in
    let r = c.copied_way.ensures text p.loop in
    record {
      value = r.value ∙ copy_way _ _ h.comparison o.other (variable o.other) o.before o.after
          ∙ ap (sole_way _ _) (ap (λ x. sole o.other (source_of o.other x) o.before o.after) (sym c.in-Copy.is) ∙ ap sole_is (sym c.in-Some.is))
          ∙ way_found p h f (c.sole_of.ensures text (ready l.ready (search rules)));
      small = r.small;
      moves = r.moves;
    }

pub returns-in-Off : goal.returns-in-Off
returns-in-Off c = λ text p.
    let l = p.loop in
    let h = rw c.kind_at-kind.ensures at (c.head_of-head.ensures text) in
    let f = sym ((rw c.kind_at-kind.ensures at c.is_for.ensures) text) ∙ c.if-is_for.false in
    let o = c.in-Some.only in
    record {
      value = off_way _ _ o.other o.other _ _ o.before o.after
          ∙ ap (sole_way _ _) (ap (λ x. sole o.other (source_of o.other x) o.before o.after) (sym c.in-Off.is) ∙ ap sole_is (sym c.in-Some.is))
          ∙ way_found p h f (c.sole_of.ensures text (ready l.ready (search rules)));
      small = tt;
      moves = tt;
    }
