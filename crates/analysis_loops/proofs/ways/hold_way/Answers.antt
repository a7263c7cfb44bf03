-- The way by what is found of the hold's body.
use borrow.Author.Rules.{rules}
use mir.Syntax.{w32}
use mir.Val.{SFits}
use mir.Facts.{to_z-of_z}
use mathlib.Core.Path.{◌≡◌, sym, ap, ◌∙◌}
use mathlib.Core.List.{List}
use Prim.Native.Nat.{ℕ, ◌+◌}
use Rattle.std.proofs.Common.{Option}
use Rattle.rules.specs.declared.Row.{Row}
use Rattle.rules.specs.Expressions.{variable}
use Rattle.rules.specs.Steps.{sole_of, sole}
use Rattle.rules.specs.Trips.{hold_way, way_of}
use Rattle.table.specs.Code.{kind_at}
use Rattle.table.proofs.Laws.{row_in}
use Rattle.analysis_steps.specs.declared.only_rows.SoleRead.{SoleRead}
use Rattle.analysis_steps.specs.Tree.{block_at, form_of, test_of}
use Rattle.analysis_steps.specs.Body.{body_at}
use Rattle.analysis_steps.specs.Soles.{sole_is, source_of, SoleAt}
use Rattle.analysis_steps.proofs.Walking.{ready}
use Rattle.analysis_loops.specs.declared.ways.LoopTest.{LoopTest}
use Rattle.analysis_loops.specs.Heads.{HeadOf}
use Rattle.analysis_loops.specs.Ways.{HoldAt}
use Rattle.analysis_loops.proofs.Heads.{held_last}
use Rattle.analysis_loops.proofs.WaysLaws.{by_off, no_off, copy_breaks, watch_way}
use Rattle.analysis_loops.proofs.ways.hold_way.Goals as goal

way_found : {text : List ℕ} {rows : List Row} {count i : ℕ} {head : LoopTest} {found : Option SoleRead} → HoldAt text rows count i → HeadOf text (kind_at rows i) head → SoleAt text rows count (i + 1) head.tested found
    → hold_way (body_at text rows count i) (sole_is found) ≡ way_of (form_of text (kind_at rows i)) (test_of text (kind_at rows i)) (body_at text rows count i)
way_found {text} {rows} {count} {i} p h s =
    let k = kind_at rows i in
    let b = block_at text rows count (i + 1) in
    ap (hold_way (body_at text rows count i)) (s.value ∙ ap (λ v. sole_of v b) h.tested ∙ ap (sole_of (test_of text k).tested) (sym (held_last text k p.form i b))) ∙ by_off (test_of text k) _ (form_of text k) p.form

pub kind_at-kind-requires : goal.kind_at-kind-requires
kind_at-kind-requires c = let (text, p) = c.requires in let l = p.loop in row_in c.args.rows.now _ (search rules)

pub returns-in-None : goal.returns-in-None
returns-in-None c = λ text p.
    let l = p.loop in
    let h = rw c.kind_at-kind.ensures at (c.head_of-flag.ensures text) in
    record { value = no_off _ ∙ ap (hold_way _) (ap sole_is (sym c.in-None.is)) ∙ way_found p h (c.sole_of.ensures text (ready l.ready (search rules))); small = tt; moves = tt }

pub returns-in-Copy : goal.returns-in-Copy
returns-in-Copy c = λ text p.
    let l = p.loop in
    let h = rw c.kind_at-kind.ensures at (c.head_of-flag.ensures text) in
    let o = c.in-Some.only in
    record {
      value = copy_breaks _ o.other (variable o.other) o.before o.after
          ∙ ap (hold_way _) (ap (λ x. sole o.other (source_of o.other x) o.before o.after) (sym c.in-Copy.is) ∙ ap sole_is (sym c.in-Some.is))
          ∙ way_found p h (c.sole_of.ensures text (ready l.ready (search rules)));
      small = tt;
      moves = tt;
    }

pub returns-in-Off : goal.returns-in-Off
returns-in-Off c = λ text p.
    let l = p.loop in
    let h = rw c.kind_at-kind.ensures at (c.head_of-flag.ensures text) in
    let o = c.in-Some.only in
    let r = c.watched_way.ensures text p.loop in
    let f : SFits w32 c.in-Off.k = search rules in
    record {
      value = (simp (to_z-of_z f) at r.value) ∙ watch_way _ o.other o.other c.in-Off.c c.in-Off.k o.before o.after
          ∙ ap (hold_way _) (ap (λ x. sole o.other (source_of o.other x) o.before o.after) (sym c.in-Off.is) ∙ ap sole_is (sym c.in-Some.is))
          ∙ way_found p h (c.sole_of.ensures text (ready l.ready (search rules)));
      small = r.small;
      moves = r.moves;
    }
