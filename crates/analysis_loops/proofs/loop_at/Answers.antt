-- The loop's trip is that of the rules, by what is found of its way.
use borrow.Author.Rules.{rules}
use mathlib.Core.Path.{sym, ap, subst, ◌∙◌}
use mathlib.Core.List.{[]}
use Rattle.rules.specs.Steps.{step}
use Rattle.rules.specs.Ranges.{bounds, is_do, is_hold}
use Rattle.rules_steps.specs.Ends.{EndsWithin}
use Rattle.rules.specs.Trips.{Trip, keeps}
use Rattle.table.specs.Code.{kind_at, rows_of}
use Rattle.table.proofs.Laws.{row_in}
use Rattle.analysis_steps.specs.Tree.{form_of, test_of}
use Rattle.analysis_steps.specs.Body.{body_at}
use Rattle.analysis_loops.specs.Ways.{WayFrom}
use Rattle.analysis_intervals.specs.Env.{env_of}
use Rattle.analysis_loops.proofs.Filling.{trip_is, near_is}
use Rattle.analysis_loops.proofs.loop_at.Goals as goal

pub kind_at-kind-requires : goal.kind_at-kind-requires
kind_at-kind-requires c = row_in c.args.rows.now _ (search rules)

pub body_moves-step-requires : goal.body_moves-step-requires
body_moves-step-requires c = ((_, c.requires), (c.head_of-tested.ensures []).small)

-- what is known of the loop when its way is asked
pub returns : goal.returns
returns c =
    let a = c.args in
    let text = a.text.now in
    let rows = rows_of a.rows.now in
    let k = kind_at rows a.i in
    let body = body_at text rows a.count a.i in
    let ρ = env_of a.begun.now in
    let same = c.kind_at-kind.ensures in
    let h = rw same at (c.head_of-tested.ensures text) in
    let b = c.body_moves-step.ensures text c.requires in
    let from : WayFrom text rows a.count a.i c.is_hold.result c.body_moves-step.result.step c.keeps-kept.result = record {
      loop = c.requires;
      form = c.is_hold.ensures text ∙ ap (λ d. is_hold (form_of text d)) same;
      own = b.moves ∙ ap (λ v. step v body) h.tested;
      near = b.near;
      limit = c.keeps-kept.ensures body b.sets ∙ ap (λ x. keeps x body) h.limit;
    } in
    let way = c.way_of-way.ensures text from in
    let r = c.trip_by-trip.ensures in
    record {
      trip = r ∙ trip_is (form_of text k) ρ (test_of text k) body c.way_of-way.result way.value way.moves (c.is_do.ensures text ∙ ap (λ d. is_do (form_of text d)) same) (b.moves ∙ ap (λ v. step v body) h.tested) h.comparison
          (c.interval_at-start.ensures ∙ ap ρ h.tested) (c.bounds-end.ensures ∙ ap (bounds ρ) h.limit) (c.keeps-kept.ensures body b.sets ∙ ap (λ x. keeps x body) h.limit);
      tested = h.tested;
      small = h.small;
      sets = b.sets;
      near = subst (EndsWithin 512) (sym (ap (λ (τ : Trip). τ.step) r)) (near_is c.way_of-way.result (test_of text k).tested body ρ _ _ _ _ _ _ way.moves b.near);
    }
