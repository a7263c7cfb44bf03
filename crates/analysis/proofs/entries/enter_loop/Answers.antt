-- `analysis::entries::enter_loop` meets its contract.
use Rattle.std.specs.Option.{is_some}
use mathlib.Core.Path.{◌≡◌, sym, ap, subst, ◌∙◌}
use mathlib.Core.Bool.{not, cond, ◌&&◌}
use borrow.Author.Rules.{rules}
use native.Mathlib.Nat.{mul-le-mul}
use native.Mathlib.Omega.{arith}
use mathlib.Core.List.{List}
use Prim.Native.Nat.{ℕ, ◌*◌, ◌≤◌}
use Rattle.rules.specs.declared.Row.{Row}
use Rattle.rules.specs.declared.Kind.{Kind}
use Rattle.rules.specs.Steps.{starts}
use Rattle.rules.specs.Ranges.{Env, at_start}
use Rattle.rules.specs.Trips.{Trip, turns_of, inner_of, outer_of}
use Rattle.rules.specs.Questions.{of_trip}
use Rattle.table.specs.Code.{kind_at, rows_of}
use Rattle.table.proofs.Laws.{row_in}
use Rattle.analysis_steps.specs.Tree.{form_of, test_of}
use Rattle.analysis_steps.specs.Sets.{set_of}
use Rattle.analysis_intervals.specs.Env.{env_of}
use Rattle.analysis_loops.specs.Found.{trip_of}
use Rattle.analysis_loops.specs.declared.Loop.{Loop}
use Rattle.analysis_loops.specs.Loops.{LoopAt}
use Rattle.analysis_ranges.specs.Loops.{widened}
use Rattle.analysis_ranges.proofs.Loops.{inside_is}
use Rattle.std.proofs.Common.{Result, Ok}
use Rattle.analysis_turns.specs.Verdicts.{FigureOf}
use Rattle.analysis_ticks.specs.Capped.{capped}
use Rattle.analysis_ticks.proofs.Caps.{cap_times}
use Rattle.analysis_ticks.specs.Rounds.{round_of, pass_in, walked_by, body_of}
use Rattle.analysis.specs.Tallies.{last_ticks}
use Rattle.analysis.specs.declared.entries.Exit.{Exit}
use Rattle.analysis.specs.declared.entries.PassCounts.{PassCounts}
use Rattle.analysis.specs.Enter.{start_at, trip_at, walked_at, ExitOf, ExitAt}
use Rattle.analysis.proofs.Laws.{lined_is, last_small}
use Rattle.analysis.proofs.entries.enter_loop.Goals as goal

pub kind_at-kind-requires : goal.kind_at-kind-requires
kind_at-kind-requires c = row_in c.args.rows.now _ (search rules)

pub at_start-requires : goal.at_start-requires
at_start-requires c =
    let l = c.requires.0 in
    (rw c.kind_at-kind.ensures (l.ready.fine _ l.inside), rw c.kind_at-kind.ensures (l.ready.written _ l.inside))

-- the ranges at the loop's start
begun : (text : List ℕ) (rows : List Row) (i : ℕ) (ρ : Env) {σ : Env} {k : Kind} → σ ≡ at_start (form_of text k) (test_of text k) ρ → k ≡ kind_at rows i → σ ≡ start_at text rows i ρ
begun text rows i ρ e kd = e ∙ ap (λ k. at_start (form_of text k) (test_of text k) ρ) kd

-- what is found of the loop, from the ranges at its start
one_is : (text : List ℕ) (rows : List Row) {count i : ℕ} (ρ : Env) {σ : Env} {k : Kind} {one : Loop} → σ ≡ at_start (form_of text k) (test_of text k) ρ → k ≡ kind_at rows i → LoopAt text rows count i σ one → LoopAt text rows count i (start_at text rows i ρ) one
one_is text rows {count} {i} ρ {one = one} e kd l = subst (λ σ. LoopAt text rows count i σ one) (begun text rows i ρ e kd) l

exit_is : {text : List ℕ} {rows : List Row} {count i : ℕ} {ρ : Env} {one : Loop} {counts : PassCounts} {x : Exit} → LoopAt text rows count i ρ one → ExitOf one counts x → ExitAt text rows count i ρ x
exit_is one x = record {
  tested = x.tested ∙ one.tested;
  small = rw x.tested one.small;
  mine = x.mine ∙ ap outer_of one.trip;
  sets = λ w. ap (λ l. set_of l w) x.sets ∙ one.sets w;
}

pub returns-in-Err : goal.returns-in-Err
returns-in-Err c =
    let i = c.args.t.next in
    let one = one_is c.args.text.now (rows_of c.args.rows.now) (env_of c.args.r.now) c.at_start.ensures c.kind_at-kind.ensures c.loop_at-one.ensures in
    let f = subst (FigureOf (trip_of c.loop_at-one.result.trip)) c.in-Err.is c.ask.ensures in
    λ os. ap (of_trip i) (sym one.trip) ∙ f i

-- its figure: it has passed, and its turns
figure : (τ : Trip) {f : Result ℕ ℕ} {turns : ℕ} → f ≡ Ok turns → FigureOf τ f → FigureOf τ (Ok turns)
figure τ e h = subst (FigureOf τ) e h

pub walked-all-requires : goal.walked-all-requires
walked-all-requires c =
    let s = c in
    let l = s.requires.0 in
    (c.loop_at-one.ensures.near, (figure (trip_of c.loop_at-one.result.trip) c.in-Ok.is c.ask.ensures).0, s.requires.1, (s.args.text.now, rw c.kind_at-kind.ensures (l.ready.written _ l.inside)))

pub times-total-requires : goal.times-total-requires
times-total-requires c = c.requires.1.small

pub body-inner-requires : goal.body-inner-requires
body-inner-requires c = (c.loop_at-one.ensures.near, c.loop_at-one.ensures.small, omega (arith, c.times-total.ensures), c.requires.1)

pub overflow_mul-spent : goal.overflow_mul-spent
overflow_mul-spent c =
    let z : c.last_ticks.result ≤ 1_000 = omega (arith, c.last_ticks.ensures c.args.text.now, last_small c.requires.2 c.args.text.now c.kind_at-kind.result) in
    let h = mul-le-mul c.body-inner.ensures.1.few z in
    omega arith

pub lined-first-requires : goal.lined-first-requires
lined-first-requires c = let p = c.requires in (p.3, omega (arith, p.0.inside, p.0.ready.few), p.4, c.loop_at-one.ensures.near)

pub returns-in-Ok : goal.returns-in-Ok
returns-in-Ok c = λ os.
    let a = c.args in
    let text = a.text.now in
    let rows = rows_of a.rows.now in
    let p = c.requires.0 in
    let r = a.round in
    let one = one_is text rows (env_of a.r.now) c.at_start.ensures c.kind_at-kind.ensures c.loop_at-one.ensures in
    let f = figure (trip_of c.loop_at-one.result.trip) c.in-Ok.is c.ask.ensures in
    let kd = c.kind_at-kind.ensures in
    let tr = one.trip in
    let tu = f.1 ∙ ap turns_of tr in
    let ke = c.kept_at-kept.ensures text ∙ ap (λ (k : Kind). a.t.kept && not (starts r.v (form_of text k) (test_of text k))) kd in
    let W = walked_at text r a.t.kept (kind_at rows a.t.next) (trip_at text rows a.count a.t.next (env_of a.r.now)) in
    let al : c.walked-all.result ≡ capped W = c.walked-all.ensures text (rw kd (p.ready.written _ p.inside))
    ∙ (λ j. capped (walked_by (round_of r) (pass_in r (ke j)) (form_of text (kd j)) (test_of text (kd j)).limit (tr j) (tu j))) in
    let to : c.times-total.result ≡ capped (W * r.times) = c.times-total.ensures ∙ ap (λ z. capped (z * r.times)) al ∙ omega (arith, cap_times W r.times 0) in
    let b = c.body-inner.ensures in
    let l = rw c.is_some.ensures at c.lined-first.ensures os in
    let n = c.body-inner.result.count in
    let k = c.pass_counts.ensures in
    record {
      begun = c.inside.ensures ∙ ap (widened c.loop_at-one.result (inner_of (trip_of c.loop_at-one.result.trip))) (begun text rows a.t.next (env_of a.r.now) c.at_start.ensures kd) ∙ inside_is one;
      exit = exit_is one c.exit_of-exit.ensures;
      whole = record {
        verdict = ap (of_trip a.t.next) (sym tr) ∙ f.0 a.t.next;
        round = b.0 ∙ (λ j. body_of (tr j) (one.tested j) (tu j) (to j) r);
        fine = b.1;
        ran = rw c.exit_of-exit.ensures.ran (record { own = k.own ∙ ap (cond (is_some c.body-inner.result.x) 1) tu; all = k.all ∙ ap (cond (is_some c.body-inner.result.x) r.count) al; tests = k.tests });
        lined = lined_is tr tu to (ap (λ m. n * m) (c.last_ticks.ensures text ∙ ap (last_ticks text a.prices) kd)) l;
      };
    }
