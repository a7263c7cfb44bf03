-- `runner::live::go_on` meets its contract. The invariant: the machine's place is reached by steps from the first one, and, if its cues are listed, what is to come is what was to come. The measure: its rank.
-- Assumes nothing.
use mathlib.Core.Bool.{true, false}
use mathlib.Core.Path.{◌≡◌, refl, sym, ◌∙◌, ap, subst}
use Prim.Native.Nat.{ℕ, ◌<◌, ◌≤◌}
use native.Mathlib.Omega.{arith}
use lib.ListN.{length}
use borrow.Author.Rules.{rules}
use borrow.Author.Tests.{not-true, not-false}
use Rattle.rules_machine.specs.RowMachine.{rank}
use Rattle.rules.specs.Calls.{loop_rows}
use Rattle.rules.proofs.Laws.{no_true}
use Rattle.rules.specs.declared.Ending.TheVariants.{Ended}
use Rattle.run_actions.specs.States.{is_going, tally_of, over_at}
use Rattle.run_machine.specs.Steps.{script_in, Runs, Stepped}
use Rattle.runner.specs.Runs.{place_in, MayGo}
use Rattle.runner.proofs.Limits.{LimitsKept, none_kept}
use Rattle.runner.proofs.Loop.{Reached, reached_start, at_row, at_a_test, kept_at, test_limits, row_limits, goes_on, is_over, past_end}
use Rattle.runner.proofs.Goes.{put_keeps, full_listed, Firing, firing_start, Stopped, AfterStep, after_going, after_over, after_spent, went_over, went_full, past_fires, row_full, fit_of, test_fires, row_fires}
use Rattle.runner.specs.Goes.{stood_by}
use Rattle.runner.proofs.live.go_on.Statement.{statement}
use Rattle.runner.proofs.live.go_on.Tie as tie
use Rattle.runner.proofs.live.go_on.Lts.{then-m, else-m+else-count-m+else-put}

abbrev invariant-loop-m : tie.invariant-loop-m
invariant-loop-m text rows from store₀ picks counts₀ cues₀ prices count m₀ limits₀ fired₀ store counts cues m limits fired =
    (ready : MayGo text prices rows count m₀ store₀ picks counts₀) × Reached prices rows count picks m₀ store₀ counts₀ ready m store counts
    × (length limits ≡ 16) × LimitsKept (script_in text rows count) m.row store limits
    × (from.listed ≡ true → Firing prices (script_in text rows count) (place_in (script_in text rows count) m₀ store₀ picks counts₀) (place_in (script_in text rows count) m store picks counts) cues₀ cues fired)
    × (length cues ≡ length cues₀) × (fired ≤ length cues₀)

abbrev decreases-loop-m : tie.decreases-loop-m
decreases-loop-m text rows from store₀ picks counts₀ cues₀ prices count m₀ limits₀ fired₀ store counts cues m limits fired =
    rank (length (script_in text rows count)) (place_in (script_in text rows count) m store picks counts)

loop_holds : tie.Need-loop-m-init invariant-loop-m decreases-loop-m
loop_holds c = let p = c.requires in (p, reached_start _ _ _ _ _ _ _ p, refl, none_kept _ p.script.table.few _ _, (λ _. firing_start _ _ _ _), refl, omega arith)

test-row-requires : tie.Need-test_row-m-requires invariant-loop-m decreases-loop-m
test-row-requires c κs =
    let l = c.loop-m in
    let e = c.if-m.true in
    (_, at_a_test _ _ _ _ _ _ _ l.invariant.0 l.m l.store l.counts l.invariant.1 e, kept_at _ _ _ _ _ _ _ l.invariant.0 l.m l.store l.counts l.invariant.1 l.limits l.invariant.2 l.invariant.3 e)

put-cue-requires : tie.Need-put_cue-put-requires invariant-loop-m decreases-loop-m
put-cue-requires c κs =
    let l = c.loop-m in
    let r = l.invariant.0.script in
    (omega (arith, c.if-count-m.false, r.size, r.table.size), omega (arith, l.invariant.5, l.invariant.6))

act-requires : tie.Need-act-m-requires invariant-loop-m decreases-loop-m
act-requires c κs =
    let l = c.loop-m in
    (_, at_row _ _ _ _ _ _ _ l.invariant.0 l.m l.store l.counts l.invariant.1 c.if-m.false (omega (arith, c.if-count-m.false)))

-- past the last row
returns : tie.Need-returns-then-count-m invariant-loop-m decreases-loop-m
returns c =
    let l = c.loop-m in
    let p = c.if-count-m.true in
    let e = past_end _ _ _ _ _ _ _ l.invariant.0 l.m l.store l.counts l.invariant.1 p in
    record {
      live = λ q. went_over _ _ _ _ _ _ _ _ _ _ c.stopped.result _ _ (rw (sym c.over.ensures) c.stopped.ensures)
          (past_fires _ l.invariant.0.price _ _ _ _ l.m l.store l.counts _ l.invariant.0.script _ l.cues l.fired (l.invariant.4 q) p)
          (λ i e. absurd (let z : ◌≡◌ {A = ℕ} 0 1 = cc in omega arith))
          e;
      run = λ _. rw (c.stopped.ensures.0, c.over.ensures) e;
    }

-- the list is full
returns_2 : tie.Need-returns-then-put invariant-loop-m decreases-loop-m
returns_2 c =
    let l = c.loop-m in
    let ready = l.invariant.0 in
    let e = c.if-m.false in
    let count = c.args.script.count in
    let i : l.m.row < count = omega (arith, c.if-count-m.false) in
    let at = at_row _ _ _ _ _ _ _ ready l.m l.store l.counts l.invariant.1 e i in
    let put = c.put_cue-put.ensures in
    let full = c.if-put.true in
    record {
      live = λ q. went_full _ _ _ _ _ _ _ _ _ _ c.stopped-then-put.result (over_at l.m l.m.left Ended count) l.fired (rw (sym c.over-then-put.ensures) c.stopped-then-put.ensures)
          (row_full _ ready.price ready.script (fit_of ready.script) _ l.m l.store _ l.counts i _ l.cues _ l.fired _ _ (l.invariant.4 q) q put full)
          e count refl l.invariant.1.left l.invariant.1.used at.room;
      run = λ q. no_true (sym q ∙ full_listed put full);
    }

-- the test or the row is one step
abbrev Done : tie.Joined-m invariant-loop-m decreases-loop-m → Type 0
Done c =
    let l = c.loop-m in
    let a = c.args in
    let rows = script_in a.text.now a.rows.now a.script.count in
    Stepped a.script.prices rows l.m c.if-m.m l.store c.if-m.store a.picks.now l.counts c.if-m.counts
    × (length c.if-m.store ≡ length l.store)
    × (length c.if-m.limits ≡ 16)
    × (is_going c.if-m.m.status ≡ true → LimitsKept rows c.if-m.m.row c.if-m.store c.if-m.limits)
    × (a.from.listed ≡ true → AfterStep a.script.prices rows (place_in rows a.from.machine a.store.now a.picks.now a.counts.now) a.cues.now c.if-m.cues c.if-m.fired
    c.if-m.m c.if-m.store a.picks.now (tally_of (loop_rows 0 rows) c.if-m.counts) c.if-m.m.status)
    × (length c.if-m.cues ≡ length a.cues.now) × (c.if-m.fired ≤ length a.cues.now)

done : (c : tie.Joined-m invariant-loop-m decreases-loop-m) → Done c
done c =
    let l = c.loop-m in
    let ready = l.invariant.0 in
    let script = subst (Runs _ _ _) (sym l.invariant.1.vars) ready.script in
    elim c.if-m.branch [
      | then-m w ↦
          let at = at_a_test _ _ _ _ _ _ _ ready l.m l.store l.counts l.invariant.1 w.if-m.true in
          let (s, k) = w.test_row-m.ensures in
          rw (w.fired-is, w.store-is, w.counts-is, w.cues-is, w.m-is, w.limits-is) (
            s _ _ at,
            refl,
            k.long,
            λ g. test_limits _ _ _ _ _ _ _ ready l.m l.store l.counts l.invariant.1 l.limits l.invariant.2 l.invariant.3 _ _ _ w.if-m.true (s _ _ at) k g,
            (λ q. test_fires _ ready.price _ _ _ _ l.m l.store l.counts script _ l.cues l.fired (l.invariant.4 q) _ _ _ (s _ _ at) at.ends.end _ refl),
            l.invariant.5,
            l.invariant.6,
          )
      | else-m+else-count-m+else-put w ↦
          let i : l.m.row < c.args.script.count = omega (arith, w.if-count-m.false) in
          let s = w.act-m.ensures _ (at_row _ _ _ _ _ _ _ ready l.m l.store l.counts l.invariant.1 w.if-m.false i) in
          let e : length w.act-m.new.store ≡ length l.store = search rules in
          rw (w.fired-is, w.store-is, w.counts-is, w.cues-is, w.m-is, w.limits-is) (
            s,
            e,
            l.invariant.2,
            λ g. row_limits _ _ _ _ _ _ _ ready l.m l.store l.counts l.invariant.1 l.limits l.invariant.2 l.invariant.3 _ _ _ e w.if-m.false s g,
            (λ q. row_fires _ ready.price _ _ _ _ l.m l.store l.counts script _ l.cues l.fired (l.invariant.4 q) _ _ _ s i _ _ _ q w.put_cue-put.ensures w.if-put.false _ refl),
            (put_keeps l.cues _ w.put_cue-put.ensures).0 ∙ l.invariant.5,
            omega (arith, (put_keeps l.cues _ w.put_cue-put.ensures).1 w.if-put.false (omega (arith, l.invariant.5, l.invariant.6)), l.invariant.5),
          )
    ]

-- over
over_there : (c : tie.After-stopped-then-not-going invariant-loop-m decreases-loop-m)
    → let d = c.before.before.before in
    let a = c.args in
    let rows = script_in a.text.now a.rows.now a.script.count in
    a.from.listed ≡ true → Stopped a.script.prices rows (place_in rows a.from.machine a.store.now a.picks.now a.counts.now) a.cues.now d.if-m.cues d.if-m.fired
    (stood_by false d.if-m.m.status d.if-m.m d.if-m.store a.picks.now (tally_of (loop_rows 0 rows) d.if-m.counts))
over_there c q =
    let d = c.before.before.before in
    after_over _ _ _ _ d.if-m.cues d.if-m.fired d.if-m.m d.if-m.store _ _ d.if-m.m.status (sym c.going.ensures ∙ not-true _ c.if-not-going.true-raw) ((done d).4 q)

returns_3 : tie.Need-returns-then-not-going invariant-loop-m decreases-loop-m
returns_3 c =
    let d = c.before.before.before in
    let l = d.loop-m in
    let (x, y, _, _, _, _, _) = done d in
    let e = is_over _ _ _ _ _ _ _ l.invariant.0 l.m l.store l.counts l.invariant.1 d.if-m.m d.if-m.store d.if-m.counts y x (sym c.going.ensures ∙ not-true _ c.if-not-going.true-raw) in
    record {
      live = λ q. went_over _ _ _ _ _ _ _ _ _ _ c.stopped-then-not-going.result d.if-m.m d.if-m.fired c.stopped-then-not-going.ensures (over_there c q)
          (after_spent _ _ _ _ d.if-m.cues d.if-m.fired d.if-m.m d.if-m.store _ _ d.if-m.m.status ((done d).4 q))
          e;
      run = λ _. rw c.stopped-then-not-going.ensures.0 e;
    }

-- it goes on from there, with a lower rank
again : (c : tie.Else-not-going invariant-loop-m decreases-loop-m)
    → let d = c.before.before in
    let l = d.loop-m in
    let a = c.args in
    let rows = script_in a.text.now a.rows.now a.script.count in
    Reached a.script.prices a.rows.now a.script.count a.picks.now a.from.machine a.store.now a.counts.now l.invariant.0 d.if-m.m d.if-m.store d.if-m.counts
    × (rank (length rows) (place_in rows d.if-m.m d.if-m.store a.picks.now d.if-m.counts) < rank (length rows) (place_in rows l.m l.store a.picks.now l.counts))
again c =
    let d = c.before.before in
    let l = d.loop-m in
    let (x, y, _, _, _, _, _) = done d in
    goes_on _ _ _ _ _ _ _ l.invariant.0 l.m l.store l.counts l.invariant.1 d.if-m.m d.if-m.store d.if-m.counts y x (sym c.going.ensures ∙ not-false _ c.if-not-going.false-raw)

loop_again : tie.Need-loop-m-preserved invariant-loop-m decreases-loop-m
loop_again c =
    let d = c.before.before in
    let (_, _, y, z, f, g, h) = done d in
    let on = sym c.going.ensures ∙ not-false _ c.if-not-going.false-raw in
    (d.loop-m.invariant.0, (again c).0, y, z on, (λ q. after_going _ _ _ _ d.if-m.cues d.if-m.fired d.if-m.m d.if-m.store _ _ d.if-m.m.status on (f q)), g, h)

pub go_on_spec : {M : Type 1} → statement M
go_on_spec =
    tie.close
    (tie.spec
    invariant-loop-m
    decreases-loop-m
    loop_holds
    test-row-requires
    (λ c κs. search rules)
    (λ c κs. search rules)
    (λ c. c.loop-m.invariant.1.vars)
    (λ c. c.loop-m.invariant.5)
    returns
    put-cue-requires
    (λ c κs. search rules)
    (λ c κs. search rules)
    (λ c. c.loop-m.invariant.1.vars)
    (λ c. search rules)
    returns_2
    act-requires
    (λ c κs. search rules)
    (λ c κs. search rules)
    (λ c. (done c.before.before.before).1 ∙ c.loop-m.invariant.1.vars)
    (λ c. (done c.before.before.before).5)
    returns_3
    (λ c. (again c).1)
    loop_again)
