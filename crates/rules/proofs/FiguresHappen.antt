-- Change 11, proved: with slow picks in the loop, and enough picks before and after it, the run takes the loop to exactly its turns.
use mathlib.Core.Path.{◌≡◌, refl, sym, ◌∙◌, ap, subst}
use mathlib.Core.Bool.{Bool, true, false, not, cond}
use mathlib.Core.List.Memᴰ
use mathlib.Core.List.{List, [], ◌∷◌, ◌++◌, Memᴰ}
use mathlib.Core.Logic.{inl, ⊎_elim}
use Prim.Native.Nat.{ℕ, zero, suc, ◌≤◌}
use native.Mathlib.Omega.{arith}
use lib.Dec.{T, eqb_refl}
use lib.IntN.{ℤ}
use lib.ListN.{length}
use Rattle.ints.proofs.Diffs.{eq_refl}
use Rattle.rules.specs.declared.Comparison.{Comparison}
use Rattle.rules.specs.declared.Comparison.TheVariants.{Less, AtMost, Greater, AtLeast, Equal, Different}
use Rattle.rules_steps.specs.declared.Step.{Step}
use Rattle.rules_steps.specs.declared.Step.TheVariants.{Add, Grow, Shrink, Unknown}
use Rattle.rules.specs.declared.Ending.{Ending}
use Rattle.rules.specs.declared.Ending.TheVariants.{Ended, Spent, NoPick}
use Rattle.rules.specs.Values.{Store, compares, upward, passes}
use Rattle.rules.specs.Blocks.{Test, Form, while, do_while, for, Block, done, pick, loop, hold}
use Rattle.rules.specs.Steps.{step, equal_ends}
use Rattle.rules.specs.Ranges.{Range, Env, single, bounds, edge, Sort, rising, falling, ordered, sort, is_do, at_start}
use Rattle.rules.specs.Trips.{nothing, untested, led, turns_of, is_own, way_of, own_trip, trip, turns, inside, after}
use Rattle.rules.specs.Turns.{turned_up, climb, scale, while_turns, moved, at_test}
use Rattle.rules.specs.Passes.{any, later, sum_over, first_pass, turns_in}
use Rattle.rules.specs.Figures.{Prices, Line, alike, total_of, in_body, line, lines}
use Rattle.rules.specs.Questions.{verdict, loops_verdict}
use Rattle.rules.specs.Count.{worst_start}
use Rattle.rules.specs.Run.{State, Entry, Out, go, holds, turning, run}
use Rattle.rules.specs.Answers.{answer, run_tree, own, sum_at, most_at}
use Rattle.rules.specs.Scripts.{All, none, some, and_then, Pairwise, start_env, store_of, tree_of, report_ticks}
use Rattle.rules.specs.Calls.{prices_of, loop_rows, counts_at, run_script}
use Rattle.rules.specs.Claim.{Counts-fit, Unspent, Keeps, Demand3}
use Rattle.rules.specs.Reached.{Outside, here, after_a_row, after_pick, after_loop, Reached, Bytes, CanHappen, FiguresHappen, FiguresHappenFile}
use Rattle.rules.proofs.Outcomes.{Thru}
use Rattle.rules.proofs.Good.{all_append}
use Rattle.rules.proofs.Steps.{Sane, SaneForm}
use Rattle.rules.proofs.Links.{within_full, Goes, Fit, Tested, From}
use Rattle.rules.proofs.Chain.{chain}
use Rattle.rules.proofs.Ranges.{Ok, Turned, turn, begins as first-turn, exec_in, start_in_lem, in_after}
use Rattle.rules.proofs.Courses.{In, At, at_start_lem}
use Rattle.rules.proofs.Expressions.{Agrees}
use Rattle.rules.proofs.Triangles.{own_trip_lem}
use Rattle.rules.proofs.Accepted.{accepted as yes-accepted, then_yes}
use Rattle.rules.proofs.Whole.{own_self, lines_of, all_at}
use Rattle.rules.proofs.Building.{Right, right}
use Rattle.rules.proofs.Demand3.{in_ranges, tree_along, demand3}
use Rattle.rules.proofs.Demand3File.{file_accepted, test_priced, store_in}
use Rattle.rules.proofs.Plans.{Cut, Stopped, stopped, state, Plan, goes, stops, Has, Left, PlanBegin, plan_map, plan_thru, plan_bind, plan_pick, plan_exec, plan_loop, plan_turning, plan_enter}
use Rattle.rules.proofs.Slow.{slowed, slow_step, enough, thru_done}
use Rattle.rules.proofs.Ways.{CourseOf, Good-trip, inside_full, limit, same_limit, course}

-- ---- the slow step: it fits where the step does, its ends are equal, and its figure is the same
abbrev Slows : Bool → Sort → Step → Range → Range → Range → Range → ℤ → Type 0
Slows up d st s r r' n e = Fit (slowed up st) d s r' n e × T (equal_ends (slowed up st)) × (while_turns (slowed up st) d r' n e ≡ while_turns st d r n e)

module _ (s r r' n : Range) (e : ℤ) where
  slows_up : (st : Step) → r'.lo ≡ r.lo → Fit st rising s r n e → Slows true rising st s r r' n e
  unfolding Fit equal_ends while_turns
  slows_up (Add a b) h fit = (fit, eq_refl a, ap (λ t. climb (record { start = t; limit = e; step = a })) h)
  slows_up (Grow f g) h fit = (fit, eqb_refl f, ap (λ t. scale t e f) h)
  slows_up (Shrink f g) h fit = absurd fit
  slows_up Unknown h fit = absurd fit

  slows_down : (st : Step) → r'.hi ≡ r.hi → Fit st falling s r n e → Slows false falling st s r r' n e
  unfolding Fit equal_ends while_turns
  slows_down (Add a b) h fit = (fit, eq_refl b, ap (λ t. climb (turned_up (record { start = t; limit = e; step = b }))) h)
  slows_down (Grow f g) h fit = absurd fit
  slows_down (Shrink f g) h fit = (fit, eqb_refl f, ap (λ t. scale e t f) h)
  slows_down Unknown h fit = absurd fit

  slows : (c : Comparison) → T (ordered (sort c)) → (st : Step) → worst_start (upward c) r' ≡ worst_start (upward c) r → Fit st (sort c) s r n e
      → Slows (upward c) (sort c) st s r r' n e
  slows Less o st h fit = slows_up st h fit
  slows AtMost o st h fit = slows_up st h fit
  slows Greater o st h fit = slows_down st h fit
  slows AtLeast o st h fit = slows_down st h fit
  slows Equal o st h fit = absurd o
  slows Different o st h fit = absurd o

-- the first counted test sees the same worst start
start_same : (is-moved up : Bool) (st : Step) (s : Range) → worst_start up (at_test is-moved (slowed up st) s) ≡ worst_start up (at_test is-moved st s)
unfolding at_test moved
start_same false up st s = refl
start_same true true (Add a b) s = refl
start_same true false (Add a b) s = refl
start_same true up (Grow f g) s = refl
start_same true up (Shrink f g) s = refl
start_same true up Unknown s = refl

-- a do's first turn, and w turns from the first counted test on
abbrev turns_from : Bool → ℕ → ℕ
turns_from true w = suc w
turns_from false w = w

own_turns : (form : Form) (ρ : Env) (test : Test) (body : Block) → T (is_own (way_of form test body)) → turns form ρ test body
    ≡ turns_from (is_do form) (while_turns (step test.tested body) (sort test.comparison) (at_test (is_do form) (step test.tested body) (ρ test.tested)) (bounds ρ test.limit) (edge test.comparison (bounds ρ test.limit)))
unfolding turns_of led
own_turns form ρ test body own = ap turns_of (own_trip_lem form ρ test body own) ∙ by (is_do form) _
  where
    by : (b : Bool) (w : ℕ) → led (cond b untested nothing) (sort test.comparison) (edge test.comparison (bounds ρ test.limit)) w ≡ turns_from b w
    by true w = refl
    by false w = refl

-- ---- the turns of the loop, from ρ and f at its start
-- what a chain says with k turns done: a do's first turn comes before the first counted test
abbrev SlowQ : Bool → (ℕ → ℤ → Type 0) → ℕ → ℤ → Type 0
SlowQ false Q k x = Q k x
SlowQ true Q zero x = ⊥
SlowQ true Q (suc k) x = Q k x

module _ {Start : ℤ → Type 0} {Move : ℤ → ℤ → Type 0} {sees : ℤ → Bool} {w : ℕ} (l : Tested Start Move sees w true) where
  slow_onward : (is-moved : Bool) (k : ℕ) (x y : ℤ) → SlowQ is-moved l.Q k x → T (sees x) → Move x y → SlowQ is-moved l.Q (suc k) y
  slow_onward false k x y q p m = l.links.onward k x y q p m
  slow_onward true zero x y q p m = absurd q
  slow_onward true (suc k) x y q p m = l.links.onward k x y q p m

  slow_count : (is-moved : Bool) (k : ℕ) (x : ℤ) → SlowQ is-moved l.Q k x → T (sees x) → suc k ≤ turns_from is-moved w
  slow_count false k x q p = l.links.count k x q p
  slow_count true zero x q p = absurd q
  slow_count true (suc k) x q p = omega (arith, l.links.count k x q p)

  slow_settle : (is-moved : Bool) (k : ℕ) (x : ℤ) → SlowQ is-moved l.Q k x → T (not (sees x)) → turns_from is-moved w ≤ k
  slow_settle false k x q p = l.links.settle tt k x q p
  slow_settle true zero x q p = absurd q
  slow_settle true (suc k) x q p = omega (arith, l.links.settle tt k x q p)

-- what holds at the test with k turns done, each with slow picks; n the figure
record Slow-turned (R : ℕ → Store → Type 0) (Q : ℕ → ℤ → Type 0) (test : Test) (body : Block) (f : Store) (n k : ℕ) (g : Store) : Type 0 where
  usual : Turned body f R k g
  slowly : Q k (g test.tested)
  few : k ≤ n

-- the body keeps its ranges
abbrev Ranged : Prices → Form → Env → Test → Block → Type 0
Ranged π form ρ test body = (t : State) → In (inside form ρ test body) t.store → Thru (λ u. In (after (inside form ρ test body) body) u.store) (run π body t)

module _ (π : Prices) (form : Form) (test : Test) (body : Block) (fine : SaneForm form test) (sane : Sane body) (ρ : Env) (good : Good-trip (trip form ρ test body)) (own : T (is_own (way_of form test body)))
    (o : T (ordered (sort test.comparison))) (one : T (single (ρ test.tested))) (lone : T (single (bounds ρ test.limit))) (ranged : Ranged π form ρ test body)
    (f : Store) (m : ℕ) (enters : In ρ f) where
  abbrev v : ℕ
  v = test.tested

  abbrev c : Comparison
  c = test.comparison

  abbrev st : Step
  st = step test.tested body

  abbrev figure : ℕ
  figure = while_turns (step test.tested body) (sort test.comparison) (at_test (is_do form) (step test.tested body) (ρ test.tested)) (bounds ρ test.limit) (edge test.comparison (bounds ρ test.limit))

  mine : Good-trip (own_trip true form ρ test body)
  mine = subst Good-trip (own_trip_lem form ρ test body own) good

  -- the usual course, and the chain of the slow step
  co : CourseOf form ρ test body f (trip form ρ test body)
  co = course form ρ test body f enters fine good

  slow_chain : Tested (From (Goes (slowed (upward c) st)) (ρ v) (is_do form)) (Goes (slowed (upward c) st)) (λ x. compares c x (limit form ρ test body f enters).at) figure true
  slow_chain =
      let n = bounds ρ test.limit in
      let (fit, ends, same) = slows (ρ v) (at_test (is_do form) st (ρ v)) (at_test (is_do form) (slowed (upward c) st) (ρ v)) n _ c o st (start_same (is_do form) (upward c) st (ρ v)) mine.fit in
      subst (λ k. Tested (From (Goes (slowed (upward c) st)) (ρ v) (is_do form)) (Goes (slowed (upward c) st)) (λ x. compares c x (limit form ρ test body f enters).at) k true) same
      (chain (is_do form) c (ρ v) n (limit form ρ test body f enters).at true (limit form ρ test body f enters).inside (slowed (upward c) st) fit (λ _. (ends, one, lone))).tested

  abbrev At-test : ℕ → Store → Type 0
  At-test = Slow-turned co.R (SlowQ (is_do form) slow_chain.Q) test body f (turns_from (is_do form) figure)

  -- the limit is as at the start
  seen : (g : Store) → At body f g → Agrees (holds test g) (compares c (g v) (limit form ρ test body f enters).at)
  seen g a = same_limit form ρ test body f enters mine.keep g a

  slow_turn : (k : ℕ) (s : Store) (m : ℕ) → At-test k s → holds test s ≡ passes → Plan (λ t es. At-test (suc k) t) (λ bs. run π body (state s m bs))
  slow_turn k s m j pass =
      let a = j.usual.0 in
      let passed = rw pass at (seen s a) in
      plan_map (λ t es (mv, u). record {
        usual = u;
        slowly = slow_onward slow_chain (is_do form) k (s v) (t v) j.slowly passed (inside_full (a.limited v), inside_full (u.0.limited v), mv);
        few = slow_count slow_chain (is_do form) k (s v) j.slowly passed;
      })
      (plan_thru (λ bs. turn π test body sane ρ (state f m bs) enters co.tests ranged k (state s m bs) j.usual pass) (slow_step π (upward c) v body sane s m))

  -- the test fails after just the figure's turns
  slow_left : (i : ℕ) (t : Store) (es : List Entry) → Left At-test i test t es → Has i (turns form ρ test body) es
  slow_left i t es l =
      let j = l.now in
      let most = slow_settle slow_chain (is_do form) l.turns (t v) j.slowly (rw l.failed at (seen t j.usual.0)) in
      let e : l.turns ≡ turns form ρ test body = omega (arith, j.few, own_turns form ρ test body own) in
      subst (λ k. Has i k es) e l.has

plan_later : {i n : ℕ} {g : List ℕ → Out} (es : List Entry) → Plan (λ t fs. Has i n fs) g → Plan (λ t fs. Has i n (es ++ fs)) g
plan_later es h = plan_map (λ _ _ x. Memᴰ.append_right es x) h

-- before the first test
begins : (π : Prices) (form : Form) (test : Test) (body : Block) (fine : SaneForm form test) (sane : Sane body) (ρ : Env) (good : Good-trip (trip form ρ test body)) (own : T (is_own (way_of form test body)))
    (o : T (ordered (sort test.comparison))) (one : T (single (ρ test.tested))) (lone : T (single (bounds ρ test.limit))) (ranged : Ranged π form ρ test body)
    (f : Store) (m : ℕ) (enters : In ρ f)
    → PlanBegin form (At-test π form test body fine sane ρ good own o one lone ranged f m enters) (λ t. run π body t) f m
begins π while test body fine sane ρ good own o one lone ranged f m enters = record {
  usual = (at_start_lem ρ body f enters, (co π while test body fine sane ρ good own o one lone ranged f m enters).begin);
  slowly = (slow_chain π while test body fine sane ρ good own o one lone ranged f m enters).begin _ ((enters test.tested).low, (enters test.tested).high);
  few = omega arith;
}
begins π hold test body fine sane ρ good own o one lone ranged f m enters = record {
  usual = (at_start_lem ρ body f enters, (co π hold test body fine sane ρ good own o one lone ranged f m enters).begin);
  slowly = (slow_chain π hold test body fine sane ρ good own o one lone ranged f m enters).begin _ ((enters test.tested).low, (enters test.tested).high);
  few = omega arith;
}
begins π (for x) test body fine sane ρ good own o one lone ranged f m enters = record {
  usual = (at_start_lem ρ body f enters, (co π (for x) test body fine sane ρ good own o one lone ranged f m enters).begin);
  slowly = (slow_chain π (for x) test body fine sane ρ good own o one lone ranged f m enters).begin _ ((enters test.tested).low, (enters test.tested).high);
  few = omega arith;
}
begins π do_while test body fine sane ρ good own o one lone ranged f m enters =
    let v = test.tested in
    let course = co π do_while test body fine sane ρ good own o one lone ranged f m enters in
    plan_map (λ t es (mv, u). record {
      usual = u;
      slowly = (slow_chain π do_while test body fine sane ρ good own o one lone ranged f m enters).begin (t v)
          (f v, ((enters v).low, (enters v).high), (inside_full (within_full (enters v)), inside_full (u.0.limited v), mv));
      few = omega arith;
    })
    (plan_thru (λ bs. first-turn π test body sane ρ (state f m bs) enters course.tests ranged do_while course.begin) (slow_step π (upward test.comparison) v body sane f m))

-- ---- the whole run: enough picks before the loop, slow picks in it, enough after it
module _ (π : Prices) (i : ℕ) (form : Form) (test : Test) (body : Block) (own : T (is_own (way_of form test body))) (o : T (ordered (sort test.comparison))) where
  turning_reached : SaneForm form test → Sane body → (ρ : Env) → Good-trip (trip form ρ test body) → Ranged π form ρ test body → T (single (ρ test.tested)) → T (single (bounds ρ test.limit))
      → (f : Store) (m : ℕ) → In ρ f → Plan (λ t es. Has i (turns form ρ test body) es) (λ bs. turning π form i test (λ t. run π body t) (state f m bs))
  turning_reached fine sane ρ good ranged one lone f m enters =
      plan_map (slow_left π form test body fine sane ρ good own o one lone ranged f m enters i)
      (plan_turning π _ i test _ (slow_turn π form test body fine sane ρ good own o one lone ranged f m enters) form f m
      (begins π form test body fine sane ρ good own o one lone ranged f m enters))

  reaches : {ρ σ : Env} {b : Block} → Outside i form test body ρ b σ → Sane b → Ok ρ b → T (single (σ test.tested)) → T (single (bounds σ test.limit))
      → (s : Store) (m : ℕ) → In ρ s → Plan (λ t es. Has i (turns form σ test body) es) (λ bs. run π b (state s m bs))
  unfolding run Sane Ok after
  reaches (here {ρ = ρ} {rest = rest}) (sf, sb, sr) (good, okb, okr) one lone s m h =
      plan_bind {Q = λ t es. Has i (turns form (at_start form test ρ) test body) es} _ (plan_enter π form i test _ s m (λ bs. start_in_lem π form i test ρ (state s m bs) h)
      λ t n es j. plan_later es (turning_reached sf sb _ good (λ u k. in_after π body sb _ okb u k) one lone t n j))
      λ t n es x. plan_map (λ _ fs _. Memᴰ.append_left fs x) (enough π rest sr t n)
  reaches (after_a_row {ρ = ρ} {j = j} {p = p} l) (sp, sr) ok one lone s m h =
      plan_bind _ (plan_thru (λ bs. exec_in π ρ j p sp (state s m bs) h) (plan_exec π j p s m))
      λ t n es (_, k). plan_later es (reaches l sr ok one lone t n k)
  reaches (after_pick {ρ = ρ} {j = j} {e = e} {a = a} {b = b} l) (sa, sb, sr) (oa, ob, okr) one lone s m h =
      plan_bind _
      (plan_thru (λ bs. thru_done π _ (in_after π (pick j e a b done) (sa, sb, tt) ρ (oa, ob, tt) (state s m bs) h)) (plan_pick π j s m _ _ (inl λ n. enough π a sa s n)))
      λ t n es (_, k). plan_later es (reaches l sr okr one lone t n k)
  reaches (after_loop {ρ = ρ} {j = j} {e = e} {f = f} {t = u} {b = b} l) (sf, sb, sr) (good, okb, okr) one lone s m h =
      plan_bind _
      (plan_thru (λ bs. thru_done π _ (in_after π (loop j e f u b done) (sf, sb, tt) ρ (good, okb, tt) (state s m bs) h)) (plan_loop π f j u _ (λ t n. enough π b sb t n) s m))
      λ t n es (_, k). plan_later es (reaches l sr okr one lone t n k)

-- ---- its line of the report
line_in_lem : {i : ℕ} {form : Form} {test : Test} {body : Block} {ρ σ : Env} {b : Block} → Outside i form test body ρ b σ
    → Memᴰ (line (alike 1) any i form σ test body) (lines (alike 1) any ρ b)
unfolding lines later
line_in_lem here = Memᴰ.head refl
line_in_lem (after_a_row l) = line_in_lem l
line_in_lem (after_pick {ρ = ρ} {a = a} {b = b} l) = Memᴰ.append_right (lines (alike 1) any ρ a) (Memᴰ.append_right (lines (alike 1) any ρ b) (line_in_lem l))
line_in_lem (after_loop {ρ = ρ} {f = f} {t = t} {b = b} l) =
    let σ = at_start f t ρ in
    Memᴰ.tail (Memᴰ.append_right (lines (in_body (alike 1) any f σ t b) (first_pass f σ t b) (inside f σ t b) b) (line_in_lem l))

-- its total is its turns
once : (form : Form) (ρ : Env) (test : Test) (body : Block) → total_of (alike 1) any form ρ test body ≡ turns form ρ test body
unfolding total_of sum_over turns_in
once form ρ test body = omega arith

-- ---- the two counts
counts : (p n : ℕ) (es : List Entry) → Has p n es → n ≤ most_at p es
unfolding most_at
counts p n [] h = absurd (Memᴰ.not-nil h)
counts p n (e ∷ es) h =
    ⊎_elim (λ x. omega (arith, own_self p n, ap (λ (z : Entry). own p z.row z.turns) x)) (λ x. omega (arith, counts p n es x)) (Memᴰ.cases_cons h)

most_sum : (p : ℕ) (es : List Entry) → most_at p es ≤ sum_at p es
unfolding most_at sum_at
most_sum p [] = omega arith
most_sum p (e ∷ es) = omega (arith, most_sum p es)

-- ---- the answer
-- an ending that is neither spent nor range
uncut : (e : Ending) → Cut e → (e ≡ Ending.Range → ⊥) → Unspent e → ⊥
uncut Ended c r u = c
uncut Spent c r u = u
uncut Ending.Range c r u = r refl
uncut NoPick c r u = c

unstopped : (rows allowance : ℕ) (picks : List ℕ) {o : Out} → Stopped o → ((answer rows allowance picks o).ending ≡ Ending.Range → ⊥) → Unspent (answer rows allowance picks o).ending → ⊥
unfolding answer
unstopped rows allowance picks (stopped {e = e} c) r u = uncut e c r u

-- the counts of a line's loop over entries are within the line
record Kept (es : List Entry) (l : Line) : Type 0 where
  most : most_at l.row es ≤ l.turns
  sum : sum_at l.row es ≤ l.total

counts_kept : (es : List Entry) (ls : List Line) (hs : List ℕ) → Pairwise Counts-fit ls (counts_at es hs) → All (Kept es) ls
unfolding counts_at
counts_kept es [] hs h = none
counts_kept es (l ∷ ls) [] h = elim h [ ]
counts_kept es (l ∷ ls) (p ∷ hs) (and_then h more) =
    some (record {
      most = subst (λ r. most_at r es ≤ l.turns) h.row h.most;
      sum = subst (λ r. sum_at r es ≤ l.total) h.row h.all;
    }) (counts_kept es ls hs more)

reached : (l : Line) (rows allowance : ℕ) (picks : List ℕ) (t : State) (es : List Entry) (o : Out) → o ≡ go t es → l.total ≡ l.turns
    → Kept (answer rows allowance picks o).entries l → Has l.row l.turns es → Reached l (answer rows allowance picks o)
unfolding answer
reached l rows allowance picks t es o e once kept has =
    subst (λ x. Kept (answer rows allowance picks x).entries l → Reached l (answer rows allowance picks x)) (sym e)
    (λ k. record {
      ends = refl;
      entered = has;
      all = omega (arith, k.sum, counts l.row l.turns es has, most_sum l.row es);
      most = omega (arith, k.most, counts l.row l.turns es has);
    }) kept

-- the run of a plan neither lacks a pick nor is cut short
finish : (l : Line) (rows allowance : ℕ) (f : List ℕ → Out) → ((picks : List ℕ) → Bytes picks → (answer rows allowance picks (f picks)).ending ≡ Ending.Range → ⊥)
    → ((picks : List ℕ) → Unspent (answer rows allowance picks (f picks)).ending) → ((picks : List ℕ) → Kept (answer rows allowance picks (f picks)).entries l)
    → l.total ≡ l.turns → Plan (λ t es. Has l.row l.turns es) f → (picks : List ℕ) × Bytes picks × Reached l (answer rows allowance picks (f picks))
finish l rows allowance f never unspent kept once (goes p b s m es h e) =
    (p ++ [], all_append b none, reached l rows allowance (p ++ []) _ es _ (e []) once (kept (p ++ [])) h)
finish l rows allowance f never unspent kept once (stops p b h) = absurd (unstopped rows allowance p h (never p b) (unspent p))

-- ---- scripts and files
pub figures_happen : FiguresHappen
unfolding FiguresHappen CanHappen Demand3 run_script run_tree verdict
figures_happen π one script ok store h l m form test body ρ at own o s n never =
    let tree = tree_along Right right script ok.legal in
    let (yes_loops, _) = then_yes (loops_verdict (start_env script.ranges) (tree_of script.rows)) _ ok.loops in
    let same = (all_at _ (lines_of (tree_of script.rows) (alike 1) any (start_env script.ranges) 0 (length script.rows) tree.placed) m).only _ (line_in_lem at) refl in
    let e : turns form ρ test body ≡ l.turns = ap (λ (k : Line). k.turns) same in
    let t : total_of (alike 1) any form ρ test body ≡ l.total = ap (λ (k : Line). k.total) same in
    finish l _ _ _ never (λ picks. (within picks).unspent) (λ picks. all_at _ (counts_kept _ _ (loop_rows 0 script.rows) (within picks).counted) m) (omega (arith, once form ρ test body))
    (plan_map (λ _ es x. subst (λ k. Has l.row k es) e x)
    (reaches π l.row form test body own o at tree.sane (yes-accepted _ _ yes_loops) s n (store_of store) (report_ticks π script)
    (in_ranges script.ranges store ok.legal.numbers.0 h.whole h.each)))
  where
    within : (picks : List ℕ) → Keeps π script (run_script π script store picks (report_ticks π script))
    within picks = demand3 π one script ok store h picks (report_ticks π script) (omega arith)

pub figures_happen_file : FiguresHappenFile
unfolding FiguresHappenFile FiguresHappen
figures_happen_file prices scratch file script e store h =
    let f = file_accepted prices scratch file script e in
    figures_happen (prices_of prices) (test_priced prices f.priced) script f.script_accepted store (store_in script store h)
