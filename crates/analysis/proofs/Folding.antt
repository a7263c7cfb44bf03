-- The analysis' fold goes past one row at a time.
use mathlib.Core.Path.{◌≡◌, refl, sym, ap, ap₂, ◌∙◌}
use mathlib.Core.Bool.{Bool, true, false, not, cond, ◌&&◌, ◌||◌}
use mathlib.Core.List.{List, [], ◌∷◌, ◌++◌}
use Prim.Native.Nat.{ℕ, ◌+◌, ◌*◌, ◌≤◌, max}
use lib.ListN.{set}
use native.Mathlib.Omega.{arith}
use lib.Dec.{leb}
use lib.IntN.{ℤ, pos}
use Rattle.std.specs.Prelude.{Option, Some, None}
use Rattle.rules.specs.Blocks.{Plain, Test, Form, Last, no_step, step_by, with_last, Block, done, plain, pick, loop, snoc}
use Rattle.rules.specs.Steps.{sets, starts, assigns, step, first_end}
use Rattle.rules.specs.Ranges.{Env, after_row, join, at_start}
use Rattle.rules.specs.Trips.{trip, turns, inside, outside, after}
use Rattle.rules.specs.declared.Prices.{Prices}
use Rattle.rules.specs.Passes.{Pass, any, valued, later, start_pass, sum_over, sums, first_pass, over_passes}
use Rattle.rules.specs.Figures as figures
use Rattle.rules.specs.Figures.{price, loop_ticks, ticks, Line, alike, often, total_of, in_body, line, lines}
use Rattle.rules.proofs.Triangles.{over_same}
use Rattle.rules.proofs.Walk.{over_then, turns_walk}
use Rattle.rules.specs.Verdicts.{Verdict}
use Rattle.rules.specs.Verdicts.{passed, refused}
use Rattle.rules.specs.Questions.{and_then, asked, tick_limit, of_trip, loops_verdict, blocks_verdict}
use Rattle.analysis_ticks.specs.Capped.{capped}
use Rattle.analysis_ticks.proofs.Caps.{cap_mul}
use Rattle.analysis_ticks.specs.declared.passes.Round.{Round}
use Rattle.analysis_ticks.specs.Rounds.{round_of, pass_by, pass_in}
use Rattle.analysis.specs.Tallies.{FoldState, last_price}
use Rattle.analysis.specs.Known.{not_known}
use Rattle.analysis.specs.Own.{put_own}
use Rattle.analysis.specs.Fold.{loop_count, front_of, rest_of, capped_line, capped_lines, folded}
use Rattle.analysis.proofs.Laws.{state_is}

-- ---- verdicts one after the other
pub then_passed : (v : Verdict) → and_then v passed ≡ v
unfolding and_then
then_passed passed = refl
then_passed (refused n p) = refl

pub then_assoc : (u v w : Verdict) → and_then (and_then u v) w ≡ and_then u (and_then v w)
unfolding and_then
then_assoc passed v w = refl
then_assoc (refused n p) v w = refl

asked_then : (n p : ℕ) (b : Bool) (v : Verdict) → asked n p b v ≡ and_then (asked n p b passed) v
unfolding and_then asked
asked_then n p true v = refl
asked_then n p false v = refl

-- ---- lists of lines
append_none : (x : List Line) → x ++ [] ≡ x
append_none [] = refl
append_none (l ∷ x) = ap (λ r. l ∷ r) (append_none x)

append_assoc : (x y z : List Line) → (x ++ y) ++ z ≡ x ++ (y ++ z)
append_assoc [] y z = refl
append_assoc (l ∷ x) y z = ap (λ r. l ∷ r) (append_assoc x y z)

pub cuts_append : (x y : List Line) → capped_lines (x ++ y) ≡ capped_lines x ++ capped_lines y
unfolding capped_lines
cuts_append [] y = refl
cuts_append (l ∷ x) y = ap (λ r. capped_line l ∷ r) (cuts_append x y)

-- the lines of parts, one after the other
lines_pick : (x a b r : List Line) → x ++ capped_lines (a ++ (b ++ r)) ≡ ((x ++ capped_lines a) ++ capped_lines b) ++ capped_lines r
lines_pick x a b r =
    ap (λ l. x ++ l) (cuts_append a (b ++ r) ∙ ap (λ l. capped_lines a ++ l) (cuts_append b r)) ∙ sym (append_assoc x (capped_lines a) (capped_lines b ++ capped_lines r)) ∙ sym (append_assoc (x ++ capped_lines a) (capped_lines b) (capped_lines r))

lines_loop : (x : List Line) (l : Line) (b r : List Line) → x ++ capped_lines (l ∷ (b ++ r)) ≡ ((x ++ (capped_line l ∷ [])) ++ capped_lines b) ++ capped_lines r
unfolding capped_lines
lines_loop x l b r =
    ap (λ y. x ++ (capped_line l ∷ y)) (cuts_append b r) ∙ sym (append_assoc x (capped_line l ∷ []) (capped_lines b ++ capped_lines r)) ∙ sym (append_assoc (x ++ (capped_line l ∷ [])) (capped_lines b) (capped_lines r))

-- totals that stop just past the limit: so may the total of the loop round
same_mul : (n T U : ℕ) → capped T ≡ capped U → capped (n * T) ≡ capped (n * U)
same_mul n T U h = sym (cap_mul n T) ∙ ap (λ z. capped (n * z)) h ∙ cap_mul n U

either_way : (b : Bool) (x y u v : figures.Round) (f : figures.Round → List Line) → f x ≡ f u → f y ≡ f v → f (cond b x y) ≡ f (cond b u v)
either_way true x y u v f h k = h
either_way false x y u v f h k = k

pub cap_lines : (c : ℕ) (a : ℤ) (T U : ℕ) → capped T ≡ capped U → (k : Pass) (ρ : Env) (b : Block)
    → capped_lines (lines (record { count = c; by = a; times = T }) k ρ b) ≡ capped_lines (lines (record { count = c; by = a; times = U }) k ρ b)
unfolding lines capped_lines in_body total_of
cap_lines c a T U h k ρ done = refl
cap_lines c a T U h k ρ (plain i p rest) = cap_lines c a T U h _ (after_row ρ p) rest
cap_lines c a T U h k ρ (pick i e x y rest) =
    let t : Block → List Line = λ b. lines (record { count = 1; by = pos 0; times = c * T }) any ρ b in
    let u : Block → List Line = λ b. lines (record { count = 1; by = pos 0; times = c * U }) any ρ b in
    let m = same_mul c T U h in
    cuts_append (t x) _ ∙ ap₂ ◌++◌ (cap_lines 1 (pos 0) (c * T) (c * U) m any ρ x)
    (cuts_append (t y) _ ∙ ap₂ ◌++◌ (cap_lines 1 (pos 0) (c * T) (c * U) m any ρ y) (cap_lines c a T U h _ (join (after ρ x) (after ρ y)) rest) ∙ sym (cuts_append (u y) _))
    ∙ sym (cuts_append (u x) _)
cap_lines c a T U h k ρ (loop i e form test body rest) =
    let σ = at_start form test ρ in
    let κ = start_pass form test k in
    let r : figures.Round = record { count = c; by = a; times = T } in
    let r' : figures.Round = record { count = c; by = a; times = U } in
    let β = inside form σ test body in
    let first = first_pass form σ test body in
    let l = line r κ i form σ test body in
    let n = turns form σ test body in
    let f = first_end (step test.tested body) in
    let S = turns_walk r κ form σ test body in
    ap₂ ◌∷◌ (ap (λ t. record { row = i; step = l.step; turns = n; total = t; exact = l.exact }) (same_mul S T U h))
    (cuts_append (lines (in_body r κ form σ test body) first β body) _
    ∙ ap₂ ◌++◌
    (either_way (sums form σ test body) (record { count = n; by = f; times = c * T }) (record { count = 1; by = pos 0; times = S * T }) (record { count = n; by = f; times = c * U }) (record { count = 1; by = pos 0; times = S * U })
    (λ q. capped_lines (lines q first β body)) (cap_lines n f (c * T) (c * U) (same_mul c T U h) first β body) (cap_lines 1 (pos 0) (S * T) (S * U) (same_mul S T U h) first β body))
    (cap_lines c a T U h _ (outside form σ test body) rest)
    ∙ sym (cuts_append (lines (in_body r' κ form σ test body) first β body) _))

-- ---- what is known in a pass
pub kept_two : (k a b : Bool) → k && not (a || b) ≡ (k && not a) && not b
kept_two true true b = refl
kept_two true false b = refl
kept_two false a b = refl

kept_three : (k a b c : Bool) → k && not (a || b || c) ≡ ((k && not a) && not b) && not c
kept_three true true b c = refl
kept_three true false true c = refl
kept_three true false false c = refl
kept_three false a b c = refl

kept_none : (k : Bool) → k && true ≡ k
kept_none true = refl
kept_none false = refl

pub later_in : (r : Round) (kept : Bool) (f : ℕ → Bool) → later f (pass_in r kept) ≡ pass_in r (kept && not (f r.v))
unfolding later
later_in r kept f = by r.x kept
  where
    flip : (x : ℤ) (b : Bool) → cond b any (valued r.v x) ≡ cond (not b) (valued r.v x) any
    flip x true = refl
    flip x false = refl

    by : (k : Option ℤ) (p : Bool) → later f (pass_by r.v k p) ≡ pass_by r.v k (p && not (f r.v))
    by (Some x) true = flip x (f r.v)
    by (Some x) false = refl
    by None p = refl

-- ---- states
module _ (π : Prices) (r : Round) (x : FoldState) where
  abbrev K : Pass
  K = pass_in r x.kept

  pub fold_none : x.spent ≤ 1_000_000_000_001 → folded π r x done ≡ x
  unfolding folded after loops_verdict ticks blocks_verdict lines capped_lines loop_count assigns put_own
  fold_none h =
      state_is refl (kept_none x.kept) (then_passed x.verdict) (omega (arith, over_same K r.by r.count 0)) (then_passed x.over) (append_none x.lines) (omega arith) refl

  -- past a plain row
  abbrev pub past_plain : Plain → FoldState
  past_plain p = record { env = after_row x.env p; kept = x.kept && not (sets r.v p); verdict = x.verdict; spent = capped (x.spent + r.count * price π p); over = x.over; lines = x.lines; loops = x.loops; own = x.own }

  pub fold_plain : (i : ℕ) (p : Plain) (rest : Block) → folded π r x (plain i p rest) ≡ folded π r (past_plain p) rest
  unfolding folded after loops_verdict ticks blocks_verdict lines loop_count assigns put_own
  fold_plain i p rest =
      let ρ = after_row x.env p in
      let s : ℕ → Bool = λ w. sets w p in
      let e = later_in r x.kept s in
      state_is refl (kept_two x.kept (sets r.v p) (assigns r.v rest)) refl
      (omega (
        arith,
        over_then s K r.by r.count (λ _. price π p) (λ j. ticks π j ρ rest),
        over_same K r.by r.count (price π p),
        ap (λ k. sum_over k r.by r.count (λ j. ticks π j ρ rest)) e,
      ))
      refl (ap (λ k. x.lines ++ capped_lines (lines (round_of r) k ρ rest)) e) refl refl

  -- past a pick
  abbrev pub pick_ticks : Block → Block → ℕ
  pick_ticks a b = π.pick + max (ticks π any x.env a) (ticks π any x.env b)

  abbrev pub past_pick : ℕ → ℕ → Block → Block → FoldState
  past_pick i e a b = record {
    env = join (after x.env a) (after x.env b);
    kept = (x.kept && not (assigns r.v a)) && not (assigns r.v b);
    verdict = and_then (and_then x.verdict (loops_verdict x.env a)) (loops_verdict x.env b);
    spent = capped (x.spent + r.count * pick_ticks a b);
    over = and_then (and_then (and_then x.over (blocks_verdict π x.env a)) (blocks_verdict π x.env b)) (asked 13 e (leb (pick_ticks a b) tick_limit) passed);
    lines = (x.lines ++ capped_lines (lines (alike (often (round_of r))) any x.env a)) ++ capped_lines (lines (alike (often (round_of r))) any x.env b);
    loops = x.loops + loop_count a + loop_count b;
    own = set (put_own π x.env b (put_own π x.env a x.own)) i (capped (pick_ticks a b));
  }

  pub fold_pick : (i e : ℕ) (a b rest : Block) → folded π r x (pick i e a b rest) ≡ folded π r (past_pick i e a b) rest
  unfolding folded after later loops_verdict ticks blocks_verdict lines loop_count assigns put_own
  fold_pick i e a b rest =
      let ρ = x.env in
      let σ = join (after ρ a) (after ρ b) in
      let F = pick_ticks a b in
      let q = asked 13 e (leb F tick_limit) passed in
      let s : ℕ → Bool = λ w. assigns w a || assigns w b in
      let l = later_in r x.kept s ∙ ap (pass_in r) (kept_two x.kept (assigns r.v a) (assigns r.v b)) in
      let R = alike (often (round_of r)) in
      state_is refl (kept_three x.kept (assigns r.v a) (assigns r.v b) (assigns r.v rest))
      (sym (then_assoc x.verdict _ _) ∙ sym (then_assoc _ _ _))
      (omega (
        arith,
        over_then s K r.by r.count (λ _. F) (λ j. ticks π j σ rest),
        over_same K r.by r.count F,
        ap (λ k. sum_over k r.by r.count (λ j. ticks π j σ rest)) l,
      ))
      (ap (λ v. and_then x.over (and_then (blocks_verdict π ρ a) (and_then (blocks_verdict π ρ b) v))) (asked_then 13 e (leb F tick_limit) _)
      ∙ sym (then_assoc x.over _ _) ∙ sym (then_assoc _ _ _) ∙ sym (then_assoc _ q _))
      (lines_pick x.lines (lines R any ρ a) (lines R any ρ b) (lines (round_of r) (later s K) σ rest)
      ∙ ap (λ k. ((x.lines ++ capped_lines (lines R any ρ a)) ++ capped_lines (lines R any ρ b)) ++ capped_lines (lines (round_of r) k σ rest)) l)
      (omega arith)
      (ap (λ n. put_own π σ rest (set (put_own π ρ b (put_own π ρ a x.own)) i (capped n))) (let z : F + 0 ≡ F = omega arith in z))

  -- past a loop
  module _ (i e : ℕ) (form : Form) (test : Test) (body : Block) where
    abbrev σ : Env
    σ = at_start form test x.env

    abbrev β : Env
    β = inside form (at_start form test x.env) test body

    -- one pass with its test
    abbrev pub turn_ticks : Pass → ℕ
    turn_ticks j = ticks π j (inside form (at_start form test x.env) test body) body + π.test

    -- its own figure, and the one in all passes
    abbrev pub own_ticks : ℕ
    own_ticks = loop_ticks π form (over_passes any form (at_start form test x.env) test body turn_ticks)

    abbrev pub ticks_of_all : ℕ
    ticks_of_all = sum_over K r.by r.count (λ j. loop_ticks π form (over_passes (start_pass form test j) form (at_start form test x.env) test body turn_ticks))

    abbrev pub past_loop : FoldState
    past_loop = record {
      env = outside form σ test body;
      kept = (x.kept && not (starts r.v form test)) && not (assigns r.v body);
      verdict = and_then (and_then x.verdict (of_trip i (trip form σ test body))) (loops_verdict β body);
      spent = capped (x.spent + ticks_of_all);
      over = and_then (and_then x.over (blocks_verdict π β body)) (asked 13 e (leb own_ticks tick_limit) passed);
      lines = (x.lines ++ (capped_line (line (round_of r) (start_pass form test K) i form σ test body) ∷ [])) ++ capped_lines (lines (in_body (round_of r) (start_pass form test K) form σ test body) (first_pass form σ test body) β body);
      loops = x.loops + 1 + loop_count body;
      own = set (set (put_own π β body x.own) i (capped own_ticks)) e (not_known 16 x.env);
    }

    pub fold_loop : (rest : Block) → folded π r x (loop i e form test body rest) ≡ folded π r past_loop rest
    unfolding folded after later loops_verdict ticks blocks_verdict lines capped_lines loop_count assigns put_own
    fold_loop rest =
        let F = own_ticks in
        let q = asked 13 e (leb F tick_limit) passed in
        let α = outside form σ test body in
        let s : ℕ → Bool = λ w. starts w form test || assigns w body in
        let l = later_in r x.kept s ∙ ap (pass_in r) (kept_two x.kept (starts r.v form test) (assigns r.v body)) in
        let one = line (round_of r) (start_pass form test K) i form σ test body in
        let inner = lines (in_body (round_of r) (start_pass form test K) form σ test body) (first_pass form σ test body) β body in
        state_is refl (kept_three x.kept (starts r.v form test) (assigns r.v body) (assigns r.v rest))
        (sym (then_assoc x.verdict _ _) ∙ sym (then_assoc _ _ _))
        (omega (
          arith,
          over_then s K r.by r.count (λ j. loop_ticks π form (over_passes (start_pass form test j) form σ test body turn_ticks)) (λ j. ticks π j α rest),
          ap (λ k. sum_over k r.by r.count (λ j. ticks π j α rest)) l,
        ))
        (ap (λ v. and_then x.over (and_then (blocks_verdict π β body) v)) (asked_then 13 e (leb F tick_limit) _)
        ∙ sym (then_assoc x.over _ _) ∙ sym (then_assoc _ q _))
        (lines_loop x.lines one inner (lines (round_of r) (later s K) α rest) ∙ ap (λ k. ((x.lines ++ (capped_line one ∷ [])) ++ capped_lines inner) ++ capped_lines (lines (round_of r) k α rest)) l)
        (omega arith)
        (ap (λ n. put_own π α rest (set (set (put_own π β body x.own) i (capped n)) e (not_known 16 x.env))) (let z : F + 0 ≡ F = omega arith in z))

-- ---- the first row or block alone, then the rest
module _ (π : Prices) (r : Round) (x : FoldState) where
  first_plain : (i : ℕ) (p : Plain) → folded π r x (plain i p done) ≡ past_plain π r x p
  first_plain i p = fold_plain π r x i p done ∙ fold_none π r (past_plain π r x p) (omega arith)

  pub first_pick : (i e : ℕ) (a b : Block) → folded π r x (pick i e a b done) ≡ past_pick π r x i e a b
  first_pick i e a b = fold_pick π r x i e a b done ∙ fold_none π r (past_pick π r x i e a b) (omega arith)

  pub first_loop : (i e : ℕ) (form : Form) (test : Test) (body : Block) → folded π r x (loop i e form test body done) ≡ past_loop π r x i e form test body
  first_loop i e form test body = fold_loop π r x i e form test body done ∙ fold_none π r (past_loop π r x i e form test body) (omega arith)

  pub fold_first : (b : Block) → x.spent ≤ 1_000_000_000_001 → folded π r x b ≡ folded π r (folded π r x (front_of b)) (rest_of b)
  unfolding front_of rest_of
  fold_first done h = ap (λ y. folded π r y done) (sym (fold_none π r x h))
  fold_first (plain i p rest) h = fold_plain π r x i p rest ∙ ap (λ y. folded π r y rest) (sym (first_plain i p))
  fold_first (pick i e a b rest) h = fold_pick π r x i e a b rest ∙ ap (λ y. folded π r y rest) (sym (first_pick i e a b))
  fold_first (loop i e form test body rest) h = fold_loop π r x i e form test body rest ∙ ap (λ y. folded π r y rest) (sym (first_loop i e form test body))

-- ---- a for's step row adds its price to its body, and nothing else
pub record SameBody (π : Prices) (l : Last) (b c : Block) : Type 0 where
  pub loops : (β : Env) → loops_verdict β c ≡ loops_verdict β b
  pub over : (β : Env) → blocks_verdict π β c ≡ blocks_verdict π β b
  pub lined : (r : figures.Round) (k : Pass) (β : Env) → lines r k β c ≡ lines r k β b
  pub count : loop_count c ≡ loop_count b
  pub own : (β : Env) (o : List ℕ) → put_own π β c o ≡ put_own π β b o
  pub ticked : (k : Pass) (β : Env) → ticks π k β c ≡ last_price π l + ticks π k β b

module _ (i : ℕ) (p : Plain) where
  loops_snoc : (b : Block) (β : Env) → loops_verdict β (snoc b i p) ≡ loops_verdict β b
  unfolding loops_verdict snoc
  loops_snoc done β = refl
  loops_snoc (plain j q rest) β = loops_snoc rest _
  loops_snoc (pick j e a b rest) β = ap (λ v. and_then (loops_verdict β a) (and_then (loops_verdict β b) v)) (loops_snoc rest _)
  loops_snoc (loop j e form test body rest) β = ap (λ v. and_then (of_trip j (trip form (at_start form test β) test body)) (and_then (loops_verdict (inside form (at_start form test β) test body) body) v)) (loops_snoc rest _)

  over_snoc : (π : Prices) (b : Block) (β : Env) → blocks_verdict π β (snoc b i p) ≡ blocks_verdict π β b
  unfolding blocks_verdict snoc
  over_snoc π done β = refl
  over_snoc π (plain j q rest) β = over_snoc π rest (after_row β q)
  over_snoc π (pick j e a b rest) β =
      ap (λ v. and_then (blocks_verdict π β a) (and_then (blocks_verdict π β b) (asked 13 e (leb (π.pick + max (ticks π any β a) (ticks π any β b)) tick_limit) v))) (over_snoc π rest (join (after β a) (after β b)))
  over_snoc π (loop j e form test body rest) β =
      let σ = at_start form test β in
      let γ = inside form σ test body in
      ap (λ v. and_then (blocks_verdict π γ body) (asked 13 e (leb (loop_ticks π form (over_passes any form σ test body (λ k. ticks π k γ body + π.test))) tick_limit) v)) (over_snoc π rest (outside form σ test body))

  lines_snoc : (b : Block) (r : figures.Round) (k : Pass) (β : Env) → lines r k β (snoc b i p) ≡ lines r k β b
  unfolding lines snoc
  lines_snoc done r k β = refl
  lines_snoc (plain j q rest) r k β = lines_snoc rest r _ _
  lines_snoc (pick j e a b rest) r k β = ap (λ l. lines (alike (often r)) any β a ++ (lines (alike (often r)) any β b ++ l)) (lines_snoc rest r _ _)
  lines_snoc (loop j e form test body rest) r k β =
      let σ = at_start form test β in
      let κ = start_pass form test k in
      ap (λ l. line r κ j form σ test body ∷ (lines (in_body r κ form σ test body) (first_pass form σ test body) (inside form σ test body) body ++ l)) (lines_snoc rest r _ _)

  pub count_snoc : (b : Block) → loop_count (snoc b i p) ≡ loop_count b
  unfolding loop_count snoc
  count_snoc done = refl
  count_snoc (plain j q rest) = count_snoc rest
  count_snoc (pick j e a b rest) = omega (arith, count_snoc rest)
  count_snoc (loop j e form test body rest) = omega (arith, count_snoc rest)

  own_snoc : (π : Prices) (b : Block) (β : Env) (o : List ℕ) → put_own π β (snoc b i p) o ≡ put_own π β b o
  unfolding put_own snoc
  own_snoc π done β o = refl
  own_snoc π (plain j q rest) β o = own_snoc π rest (after_row β q) o
  own_snoc π (pick j e a b rest) β o = own_snoc π rest (join (after β a) (after β b)) _
  own_snoc π (loop j e form test body rest) β o = own_snoc π rest (outside form (at_start form test β) test body) _

  ticks_snoc : (π : Prices) (b : Block) (k : Pass) (β : Env) → ticks π k β (snoc b i p) ≡ price π p + ticks π k β b
  unfolding ticks snoc
  ticks_snoc π done k β = omega arith
  ticks_snoc π (plain j q rest) k β = omega (arith, ticks_snoc π rest (later (λ w. sets w q) k) (after_row β q))
  ticks_snoc π (pick j e a b rest) k β = omega (arith, ticks_snoc π rest (later (λ w. assigns w a || assigns w b) k) (join (after β a) (after β b)))
  ticks_snoc π (loop j e form test body rest) k β = omega (arith, ticks_snoc π rest (later (λ w. starts w form test || assigns w body) k) (outside form (at_start form test β) test body))

pub same_body : (π : Prices) (l : Last) (i : ℕ) (b : Block) → SameBody π l b (with_last l i b)
unfolding with_last
same_body π no_step i b = record { loops = λ β. refl; over = λ β. refl; lined = λ r k β. refl; count = refl; own = λ β o. refl; ticked = λ k β. omega arith }
same_body π (step_by p) i b = record { loops = loops_snoc i p b; over = over_snoc i p π b; lined = lines_snoc i p b; count = count_snoc i p b; own = own_snoc i p π b; ticked = ticks_snoc i p π b }
