-- Sums over values, and what a triangle's trip has.
use mathlib.Core.Path.{◌≡◌, refl, sym, ap, ap₂, ◌∙◌, fun_ext}
use mathlib.Core.Bool.{Bool, true, false, not, cond, ◌&&◌, false≢true}
use Prim.Native.Nat.{ℕ, suc, ◌+◌, ◌*◌, ◌-◌, ◌≤◌, ◌<◌}
use native.Mathlib.Nat.{mul-le-mul, mul_comm}
use borrow.Author.Tests.{leb-true}
use native.Mathlib.Numerals.{add-one}
use native.Mathlib.Omega.{arith}
use Rattle.std.specs.Prelude.{Option, Some, None}
use lib.IntN.{ℤ, pos, ◌+ℤ◌, ◌-ℤ◌, ◌*ℤ◌}
use lib.Signed.{◌≤ℤ◌}
use mir.Syntax.{w64}
use mir.Val.{SFits}
use Rattle.ints.proofs.Parts.{P, N, ints, add_parts, minus_parts, neg_parts, lone}
use Rattle.ints.proofs.Scale.{mul_P, mul_N}
use Rattle.rules.specs.declared.Comparison.{Comparison}
use Rattle.rules.specs.declared.Comparison.TheVariants.{Less, AtMost, Greater, AtLeast, Equal, Different}
use Rattle.rules_steps.specs.declared.Step.{Step}
use Rattle.rules_steps.specs.declared.Step.TheVariants.{Add, Grow, Shrink, Unknown}
use Rattle.rules.specs.Verdicts.{Verdict}
use Rattle.rules.specs.Verdicts.{passed}
use Rattle.rules.specs.declared.AddLoop.{AddLoop}
use Rattle.rules_steps.specs.Ends.{Near, EndsWithin}
use Rattle.rules.specs.Expressions.{Expr}
use Rattle.rules.specs.Values.{upward}
use Rattle.rules.specs.Blocks.{Form}
use Rattle.rules.specs.Steps.{is_add, first_end}
use Rattle.rules.specs.Ranges.{Range, edge, sort, ordered, suits}
use Rattle.rules.specs.Turns.{climb}
use Rattle.rules.specs.Trips.{Trip, is_exact}
use Rattle.rules.specs.Passes.{valued, sum, sum_over, from_constant}
use Rattle.rules.specs.Questions.{asked, loop_verdict, of_trip}
use Rattle.rules.proofs.Triangles.{over_same}
use Rattle.analysis_turns.proofs.Few.{climb_few}
use Rattle.analysis_loops.specs.declared.trips.Counter.{Counter}
use Rattle.analysis_loops.specs.declared.trips.Trip as code
use Rattle.analysis_loops.specs.Found.{start_of, free_of, trip_of}
use Rattle.analysis_ticks.specs.Capped.{capped}
use Rattle.analysis_ticks.specs.declared.passes.Round.{Round}
use Rattle.analysis_ticks.specs.Rounds.{round_of, pass_by, pass_in, FineRound, is_base, sums_by, triangle_by, climb_to, turns_by, walked_by, Rises, body_of}

-- ---- Booleans
pub no_not : {b : Bool} → not b ≡ true → b ≡ false
no_not {b = true} h = absurd (false≢true h)
no_not {b = false} h = refl

pub not_no : {b : Bool} → not b ≡ false → b ≡ true
not_no {b = true} h = refl
not_no {b = false} h = absurd (false≢true (sym h))

pub and_left : (a b : Bool) → a && b ≡ true → a ≡ true
and_left true b h = refl
and_left false b h = h

pub and_right : (a b : Bool) → a && b ≡ true → b ≡ true
and_right true b h = h
and_right false b h = absurd (false≢true h)

-- ---- the sum that the code makes, pass by pass
module _ (f : ℕ → ℕ) (n : ℕ) where
  pub sum_next : (i : ℕ) → i < n → sum f i (n - i) ≡ f i + sum f (i + 1) (n - (i + 1))
  unfolding sum
  sum_next i h = let m : n - i ≡ suc (n - (i + 1)) = omega arith in rw (m, add-one i)

  pub sum_end : (i : ℕ) → n ≤ i → sum f i (n - i) ≡ 0
  unfolding sum
  sum_end i h = let m : n - i ≡ 0 = omega arith in rw m

  pub sum_first : 0 + sum f 0 (n - 0) ≡ sum f 0 n
  sum_first = let m : n - 0 ≡ n = omega arith in rw m (omega arith)

-- the limit of pass i, and the turns up to it
pub record Limit (limit by : ℤ) (i : ℕ) : Type 0 where
  pub by64 : SFits w64 by
  pub count : SFits w64 (pos i)
  pub product : SFits w64 (by *ℤ pos i)
  pub sum : SFits w64 (limit +ℤ by *ℤ pos i)
  pub near : Near 3_000_000 (limit +ℤ by *ℤ pos i)

pub limit_at : (limit by : ℤ) (i : ℕ) → Near 5 limit → Near 512 by → i ≤ 4_096 → Limit limit by i
limit_at limit by i h k l =
    let p : P by ≤ 512_000_000_000 = omega (ints, lone by, neg_parts (pos 512_000_000_000)) in
    let q : N by ≤ 512_000_000_000 = omega (ints, lone by, neg_parts (pos 512_000_000_000)) in
    let s = add_parts limit (by *ℤ pos i) in
    record {
      near = omega (ints, s, mul_P by i, mul_N by i, mul-le-mul p l, mul-le-mul q l, neg_parts (pos 5_000_000_000), neg_parts (pos 3_000_000_000_000_000));
      by64 = omega ints;
      count = omega ints;
      product = omega (ints, mul_P by i, mul_N by i, mul-le-mul p l, mul-le-mul q l);
      sum = omega (ints, s, mul_P by i, mul_N by i, mul-le-mul p l, mul-le-mul q l);
    }

pub term_few : (l : AddLoop) → Near 5 l.start → Near 3_000_000 l.limit → climb l ≤ 3_100_000_000_000_000
term_few l h k = omega (arith, climb_few 5 3_000_000 l h k)

-- ---- the limit's end moves with the limit
pub edge_on : (c : Comparison) → upward c ≡ true → (x y : ℤ) → edge c (record { lo = x; hi = x }) +ℤ y ≡ edge c (record { lo = x +ℤ y; hi = x +ℤ y })
unfolding edge
edge_on Less h x y = omega (ints, minus_parts x (pos 1), add_parts (x -ℤ pos 1) y, add_parts x y, minus_parts (x +ℤ y) (pos 1))
edge_on AtMost h x y = refl
edge_on Greater h x y = absurd (false≢true h)
edge_on AtLeast h x y = absurd (false≢true h)
edge_on Equal h x y = absurd (false≢true h)
edge_on Different h x y = absurd (false≢true h)

own_start : (c : Counter) → not (free_of c) ≡ true → (s n : Range) → start_of c s n ≡ s
own_start Counter.Own h s n = refl
own_start Counter.Other h s n = absurd (false≢true h)
own_start Counter.Difference h s n = absurd (false≢true h)

pub sum_is : (t : code.Trip) → Rises t → (x a : ℤ) (n : ℕ)
    → sum (λ i. climb (record { start = t.start.lo; limit = edge t.comparison (record { lo = x; hi = x }) +ℤ a *ℤ pos i; step = first_end t.step })) 0 n
    ≡ sum (λ i. climb_to (trip_of t) (x +ℤ a *ℤ pos i)) 0 n
sum_is t r x a n =
    ap (λ f. sum f 0 n) (fun_ext λ i.
    ap (λ e. climb (record { start = t.start.lo; limit = e; step = first_end t.step })) (edge_on t.comparison r.up x (a *ℤ pos i))
    ∙ ap (λ (s : Range). climb (record { start = s.lo; limit = edge t.comparison (record { lo = x +ℤ a *ℤ pos i; hi = x +ℤ a *ℤ pos i }); step = first_end t.step })) (sym (own_start t.counter r.own _ _)))

-- ---- all passes of one entry
module _ (form : Form) (limit : Expr) (τ : Trip) (m : ℕ) (r : Round) (kept : Bool) where
  abbrev all : Option ℤ → Bool → ℕ
  all x b = sum_over (pass_by r.v x b) r.by r.count (λ j. turns_by j form limit τ m)

  pub walked_unknown : r.x ≡ None → walked_by (round_of r) (pass_in r kept) form limit τ m ≡ m * r.count
  unfolding sum_over turns_by
  walked_unknown e = ap (λ x. all x kept) e ∙ mul_comm r.count m

  module _ (x : ℤ) (e : r.x ≡ Some x) where
    pub walked_none : kept ≡ false → walked_by (round_of r) (pass_in r kept) form limit τ m ≡ m * r.count
    unfolding sum_over turns_by
    walked_none h = ap₂ all e h ∙ mul_comm r.count m

    pub walked_same : kept ≡ true → triangle_by form limit τ r.v ≡ false → walked_by (round_of r) (pass_in r kept) form limit τ m ≡ m * r.count
    unfolding sum_over turns_by
    walked_same h t =
        ap₂ all e h ∙ ap (λ f. sum f 0 r.count) (fun_ext λ i. ap (λ b. cond b (climb_to τ (x +ℤ r.by *ℤ pos i)) m) t)
        ∙ over_same (valued r.v x) r.by r.count m ∙ mul_comm r.count m

    pub walked_sum : kept ≡ true → triangle_by form limit τ r.v ≡ true → walked_by (round_of r) (pass_in r kept) form limit τ m ≡ sum (λ i. climb_to τ (x +ℤ r.by *ℤ pos i)) 0 r.count
    unfolding sum_over turns_by
    walked_sum h t = ap₂ all e h ∙ ap (λ f. sum f 0 r.count) (fun_ext λ i. ap (λ b. cond b (climb_to τ (x +ℤ r.by *ℤ pos i)) m) t)

-- ---- a triangle rises
asked_first : (n p : ℕ) (b : Bool) (v : Verdict) → asked n p b v ≡ passed → b ≡ true
unfolding asked
asked_first n p true v h = refl
asked_first n p false v h = absurd (let z : ◌≡◌ {A = ℕ} 0 1 = cc in omega arith)

asked_rest : (n p : ℕ) (b : Bool) (v : Verdict) → asked n p b v ≡ passed → v ≡ passed
unfolding asked
asked_rest n p true v h = h
asked_rest n p false v h = absurd (let z : ◌≡◌ {A = ℕ} 0 1 = cc in omega arith)

passed_suits : (i : ℕ) (τ : Trip) → of_trip i τ ≡ passed → suits τ.step (sort τ.comparison) ≡ true
unfolding loop_verdict
passed_suits i τ h = asked_first 11 i _ _ (asked_rest 10 i _ _ (asked_rest 9 i _ _ (asked_rest 8 i _ _ (asked_rest 19 i _ _ h))))

pub rises : (t : code.Trip) (form : Form) (limit : Expr) (v : ℕ) → EndsWithin 512 t.step → of_trip 0 (trip_of t) ≡ passed → triangle_by form limit (trip_of t) v ≡ true → Rises t
rises t form limit v near h k =
    let a = and_right (from_constant form) _ k in
    let b = and_right (is_base (trip_of t)) _ a in
    let d = and_right (is_add t.step) _ b in
    record { own = and_left (not (free_of t.counter)) _ (and_left (is_base (trip_of t)) _ a); add = and_left (is_add t.step) _ b; up = and_left (upward t.comparison) _ d; suits = passed_suits 0 (trip_of t) h; near = near }

pub step_up : (st : Step) (c : Comparison) → is_add st ≡ true → upward c ≡ true → suits st (sort c) ≡ true → pos 1 ≤ℤ first_end st
unfolding is_add first_end suits
step_up (Add a b) Less h u s = omega ints
step_up (Add a b) AtMost h u s = omega ints
step_up (Add a b) Greater h u s = absurd (false≢true u)
step_up (Add a b) AtLeast h u s = absurd (false≢true u)
step_up (Add a b) Equal h u s = absurd (false≢true u)
step_up (Add a b) Different h u s = absurd (false≢true u)
step_up (Grow f g) c h u s = absurd (false≢true h)
step_up (Shrink f g) c h u s = absurd (false≢true h)
step_up Unknown c h u s = absurd (false≢true h)

pub near_more : (z : ℤ) → Near 512 z → Near 1024 z
near_more z h = omega ints

pub near_far : (z : ℤ) → Near 5 z → Near 4_000_000 z
near_far z h = omega ints

pub far_more : (z : ℤ) → Near 3_000_000 z → Near 4_000_000 z
far_more z h = omega ints

-- ---- the passes of a loop's body
module _ (t : code.Trip) (v n total : ℕ) (r : Round) where
  pub body_adds : sums_by (trip_of t) n ≡ true → is_add t.step ≡ true
  body_adds h = and_left (is_add t.step) _ (and_right (is_exact (trip_of t)) _ (and_right (is_base (trip_of t)) _ h))

  pub body_yes : sums_by (trip_of t) n ≡ true → v < 16 → (o : ℕ) → o ≡ capped (r.count * r.times) → (a : ℤ) → a ≡ first_end t.step → Near 512 a
      → let q : Round = record { count = n; by = a; times = o; v = v; x = Some t.start.lo } in (q ≡ body_of (trip_of t) v n total r) × FineRound q
  body_yes h w o p a e near =
      let own = and_left (not (free_of t.counter)) _ (and_left (is_base (trip_of t)) _ h) in
      let few = and_right (ordered (sort t.comparison)) _ (and_right (is_add t.step) _ (and_right (is_exact (trip_of t)) _ (and_right (is_base (trip_of t)) _ h))) in
      let s : Range = record { lo = t.start.lo; hi = t.start.hi } in
      let z = sym (own_start t.counter own s (record { lo = t.limit.lo; hi = t.limit.hi })) in (
        (λ j. record { count = n; by = e j; times = p j; v = v; x = Some ((z j).lo) }) ∙ sym (ap (λ b. cond b (record { count = n; by = first_end t.step; times = capped (r.count * r.times); v = v; x = Some ((trip_of t).start.lo) }) no) h),
        record { few = leb-true n 4_096 few; near = near; small = omega arith; var = w },
      )
    where
      no : Round
      no = record { count = 1; by = pos 0; times = total; v = v; x = None }

  pub body_no : sums_by (trip_of t) n ≡ false → v < 16 → total ≤ 1_000_000_000_001
      → let q : Round = record { count = 1; by = pos 0; times = total; v = v; x = None } in (q ≡ body_of (trip_of t) v n total r) × FineRound q
  body_no h w l = (
    sym (ap (λ b. cond b (record { count = n; by = first_end t.step; times = capped (r.count * r.times); v = v; x = Some ((trip_of t).start.lo) }) (record { count = 1; by = pos 0; times = total; v = v; x = None })) h),
    record { few = omega arith; near = omega ints; small = l; var = w },
  )
