-- The passes of a loop's body as code holds them are those of the rules, but for where totals stop.
use Rattle.std.specs.Option.{is_some}
use Rattle.std.specs.Prelude.{Some, None}
use mathlib.Core.Path.{◌≡◌, refl, sym, ap, ◌∙◌}
use mathlib.Core.Bool.{Bool, true, false, cond, ◌&&◌}
use Prim.Native.Nat.{ℕ, ◌+◌, ◌*◌}
use native.Mathlib.Omega.{arith}
use lib.Dec.{leb}
use lib.IntN.{ℤ, pos}
use Rattle.rules.specs.Blocks.{Test, Form, Block}
use Rattle.rules.specs.Steps.{step, is_add, first_end}
use Rattle.rules.specs.Ranges.{Env, ordered, sort}
use Rattle.rules.specs.Trips.{Way, own, broken, copied, chase, watched, is_own, way_of, is_exact, trip_by, trip, turns_of, turns}
use Rattle.rules.specs.Passes.{Pass, any, valued, sum_over, sums, first_pass, turns_in, over_passes}
use Rattle.rules.specs.Figures.{alike, often, total_of, in_body, lines}
use Rattle.rules.proofs.Walk.{over_once}
use Rattle.analysis_ticks.specs.Capped.{capped}
use Rattle.analysis_ticks.proofs.Caps.{cap_times}
use Rattle.analysis_ticks.specs.declared.passes.Round.{Round}
use Rattle.analysis_ticks.specs.Rounds.{round_of, pass_in, body_of}
use Rattle.analysis.specs.Fold.{capped_lines}
use Rattle.analysis.proofs.Folding.{cap_lines}

module _ (r : Round) (κ : Pass) (form : Form) (ρ : Env) (test : Test) (body : Block) where
  abbrev n : ℕ
  n = turns form ρ test body

  -- by whether it sums
  abbrev by_values : ℕ → Bool → Round
  by_values total b = cond b
      (record { count = n; by = first_end (step test.tested body); times = capped (r.count * r.times); v = test.tested; x = Some ((ρ test.tested).lo) })
      (record { count = 1; by = pos 0; times = total; v = test.tested; x = None })

  body_is : (total : ℕ) → body_of (trip form ρ test body) test.tested n total r ≡ by_values total (sums form ρ test body)
  unfolding sums trip_by
  body_is total = by (way_of form test body)
    where
      by : (w : Way) → body_of (trip_by w form ρ test body) test.tested (turns_of (trip_by w form ρ test body)) total r
          ≡ cond (is_own w && (is_exact (trip_by w form ρ test body) && (is_add (step test.tested body) && (ordered (sort test.comparison) && leb (turns_of (trip_by w form ρ test body)) 4_096))))
          (record { count = turns_of (trip_by w form ρ test body); by = first_end (step test.tested body); times = capped (r.count * r.times); v = test.tested; x = Some ((ρ test.tested).lo) })
          (record { count = 1; by = pos 0; times = total; v = test.tested; x = None })
      by own = refl
      by (copied w ahead) = refl
      by (chase w) = refl
      by (watched w c k ahead) = refl
      by broken = refl

  -- q: the passes of the body in code
  module _ (total : ℕ) (q : Round) (e : q ≡ body_of (trip form ρ test body) test.tested n total r) where
    q_is : q ≡ by_values total (sums form ρ test body)
    q_is = e ∙ body_is total

    pub body_known : is_some q.x ≡ sums form ρ test body
    body_known = ap (λ (z : Round). is_some z.x) q_is ∙ by (sums form ρ test body)
      where
        by : (b : Bool) → is_some (by_values total b).x ≡ b
        by true = refl
        by false = refl

    pub body_sum : (f : Pass → ℕ) → sum_over (pass_in q (is_some q.x)) q.by q.count f
        ≡ sum_over (first_pass form ρ test body) (in_body (round_of r) κ form ρ test body).by (in_body (round_of r) κ form ρ test body).count f
    unfolding first_pass in_body
    body_sum f = ap (λ (z : Round). sum_over (pass_in z (is_some z.x)) z.by z.count f) q_is ∙ by (sums form ρ test body)
      where
        by : (b : Bool) → sum_over (pass_in (by_values total b) (is_some (by_values total b).x)) (by_values total b).by (by_values total b).count f
            ≡ sum_over (cond b (valued test.tested (ρ test.tested).lo) any)
            (cond b (record { count = n; by = first_end (step test.tested body); times = often (round_of r) }) (alike (total_of (round_of r) κ form ρ test body))).by
            (cond b (record { count = n; by = first_end (step test.tested body); times = often (round_of r) }) (alike (total_of (round_of r) κ form ρ test body))).count f
        by true = refl
        by false = refl

    pub body_lines : total ≡ capped (total_of (round_of r) κ form ρ test body) → (β : Env) (b : Block)
        → capped_lines (lines (round_of q) (pass_in q (is_some q.x)) β b) ≡ capped_lines (lines (in_body (round_of r) κ form ρ test body) (first_pass form ρ test body) β b)
    unfolding first_pass in_body
    body_lines h β b = ap (λ (z : Round). capped_lines (lines (round_of z) (pass_in z (is_some z.x)) β b)) q_is ∙ by (sums form ρ test body)
      where
        by : (s : Bool) → capped_lines (lines (round_of (by_values total s)) (pass_in (by_values total s) (is_some (by_values total s).x)) β b)
            ≡ capped_lines (lines (cond s (record { count = n; by = first_end (step test.tested body); times = often (round_of r) }) (alike (total_of (round_of r) κ form ρ test body)))
            (cond s (valued test.tested (ρ test.tested).lo) any) β b)
        by true = cap_lines n (first_end (step test.tested body)) _ _ (omega arith) (valued test.tested (ρ test.tested).lo) β b
        by false = cap_lines 1 (pos 0) _ _ (ap capped h ∙ omega arith) any β b

  -- its own figure: the passes as they are walked, once or its turns times
  pub own_passes : (f : Pass → ℕ) → over_passes any form ρ test body f
      ≡ cond (sums form ρ test body) 1 n * sum_over (first_pass form ρ test body) (in_body (round_of r) κ form ρ test body).by (in_body (round_of r) κ form ρ test body).count f
  unfolding over_passes first_pass in_body turns_in
  own_passes f = by (sums form ρ test body)
    where
      a : ℤ
      a = first_end (step test.tested body)

      by : (b : Bool) → cond b (sum_over (cond b (valued test.tested (ρ test.tested).lo) any) a n f) (n * f any)
          ≡ cond b 1 n * sum_over (cond b (valued test.tested (ρ test.tested).lo) any)
          (cond b (record { count = n; by = a; times = often (round_of r) }) (alike (total_of (round_of r) κ form ρ test body))).by
          (cond b (record { count = n; by = a; times = often (round_of r) }) (alike (total_of (round_of r) κ form ρ test body))).count f
      by true = omega arith
      by false = ap (λ z. n * z) (sym (over_once (pos 0) f))

  -- in all passes, where the number of entries may stop just past the limit
  pub cap_often : (s : Bool) (c W G m : ℕ) → capped (cond s c (capped W) * G + m) ≡ capped (cond s c W * G + m)
  cap_often true c W G m = refl
  cap_often false c W G m = cap_times W G m
