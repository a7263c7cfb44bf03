-- What a step writes passes 15 and 21 in the next one, whatever state it had been lent.
use mathlib.Core.Path.{◌≡◌, refl, sym, ◌∙◌, ap, subst}
use mathlib.Core.List.{List, []}
use Prim.Native.Nat.{ℕ}
use native.Mathlib.Omega.{arith}
use lib.IntN.{ℤ}
use lib.ListN.{length}
use Rattle.rules.specs.declared.Prices.{Prices}
use Rattle.rules.specs.Verdicts.{Verdict, passed, refused}
use Rattle.rules.specs.Bounds.{FinePrices}
use Rattle.rules.specs.Blocks.{RowKind}
use Rattle.rules.specs.Answers.{store_list}
use Rattle.rules.specs.Scripts.{Script, Accepted}
use Rattle.rules.proofs.TreeOf.{tree_of_lem}
use Rattle.rules_live.specs.Live.{Stand, going, waits, full, finished, StepLent, Stepped, step_of, store_at}
use Rattle.rules_live.specs.LiveRuns.{StepFromAny}
use Rattle.rules_live.specs.LiveState.{state_stand, state_verdict, state_numbers}
use Rattle.rules_live.specs.LiveCalls.{and_then, stepped, wide_verdict, ticks_verdict, step_verdict, after_step, stepped_by, store_stepped, state_stepped, WrittenPasses}
use Rattle.rules_live.proofs.AnyStep.{step_from_any}
use Rattle.rules_live.proofs.PlacesFit.{Limited}
use Rattle.rules_live.proofs.StandsFit.{StandFits, step_fits}
use Rattle.rules_live.proofs.StateNumbers.{numbers_pass}
use Rattle.rules_live.proofs.StateStands.{wide_limits, wide_passes, passed_stands}

-- the store of a standing
pub stand_limited : (vars : ℕ) (rows : List RowKind) (mh : ℕ → ℕ) (a : Stand) → StandFits vars rows mh a → Limited vars rows mh (store_at a)
unfolding store_at
stand_limited vars rows mh (going m) h = h.store
stand_limited vars rows mh (waits m) (z, k) = k
stand_limited vars rows mh (full m) h = h.store
stand_limited vars rows mh (finished e i s c) (r, z, k) = k

-- the questions of a step that have yes
pub record Asked (π : Prices) (script : Script) (store : List ℤ) (ns : List ℕ) (q : ℕ) : Type 0 where
  pub wide : wide_verdict script store ≡ passed
  pub state : state_verdict π script ns ≡ passed
  pub ticks : ticks_verdict q ≡ passed

pub asked_passes : (π : Prices) (script : Script) (store : List ℤ) (ns : List ℕ) (q : ℕ) → Asked π script store ns q → step_verdict π script store ns q ≡ passed
unfolding step_verdict and_then
asked_passes π script store ns q h = ap (λ v. and_then v (and_then (state_verdict π script ns) (ticks_verdict q))) h.wide ∙ ap (λ v. and_then v (ticks_verdict q)) h.state ∙ h.ticks

passes_asked : (π : Prices) (script : Script) (store : List ℤ) (ns : List ℕ) (q : ℕ) → step_verdict π script store ns q ≡ passed → Asked π script store ns q
unfolding step_verdict and_then
passes_asked π script store ns q e = by (wide_verdict script store) (state_verdict π script ns) (ticks_verdict q) refl refl refl e
  where
    by : (u v w : Verdict) → wide_verdict script store ≡ u → state_verdict π script ns ≡ v → ticks_verdict q ≡ w → and_then u (and_then v w) ≡ passed → Asked π script store ns q
    by passed passed w a b c e = record { wide = a; state = b; ticks = c ∙ e }
    by passed (refused k p) w a b c e = absurd (let z : ◌≡◌ {A = ℕ} 0 1 = cc in omega arith)
    by (refused k p) v w a b c e = absurd (let z : ◌≡◌ {A = ℕ} 0 1 = cc in omega arith)

module _ (π : Prices) (fine : FinePrices π) (script : Script) (ok : Accepted π script) (store : List ℤ) (ns : List ℕ) where
  -- a step from what passes
  stepped_passes : (l : StepLent) → wide_verdict script store ≡ passed → state_verdict π script ns ≡ passed → (ticks used : ℕ)
      → let s : Stepped = step_of π script l (state_stand script store ns) in
      (wide_verdict script (store_list (length store) (store_at s.stand)) ≡ passed) × (state_verdict π script (state_numbers π script ticks used s.stand) ≡ passed)
  unfolding StepFromAny wide_verdict
  stepped_passes l w v ticks used =
      let (tree, whole) = tree_of_lem script.rows _ ok.legal.closed.1 in
      let (can, fits) = passed_stands π script store ns w v in
      let now = step_fits π fine (length script.ranges) script.rows ok.legal.variables tree whole l (state_stand script store ns) can fits in
      let (long, each) = wide_limits 0 script.ranges store w in (
        subst (λ n. wide_verdict script (store_list n (store_at (step_of π script l (state_stand script store ns)).stand)) ≡ passed) (sym long)
            (wide_passes 0 script.ranges _ (stand_limited _ _ _ _ now).within),
        numbers_pass π script ok.legal ticks used _ (step_from_any π fine script ok l (state_stand script store ns) can).can_stand now,
      )

pub written_passes : WrittenPasses
unfolding WrittenPasses stepped_by after_step store_stepped state_stepped
written_passes π fine script ok store new ns written l a e = by (step_verdict π script store ns l.q) refl e
  where
    by : (v : Verdict) → step_verdict π script store ns l.q ≡ v → stepped_by π script store ns l v ≡ stepped a new written
        → (wide_verdict script new ≡ passed) × (state_verdict π script written ≡ passed)
    by passed h e =
        let asked = passes_asked π script store ns l.q h in
        let (x, y) = stepped_passes π fine script ok store ns l asked.wide asked.state _ _ in
        (subst (λ s. wide_verdict script s ≡ passed) (ap (λ r. store_stepped r []) e) x, subst (λ s. state_verdict π script s ≡ passed) (ap (λ r. state_stepped r []) e) y)
    by (refused q p) h e = absurd (let z : ◌≡◌ {A = ℕ} 0 1 = cc in omega arith)
