-- A store and a state that pass 15 and 21 say where a step may begin.
use mathlib.Core.Path.{◌≡◌, refl, sym, ◌∙◌, ap}
use mathlib.Core.Bool.{Bool, true, false, cond}
use mathlib.Core.List.{List, [], ◌∷◌, map}
use Prim.Native.Nat.{ℕ, zero, suc, ◌+◌, ◌≤◌}
use native.Mathlib.Omega.{arith}
use lib.Dec.{T, leb, ltb, eqb, leb→le, ltb→lt, eqb→eq}
use lib.IntN.{ℤ, pos}
use lib.ListN.{length, drop}
use Rattle.ints.proofs.Diffs.{both}
use Rattle.rules.specs.declared.Prices.{Prices}
use Rattle.rules.specs.Verdicts.{Verdict, passed, refused}
use Rattle.rules.specs.Blocks.{RowKind, View, is_plain, is_pick, is_else, is_end, is_loop, view_of, view_at}
use Rattle.rules.specs.Values.{lowest, highest, in_limits, Store}
use Rattle.rules.specs.Ranges.{Range}
use Rattle.rules.specs.Answers.{store_list}
use Rattle.rules.specs.Scripts.{All, none, some, Script, store_of}
use Rattle.rules.specs.Calls.{is_loop_row, loop_rows, store_verdict}
use Rattle.rules_machine.specs.RowMachine.{testing, Place}
use Rattle.rules_live.specs.Live.{Stand, matching_head}
use Rattle.rules_live.specs.LiveRuns.{CanStand}
use Rattle.rules_live.specs.LiveState.{state_size, loops_from, at, loop_number, tally_in, phase_in, stand_in, state_stand, is_cue, is_pick_row, ends_loop, row_fits, phase_fits, left_fits, head_checks, state_checks, first_no, state_verdict}
use Rattle.rules_live.specs.LiveCalls.{whole_range, wide_verdict}
use Rattle.rules_live.proofs.PlacesFit.{LoopEnd, NoCounts, Limited}
use Rattle.rules_live.proofs.StandsFit.{StandFits}
use Rattle.rules_live.proofs.StateNumbers.{Yes, no_first}

-- ---- the store
-- 15 read from −L to L
pub wide_limits : (i : ℕ) (rs : List Range) (xs : List ℤ) → store_verdict i (map (λ r. whole_range) rs) xs ≡ passed → (length xs ≡ length rs) × ((w : ℕ) → T (in_limits (store_of xs w)))
unfolding store_verdict lowest highest
wide_limits i [] [] e = (refl, λ w. tt)
wide_limits i [] (x ∷ xs) e = absurd (let z : ◌≡◌ {A = ℕ} 0 1 = cc in omega arith)
wide_limits i (r ∷ rs) [] e = absurd (let z : ◌≡◌ {A = ℕ} 0 1 = cc in omega arith)
wide_limits i (r ∷ rs) (x ∷ xs) e = by (in_limits x) (λ t. t) (λ h. wide_limits (suc i) rs xs h) e
  where
    with_first : T (in_limits x) → ((w : ℕ) → T (in_limits (store_of xs w))) → (w : ℕ) → T (in_limits (store_of (x ∷ xs) w))
    with_first h f zero = h
    with_first h f (suc w) = f w

    by : (b : Bool) → (T b → T (in_limits x))
        → (store_verdict (suc i) (map (λ r. whole_range) rs) xs ≡ passed → (length xs ≡ length rs) × ((w : ℕ) → T (in_limits (store_of xs w))))
        → cond b (store_verdict (suc i) (map (λ r. whole_range) rs) xs) (refused 15 i) ≡ passed
        → (length (x ∷ xs) ≡ length (r ∷ rs)) × ((w : ℕ) → T (in_limits (store_of (x ∷ xs) w)))
    by true f g h = let (l, each) = g h in (ap suc l, with_first (f tt) each)
    by false f g h = absurd (let z : ◌≡◌ {A = ℕ} 0 1 = cc in omega arith)

pub wide_passes : (i : ℕ) (rs : List Range) (f : Store) → ((w : ℕ) → T (in_limits (f w))) → store_verdict i (map (λ r. whole_range) rs) (store_list (length rs) f) ≡ passed
unfolding store_verdict store_list
wide_passes i [] f h = refl
wide_passes i (r ∷ rs) f h = by (in_limits (f 0)) (h 0) (wide_passes (suc i) rs (λ w. f (suc w)) (λ w. h (suc w)))
  where
    by : (b : Bool) → T b → {v : Verdict} → v ≡ passed → cond b v (refused 15 i) ≡ passed
    by true t e = e
    by false t e = absurd t

pub past_end : (xs : List ℤ) (w : ℕ) → length xs ≤ w → store_of xs w ≡ pos 0
past_end [] w l = refl
past_end (x ∷ xs) zero l = absurd (omega arith)
past_end (x ∷ xs) (suc w) l = past_end xs w (omega arith)

-- ---- the counts
heads_loops : (rows ks : List RowKind) (i : ℕ) → ((j n : ℕ) → n ≡ i + j → view_at rows n ≡ view_at ks j) → All (λ h. is_loop_row (view_at rows h) ≡ true) (loop_rows i ks)
unfolding loop_rows view_of
heads_loops rows [] i f = none
heads_loops rows (k ∷ ks) i f = by (is_loop_row (view_of k)) refl (heads_loops rows ks (suc i) (λ j n e. f (suc j) n (omega arith)))
  where
    by : (b : Bool) → is_loop_row (view_of k) ≡ b → All (λ h. is_loop_row (view_at rows h) ≡ true) (loop_rows (suc i) ks)
        → All (λ h. is_loop_row (view_at rows h) ≡ true) (cond b (i ∷ loop_rows (suc i) ks) (loop_rows (suc i) ks))
    by true e rest = some (ap is_loop_row (f 0 i (omega arith)) ∙ e) rest
    by false e rest = rest

loop_none : (rows : List RowKind) (hs ns : List ℕ) → All (λ h. is_loop_row (view_at rows h) ≡ true) hs → (p : ℕ) → is_loop_row (view_at rows p) ≡ false → (j : ℕ) → loop_number hs ns p j ≡ 0
unfolding loop_number
loop_none rows [] ns h p e j = refl
loop_none rows (h ∷ hs) ns (some l t) p e j = by (eqb p h) (eqb→eq p h) (loop_none rows hs (drop 3 ns) t p e j)
  where
    by : (b : Bool) → (T b → p ≡ h) → {n : ℕ} → n ≡ 0 → cond b (at ns j) n ≡ 0
    by true f g = absurd (let z : ◌≡◌ {A = Bool} true false = sym l ∙ ap (λ i. is_loop_row (view_at rows i)) (sym (f tt)) ∙ e in let y : ◌≡◌ {A = ℕ} 0 1 = ap (λ b. cond b 0 1) z in omega arith)
    by false f g = g

module _ (π : Prices) (script : Script) where
  abbrev rows : List RowKind
  rows = script.rows

  abbrev vars : ℕ
  vars = length script.ranges

  abbrev Fits : Stand → Type 0
  Fits = StandFits vars rows (matching_head script)

  no_counts : (ns : List ℕ) → NoCounts vars rows (matching_head script) (tally_in (loop_rows 0 rows) ns)
  unfolding tally_in
  no_counts ns =
      let h = heads_loops rows rows 0 (λ j n e. ap (view_at rows) (e ∙ plus j)) in
      record { turns = λ p e. loop_none rows _ ns h p e 0; sum = λ p e. loop_none rows _ ns h p e 1; most = λ p e. loop_none rows _ ns h p e 2 }
    where
      plus : (j : ℕ) → 0 + j ≡ j
      plus j = omega arith

  pub limited : (store : List ℤ) → wide_verdict script store ≡ passed → Limited vars rows (matching_head script) (store_of store)
  unfolding wide_verdict
  limited store e = let (l, each) = wide_limits 0 script.ranges store e in record { within = each; beyond = λ w g. past_end store w (omega arith) }

  -- where a test is due, a loop ends
  test_due : (i ph : ℕ) → T (phase_fits script 0 i ph) → phase_in ph ≡ testing → LoopEnd vars rows (matching_head script) i
  unfolding phase_fits phase_in ends_loop
  test_due i zero h e = absurd (let z : ◌≡◌ {A = ℕ} 0 1 = cc in omega arith)
  test_due i (suc zero) h e =
      let (a, b) = both (ltb i (length rows)) (ends_loop (view_at rows i) (view_at rows (matching_head script i))) h in
      let (x, y) = ends (view_at rows i) (view_at rows (matching_head script i)) b in
      record { row = ltb→lt _ _ a; end = x; loop = y }
    where
      yes : (b : Bool) → T b → b ≡ true
      yes true t = refl
      yes false t = absurd t

      ends : (v w : View) → T (ends_loop v w) → (v ≡ is_end) × (is_loop_row w ≡ true)
      ends (is_plain p) w h = absurd h
      ends is_pick w h = absurd h
      ends is_else w h = absurd h
      ends is_end w h = (refl, yes (is_loop_row w) h)
      ends (is_loop form t last) w h = absurd h
  test_due i (suc (suc n)) h e = absurd h

  -- Yes to the six checks of the head, with a status, a row, a phase and what is left
  stands : (status i ph n : ℕ) (s : List ℤ) (ns : List ℕ) → T (leb status 4) → T (row_fits script status i) → T (phase_fits script status i ph) → T (left_fits π status n)
      → Limited vars rows (matching_head script) (store_of s)
      → let m : Place = record { row = i; phase = phase_in ph; now = record { store = store_of s; left = n; picks = [] }; tally = tally_in (loop_rows 0 rows) ns } in
      CanStand π rows (stand_in status m) × Fits (stand_in status m)
  unfolding stand_in row_fits phase_fits phase_in left_fits is_pick_row is_cue
  stands zero i ph n s ns a b c d k = ((leb→le _ _ b, ltb→lt _ _ d), record { test = test_due i ph c; counts = no_counts ns; store = k })
  stands (suc zero) i ph n s ns a b c d k =
      let (x, y) = both (ltb i (length rows)) (is_pick_row (view_at rows i)) b in
      ((is_it (view_at rows i) y, ltb→lt _ _ d), (no_counts ns, k))
    where
      is_it : (v : View) → T (is_pick_row v) → v ≡ is_pick
      is_it (is_plain p) h = absurd h
      is_it is_pick h = refl
      is_it is_else h = absurd h
      is_it is_end h = absurd h
      is_it (is_loop form t last) h = absurd h
  stands (suc (suc zero)) i zero n s ns a b c d k =
      let (x, y) = both (ltb i (length rows)) (is_cue (view_at rows i)) b in
      ((leb→le _ _ y, ltb→lt _ _ d), record { test = λ e. absurd (let z : ◌≡◌ {A = ℕ} 0 1 = cc in omega arith); counts = no_counts ns; store = k })
  stands (suc (suc zero)) i (suc ph) n s ns a b c d k = absurd c
  stands (suc (suc (suc zero))) i ph n s ns a b c d k = (tt, (eqb→eq _ _ b, no_counts ns, k))
  stands (suc (suc (suc (suc x)))) i ph n s ns a b c d k = (tt, (ltb→lt _ _ b, no_counts ns, k))

  -- a state that passes 21, beside a store that passes 15
  pub passed_stands : (store : List ℤ) (ns : List ℕ) → wide_verdict script store ≡ passed → state_verdict π script ns ≡ passed
      → CanStand π rows (state_stand script store ns) × Fits (state_stand script store ns)
  unfolding state_stand state_verdict state_checks head_checks
  passed_stands store ns w e = by (eqb (length ns) state_size) e
    where
      from_checks : Yes (state_checks π script ns) → CanStand π rows (state_stand script store ns) × Fits (state_stand script store ns)
      from_checks (some a (some b (some c (some d h)))) = stands (at ns 0) (at ns 1) (at ns 2) (at ns 3) store (drop loops_from ns) a b c d (limited store w)

      by : (b : Bool) → cond b (first_no 0 (state_checks π script ns)) (refused 21 state_size) ≡ passed → CanStand π rows (state_stand script store ns) × Fits (state_stand script store ns)
      by true h = from_checks (no_first 0 _ h)
      by false h = absurd (let z : ◌≡◌ {A = ℕ} 0 1 = cc in omega arith)
