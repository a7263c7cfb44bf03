-- What a state holds that 21 has passed. Assumes nothing.
use mathlib.Core.Path.{◌≡◌, refl, sym, ◌∙◌, ap, subst}
use mathlib.Core.Bool.{Bool, true, false, cond, ◌&&◌, not}
use mathlib.Core.List.{List, [], ◌∷◌, ◌++◌}
use Prim.Native.Nat.{ℕ, zero, suc, ◌+◌, ◌-◌, ◌*◌, ◌≤◌, ◌<◌, max}
use native.Mathlib.Omega.{arith}
use borrow.Author.Tests.{leb-true, ltb-true, eqb-true, ne_eqb}
use lib.Dec.{leb, ltb, eqb}
use lib.ListN.{length, get_or, take, drop}
use lib.Seq.{get_or-drop}
use Rattle.rules.specs.declared.Ending.TheVariants.{Spent, NoPick}
use Rattle.rules.specs.declared.Prices.{Prices}
use Rattle.rules.specs.Verdicts.{passed, refused}
use Rattle.rules.specs.Blocks.{View, is_plain, is_pick, is_else, is_end, is_loop, view_at}
use Rattle.rules.specs.Bounds.{FinePrices}
use Rattle.rules.specs.Calls.{is_loop_row}
use Rattle.rules.specs.Figures.{Line}
use Rattle.rules.specs.Scripts.{All, none, some, Script, report_ticks, report_lines}
use Rattle.rules.proofs.Laws.{no_true}
use Rattle.rules_frames.specs.InTime.{dearest}
use Rattle.rules_live.specs.Live.{matching_head}
use Rattle.rules_live.specs.LiveState.{at, loop_number, is_pick_row, ends_loop, row_fits, phase_fits, left_fits, head_checks, zero_checks, loop_checks, state_checks, first_no, state_verdict}
use Rattle.run_actions.specs.declared.Status.TheVariants.{Going, Over}
use Rattle.live_state.specs.Numbers.{due_in, status_in, ends_loop_at, AllHoldTurns}
use Rattle.live_state.proofs.Reading.{Fits, no_loop_lem, one_loop}

-- ---- no question has no
both : (a b : Bool) → (a && b) ≡ true → (a ≡ true) × (b ≡ true)
both true b e = (refl, e)
both false b e = no_true e

yes_cons : (i : ℕ) (b : Bool) (bs : List Bool) → first_no i (b ∷ bs) ≡ passed → (b ≡ true) × (first_no (suc i) bs ≡ passed)
unfolding first_no
yes_cons i true bs e = (refl, e)
yes_cons i false bs e = absurd (let z : ◌≡◌ {A = ℕ} 0 1 = cc in omega arith)

yes_after : (i : ℕ) (xs ys : List Bool) → first_no i (xs ++ ys) ≡ passed → (first_no i xs ≡ passed) × ((j : ℕ) × (first_no j ys ≡ passed))
unfolding first_no
yes_after i [] ys e = (refl, (i, e))
yes_after i (true ∷ xs) ys e = yes_after (suc i) xs ys e
yes_after i (false ∷ xs) ys e = absurd (let z : ◌≡◌ {A = ℕ} 0 1 = cc in omega arith)

-- what it holds
pub record StatePasses (π : Prices) (script : Script) (ns : List ℕ) : Type 0 where
  pub size : length ns ≡ 64
  pub status : at ns 0 ≤ 4
  pub row : row_fits script (at ns 0) (at ns 1) ≡ true
  pub phase : phase_fits script (at ns 0) (at ns 1) (at ns 2) ≡ true
  pub left : left_fits π (at ns 0) (at ns 3) ≡ true
  pub ticks : at ns 4 ≤ report_ticks π script
  pub used : at ns 5 ≤ at ns 4
  pub loops : (j : ℕ) × (first_no j (loop_checks (report_lines script) (drop 16 ns)) ≡ passed)

pub state_passes : (π : Prices) (script : Script) (ns : List ℕ) → state_verdict π script ns ≡ passed → StatePasses π script ns
unfolding state_verdict state_checks head_checks
state_passes π script ns e =
    let (size, q) = by (eqb (length ns) 64) (eqb-true (length ns) 64) e in
    let (h, (i, r)) = yes_after 0 (head_checks π script (report_ticks π script) ns) _ q in
    let (_, (j, s)) = yes_after i (zero_checks (take 10 (drop 6 ns))) _ r in
    let (l, _) = yes_after j (loop_checks (report_lines script) (drop 16 ns)) _ s in
    let (a, h₁) = yes_cons 0 _ _ h in
    let (b, h₂) = yes_cons 1 _ _ h₁ in
    let (c, h₃) = yes_cons 2 _ _ h₂ in
    let (d, h₄) = yes_cons 3 _ _ h₃ in
    let (f, h₅) = yes_cons 4 _ _ h₄ in
    let (g, _) = yes_cons 5 _ _ h₅ in
    record { size = size; status = leb-true _ _ a; row = b; phase = c; left = d; ticks = leb-true _ _ f; used = leb-true _ _ g; loops = (j, l) }
  where
    by : (b : Bool) → (b ≡ true → length ns ≡ 64) → cond b (first_no 0 (state_checks π script ns)) (refused 21 64) ≡ passed → (length ns ≡ 64) × (first_no 0 (state_checks π script ns) ≡ passed)
    by true f q = (f refl, q)
    by false f q = absurd (let z : ◌≡◌ {A = ℕ} 0 1 = cc in omega arith)

-- ---- what is left
pub left_small : (π : Prices) → FinePrices π → (s n : ℕ) → left_fits π s n ≡ true → n ≤ 1_000
unfolding left_fits
left_small π fine s n e = by (leb s 2) e
  where
    by : (b : Bool) → cond b (ltb n (dearest π)) (eqb n 0) ≡ true → n ≤ 1_000
    by true q = omega (arith, ltb-true n (dearest π) q, fine.arithmetic.small, fine.cue.small, fine.pick.small, fine.test.small)
    by false q = omega (arith, eqb-true n 0 q)

-- ---- the row
pick_view : (v : View) → is_pick_row v ≡ true → v ≡ is_pick
unfolding is_pick_row
pick_view (is_plain p) e = no_true e
pick_view is_pick e = refl
pick_view is_else e = no_true e
pick_view is_end e = no_true e
pick_view (is_loop form test last) e = no_true e

ends_view : (v h : View) → ends_loop v h ≡ true → (v ≡ is_end) × (is_loop_row h ≡ true)
unfolding ends_loop
ends_view (is_plain p) h e = no_true e
ends_view is_pick h e = no_true e
ends_view is_else h e = no_true e
ends_view is_end h e = (refl, e)
ends_view (is_loop form test last) h e = no_true e

module _ (script : Script) where
  pub waits_at : (i : ℕ) → row_fits script 1 i ≡ true → (i < length script.rows) × (view_at script.rows i ≡ is_pick)
  unfolding row_fits
  waits_at i e = let (a, b) = both (ltb i (length script.rows)) (is_pick_row (view_at script.rows i)) e in (ltb-true _ _ a, pick_view _ b)

  not_due : (n : ℕ) → due_in n ≡ true → n ≡ 0 → ⊥
  not_due n e z = let q : due_in 0 ≡ true = ap due_in (sym z) ∙ e in no_true q

  pub test_at : (s i due : ℕ) → phase_fits script s i due ≡ true → due_in due ≡ true → (i < length script.rows) × (ends_loop_at script i ≡ true)
  unfolding phase_fits
  test_at s i zero e d = absurd (not_due 0 d refl)
  test_at zero i (suc zero) e d = let (a, b) = both (ltb i (length script.rows)) (ends_loop_at script i) e in (ltb-true _ _ a, b)
  test_at zero i (suc (suc n)) e d = no_true e
  test_at (suc s) i (suc n) e d = no_true e

  pub at_the_end : (i : ℕ) → ends_loop_at script i ≡ true → (view_at script.rows i ≡ is_end) × (is_loop_row (view_at script.rows (matching_head script i)) ≡ true)
  at_the_end i e = ends_view (view_at script.rows i) _ e

  -- a test is due only where a script is going
  pub fresh_held : (s i due : ℕ) → phase_fits script (suc s) i due ≡ true → due ≡ 0
  unfolding phase_fits
  fresh_held s i zero e = refl
  fresh_held s i (suc n) e = no_true e

-- ---- the status
pub waits_status : (s i j : ℕ) → status_in s i ≡ Over NoPick j → (s ≡ 1) × (j ≡ i)
unfolding status_in
waits_status zero i j e = absurd (let z : ◌≡◌ {A = ℕ} 0 1 = cc in omega arith)
waits_status (suc zero) i j e = (refl, (cc))
waits_status (suc (suc zero)) i j e = absurd (let z : ◌≡◌ {A = ℕ} 0 1 = cc in omega arith)
waits_status (suc (suc (suc zero))) i j e = absurd (let z : ◌≡◌ {A = ℕ} 0 1 = cc in omega arith)
waits_status (suc (suc (suc (suc n)))) i j e = absurd (let z : ◌≡◌ {A = ℕ} 0 1 = cc in omega arith)

pub no_spent : (s i j : ℕ) → status_in s i ≡ Over Spent j → ⊥
unfolding status_in
no_spent zero i j e = let z : ◌≡◌ {A = ℕ} 0 1 = cc in omega arith
no_spent (suc zero) i j e = let z : ◌≡◌ {A = ℕ} 0 1 = cc in omega arith
no_spent (suc (suc zero)) i j e = let z : ◌≡◌ {A = ℕ} 0 1 = cc in omega arith
no_spent (suc (suc (suc zero))) i j e = let z : ◌≡◌ {A = ℕ} 0 1 = cc in omega arith
no_spent (suc (suc (suc (suc n)))) i j e = let z : ◌≡◌ {A = ℕ} 0 1 = cc in omega arith

-- ---- the loops
module _ (i : ℕ) (l : Line) (ls : List Line) (ns : List ℕ) (e : first_no i (loop_checks (l ∷ ls) ns) ≡ passed) where
  one_yes : (at ns 0 ≤ at ns 1) × (at ns 1 ≤ l.total) × (at ns 0 ≤ at ns 2) × (first_no (suc (suc (suc i))) (loop_checks ls (drop 3 ns)) ≡ passed)
  unfolding loop_checks
  one_yes =
      let (_, f) = yes_cons i _ _ e in
      let (b, g) = yes_cons (suc i) _ _ f in
      let (c, h) = yes_cons (suc (suc i)) _ _ g in
      let (x, y) = both _ _ b in
      let (z, _) = both _ _ c in
      (leb-true _ _ x, leb-true _ _ y, leb-true _ _ z, h)

pub loops_fit : (i : ℕ) (ls : List Line) (ns : List ℕ) → first_no i (loop_checks ls ns) ≡ passed → Fits (length ls) ns
loops_fit i [] ns e = no_loop_lem
loops_fit i (l ∷ ls) ns e = let (a, _, b, r) = one_yes i l ls ns e in one_loop a b (loops_fit (suc (suc (suc i))) ls (drop 3 ns) r)

-- no count is above the largest total
pub counts_small : (top i : ℕ) (ls : List Line) (hs ns : List ℕ) → length hs ≡ length ls → All (λ (l : Line). l.total ≤ top) ls → first_no i (loop_checks ls ns) ≡ passed
    → (p : ℕ) → (loop_number hs ns p 0 ≤ top) × (loop_number hs ns p 1 ≤ top)
unfolding loop_number
counts_small top i ls [] ns q a e p = (omega arith, omega arith)
counts_small top i [] (h ∷ hs) ns q a e p = absurd (omega arith)
counts_small top i (l ∷ ls) (h ∷ hs) ns q (some t a) e p =
    let (x, y, _, r) = one_yes i l ls ns e in
    by (eqb p h) (omega arith, omega arith) (counts_small top (suc (suc (suc i))) ls hs (drop 3 ns) (omega arith) a r p)
  where
    by : (b : Bool) → (at ns 0 ≤ top) × (at ns 1 ≤ top) → (loop_number hs (drop 3 ns) p 0 ≤ top) × (loop_number hs (drop 3 ns) p 1 ≤ top)
        → (cond b (at ns 0) (loop_number hs (drop 3 ns) p 0) ≤ top) × (cond b (at ns 1) (loop_number hs (drop 3 ns) p 1) ≤ top)
    by true u v = u
    by false u v = v

fits_at : (n : ℕ) (ns : List ℕ) → Fits n ns → (k : ℕ) → k < n → at ns (3 * k + 0) ≤ at ns (3 * k + 1)
fits_at zero ns f k h = absurd (omega arith)
fits_at (suc n) ns (one_loop a b f) zero h = a
fits_at (suc n) ns (one_loop a b f) (suc k) h =
    let r : at (drop 3 ns) (3 * k + 0) ≤ at (drop 3 ns) (3 * k + 1) = fits_at n (drop 3 ns) f k (omega arith) in
    subst (λ x. at ns (3 * suc k + 0) ≤ x) (further 1) (subst (λ x. x ≤ at (drop 3 ns) (3 * k + 1)) (further 0) r)
  where
    further : (j : ℕ) → get_or (drop 3 ns) (3 * k + j) 0 ≡ get_or ns (3 * suc k + j) 0
    further j = get_or-drop 3 ns (3 * k + j) 0 ∙ ap (λ z. get_or ns z 0) (let w : 3 + (3 * k + j) ≡ 3 * suc k + j = omega arith in w)

pub all_hold_turns : (n : ℕ) (ns : List ℕ) → Fits n (drop 16 ns) → AllHoldTurns n ns
all_hold_turns n ns f k h =
    subst (λ x. at ns (16 + 3 * k + 0) ≤ x) (further 1) (subst (λ x. x ≤ at (drop 16 ns) (3 * k + 1)) (further 0) (fits_at n (drop 16 ns) f k h))
  where
    further : (j : ℕ) → get_or (drop 16 ns) (3 * k + j) 0 ≡ get_or ns (16 + 3 * k + j) 0
    further j = get_or-drop 16 ns (3 * k + j) 0 ∙ ap (λ z. get_or ns z 0) (let w : 16 + (3 * k + j) ≡ 16 + 3 * k + j = omega arith in w)
