-- What is written into a state passes 21, and what passes 21 is a standing that a step may find.
use mathlib.Core.Path.{◌≡◌, refl, sym, ◌∙◌, ap, subst}
use mathlib.Core.Bool.{Bool, true, false, cond, ◌&&◌}
use mathlib.Core.List.{List, [], ◌∷◌, ◌++◌}
use Prim.Native.Nat.{ℕ, zero, suc, ◌+◌, ◌-◌, ◌*◌, ◌≤◌, ◌<◌, min}
use native.Mathlib.Omega.{arith}
use lib.Dec.{T, leb, ltb, eqb, eqb_refl, le→leb}
use lib.ListN.{length, drop, take, replicate, length-append, length-replicate}
use lib.Seq.{drop-append_seam, drop-drop}
use Rattle.ints.proofs.Diffs.{and_in}
use Rattle.rules.specs.declared.Ending.{Ending}
use Rattle.rules.specs.declared.Ending.TheVariants.{Ended, Spent, NoPick}
use Rattle.rules.specs.declared.Prices.{Prices}
use Rattle.rules.specs.Verdicts.{Verdict, passed}
use Rattle.rules.specs.Blocks.{RowKind, View, is_pick, is_end, view_of, view_at}
use Rattle.rules.specs.Figures.{Line}
use Rattle.rules.specs.Scripts.{All, none, some, Script, report_ticks, report_lines, Legal}
use Rattle.rules.specs.Calls.{loop_rows}
use Rattle.rules.specs.Claim.{line_rows}
use Rattle.rules.proofs.LinesAtHeads.{lines_at_heads, lines_few}
use Rattle.rules_machine.specs.RowMachine.{TurnCounts, Phase, fresh, testing, Place}
use Rattle.rules_live.specs.Cues.{cue_of}
use Rattle.rules_live.specs.Live.{Stand, going, waits, full, finished, counts_at_stand, status_number, matching_head}
use Rattle.rules_live.specs.LiveRuns.{CanStand}
use Rattle.rules_live.specs.LiveState.{state_size, loops_from, is_cue, is_pick_row, ends_loop, row_fits, phase_fits, left_fits, head_checks, loop_checks, zero_checks, state_checks, first_no, state_verdict, place_row, phase_number, phase_at, carried_at, loop_numbers, state_numbers}
use Rattle.rules_live.proofs.PlacesFit.{PlaceFits}
use Rattle.rules_live.proofs.StandsFit.{StandFits}

-- ---- lists of checks
abbrev pub Yes : List Bool → Type 0
Yes = All T

pub all_yes : (i : ℕ) (bs : List Bool) → Yes bs → first_no i bs ≡ passed
unfolding first_no
all_yes i [] h = refl
all_yes i (true ∷ bs) (some h k) = all_yes (suc i) bs k
all_yes i (false ∷ bs) (some h k) = absurd h

pub no_first : (i : ℕ) (bs : List Bool) → first_no i bs ≡ passed → Yes bs
unfolding first_no
no_first i [] e = none
no_first i (true ∷ bs) e = some tt (no_first (suc i) bs e)
no_first i (false ∷ bs) e = absurd (let z : ◌≡◌ {A = ℕ} 0 1 = cc in omega arith)

yes_join : (xs ys : List Bool) → Yes xs → Yes ys → Yes (xs ++ ys)
yes_join [] ys h k = k
yes_join (x ∷ xs) ys (some h t) k = some h (yes_join xs ys t k)

pub yes_front : (xs ys : List Bool) → Yes (xs ++ ys) → Yes xs × Yes ys
yes_front [] ys h = (none, h)
yes_front (x ∷ xs) ys (some h t) = let (k, l) = yes_front xs ys t in (some h k, l)

yes_zeros : (n : ℕ) → Yes (zero_checks (replicate n 0))
yes_zeros zero = none
yes_zeros (suc n) = some tt (yes_zeros n)

-- ---- the loops' numbers
loops_long : (ls : List Line) (hs : List ℕ) (c : TurnCounts) → line_rows ls ≡ hs → length (loop_numbers ls hs c) ≡ 3 * length ls
unfolding loop_numbers line_rows
loops_long [] hs c e = refl
loops_long (l ∷ ls) [] c e = absurd (omega (arith, ap length e))
loops_long (l ∷ ls) (p ∷ hs) c e = let z = loops_long ls hs c (ap (drop 1) e) in omega arith

three_pass : (x y z most total : ℕ) → x ≤ most → x ≤ y → y ≤ total → x ≤ z → z ≤ y → z ≤ most → (bs : List Bool) → Yes bs
    → Yes (leb x most ∷ (leb x y && leb y total) ∷ (leb x z && (leb z y && leb z most)) ∷ bs)
three_pass x y z most total a b c d e f bs h =
    some (le→leb x most a)
    (some (and_in (leb x y) (leb y total) (le→leb x y b) (le→leb y total c))
    (some (and_in (leb x z) (leb z y && leb z most) (le→leb x z d) (and_in (leb z y) (leb z most) (le→leb z y e) (le→leb z most f))) h))

loops_pass : (ls : List Line) (hs : List ℕ) (c : TurnCounts) (rest : List ℕ) → line_rows ls ≡ hs → Yes (loop_checks ls (loop_numbers ls hs c ++ rest))
unfolding loop_numbers loop_checks line_rows
loops_pass [] hs c rest e = none
loops_pass (l ∷ ls) [] c rest e = absurd (omega (arith, ap length e))
loops_pass (l ∷ ls) (p ∷ hs) c rest e =
    let all : ℕ = min (c.sum p) l.total in
    let most : ℕ = min (min (c.most p) l.turns) all in
    three_pass (min (c.turns p) most) all most l.turns l.total (omega arith) (omega arith) (omega arith) (omega arith) (omega arith) (omega arith) _
    (loops_pass ls hs c rest (ap (drop 1) e))

-- ---- the first six
module _ (π : Prices) (script : Script) where
  abbrev rows : List RowKind
  rows = script.rows

  abbrev vars : ℕ
  vars = length script.ranges

  abbrev Fits : Stand → Type 0
  Fits = StandFits vars rows (matching_head script)

  is_pick_yes : (v : View) → v ≡ is_pick → T (is_pick_row v)
  unfolding is_pick_row
  is_pick_yes v e = subst (λ w. T (is_pick_row w)) (sym e) tt

  row_of : (P : View → Type 0) → (P is_end → ⊥) → (i : ℕ) (ks : List RowKind) → P (view_at ks i) → i < length ks
  unfolding view_of
  row_of P not_end i [] h = absurd (not_end h)
  row_of P not_end zero (k ∷ ks) h = omega arith
  row_of P not_end (suc i) (k ∷ ks) h = let l = row_of P not_end i ks h in omega arith

  none_there : 1 ≤ length (cue_of is_end) → ⊥
  unfolding cue_of
  none_there l = omega arith

  phase_pass : (m : Place) → PlaceFits vars rows (matching_head script) m → (ph : Phase) → m.phase ≡ ph → T (phase_fits script 0 m.row (phase_number ph))
  unfolding phase_fits phase_number ends_loop
  phase_pass m h fresh e = tt
  phase_pass m h testing e =
      let l = h.test e in
      and_in (ltb m.row (length rows)) (ends_loop (view_at rows m.row) (view_at rows (matching_head script m.row))) (le→leb _ _ l.row) (subst (λ v. T (ends_loop v (view_at rows (matching_head script m.row)))) (sym l.end) (subst T (sym l.loop) tt))

  -- of a standing that a step may find and that fits the script
  head_pass : (a : Stand) → CanStand π rows a → Fits a → (ticks used : ℕ) → used ≤ ticks → ticks ≤ report_ticks π script → (rest : List ℕ)
      → Yes (head_checks π script (report_ticks π script) (status_number a ∷ place_row a ∷ phase_at a ∷ carried_at a ∷ ticks ∷ used ∷ rest))
  unfolding head_checks status_number place_row phase_at carried_at row_fits left_fits phase_fits is_cue is_pick_row
  head_pass (going m) (r, l) h ticks used u t rest =
      some tt (some (le→leb _ _ r) (some (phase_pass m h m.phase refl) (some (le→leb _ _ l) (some (le→leb _ _ t) (some (le→leb _ _ u) none)))))
  head_pass (waits m) (v, l) h ticks used u t rest =
      some tt (some (and_in (ltb m.row (length rows)) (is_pick_row (view_at rows m.row)) (le→leb _ _ (row_of (λ w. T (is_pick_row w)) (λ z. z) m.row rows (is_pick_yes _ v))) (is_pick_yes _ v))
      (some tt (some (le→leb _ _ l) (some (le→leb _ _ t) (some (le→leb _ _ u) none)))))
  head_pass (full m) (v, l) h ticks used u t rest =
      some tt (some (and_in (ltb m.row (length rows)) (is_cue (view_at rows m.row)) (le→leb _ _ (row_of (λ w. 1 ≤ length (cue_of w)) none_there m.row rows v)) (le→leb _ _ v))
      (some tt (some (le→leb _ _ l) (some (le→leb _ _ t) (some (le→leb _ _ u) none)))))
  head_pass (finished Ended i s c) can (e, z, k) ticks used u t rest =
      some tt (some (subst (λ n. T (eqb i n)) e (eqb_refl i)) (some tt (some tt (some (le→leb _ _ t) (some (le→leb _ _ u) none)))))
  head_pass (finished Ending.Range i s c) can (e, z, k) ticks used u t rest =
      some tt (some (le→leb _ _ e) (some tt (some tt (some (le→leb _ _ t) (some (le→leb _ _ u) none)))))
  head_pass (finished Spent i s c) can h ticks used u t rest = absurd can
  head_pass (finished NoPick i s c) can h ticks used u t rest = absurd can

  -- ---- all 64
  abbrev loops_of : Stand → List ℕ
  loops_of a = loop_numbers (report_lines script) (loop_rows 0 rows) (counts_at_stand a)

  abbrev rest_of : Stand → List ℕ
  rest_of a = replicate (state_size - loops_from - length (loops_of a)) 0

  numbers_long : Legal script → (ticks used : ℕ) (a : Stand) → length (state_numbers π script ticks used a) ≡ state_size
  unfolding state_numbers
  numbers_long legal ticks used a =
      let n = loops_long (report_lines script) (loop_rows 0 rows) (counts_at_stand a) (lines_at_heads script legal) in
      let few = lines_few script legal in
      let l = length-append (loops_of a) (rest_of a) in
      let z = length-replicate {A = ℕ} (state_size - loops_from - length (loops_of a)) 0 in
      omega arith

  -- the numbers after those of the loops
  rest_at : Legal script → (ticks used : ℕ) (a : Stand)
      → drop (loops_from + 3 * length (report_lines script)) (state_numbers π script ticks used a) ≡ rest_of a
  unfolding state_numbers
  rest_at legal ticks used a =
      let n = loops_long (report_lines script) (loop_rows 0 rows) (counts_at_stand a) (lines_at_heads script legal) in
      sym (drop-drop (3 * length (report_lines script)) loops_from (state_numbers π script ticks used a)) ∙ ap (λ k. drop k (loops_of a ++ rest_of a)) (sym n) ∙ drop-append_seam (loops_of a) (rest_of a)

  module _ (legal : Legal script) (ticks used : ℕ) (a : Stand) (can : CanStand π rows a) (h : Fits a) where
    abbrev ns : List ℕ
    ns = state_numbers π script ticks used a

    pass_head : Yes (head_checks π script (report_ticks π script) ns)
    unfolding state_numbers
    pass_head = head_pass a can h (min ticks (report_ticks π script)) (min used (min ticks (report_ticks π script))) (omega arith) (omega arith) (replicate 10 0 ++ (loops_of a ++ rest_of a))

    pass_unused : Yes (zero_checks (take 10 (drop 6 ns)))
    unfolding state_numbers
    pass_unused = yes_zeros 10

    pass_loops : Yes (loop_checks (report_lines script) (drop loops_from ns))
    unfolding state_numbers
    pass_loops = loops_pass (report_lines script) (loop_rows 0 rows) (counts_at_stand a) (rest_of a) (lines_at_heads script legal)

    pass_rest : Yes (zero_checks (drop (loops_from + 3 * length (report_lines script)) ns))
    pass_rest = subst (λ l. Yes (zero_checks l)) (sym (rest_at legal ticks used a)) (yes_zeros (state_size - loops_from - length (loops_of a)))

    pub numbers_pass : state_verdict π script ns ≡ passed
    unfolding state_verdict state_checks
    numbers_pass =
        by (eqb (length ns) state_size) (subst (λ n. T (eqb n state_size)) (sym (numbers_long legal ticks used a)) tt) _ _
        (all_yes 0 _ (yes_join _ _ pass_head (yes_join _ _ pass_unused (yes_join _ _ pass_loops pass_rest))))
      where
        by : (b : Bool) → T b → (v w : Verdict) → v ≡ passed → cond b v w ≡ passed
        by true t v w e = e
        by false t v w e = absurd t
