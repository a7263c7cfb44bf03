-- Where a test is to come, a loop ends. Assumes nothing.
use mathlib.Core.Path.{◌≡◌, refl, sym, subst}
use mathlib.Core.Bool.{Bool, true, false}
use mathlib.Core.List.{List, []}
use Prim.Native.Nat.{ℕ, suc, ◌<◌}
use native.Mathlib.Omega.{arith}
use lib.Dec.{ltb}
use lib.ListN.{length}
use borrow.Author.Tests.{ltb-true}
use Rattle.rules.specs.declared.Prices.{Prices}
use Rattle.rules.specs.declared.Ending.TheVariants.{Ended}
use Rattle.rules.specs.Blocks.{RowKind, Form, Last, Test, while, do_while, hold, for, no_step, step_by, View, is_plain, is_pick, is_else, is_end, is_loop, view_at, Block, build, parts, to_end}
use Rattle.rules.specs.Calls.{is_loop_row}
use Rattle.rules.specs.Run.{State, Out, holds}
use Rattle.rules.proofs.Outcomes.{decide_elim, thru_all}
use Rattle.rules.proofs.Rows.{block_loop}
use Rattle.rules_machine.specs.RowMachine.{TurnCounts, Phase, fresh, testing, Place, Next, more, over, to, chosen, outcome, tests, on_end, on_row, next, Opens, pairs}
use Rattle.rules_machine.proofs.PairsIn.{partners}
use Rattle.rules_machine.proofs.StaysIn.{Goes, on, stops, goes_outcome, goes_paid, goes_picked}
use Rattle.run_machine.specs.Steps.{step_of, EndsLoop}

-- a place is so
abbrev Ends : List RowKind → Place → Type 0
Ends rows m = m.phase ≡ testing → EndsLoop rows m.row

abbrev Tests : List RowKind → Next → Type 0
Tests rows = Goes (Ends rows)

module _ {rows : List RowKind} where
  to_row : (j : ℕ) (s : State) (c : TurnCounts) → Tests rows (to j fresh s c)
  to_row j s c = on {p = record { row = j; phase = fresh; now = s; tally = c }} (λ e. absurd (let z : ◌≡◌ {A = ℕ} 0 1 = cc in omega arith))

  to_test : (j : ℕ) (s : State) (c : TurnCounts) → EndsLoop rows j → Tests rows (to j testing s c)
  to_test j s c w = on {p = record { row = j; phase = testing; now = s; tally = c }} (λ _. w)

  by_outcome : (o : Out) (c : TurnCounts) {k : State → Next} → ((s : State) → Tests rows (k s)) → Tests rows (outcome o c k)
  by_outcome o c f = goes_outcome {R = λ _. Unit {0}} c (thru_all o (λ _. tt)) (λ u _. f u)

module _ (π : Prices) (rows : List RowKind) (tree : Block) (whole : build 0 rows ≡ parts (to_end (length rows) tree) []) where
  abbrev matching_end_lem : ℕ → ℕ
  matching_end_lem = (pairs rows (length rows)).end

  abbrev matching_head_lem : ℕ → ℕ
  matching_head_lem = (pairs rows (length rows)).head

  ends_loop_lem : (i : ℕ) → i < length rows → {form : Form} {t : Test} {last : Last} → view_at rows i ≡ is_loop form t last → EndsLoop rows (matching_end_lem i)
  unfolding is_loop_row
  ends_loop_lem i l {form} {t} {last} w =
      let fit = partners rows tree whole in
      let at = block_loop rows tree whole i l form t last w in
      let open-it : Opens (view_at rows i) = subst Opens (sym w) tt in
      subst (EndsLoop rows) (sym (fit.matching_ends i l open-it)) (record { row = at.in_rows; end = at.ends; loop = rw (fit.opens i l open-it, w) })

  by_tests : (h e : ℕ) (t : Test) (s : State) (c : TurnCounts) → Tests rows (tests π h e t s c)
  unfolding tests
  by_tests h e t s c = goes_paid _ h s c _ λ n. decide_elim (Tests rows) (holds t s.store) (λ _. to_row _ _ _) (λ _. to_row _ _ _) stops

  by_end : (w : View) (e : ℕ) → e < length rows → view_at rows e ≡ is_end → view_at rows (matching_head_lem e) ≡ w → (ph : Phase) (s : State) (c : TurnCounts)
      → Tests rows (on_end π rows matching_end_lem matching_head_lem w (matching_head_lem e) e ph s c)
  unfolding on_end is_loop_row
  by_end (is_plain p) e l a b ph s c = to_row _ s c
  by_end is_pick e l a b ph s c = to_row _ s c
  by_end is_else e l a b ph s c = to_row _ s c
  by_end is_end e l a b ph s c = to_row _ s c
  by_end (is_loop form t last) e l a b testing s c = by_tests _ e t s c
  by_end (is_loop form t no_step) e l a b fresh s c = to_test e s c (record { row = l; end = a; loop = rw b })
  by_end (is_loop form t (step_by p)) e l a b fresh s c = by_outcome _ _ (λ u. to_test e u c (record { row = l; end = a; loop = rw b }))

  by_row : (w : View) (i : ℕ) → i < length rows → view_at rows i ≡ w → (ph : Phase) (s : State) (c : TurnCounts) → Tests rows (on_row π rows matching_end_lem matching_head_lem w i ph s c)
  unfolding on_row
  by_row (is_plain p) i l a ph s c = by_outcome _ _ (λ u. to_row _ u c)
  by_row is_pick i l a ph s c = goes_paid _ i s c _ λ n. goes_picked i _ s.picks _ c (λ bs. to_row _ _ c) (λ bs. to_row _ _ c)
  by_row is_else i l a ph s c = to_row _ s c
  by_row is_end i l a ph s c = by_end _ i l a refl ph s c
  by_row (is_loop while t last) i l a ph s c = to_test _ s _ (ends_loop_lem i l a)
  by_row (is_loop hold t last) i l a ph s c = to_test _ s _ (ends_loop_lem i l a)
  by_row (is_loop do_while t last) i l a ph s c = to_row _ s _
  by_row (is_loop (for x) t last) i l a ph s c = by_outcome _ _ (λ u. to_test _ u _ (ends_loop_lem i l a))

  step_tests : (m : Place) → Tests rows (step_of π rows m)
  unfolding next chosen
  step_tests m = by (ltb m.row (length rows)) refl
    where
      by : (b : Bool) → ltb m.row (length rows) ≡ b
          → Tests rows (chosen b (on_row π rows matching_end_lem matching_head_lem (view_at rows m.row) m.row m.phase m.now m.tally) (over Ended (length rows) m.now m.tally))
      by true e = by_row _ m.row (ltb-true _ _ e) refl m.phase m.now m.tally
      by false e = stops

  -- after a step
  pub tests_at : (m p : Place) → step_of π rows m ≡ more p → p.phase ≡ testing → EndsLoop rows p.row
  tests_at m p e = by (subst (Tests rows) e (step_tests m))
    where
      by : {p : Place} → Tests rows (more p) → p.phase ≡ testing → EndsLoop rows p.row
      by (on f) = f
