-- Each op: what its row asks, and that it does one step. Assumes nothing.
use mathlib.Core.Path.{◌≡◌, refl, sym, ◌∙◌, ap, subst}
use mathlib.Core.Bool.{Bool, true, false}
use mathlib.Core.List.{List}
use mathlib.Core.Logic.{◌⊎◌, inl, inr}
use Prim.Native.Nat.{ℕ, zero, suc, ◌+◌, ◌%◌, ◌≤◌, ◌<◌}
use native.Mathlib.Numerals.{add-one}
use native.Mathlib.Omega.{arith}
use borrow.Author.Tests.{ltb-true, ltb-false}
use lib.Dec.{ltb}
use lib.IntN.{ℤ}
use lib.ListN.{length}
use Rattle.rules.specs.declared.Kind.{Kind}
use Rattle.rules.specs.declared.Kind.TheVariants.{Set, Move, Cue, Pick, Else, While, Do, For, Off, Hold}
use Rattle.rules.specs.declared.Prices.{Prices}
use Rattle.rules.specs.Blocks.{Plain, assign, cue, changed, is_plain, view_of, kind_of, RowKind}
use Rattle.rules.specs.Calls.{is_loop_row, loop_rows}
use Rattle.rules.specs.Run.{exec}
use Rattle.rules.specs.Scripts.{ChangeLimits}
use Rattle.rules_machine.specs.RowMachine.{TurnCounts, begin, turn, fresh, testing, to, outcome, on_row, Opens, pairs}
use Rattle.table.specs.declared.Tag.{Tag}
use Rattle.table.specs.Code.{change_in, number, op_in, variable_in, partner_in, step_in, tag_in, kind_by, kind_in}
use Rattle.table.proofs.Numbers.{tag_hold}
use Rattle.table.proofs.Pairing.{heads_rise}
use Rattle.run_actions.specs.declared.Machine.{Machine}
use Rattle.run_actions.specs.States.{phase_of, tally_of, state_of, on_at, plain_to, pick_to, Acts}
use Rattle.run_machine.specs.Steps.{script_in, AtRow, Stepped}
use Rattle.run_machine.specs.Rows.{row_of, set_of, move_of, off_of, InTable, SetRow, MoveRow, OffRow, LoopRow, ForRow, Does, StepDone, ForBegun, DoBegun, WhileBegun}
use Rattle.run_machine.proofs.Laws.{acts_as, passed}
use Rattle.run_machine.proofs.Rows.{kind_op, kind_set, kind_for, RowIs, row_is, Partner, partner_of, LoopIs, loop_of_lem, room_at, stepped, row_step_lem, end_step}

-- no number below k
abbrev pub NoneBelow : ℕ → ℕ → Type 0
NoneBelow zero op = Unit {0}
NoneBelow (suc k) op = NoneBelow k op × (op ≡ k → ⊥)

pub none_below : (k op : ℕ) → NoneBelow k op → k ≤ op
none_below zero op h = omega arith
none_below (suc k) op (h, n) = let l = none_below k op h in let d : op ≡ k → ⊥ = n in omega arith

-- the ops from 17 on but for 18: a while or a hold
pub waits : (op : ℕ) → 17 ≤ op → (op ≡ 18 → ⊥) → (tag_in op ≡ Tag.While) ⊎ (tag_in op ≡ Tag.Hold)
waits op l n = by (ltb op 18) refl
  where
    by : (b : Bool) → ltb op 18 ≡ b → (tag_in op ≡ Tag.While) ⊎ (tag_in op ≡ Tag.Hold)
    by true e = let h = ltb-true op 18 e in let q : op ≡ 17 = omega arith in inl (ap tag_in q)
    by false e = let h = ltb-false op 18 e in let d : op ≡ 18 → ⊥ = n in inr (tag_hold op (omega arith))

module _ {text t : List ℕ} {count : ℕ} {m : Machine} {store : List ℤ} {counts : List (List ℕ)} (a : AtRow text t count m store counts) where
  abbrev n : List ℕ
  n = row_of t m

  abbrev script : List RowKind
  script = script_in text t count

  abbrev vars : ℕ
  vars = length store

  pub row : (k : Kind) → kind_in n ≡ k → RowIs text t count vars m.row k
  row k q = row_is a.script m.row a.row k q

  in_table : {k : Kind} → RowIs text t count vars m.row k → variable_in n < vars → InTable m.row t vars
  in_table r l = record { small = r.small; size = r.size; variable = l }

  -- ---- what they ask
  pub set_row_lem : (op : ℕ) → op_in n ≡ op → tag_in op ≡ Tag.Set → SetRow (op % 4) m text t vars
  unfolding kind_of
  set_row_lem op q g = let r = row _ (kind_set n op q g) in record { row = in_table r r.below.0; operand = record { written = r.written; below = r.below.1 } }

  pub move_row_lem : (op : ℕ) → op_in n ≡ op → tag_in op ≡ Tag.Move → MoveRow (op % 4) m t vars
  unfolding kind_by kind_of
  move_row_lem op q g =
      let r = row (Move (variable_in n) (step_in n)) (kind_op n op q Tag.Move g) in
      record { row = in_table r r.below; change = subst ChangeLimits (sym r.test ∙ ap (λ o. change_in (o % 4) (number n 3)) q) r.limits }

  pub off_row_lem : op_in n ≡ 16 → OffRow m.row t vars
  unfolding kind_by kind_of
  off_row_lem q = let r = row (kind_by Tag.Off n) (kind_op n 16 q Tag.Off refl) in record { row = in_table r r.below.0; watched = r.below.1; code = r.test }

  -- the block that it begins
  partner : (k : Kind) → kind_in n ≡ k → Opens (view_of (kind_of text k)) → Partner text t count m.row
  partner k q o = partner_of a.script m.row a.row (subst Opens (sym (row k q).view) o)

  pub partner_small : (k : Kind) → kind_in n ≡ k → Opens (view_of (kind_of text k)) → partner_in n < 256
  partner_small k q o = omega (arith, (partner k q o).size, a.script.table.size)

  loop : (k : Kind) → kind_in n ≡ k → Opens (view_of (kind_of text k)) → is_loop_row (view_of (kind_of text k)) ≡ true → LoopIs text t count m.row (partner_in n)
  loop k q o b = let r = row k q in loop_of_lem a.script m.row a.row (subst Opens (sym r.view) o) (ap is_loop_row r.view ∙ b)

  loop_row : (k : Kind) → kind_in n ≡ k → Opens (view_of (kind_of text k)) → is_loop_row (view_of (kind_of text k)) ≡ true → LoopRow m t counts
  loop_row k q o b = let r = row k q in record { small = r.small; size = r.size; end = (partner k q o).size; room = room_at a.script a.room (loop k q o b).few }

  pub for_row_lem : (op : ℕ) → op_in n ≡ op → tag_in op ≡ Tag.For → ForRow (op % 4) m text t vars counts
  unfolding view_of kind_of is_loop_row
  for_row_lem op q g =
      let e = kind_for n op q g in
      let r = row _ e in
      record { start = record { row = in_table r r.below.0; operand = record { written = r.written.0; below = r.below.1 } }; loop = loop_row _ e tt refl }

  pub do_row_lem : op_in n ≡ 18 → LoopRow m t counts
  unfolding kind_by view_of kind_of is_loop_row
  do_row_lem q = loop_row (kind_by Tag.Do n) (kind_op n 18 q Tag.Do refl) tt refl

  pub while_row_lem : (op : ℕ) → op_in n ≡ op → (tag_in op ≡ Tag.While) ⊎ (tag_in op ≡ Tag.Hold) → LoopRow m t counts
  unfolding kind_by view_of kind_of is_loop_row
  while_row_lem op q (inl g) = loop_row (kind_by Tag.While n) (kind_op n op q Tag.While g) tt refl
  while_row_lem op q (inr g) = loop_row (kind_by Tag.Hold n) (kind_op n op q Tag.Hold g) tt refl

  -- ---- what they do
  module _ (π : Prices) (picks : List ℕ) where
    abbrev c : TurnCounts
    c = tally_of (loop_rows 0 script) counts

    abbrev Steps : Machine → List ℤ → List (List ℕ) → Type 0
    Steps r store' counts' = Stepped π script m r store store' picks counts counts'

    plain : {r : Machine} {store' : List ℤ} (k : Kind) (p : Plain) → kind_in n ≡ k → view_of (kind_of text k) ≡ is_plain p → Does π m r store store' p → Steps r store' counts
    unfolding on_row
    plain k p q v d =
        let i = m.row in
        let s = state_of m store picks in
        let e : plain_to π i p (i + 1) false s c ≡ outcome (exec π i p s) c (λ u. to (suc i) fresh u c) = ap (λ j. plain_to π i p j false s c) (add-one i) in
        record {
          acts = acts_as refl (e ∙ sym (row_step_lem a π picks c k q ∙ ap (λ w. on_row π script (pairs script (length script)).end (pairs script (length script)).head w i fresh s c) v)) (d picks c);
          long = a.room.long;
        }

    pub set_done : {r : Machine} {store' : List ℤ} (op : ℕ) → op_in n ≡ op → tag_in op ≡ Tag.Set → Does π m r store store' (set_of text (op % 4) n) → Steps r store' counts
    unfolding view_of kind_of
    set_done op q g d = plain _ (set_of text (op % 4) n) (kind_set n op q g) refl d

    pub move_done : {r : Machine} {store' : List ℤ} (op : ℕ) → op_in n ≡ op → tag_in op ≡ Tag.Move → Does π m r store store' (move_of (op % 4) n) → Steps r store' counts
    unfolding kind_by view_of kind_of
    move_done op q g d =
        let e = kind_op n op q Tag.Move g in
        plain (Move (variable_in n) (step_in n)) (move_of (op % 4) n) e
        (ap (λ z. is_plain (assign (variable_in n) (changed z))) (sym (row (Move (variable_in n) (step_in n)) e).test ∙ ap (λ o. change_in (o % 4) (number n 3)) q)) d

    pub off_done : {r : Machine} {store' : List ℤ} → op_in n ≡ 16 → Does π m r store store' (off_of n) → Steps r store' counts
    unfolding kind_by view_of kind_of
    off_done q d = plain (kind_by Tag.Off n) (off_of n) (kind_op n 16 q Tag.Off refl) refl d

    pub cue_done : {r : Machine} → op_in n ≡ 11 → Does π m r store store (cue (number n 3)) → Steps r store counts
    unfolding kind_by view_of kind_of
    cue_done q d = plain (kind_by Tag.Cue n) (cue (number n 3)) (kind_op n 11 q Tag.Cue refl) refl d

    pub pick_done : {r : Machine} {j : ℕ} → op_in n ≡ 7 → j ≡ partner_in n → Acts m r store picks c (pick_to π m.row (j + 1) (state_of m store picks) c) → Steps r store counts
    unfolding kind_by view_of kind_of on_row
    pick_done {j = j} q g d =
        let e = kind_op n 7 q Tag.Pick refl in
        record { acts = acts_as refl (ap (λ z. pick_to π m.row z (state_of m store picks) c) (add-one j ∙ ap suc (g ∙ (partner Pick e tt).partner)) ∙ sym (row_step_lem a π picks c Pick e)) d; long = a.room.long }

    -- on without a tick
    goes_on : {r : Machine} {j : ℕ} {b : Bool} {counts' : List (List ℕ)} (d : TurnCounts) → length counts' ≡ 16 → tally_of (loop_rows 0 script) counts' ≡ d → r ≡ on_at m m.left j b
        → stepped a π picks c ≡ to j (phase_of b) (state_of m store picks) d → Steps r store counts'
    goes_on {j = j} {b = b} d l e q w = record { acts = rw q (acts_as (sym e) (sym w) (passed m store picks d j b)); long = l }

    pub else_done : {r : Machine} {j : ℕ} → op_in n ≡ 3 → j ≡ partner_in n → r ≡ on_at m m.left (j + 1) false → Steps r store counts
    unfolding kind_by view_of kind_of on_row
    else_done {j = j} q g d =
        let e = kind_op n 3 q Tag.Else refl in
        goes_on c a.room.long refl d (row_step_lem a π picks c Else e ∙ ap (λ z. to z fresh (state_of m store picks) c) (sym (add-one j ∙ ap suc (g ∙ (partner Else e tt).partner))))

    pub end_done : {r : Machine} → op_in n ≡ 0 → r ≡ on_at m m.left (m.row + 1) false → Steps r store counts
    end_done q d = goes_on c a.room.long refl d (end_step a π picks c 0 q refl ∙ ap (λ z. to z fresh (state_of m store picks) c) (sym (add-one m.row)))

    pub test_done : {r : Machine} → op_in n ≡ 1 → r ≡ on_at m m.left m.row true → Steps r store counts
    test_done q d = goes_on c a.room.long refl d (end_step a π picks c 1 q refl)

    pub step_done : {r : Machine} {store' : List ℤ} → op_in n ≡ 2 → StepDone π m r store store' n → Steps r store' counts
    step_done q d = record { acts = acts_as refl (sym (end_step a π picks c 2 q refl)) (d picks c); long = a.room.long }

    abbrev heads : List ℕ
    heads = loop_rows 0 script

    pub for_done : {r : Machine} {store' : List ℤ} {counts' : List (List ℕ)} (op : ℕ) → op_in n ≡ op → tag_in op ≡ Tag.For → ForBegun π (op % 4) m r text t store store' counts counts' → Steps r store' counts'
    unfolding view_of kind_of is_loop_row on_row
    for_done op q g d =
        let e = kind_for n op q g in
        let l = loop _ e tt refl in
        let s = state_of m store picks in
        record {
          acts = acts_as refl ((λ z. outcome (exec π m.row (set_of text (op % 4) n) s) c (λ u. to ((partner _ e tt).partner z) testing u (begin (l.place z) c))) ∙ sym (row_step_lem a π picks c _ e))
              (d.acts picks heads (heads_rise script 0) l.few);
          long = d.long;
        }

    pub do_done : {r : Machine} {counts' : List (List ℕ)} → op_in n ≡ 18 → DoBegun m r t counts counts' → Steps r store counts'
    unfolding kind_by view_of kind_of is_loop_row on_row
    do_done q d =
        let e = kind_op n 18 q Tag.Do refl in
        let l = loop (kind_by Tag.Do n) e tt refl in
        let i = m.row in
        goes_on (turn i (begin i c)) d.long (d.same heads (heads_rise script 0) l.few ∙ ap (λ h. turn h (begin h c)) l.place) d.machine
        (row_step_lem a π picks c (kind_by Tag.Do n) e ∙ ap (λ z. to z fresh (state_of m store picks) (turn i (begin i c))) (sym (add-one i)))

    pub while_done : {r : Machine} {counts' : List (List ℕ)} (op : ℕ) → op_in n ≡ op → (tag_in op ≡ Tag.While) ⊎ (tag_in op ≡ Tag.Hold) → WhileBegun m r t counts counts' → Steps r store counts'
    unfolding kind_by view_of kind_of is_loop_row on_row
    while_done {r} {counts'} op q g d = by g
      where
        begun : (k : Kind) (e : kind_in n ≡ k) (o : Opens (view_of (kind_of text k))) (b : is_loop_row (view_of (kind_of text k)) ≡ true)
            → stepped a π picks c ≡ to ((pairs script (length script)).end m.row) testing (state_of m store picks) (begin m.row c) → Steps r store counts'
        begun k e o b w =
            let l = loop k e o b in
            goes_on (begin m.row c) d.entry.long (d.entry.same heads (heads_rise script 0) l.few ∙ ap (λ h. begin h c) l.place) d.machine
            (w ∙ ap (λ z. to z testing (state_of m store picks) (begin m.row c)) (sym (partner k e o).partner))

        by : (tag_in op ≡ Tag.While) ⊎ (tag_in op ≡ Tag.Hold) → Steps r store counts'
        by (inl g) = let e = kind_op n op q Tag.While g in begun (kind_by Tag.While n) e tt refl (row_step_lem a π picks c (kind_by Tag.While n) e)
        by (inr g) = let e = kind_op n op q Tag.Hold g in begun (kind_by Tag.Hold n) e tt refl (row_step_lem a π picks c (kind_by Tag.Hold n) e)
