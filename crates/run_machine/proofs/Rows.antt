-- The rows of a script in a table that may be run. Assumes nothing.
use mathlib.Core.Path.{◌≡◌, refl, sym, ◌∙◌, ap, subst}
use mathlib.Core.Bool.{true, cond}
use mathlib.Core.List.{List}
use mathlib.Core.Logic.{inr}
use Prim.Native.Nat.{ℕ, suc, ◌+◌, ◌*◌, ◌%◌, ◌<◌}
use native.Mathlib.Omega.{arith}
use lib.Dec.{eqb}
use lib.IntN.{ℤ}
use lib.ListN.{length, get_or}
use Rattle.rules.specs.declared.Kind.{Kind}
use Rattle.rules.specs.declared.Kind.TheVariants.{Set, Move, Cue, Pick, Else, End, While, Do, For, Off, Hold}
use Rattle.rules.specs.declared.Comparison.{Comparison}
use Rattle.rules.specs.declared.Operand.{Operand}
use Rattle.rules.specs.declared.Prices.{Prices}
use Rattle.rules.specs.Blocks.{RowKind, expr_of, kind_of, changed, assign, Test, test, Form, while, do_while, hold, for, Last, no_step, step_by, View, is_plain, is_pick, is_else, is_end, is_loop, view_of, view_at}
use Rattle.rules.specs.Blocks
use Rattle.rules.specs.Calls.{is_loop_row, loop_rows}
use Rattle.rules.specs.Run.{State, exec}
use Rattle.rules.specs.Scripts.{ChangeLimits, RowLimits, ExprBelow, RowBelow}
use Rattle.rules.specs.Written.{Written}
use Rattle.rules.proofs.Laws.{no_true, kinds_first, kind_of_lem}
use Rattle.rules.proofs.TreeOf.{tree_of_lem}
use Rattle.rules_machine.specs.RowMachine.{TurnCounts, fresh, testing, Next, to, outcome, tests, on_end, on_row, Opens, Partners, pairs}
use Rattle.rules_machine.proofs.RowMachineRuns.{next_row}
use Rattle.rules_machine.proofs.PairsIn.{partners}
use Rattle.table.specs.declared.Tag.{Tag}
use Rattle.table.specs.Code.{operand_in, number, op_in, variable_in, comparison_by, comparison_in, partner_in, limit_in, step_in, tag_in, kind_by, kind_in, numbers_at, rows_of}
use Rattle.table.specs.Packing.{IsComparison, TestIn, TestOf}
use Rattle.table.specs.Paired.{end_op, EndRow}
use Rattle.table.proofs.Laws.{kind_in_lem, rows_length}
use Rattle.table.proofs.Limits.{all_get}
use Rattle.table.proofs.Pairing.{loop_place}
use Rattle.table.proofs.Same.{test_of}
use Rattle.run_actions.specs.declared.Machine.{Machine}
use Rattle.run_actions.specs.States.{RoomAt, phase_of, state_of, place_of}
use Rattle.run_machine.specs.Steps.{script_in, Runs, Room, step_of, AtRow, AtTest}
use Rattle.run_machine.specs.Rows.{row_of, Readable, StepRow}

-- ---- the kind of a row by its op
module _ (e : List ℕ) (op : ℕ) (q : op_in e ≡ op) where
  pub kind_op : (g : Tag) → tag_in op ≡ g → kind_in e ≡ kind_by g e
  unfolding kind_in
  kind_op g p = ap (λ o. kind_by (tag_in o) e) q ∙ ap (λ z. kind_by z e) p

  pub kind_set : tag_in op ≡ Tag.Set → kind_in e ≡ Set (variable_in e) (operand_in (op % 4) (number e 1))
  unfolding kind_by
  kind_set g = kind_op Tag.Set g ∙ ap (λ o. Set (variable_in e) (operand_in (o % 4) (number e 1))) q

  pub kind_for : tag_in op ≡ Tag.For → kind_in e ≡ For (variable_in e) (operand_in (op % 4) (number e 1)) (comparison_by (comparison_in e)) (limit_in e) (step_in e)
  unfolding kind_by
  kind_for g = kind_op Tag.For g ∙ ap (λ o. For (variable_in e) (operand_in (o % 4) (number e 1)) (comparison_by (comparison_in e)) (limit_in e) (step_in e)) q

-- ---- the rows of a script that may be run
-- row i, of kind k
pub record RowIs (text t : List ℕ) (count vars i : ℕ) (k : Kind) : Type 0 where
  pub inside : i < length (script_in text t count)
  pub small : i < 256
  pub size : 4 * i + 3 < length t
  pub view : view_at (script_in text t count) i ≡ view_of (kind_of text k)
  pub limits : RowLimits (kind_of text k)
  pub below : RowBelow vars (kind_of text k)
  pub written : Written text k
  pub test : TestOf k (numbers_at t i)

-- row i begins a block, which row `partner` closes
pub record Partner (text t : List ℕ) (count i : ℕ) : Type 0 where
  pub partner : partner_in (numbers_at t i) ≡ (pairs (script_in text t count) (length (script_in text t count))).end i
  pub size : 4 * partner_in (numbers_at t i) + 3 < length t

-- row e is the `end` of a loop of this number, whose head is row h
pub record LoopIs (text t : List ℕ) (count h e : ℕ) : Type 0 where
  pub place : get_or (loop_rows 0 (script_in text t count)) (number (numbers_at t e) 1) 0 ≡ h
  pub few : number (numbers_at t e) 1 < length (loop_rows 0 (script_in text t count))

module _ {text t : List ℕ} {count vars : ℕ} (s : Runs text t count vars) where
  abbrev script : List RowKind
  script = script_in text t count

  abbrev ends : ℕ → ℕ
  ends = (pairs script (length script)).end

  abbrev heads : ℕ → ℕ
  heads = (pairs script (length script)).head

  pub size_is : length script ≡ count
  size_is = kinds_first text count (rows_of t) (omega (arith, rows_length t, s.table.size, s.size))

  pub row_is : (i : ℕ) → i < count → (k : Kind) → kind_in (numbers_at t i) ≡ k → RowIs text t count vars i k
  row_is i h k q =
      let l : i < length script = subst (λ n. i < n) (sym size_is) h in
      let small : 4 * i + 3 < length t = omega (arith, s.size, s.table.size) in
      let e = kind_of_lem text count (rows_of t) i h ∙ ap (kind_of text) (kind_in_lem t i small ∙ q) in
      record {
        inside = l;
        small = omega (arith, s.size);
        size = small;
        view = ap view_of e;
        limits = subst RowLimits e (all_get script s.runs.limits i l Blocks.End);
        below = subst (RowBelow vars) e (all_get script s.runs.below i l Blocks.End);
        written = subst (Written text) (kind_in_lem t i small ∙ q) (s.written i h);
        test = subst (λ z. TestOf z (numbers_at t i)) q (s.table.tests i h);
      }

  pub partner_of : (i : ℕ) → i < count → Opens (view_at script i) → Partner text t count i
  partner_of i h o =
      let (tree, whole) = tree_of_lem script s.runs.closed.0 s.runs.closed.1 in
      let fit : Partners script ends heads = partners script tree whole in
      let l : i < length script = subst (λ n. i < n) (sym size_is) h in
      record {
        partner = s.table.partners.matching_ends i l o ∙ sym (fit.matching_ends i l o);
        size = omega (arith, (s.table.partners.ahead i l o).1, s.size, s.table.size, size_is);
      }

  -- the loop that row i begins
  pub loop_of_lem : (i : ℕ) → i < count → Opens (view_at script i) → is_loop_row (view_at script i) ≡ true → LoopIs text t count i (partner_in (numbers_at t i))
  loop_of_lem i h o b =
      let l : i < length script = subst (λ n. i < n) (sym size_is) h in
      subst (LoopIs text t count i) (sym (s.table.partners.matching_ends i l o)) (record { place = (s.table.loops i h b).place; few = (s.table.loops i h b).few })

  pub end_of_lem : (e : ℕ) → e < count → view_at script e ≡ is_end → EndRow script t (heads e) e
  end_of_lem e h w = subst (λ n. EndRow script t ((pairs script n).head e) e) (sym size_is) (s.table.ends e h w)

  -- the loop that row e ends: its test, and its number
  pub test_told : (h e : ℕ) → h < count → EndRow script t h e → is_loop_row (view_at script h) ≡ true → TestOf (kind_in (numbers_at t h)) (numbers_at t e)
  test_told h e l r b =
      let k = kind_in (numbers_at t h) in
      test_of (numbers_at t h) (numbers_at t e) r.test text k (inr (ap is_loop_row (sym (row_is h l k refl).view) ∙ b)) (s.table.tests h l)

  pub loop_ended : (h e : ℕ) → h < count → EndRow script t h e → is_loop_row (view_at script h) ≡ true → LoopIs text t count h e
  loop_ended h e l r b =
      let (p, f) = loop_place script 0 h (subst (λ n. h < n) (sym size_is) l) b in
      record { place = ap (λ k. get_or (loop_rows 0 script) k 0) r.loop ∙ p ∙ zero_more h; few = subst (λ k. k < length (loop_rows 0 script)) (sym r.loop) f }
    where
      zero_more : (k : ℕ) → 0 + k ≡ k
      zero_more k = omega arith

  pub room_at : {counts : List (List ℕ)} {k : ℕ} → Room script counts → k < length (loop_rows 0 script) → RoomAt k counts
  room_at r l = record { long = r.long; small = omega (arith, s.table.few); turn = r.turn _ l }

-- ---- the `end` of a block
-- by its op: on; on to the loop's test; a for's step and on to its test
abbrev pub end_next : Prices → ℕ → ℕ → ℕ → List ℕ → State → TurnCounts → Next
end_next π op h e n s c =
    cond (eqb op 0) (to (suc e) fresh s c)
    (cond (eqb op 1) (to e testing s c) (outcome (exec π h (assign (variable_in n) (changed (step_in n))) s) c (λ u. to e testing u c)))

module _ (π : Prices) (rows : List RowKind) (matching_end_lem matching_head_lem : ℕ → ℕ) (text : List ℕ) (h e : ℕ) (n : List ℕ) (s : State) (c : TurnCounts) where
  end_next_lem : (k : Kind) → (is_loop_row (view_of (kind_of text k)) ≡ true → TestOf k n)
      → on_end π rows matching_end_lem matching_head_lem (view_of (kind_of text k)) h e fresh s c ≡ end_next π (end_op (view_of (kind_of text k))) h e n s c
  unfolding view_of kind_of is_loop_row on_end
  end_next_lem End f = refl
  end_next_lem Else f = refl
  end_next_lem Pick f = refl
  end_next_lem (Set v x) f = refl
  end_next_lem (Move v d) f = refl
  end_next_lem (Off v w d k) f = refl
  end_next_lem (Cue m) f = refl
  end_next_lem (While v d x) f = refl
  end_next_lem (Do v d x) f = refl
  end_next_lem (For v x d y k) f = let (t, q) = f refl in λ i. outcome (exec π h (assign (sym t.variable i) (changed (sym q i))) s) c (λ u. to e testing u c)
  end_next_lem (Hold v) f = refl

-- ---- one step from a row
module _ {text t : List ℕ} {count : ℕ} {m : Machine} {store : List ℤ} {counts : List (List ℕ)} (a : AtRow text t count m store counts) (π : Prices) (picks : List ℕ) (c : TurnCounts) where
  abbrev here : State
  here = state_of m store picks

  abbrev on_row_lem : View → Next
  on_row_lem v = on_row π (script_in text t count) (ends a.script) (heads a.script) v m.row fresh here c

  -- what `rules` says of it
  abbrev pub stepped : Next
  stepped = step_of π (script_in text t count) (place_of m store picks c)

  pub row_step_lem : (k : Kind) → kind_in (numbers_at t m.row) ≡ k → stepped ≡ on_row_lem (view_of (kind_of text k))
  row_step_lem k q =
      let r = row_is a.script m.row a.row k q in
      next_row π (script_in text t count) (ends a.script) (heads a.script) m.row _ (phase_of m.testing) here c r.inside r.view
      ∙ (λ i. on_row π (script_in text t count) (ends a.script) (heads a.script) (view_of (kind_of text k)) m.row (phase_of (a.fresh i)) here c)

  pub end_step : (op : ℕ) → op_in (numbers_at t m.row) ≡ op → tag_in op ≡ Tag.End → let n = numbers_at t m.row in stepped ≡ end_next π op (partner_in n) m.row n here c
  unfolding kind_by view_of kind_of on_row
  end_step op q g =
      let i = m.row in
      let n = numbers_at t i in
      let e = kind_op n op q Tag.End g in
      let r = end_of_lem a.script i a.row (row_is a.script i a.row End e).view in
      let h = heads a.script i in
      let l : h < count = omega (arith, r.below, a.row) in
      let v = (row_is a.script h l (kind_in (numbers_at t h)) refl).view in
      row_step_lem End e
      ∙ ap (λ w. on_end π (script_in text t count) (ends a.script) (heads a.script) w h i fresh here c) v
      ∙ end_next_lem π (script_in text t count) (ends a.script) (heads a.script) text h i n here c (kind_in (numbers_at t h)) (λ b. test_told a.script h i l r (ap is_loop_row v ∙ b))
      ∙ (λ z. end_next π ((ap end_op (sym v) ∙ sym r.op ∙ q) z) (sym r.partner z) i n here c)

-- ---- the test of a loop, by the numbers of its `end` row
abbrev pub test_in : List ℕ → List ℕ → Test
test_in text n = test (variable_in n) (comparison_by (comparison_in n)) (expr_of text (limit_in n))

-- a loop's head of kind k has that test
record Tested (text : List ℕ) (vars : ℕ) (k : Kind) (n : List ℕ) : Type 0 where
  variable : variable_in n < vars
  limit : Readable text vars (limit_in n)
  code : IsComparison (comparison_in n)
  step : end_op (view_of (kind_of text k)) ≡ 2 → ChangeLimits (step_in n)
  form : Form
  last : Last
  loop : view_of (kind_of text k) ≡ is_loop form (test_in text n) last

module _ (text : List ℕ) (vars : ℕ) (n : List ℕ) where
  test_in_lem : (k : Kind) {v : ℕ} {d : Comparison} {x : Operand} (f : Form) (l : Last) → view_of (kind_of text k) ≡ is_loop f (test v d (expr_of text x)) l → TestIn v d x n → v < vars → Readable text vars x
      → (end_op (view_of (kind_of text k)) ≡ 2 → ChangeLimits (step_in n)) → Tested text vars k n
  test_in_lem k f l q t b r p = record {
    variable = omega (arith, t.variable);
    limit = subst (Readable text vars) (sym t.limit) r;
    code = t.code;
    step = p;
    form = f;
    last = l;
    loop = q ∙ (λ i. is_loop f (test (sym t.variable i) (sym t.comparison i) (expr_of text (sym t.limit i))) l);
  }

  tested : (k : Kind) → is_loop_row (view_of (kind_of text k)) ≡ true → RowLimits (kind_of text k) → RowBelow vars (kind_of text k) → Written text k → TestOf k n → Tested text vars k n
  unfolding view_of kind_of is_loop_row expr_of ExprBelow
  tested End b j l w t = no_true b
  tested Else b j l w t = no_true b
  tested Pick b j l w t = no_true b
  tested (Set v x) b j l w t = no_true b
  tested (Move v d) b j l w t = no_true b
  tested (Off v y d k) b j l w t = no_true b
  tested (Cue m) b j l w t = no_true b
  tested (While v d x) b j (l, o) w t = test_in_lem _ while no_step refl t l (record { written = w; below = o }) (λ e. absurd (omega arith))
  tested (Do v d x) b j (l, o) w t = test_in_lem _ do_while no_step refl t l (record { written = w; below = o }) (λ e. absurd (omega arith))
  tested (For v y d x k) b (i, z, j) (l, p, o) (u, w) (t, q) = test_in_lem _ _ _ refl t l (record { written = w; below = o }) (λ e. subst ChangeLimits (sym q) j)
  tested (Hold v) b j l w t = test_in_lem _ hold no_step refl t l (record { written = tt; below = tt }) (λ e. absurd (omega arith))

-- the loop that row e ends has it
end_tested : {text t : List ℕ} {count vars : ℕ} (s : Runs text t count vars) (h e : ℕ) → e < count → EndRow (script_in text t count) t h e → is_loop_row (view_at (script_in text t count) h) ≡ true
    → Tested text vars (kind_in (numbers_at t h)) (numbers_at t e)
end_tested {text} {t} {count} {vars} s h e l r b =
    let below : h < count = omega (arith, r.below, l) in
    let v = row_is s h below (kind_in (numbers_at t h)) refl in
    tested text vars (numbers_at t e) (kind_in (numbers_at t h)) (ap is_loop_row (sym v.view) ∙ b) v.limits v.below v.written (test_told s h e below r b)

-- the machine stands before it
pub record Testing (text t : List ℕ) (count : ℕ) (m : Machine) (store : List ℤ) : Type 0 where
  pub small : m.row < 256
  pub size : 4 * m.row + 3 < length t
  pub variable : variable_in (row_of t m) < length store
  pub limit : Readable text (length store) (limit_in (row_of t m))
  pub code : IsComparison (comparison_in (row_of t m))
  pub partner : partner_in (row_of t m) < 256
  pub head : partner_in (row_of t m) ≡ (pairs (script_in text t count) (length (script_in text t count))).head m.row
  pub loop : LoopIs text t count (partner_in (row_of t m)) m.row
  pub form : Form
  pub last : Last
  pub view : view_at (script_in text t count) (partner_in (row_of t m)) ≡ is_loop form (test_in text (row_of t m)) last
  pub step : (π : Prices) (picks : List ℕ) (c : TurnCounts) → step_of π (script_in text t count) (place_of m store picks c) ≡ tests π (partner_in (row_of t m)) m.row (test_in text (row_of t m)) (state_of m store picks) c

pub at_a_test : {text t : List ℕ} {count : ℕ} {m : Machine} {store : List ℤ} {counts : List (List ℕ)} → AtTest text t count m store counts → Testing text t count m store
unfolding on_row on_end
at_a_test {text} {t} {count} {m} {store} a =
    let i = m.row in
    let l : i < count = subst (λ n. i < n) (size_is a.script) a.ends.row in
    let q = row_is a.script i l (kind_in (numbers_at t i)) refl in
    let r = end_of_lem a.script i l a.ends.end in
    let h = heads a.script i in
    let below : h < count = omega (arith, r.below, l) in
    let v = row_is a.script h below (kind_in (numbers_at t h)) refl in
    let y = end_tested a.script h i l r a.ends.loop in
    record {
      small = q.small;
      size = q.size;
      variable = y.variable;
      limit = y.limit;
      code = y.code;
      partner = omega (arith, r.partner, r.below, q.small);
      head = r.partner;
      loop = subst (λ z. LoopIs text t count z i) (sym r.partner) (loop_ended a.script h i below r a.ends.loop);
      form = y.form;
      last = y.last;
      view = ap (view_at (script_in text t count)) r.partner ∙ v.view ∙ y.loop;
      step = λ π picks c.
          let rows = script_in text t count in
          let s = state_of m store picks in
          next_row π rows (ends a.script) (heads a.script) i is_end (phase_of m.testing) s c a.ends.row a.ends.end
          ∙ (λ z. on_end π rows (ends a.script) (heads a.script) ((v.view ∙ y.loop) z) h i (phase_of (a.testing z)) s c)
          ∙ ap (λ z. tests π z i (test_in text (numbers_at t i)) s c) (sym r.partner);
    }

-- a for's step, at its `end` row
loop_op : (v : View) → end_op v ≡ 2 → is_loop_row v ≡ true
unfolding is_loop_row
loop_op (is_plain p) e = absurd (omega arith)
loop_op is_pick e = absurd (omega arith)
loop_op is_else e = absurd (omega arith)
loop_op is_end e = absurd (omega arith)
loop_op (is_loop form x last) e = refl

pub step_row : {text t : List ℕ} {count : ℕ} {m : Machine} {store : List ℤ} {counts : List (List ℕ)} → AtRow text t count m store counts → op_in (row_of t m) ≡ 2 → StepRow m t (length store)
unfolding kind_by view_of kind_of
step_row {text} {t} {count} {m} {store} a q =
    let i = m.row in
    let x = row_is a.script i a.row End (kind_op (numbers_at t i) 2 q Tag.End refl) in
    let r = end_of_lem a.script i a.row x.view in
    let h = heads a.script i in
    let o = sym r.op ∙ q in
    let y = end_tested a.script h i a.row r (loop_op (view_at (script_in text t count) h) o) in
    record { row = record { small = x.small; size = x.size; variable = y.variable }; change = y.step (ap end_op (sym (row_is a.script h (omega (arith, r.below, a.row)) (kind_in (numbers_at t h)) refl).view) ∙ o) }
