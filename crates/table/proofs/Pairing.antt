-- A row more: what holds of the table and of the open blocks before row j holds before the next row. Assumes nothing.
use mathlib.Core.Path.{◌≡◌, refl, sym, ap, subst, ◌∙◌}
use mathlib.Core.Bool.{Bool, true, false, cond}
use mathlib.Core.Logic.{inl}
use mathlib.Core.List.{List, [], ◌∷◌}
use Prim.Native.Nat.{ℕ, zero, suc, ◌+◌, ◌-◌, ◌≤◌, ◌<◌}
use native.Mathlib.Numerals.{add-one}
use native.Mathlib.Omega.{arith}
use native.Mathlib.Decide.{ℕ_discrete}
use lib.ListN.{length, get_or, set, take}
use lib.Seq.{get_or-set_same, get_or-set_other}
use borrow.Author.Tests.{eq-eqb, ne_eqb}
use Rattle.rules.specs.declared.Kind.{Kind}
use Rattle.rules.specs.Values.{put}
use Rattle.rules.specs.Blocks.{Plain, View, is_plain, is_pick, is_else, is_end, is_loop, RowKind, End, view_of, view_at, kind_of}
use Rattle.rules.specs.Calls.{is_loop_row, loop_rows}
use Rattle.rules_machine.specs.RowMachine.{Opens, Pairs, push, closes_row, pair_row, pairs}
use Rattle.table.specs.declared.Open.{Open}
use Rattle.table.specs.declared.Role.{Role}
use Rattle.table.specs.Code.{op_in, partner_in, kind_in, numbers_at}
use Rattle.table.specs.Packing.{TestOf, Stands, Only, RowPut}
use Rattle.table.specs.Paired.{Kept, PartnerPut, end_op, EndPut, role_by, role_of, head_of, number_of, pushed_on, popped_off, open_after, Room, stack_of, loops_before, Waiting, EndRow, PairedBy, Ready, NextPut}
use Rattle.table.proofs.Same.{test_of, kind_same, kept_same, test_trans, test_sym, end_small, end_kind}

-- rows before j, and row j
pub up_to : (P : ℕ → Type 0) (j : ℕ) → ((i : ℕ) → i < j → P i) → P j → (i : ℕ) → i < suc j → P i
up_to P j f here i l = by (ℕ_discrete i j)
  where
    by : Dec (i ≡ j) → P i
    by (yes e) = subst P (sym e) here
    by (no n) = f i (omega arith)

-- ---- the loops so far
pub loops_next : (ks : List RowKind) (i j : ℕ) → j < length ks → length (loop_rows i (take (suc j) ks)) ≡ cond (is_loop_row (view_at ks j)) 1 0 + length (loop_rows i (take j ks))
unfolding loop_rows
loops_next [] i j h = absurd (omega arith)
loops_next (k ∷ ks) i zero h = by (is_loop_row (view_of k))
  where
    by : (b : Bool) → length (cond b (i ∷ []) []) ≡ cond b 1 0 + 0
    by true = refl
    by false = refl
loops_next (k ∷ ks) i (suc j) h = by (is_loop_row (view_of k)) (loop_rows (suc i) (take (suc j) ks)) (loop_rows (suc i) (take j ks)) (loops_next ks (suc i) j (omega arith))
  where
    by : (b : Bool) (l m : List ℕ) → length l ≡ cond (is_loop_row (view_at ks j)) 1 0 + length m → length (cond b (i ∷ l) l) ≡ cond (is_loop_row (view_at ks j)) 1 0 + length (cond b (i ∷ m) m)
    by true l m e = omega arith
    by false l m e = e

-- a loop's place among all
pub loop_place : (ks : List RowKind) (i j : ℕ) → j < length ks → is_loop_row (view_at ks j) ≡ true
    → (get_or (loop_rows i ks) (length (loop_rows i (take j ks))) 0 ≡ i + j) × (length (loop_rows i (take j ks)) < length (loop_rows i ks))
unfolding loop_rows
loop_place [] i j h e = absurd (omega arith)
loop_place (k ∷ ks) i zero h e = rw e (omega arith, omega arith)
loop_place (k ∷ ks) i (suc j) h e = by (is_loop_row (view_of k)) (loop_rows (suc i) ks) (loop_rows (suc i) (take j ks)) (loop_place ks (suc i) j (omega arith) e)
  where
    by : (b : Bool) (l m : List ℕ) → (get_or l (length m) 0 ≡ suc i + j) × (length m < length l)
        → (get_or (cond b (i ∷ l) l) (length (cond b (i ∷ m) m)) 0 ≡ i + suc j) × (length (cond b (i ∷ m) m) < length (cond b (i ∷ l) l))
    by true l m (p, q) = (omega arith, omega arith)
    by false l m (p, q) = (omega arith, q)

-- the head rows rise: a loop with a higher number begins further down
heads_from : (ks : List RowKind) (i k : ℕ) → k < length (loop_rows i ks) → i ≤ get_or (loop_rows i ks) k 0
unfolding loop_rows
heads_from [] i k h = absurd (omega arith)
heads_from (x ∷ ks) i k h = by (is_loop_row (view_of x)) (loop_rows (suc i) ks) k h (heads_from ks (suc i))
  where
    by : (b : Bool) (l : List ℕ) (k : ℕ) → k < length (cond b (i ∷ l) l) → ((n : ℕ) → n < length l → suc i ≤ get_or l n 0) → i ≤ get_or (cond b (i ∷ l) l) k 0
    by true l zero h f = omega arith
    by true l (suc k) h f = omega (arith, f k (omega arith))
    by false l k h f = omega (arith, f k h)

pub heads_rise : (ks : List RowKind) (i j k : ℕ) → j < k → k < length (loop_rows i ks) → get_or (loop_rows i ks) j 0 < get_or (loop_rows i ks) k 0
unfolding loop_rows
heads_rise [] i j k l h = absurd (omega arith)
heads_rise (x ∷ ks) i j k l h = by (is_loop_row (view_of x)) (loop_rows (suc i) ks) j k l h (heads_rise ks (suc i)) (heads_from ks (suc i))
  where
    by : (b : Bool) (m : List ℕ) (j k : ℕ) → j < k → k < length (cond b (i ∷ m) m) → ((a n : ℕ) → a < n → n < length m → get_or m a 0 < get_or m n 0)
        → ((n : ℕ) → n < length m → suc i ≤ get_or m n 0) → get_or (cond b (i ∷ m) m) j 0 < get_or (cond b (i ∷ m) m) k 0
    by true m zero zero l h f g = absurd (omega arith)
    by true m zero (suc k) l h f g = omega (arith, g k (omega arith))
    by true m (suc j) zero l h f g = absurd (omega arith)
    by true m (suc j) (suc k) l h f g = f j k (omega arith) (omega arith)
    by false m j k l h f g = f j k l h

-- ---- a function changed at one place
put_same : (f : ℕ → ℕ) (h n : ℕ) → put f h n h ≡ n
put_same f h n = rw (eq-eqb h h refl)

put_other : (f : ℕ → ℕ) (h n i : ℕ) → (i ≡ h → ⊥) → put f h n i ≡ f i
put_other f h n i l = rw (ne_eqb i h l)

-- ---- the open blocks in arrays
stack_set : (l : List ℕ) (d x n : ℕ) → n ≤ d → stack_of (set l d x) n ≡ stack_of l n
unfolding stack_of
stack_set l d x zero h = refl
stack_set l d x (suc n) h =
    let a : get_or (set l d x) n 0 ≡ get_or l n 0 = get_or-set_other l d n x 0 (λ e. let z : ⊥ = omega arith in z) in
    let b = stack_set l d x n (omega arith) in
    λ z. a z ∷ b z

stack_push : (l : List ℕ) (d x : ℕ) → d < length l → stack_of (set l d x) (d + 1) ≡ x ∷ stack_of l d
unfolding stack_of
stack_push l d x h =
    let a : get_or (set l d x) d 0 ≡ x = get_or-set_same l d x 0 h in
    let b = stack_set l d x d (omega arith) in
    ap (stack_of (set l d x)) (add-one d) ∙ (λ z. a z ∷ b z)

-- the pairing after row j has closed the innermost block
abbrev closed_by : Open → ℕ → Pairs → Pairs
closed_by o j p = record { stack = stack_of o.heads (o.depth - 1); end = put p.end (head_of o) j; head = put p.head j (head_of o) }

closes_is : (heads : List ℕ) (d j : ℕ) (st : List ℕ) (f g : ℕ → ℕ) → 1 ≤ d → stack_of heads d ≡ st
    → ◌≡◌ {A = Pairs} (record { stack = stack_of heads (d - 1); end = put f (get_or heads (d - 1) 0) j; head = put g j (get_or heads (d - 1) 0) }) (closes_row j st f g)
unfolding closes_row stack_of
closes_is heads zero j st f g h q = absurd (omega arith)
closes_is heads (suc d) j st f g h q = let e : suc d - 1 ≡ d = omega arith in rw (e, ← q)

-- ---- a table in which the rows below j are kept
record Carries (script : List RowKind) (j : ℕ) (t t' : List ℕ) : Type 0 where
  kept : (k : ℕ) → k < j → Kept (numbers_at t k) (numbers_at t' k)
  ends : (k : ℕ) → k < j → view_at script k ≡ is_end → numbers_at t' k ≡ numbers_at t k

only_carries : (script : List RowKind) (j : ℕ) (t t' : List ℕ) → Only j t t' → Carries script j t t'
only_carries script j t t' c = record { kept = λ k l. kept_same (numbers_at t k) (numbers_at t' k) (same k l); ends = λ k l w. same k l }
  where
    same : (k : ℕ) → k < j → numbers_at t' k ≡ numbers_at t k
    same k l = c.others k (λ e. let z : ⊥ = omega arith in z)

-- row h gets a partner, and is no `end`
partner_carries : (script : List RowKind) (h i j : ℕ) (t t' : List ℕ) → Opens (view_at script h) → PartnerPut h i t t' → Carries script j t t'
partner_carries script h i j t t' o c = record {
  kept = λ k l. by k (ℕ_discrete k h);
  ends = λ k l w. c.only.others k (λ e. subst Opens w (subst (λ m. Opens (view_at script m)) (sym e) o));
}
  where
    by : (k : ℕ) → Dec (k ≡ h) → Kept (numbers_at t k) (numbers_at t' k)
    by k (yes e) = subst (λ m. Kept (numbers_at t m) (numbers_at t' m)) (sym e) c.kept
    by k (no n) = kept_same (numbers_at t k) (numbers_at t' k) (c.only.others k n)

-- no row is two things
plain_not_end : {A : Type 0} (v : View) (x : Plain) → v ≡ is_plain x → v ≡ is_end → A
plain_not_end v x e f = absurd (let z : ◌≡◌ {A = ℕ} 0 1 = cc in omega arith)

not_end : {A : Type 0} (v : View) → Opens v → v ≡ is_end → A
not_end v o e = absurd (subst Opens e o)

module _ (text : List ℕ) (script : List RowKind) (j : ℕ) (p : Pairs) (t : List ℕ) (o : Open) (b : PairedBy text script j p t o) where
  module _ (t' : List ℕ) (c : Carries script j t t') where
    kinds_kept : (i : ℕ) → i < j → kind_of text (kind_in (numbers_at t' i)) ≡ get_or script i End
    kinds_kept i l = ap (kind_of text) (kind_same (numbers_at t i) (numbers_at t' i) (c.kept i l)) ∙ b.kinds i l

    tests_kept : (i : ℕ) → i < j → TestOf (kind_in (numbers_at t' i)) (numbers_at t' i)
    tests_kept i l =
        let k = c.kept i l in
        subst (λ x. TestOf x (numbers_at t' i)) (sym (kind_same (numbers_at t i) (numbers_at t' i) k)) (test_of (numbers_at t i) (numbers_at t' i) k.test text (kind_in (numbers_at t i)) (inl k.op) (b.tests i l))

    end_kept : (h e : ℕ) → e < j → view_at script e ≡ is_end → EndRow script t h e → EndRow script t' h e
    end_kept h e l w r =
        let same = c.ends e l w in
        let at-e = kept_same (numbers_at t e) (numbers_at t' e) same in
        record {
          below = r.below;
          partner = ap partner_in same ∙ r.partner;
          op = ap op_in same ∙ r.op;
          test = test_trans (numbers_at t' h) (numbers_at t h) (numbers_at t' e) (test_sym (numbers_at t h) (numbers_at t' h) (c.kept h (omega (arith, r.below))).test)
              (test_trans (numbers_at t h) (numbers_at t e) (numbers_at t' e) r.test at-e.test);
          loop = at-e.start ∙ r.loop;
        }

  -- row j closes the innermost block: its head gets its partner
  module _ (deep : 1 ≤ o.depth) where
    top : Waiting script j (head_of o) (number_of o)
    top = b.waits (o.depth - 1) (omega arith)

    pub closed : (t' : List ℕ) → PartnerPut (head_of o) j t t' → PairedBy text script j (closed_by o j p) t' (popped_off o)
    closed t' c =
        let h = top.below in
        let k = partner_carries script (head_of o) j j t t' top.opens c in
        record {
          kinds = kinds_kept t' k;
          tests = tests_kept t' k;
          stack = refl;
          waits = λ d l. b.waits d (omega arith);
          loops = b.loops;
          partners = λ i l q. by i l q (ℕ_discrete i (head_of o));
          later = λ i l. put_other p.end (head_of o) j i (λ e. let z : ⊥ = omega arith in z) ∙ b.later i l;
          ends = λ e l w.
              subst (λ m. EndRow script t' m e) (sym (put_other p.head j (head_of o) e (λ q. let z : ⊥ = omega arith in z))) (end_kept t' k (p.head e) e l w (b.ends e l w));
        }
      where
        by : (i : ℕ) → i < j → Opens (view_at script i) → Dec (i ≡ head_of o) → partner_in (numbers_at t' i) ≡ put p.end (head_of o) j i
        by i l q (yes e) = subst (λ m. partner_in (numbers_at t' m) ≡ put p.end (head_of o) j m) (sym e) (c.partner ∙ sym (put_same p.end (head_of o) j))
        by i l q (no n) = ap partner_in (c.only.others i n) ∙ b.partners i l q ∙ sym (put_other p.end (head_of o) j i n)

  -- row j itself, which is in the script
  module _ (in_script : j < length script) (t' : List ℕ) (c : Only j t t') where
    carried : Carries script j t t'
    carried = only_carries script j t t' c

    -- the partners of the rows before it
    partners_kept : (i : ℕ) → i < j → Opens (view_at script i) → partner_in (numbers_at t' i) ≡ p.end i
    partners_kept i l q = ap partner_in (c.others i (λ e. let z : ⊥ = omega arith in z)) ∙ b.partners i l q

    waits_kept : (d : ℕ) → d < o.depth → Waiting script (suc j) (get_or o.heads d 0) (get_or o.numbers d 0)
    waits_kept d l = let w = b.waits d l in record { below = omega (arith, w.below); opens = w.opens; loops = w.loops }

    loops_kept : is_loop_row (view_at script j) ≡ false → o.loops ≡ loops_before script (suc j)
    loops_kept e = b.loops ∙ sym (loops_next script 0 j in_script ∙ ap (λ x. cond x 1 0 + loops_before script j) e ∙ zero_more)
      where
        zero_more : 0 + loops_before script j ≡ loops_before script j
        zero_more = omega arith

    module _ (k : Kind) (kind_is : get_or script j End ≡ kind_of text k) (st : Stands k (numbers_at t' j)) where
      kinds_next : (i : ℕ) → i < suc j → kind_of text (kind_in (numbers_at t' i)) ≡ get_or script i End
      kinds_next = up_to (λ i. kind_of text (kind_in (numbers_at t' i)) ≡ get_or script i End) j (kinds_kept t' carried) (ap (kind_of text) st.kind ∙ sym kind_is)

      tests_next : (i : ℕ) → i < suc j → TestOf (kind_in (numbers_at t' i)) (numbers_at t' i)
      tests_next = up_to (λ i. TestOf (kind_in (numbers_at t' i)) (numbers_at t' i)) j (tests_kept t' carried) (subst (λ x. TestOf x (numbers_at t' j)) (sym st.kind) st.test)

      -- a plain row
      pub plain_next : (x : Plain) → view_at script j ≡ is_plain x → PairedBy text script (suc j) p t' o
      unfolding is_loop_row
      plain_next x w = record {
        kinds = kinds_next;
        tests = tests_next;
        stack = b.stack;
        waits = waits_kept;
        loops = loops_kept (ap is_loop_row w);
        partners = up_to (λ i. Opens (view_at script i) → partner_in (numbers_at t' i) ≡ p.end i) j partners_kept (λ q. absurd (subst Opens w q));
        later = λ i l. b.later i (omega arith);
        ends = up_to (λ e. view_at script e ≡ is_end → EndRow script t' (p.head e) e) j (λ e l z. end_kept t' carried (p.head e) e l z (b.ends e l z))
            (λ z. plain_not_end (view_at script j) x w z);
      }

      -- a row that begins a block; n loops have begun with it
      pub push_next : (n : ℕ) → Opens (view_at script j) → n ≡ loops_before script (suc j) → o.depth < length o.heads → o.depth < length o.numbers
          → PairedBy text script (suc j) (push j p) t' (pushed_on j n o)
      unfolding push
      push_next n opens more l m = record {
        kinds = kinds_next;
        tests = tests_next;
        stack = stack_push o.heads o.depth j l ∙ ap (λ s. j ∷ s) b.stack;
        waits = λ d h. up_to (λ d. Waiting script (suc j) (get_or (set o.heads o.depth j) d 0) (get_or (set o.numbers o.depth o.loops) d 0)) o.depth before here d (omega arith);
        loops = more;
        partners = up_to (λ i. Opens (view_at script i) → partner_in (numbers_at t' i) ≡ p.end i) j partners_kept (λ q. st.no_partner ∙ sym (b.later j (omega arith)));
        later = λ i h. b.later i (omega arith);
        ends = up_to (λ e. view_at script e ≡ is_end → EndRow script t' (p.head e) e) j (λ e h z. end_kept t' carried (p.head e) e h z (b.ends e h z)) (λ z. not_end (view_at script j) opens z);
      }
        where
          before : (d : ℕ) → d < o.depth → Waiting script (suc j) (get_or (set o.heads o.depth j) d 0) (get_or (set o.numbers o.depth o.loops) d 0)
          before d h =
              let x : get_or o.heads d 0 ≡ get_or (set o.heads o.depth j) d 0 = sym (get_or-set_other o.heads o.depth d j 0 (λ e. let z : ⊥ = omega arith in z)) in
              let y : get_or o.numbers d 0 ≡ get_or (set o.numbers o.depth o.loops) d 0 = sym (get_or-set_other o.numbers o.depth d o.loops 0 (λ e. let z : ⊥ = omega arith in z)) in
              subst (λ m. Waiting script (suc j) (get_or (set o.heads o.depth j) d 0) m) y (subst (λ m. Waiting script (suc j) m (get_or o.numbers d 0)) x (waits_kept d h))

          here : Waiting script (suc j) (get_or (set o.heads o.depth j) o.depth 0) (get_or (set o.numbers o.depth o.loops) o.depth 0)
          here =
              let x : j ≡ get_or (set o.heads o.depth j) o.depth 0 = sym (get_or-set_same o.heads o.depth j 0 l) in
              let y : o.loops ≡ get_or (set o.numbers o.depth o.loops) o.depth 0 = sym (get_or-set_same o.numbers o.depth o.loops 0 m) in
              subst (λ m. Waiting script (suc j) (get_or (set o.heads o.depth j) o.depth 0) m) y
              (subst (λ m. Waiting script (suc j) m o.loops) x (record { below = omega arith; opens = opens; loops = b.loops }))

  -- the `end` of the block that row h begins, after its head has got its partner
  pub end_next_lem : j < length script → (t' : List ℕ) (h n : ℕ) → EndPut h j n t t' → h < j → n ≡ loops_before script h → p.head j ≡ h
      → get_or script j End ≡ End → PairedBy text script (suc j) p t' o
  unfolding is_loop_row view_of kind_of
  end_next_lem in_script t' h n c l q r k =
      let s : Carries script j t t' = only_carries script j t t' c.only in
      let w : view_at script j ≡ is_end = ap view_of k in
      let e : kind_in (numbers_at t' j) ≡ Kind.End = end_kind (numbers_at t' j) (subst (λ m. m < 3) (sym (c.op text)) (end_small (view_of (kind_of text (kind_in (numbers_at t h)))))) in
      record {
        kinds = up_to (λ i. kind_of text (kind_in (numbers_at t' i)) ≡ get_or script i End) j (kinds_kept t' s) (ap (kind_of text) e ∙ sym k);
        tests = up_to (λ i. TestOf (kind_in (numbers_at t' i)) (numbers_at t' i)) j (tests_kept t' s) (subst (λ x. TestOf x (numbers_at t' j)) (sym e) tt);
        stack = b.stack;
        waits = waits_kept in_script t' c.only;
        loops = loops_kept in_script t' c.only (ap is_loop_row w);
        partners = up_to (λ i. Opens (view_at script i) → partner_in (numbers_at t' i) ≡ p.end i) j (partners_kept in_script t' c.only) (λ z. not_end (view_at script j) z w);
        later = λ i m. b.later i (omega arith);
        ends = up_to (λ x. view_at script x ≡ is_end → EndRow script t' (p.head x) x) j (λ x m z. end_kept t' s (p.head x) x m z (b.ends x m z))
            (λ _. subst (λ m. EndRow script t' m j) (sym r) (record {
              below = l;
              partner = c.partner;
              op = c.op text ∙ ap (λ x. end_op (view_of x)) (b.kinds h l);
              test = test_trans (numbers_at t' h) (numbers_at t h) (numbers_at t' j) (test_sym (numbers_at t h) (numbers_at t' h) (s.kept h l).test) c.test;
              loop = c.loop ∙ q;
            }));
      }

end_is : (text : List ℕ) → kind_of text Kind.End ≡ End
unfolding kind_of
end_is text = refl

-- ---- what the code does by the role of a row
abbrev pub Did : Role → ℕ → Kind → Open → List ℕ → List ℕ → Type 0
Did Role.Plain i k o t t' = RowPut i k t t'
Did Role.Pick i k o t t' = RowPut i k t t'
Did Role.Loop i k o t t' = RowPut i k t t'
Did Role.Else i k o t t' = (u : List ℕ) × PartnerPut (head_of o) i t u × RowPut i k u t'
Did Role.End i k o t t' = (u : List ℕ) × PartnerPut (head_of o) i t u × EndPut (head_of o) i (number_of o) u t' × (k ≡ Kind.End)

-- the arrays of the open blocks
pub record Eight (o : Open) : Type 0 where
  pub heads : length o.heads ≡ 8
  pub numbers : length o.numbers ≡ 8

module _ (text : List ℕ) (script : List RowKind) (j : ℕ) (t t' : List ℕ) (o : Open) (k : Kind) (p : Pairs) (in_script : j < length script) (kind_is : get_or script j End ≡ kind_of text k) (eight : Eight o) (deep : o.depth ≤ 8)
    (b : PairedBy text script j p t o) where
  more_loops : is_loop_row (view_at script j) ≡ true → o.loops + 1 ≡ loops_before script (suc j)
  more_loops e = let q = loops_next script 0 j in_script ∙ ap (λ x. cond x 1 0 + loops_before script j) e in omega (arith, q, b.loops)

  row_next : (w : View) → view_at script j ≡ w → Did (role_by w) j k o t t' → Room (role_by w) o → PairedBy text script (suc j) (pair_row w j p) t' (open_after (role_by w) j o)
  unfolding pair_row is_loop_row
  row_next (is_plain x) w d r = plain_next text script j p t o b in_script t' d.only k kind_is d.row x w
  row_next is_pick w d r =
      push_next text script j p t o b in_script t' d.only k kind_is d.row o.loops (subst Opens (sym w) tt) (loops_kept text script j p t o b in_script t' d.only (ap is_loop_row w))
      (omega (arith, eight.heads)) (omega (arith, eight.numbers))
  row_next (is_loop form test last) w d r =
      push_next text script j p t o b in_script t' d.only k kind_is d.row (o.loops + 1) (subst Opens (sym w) tt) (more_loops (ap is_loop_row w))
      (omega (arith, eight.heads, r.0)) (omega (arith, eight.numbers, r.0))
  row_next is_else w (u, c, d) r =
      let q = closed text script j p t o b r u c in
      subst (λ x. PairedBy text script (suc j) (push j x) t' (pushed_on j o.loops (popped_off o))) (closes_is o.heads o.depth j p.stack p.end p.head r b.stack)
      (push_next text script j (closed_by o j p) u (popped_off o) q in_script t' d.only k kind_is d.row o.loops (subst Opens (sym w) tt)
      (loops_kept text script j (closed_by o j p) u (popped_off o) q in_script t' d.only (ap is_loop_row w)) (omega (arith, eight.heads)) (omega (arith, eight.numbers)))
  row_next is_end w (u, c, d, z) r =
      let q = closed text script j p t o b r u c in
      let x = top text script j p t o b r in
      subst (λ x. PairedBy text script (suc j) x t' (popped_off o)) (closes_is o.heads o.depth j p.stack p.end p.head r b.stack)
      (end_next_lem text script j (closed_by o j p) u (popped_off o) q in_script t' (head_of o) (number_of o) d x.below x.loops (put_same p.head j (head_of o)) (kind_is ∙ ap (kind_of text) z ∙ end_is text))

-- a row's role is the same beside any text
pub role_text : (text : List ℕ) (k : Kind) → role_by (view_of (kind_of text k)) ≡ role_of k
unfolding view_of kind_of
role_text text Kind.End = refl
role_text text Kind.Else = refl
role_text text Kind.Pick = refl
role_text text (Kind.Set v x) = refl
role_text text (Kind.Move v d) = refl
role_text text (Kind.Off v w c x) = refl
role_text text (Kind.Cue n) = refl
role_text text (Kind.While v c x) = refl
role_text text (Kind.Do v c x) = refl
role_text text (Kind.For v s c x d) = refl
role_text text (Kind.Hold v) = refl

-- an `end` alone has the role of one
pub role_end : (k : Kind) → Role.End ≡ role_of k → k ≡ Kind.End
unfolding view_of kind_of
role_end Kind.End e = refl
role_end Kind.Else e = absurd (let z : ◌≡◌ {A = ℕ} 0 1 = cc in omega arith)
role_end Kind.Pick e = absurd (let z : ◌≡◌ {A = ℕ} 0 1 = cc in omega arith)
role_end (Kind.Set v x) e = absurd (let z : ◌≡◌ {A = ℕ} 0 1 = cc in omega arith)
role_end (Kind.Move v d) e = absurd (let z : ◌≡◌ {A = ℕ} 0 1 = cc in omega arith)
role_end (Kind.Off v w c x) e = absurd (let z : ◌≡◌ {A = ℕ} 0 1 = cc in omega arith)
role_end (Kind.Cue n) e = absurd (let z : ◌≡◌ {A = ℕ} 0 1 = cc in omega arith)
role_end (Kind.While v c x) e = absurd (let z : ◌≡◌ {A = ℕ} 0 1 = cc in omega arith)
role_end (Kind.Do v c x) e = absurd (let z : ◌≡◌ {A = ℕ} 0 1 = cc in omega arith)
role_end (Kind.For v s c x d) e = absurd (let z : ◌≡◌ {A = ℕ} 0 1 = cc in omega arith)
role_end (Kind.Hold v) e = absurd (let z : ◌≡◌ {A = ℕ} 0 1 = cc in omega arith)

-- the rows that stay, and the new one
module _ (i : ℕ) (k : Kind) (t' : List ℕ) where
  partner_kinds : (h : ℕ) (t u : List ℕ) → PartnerPut h i t u → (m : ℕ) → kind_in (numbers_at u m) ≡ kind_in (numbers_at t m)
  partner_kinds h t u c m = by (ℕ_discrete m h)
    where
      by : Dec (m ≡ h) → kind_in (numbers_at u m) ≡ kind_in (numbers_at t m)
      by (yes e) = subst (λ x. kind_in (numbers_at u x) ≡ kind_in (numbers_at t x)) (sym e) (kind_same (numbers_at t h) (numbers_at u h) c.kept)
      by (no n) = ap kind_in (c.only.others m n)

  abbrev Rows : List ℕ → Type 0
  Rows t = (length t' ≡ length t) × (kind_in (numbers_at t' i) ≡ k) × ((m : ℕ) → m < i → kind_in (numbers_at t' m) ≡ kind_in (numbers_at t m))

  only_rows : (t : List ℕ) → Only i t t' → kind_in (numbers_at t' i) ≡ k → Rows t
  only_rows t c e = (c.size, e, λ m l. ap kind_in (c.others m (λ q. let z : ⊥ = omega arith in z)))

  then_rows : (h : ℕ) (t u : List ℕ) → PartnerPut h i t u → Rows u → Rows t
  then_rows h t u c (a, b, f) = (a ∙ c.only.size, b, λ m l. f m l ∙ partner_kinds h t u c m)

  did_rows : (o : Open) (t : List ℕ) (r : Role) → Did r i k o t t' → Rows t
  did_rows o t Role.Plain d = only_rows t d.only d.row.kind
  did_rows o t Role.Pick d = only_rows t d.only d.row.kind
  did_rows o t Role.Loop d = only_rows t d.only d.row.kind
  did_rows o t Role.Else (u, c, d) = then_rows (head_of o) t u c (only_rows u d.only d.row.kind)
  did_rows o t Role.End (u, c, d, z) =
      then_rows (head_of o) t u c
      (only_rows u d.only (end_kind (numbers_at t' i) (subst (λ m. m < 3) (sym (d.op [])) (end_small (view_of (kind_of [] (kind_in (numbers_at u (head_of o))))))) ∙ sym z))

pub next_put : (i : ℕ) (k : Kind) (o o' : Open) (t t' : List ℕ) (r : Role) → r ≡ role_of k → Did r i k o t t' → o' ≡ open_after r i o → Eight o → Ready i k o t → NextPut i k o o' t t'
unfolding pairs
next_put i k o o' t t' r e d q eight ready =
    let (a, b, c) = did_rows i k t' o t r d in
    record {
      size = a;
      here = b;
      others = c;
      blocks = q ∙ ap (λ x. open_after x i o) e;
      paired = λ text script l z f.
          let w : r ≡ role_by (view_at script i) = e ∙ sym (ap (λ x. role_by (view_of x)) z ∙ role_text text k) in
          subst (λ x. PairedBy text script (suc i) (pair_row (view_at script i) i (pairs script i)) t' x) (sym (q ∙ ap (λ x. open_after x i o) w))
          (row_next text script i t t' o k (pairs script i) l z eight ready.deep f (view_at script i) refl (subst (λ x. Did x i k o t t') w d)
          (subst (λ x. Room x o) (sym e ∙ w) ready.room));
    }
