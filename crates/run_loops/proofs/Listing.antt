-- The loops row by row. Assumes nothing.
use mathlib.Core.Path.{◌≡◌, refl, sym, ◌∙◌, ap}
use mathlib.Core.Bool.{Bool, true, false, cond}
use mathlib.Core.List.{List, [], ◌∷◌, ◌++◌, append_assoc, append-nil}
use Prim.Native.Nat.{ℕ, zero, suc, ◌+◌, ◌≤◌, ◌<◌, max}
use native.Mathlib.Numerals.{add-one}
use native.Mathlib.Omega.{arith}
use lib.ListN.{length, get_or, set, take, drop, replicate, length-set, length-append, drop_of_length-le}
use lib.Seq.{drop-cons, take-suc, take-suc-set, length-take-le, get_or-take, get_or-set_other}
use Rattle.rules.specs.declared.Kind.{Kind}
use Rattle.rules.specs.declared.LoopCount.{LoopCount}
use Rattle.rules.specs.Blocks.{RowKind, End, View, is_plain, is_pick, is_else, is_end, is_loop, view_of, view_at, kind_of}
use Rattle.rules_machine.specs.RowMachine.{TurnCounts, counts_of}
use Rattle.rules.specs.Calls.{is_loop_row, loop_rows}
use Rattle.table.specs.declared.Shape.{Shape}
use Rattle.table.specs.Shapes.{shape_by, shape_of}
use Rattle.table.proofs.Laws.{rows_length, shape_text}
use Rattle.table.specs.Code.{rows_of, kind_at}
use Rattle.table.proofs.Pairing.{heads_rise}
use Rattle.rules.proofs.Laws.{kinds_first, kind_of_lem}
use Rattle.run_actions.specs.States.{count_in, loop_counts, tally_of}
use Rattle.run_actions.proofs.Heads.{counts_at_lem}
use Rattle.run_machine.specs.Steps.{script_in}
use Rattle.run_loops.specs.Loops.{no_count, NoneFrom, Counted, HeadCounts}

-- one loop more
counts_snoc : (c : TurnCounts) (l : List ℕ) (p : ℕ) → counts_of c (l ++ (p ∷ [])) ≡ counts_of c l ++ (record { row = p; all = c.sum p; most = c.most p } ∷ [])
unfolding counts_of
counts_snoc c [] p = refl
counts_snoc c (x ∷ l) p = ap {B = List LoopCount} (λ r. record { row = x; all = c.sum x; most = c.most x } ∷ r) (counts_snoc c l p)

-- no counts at first, and past a loop that is counted
pub none_first : NoneFrom 0 (replicate 16 no_count)
none_first k l = by 16 k
  where
    by : (n k : ℕ) → get_or (replicate n no_count) k no_count ≡ no_count
    by zero k = refl
    by (suc n) zero = refl
    by (suc n) (suc k) = by n k

none_next : (i : ℕ) (r : List LoopCount) (x : LoopCount) → NoneFrom i r → NoneFrom (i + 1) (set r i x)
none_next i r x f k l = get_or-set_other r i k x no_count (λ e. omega arith) ∙ f k (omega arith)

-- the loops before row j are listed, k of them
pub record Listing (ks : List RowKind) (c : TurnCounts) (j k : ℕ) (l : List LoopCount) : Type 0 where
  pub size : length l ≡ 16
  pub heads : List ℕ
  pub all : heads ++ loop_rows j (drop j ks) ≡ loop_rows 0 ks
  pub number : k ≡ length heads
  pub counts : take k l ≡ counts_of c heads
  pub rest : NoneFrom k l

pub listing_none : (ks : List RowKind) (c : TurnCounts) → Listing ks c 0 0 (replicate 16 no_count)
unfolding counts_of
listing_none ks c = record { size = refl; heads = []; all = refl; number = refl; counts = refl; rest = none_first }

module _ (ks : List RowKind) (c : TurnCounts) (j k : ℕ) (l : List LoopCount) (now : Listing ks c j k l) (in_rows : j < length ks) where
  abbrev later : List ℕ
  later = loop_rows (suc j) (drop (suc j) ks)

  here : loop_rows j (drop j ks) ≡ cond (is_loop_row (view_at ks j)) (j ∷ later) later
  unfolding loop_rows
  here = ap (loop_rows j) (drop-cons ks j End in_rows)

  pub listing_row : is_loop_row (view_at ks j) ≡ false → Listing ks c (suc j) k l
  listing_row e = record {
    size = now.size;
    heads = now.heads;
    all = ap (λ h. now.heads ++ h) (sym (here ∙ ap (λ b. cond b (j ∷ later) later) e)) ∙ now.all;
    number = now.number;
    counts = now.counts;
    rest = now.rest;
  }

  module _ (e : is_loop_row (view_at ks j) ≡ true) where
    so_far : now.heads ++ (j ∷ later) ≡ loop_rows 0 ks
    so_far = ap (λ h. now.heads ++ h) (sym (here ∙ ap (λ b. cond b (j ∷ later) later) e)) ∙ now.all

    -- row j begins loop k
    pub loop_here : get_or (loop_rows 0 ks) k 0 ≡ j
    loop_here = ap (λ h. get_or h k 0) (sym so_far) ∙ ap (λ n. get_or (now.heads ++ (j ∷ later)) n 0) now.number ∙ after now.heads
      where
        after : (h : List ℕ) → get_or (h ++ (j ∷ later)) (length h) 0 ≡ j
        after [] = refl
        after (x ∷ h) = after h

    pub loop_in : k < length (loop_rows 0 ks)
    loop_in = omega (arith, now.number, length-append now.heads (j ∷ later), ap length so_far)

    pub listing_loop : length (loop_rows 0 ks) ≤ 16 → (x : LoopCount) → x ≡ record { row = j; all = c.sum j; most = c.most j } → Listing ks c (suc j) (k + 1) (set l k x)
    listing_loop few x q = record {
      size = length-set l k x ∙ now.size;
      heads = now.heads ++ (j ∷ []);
      all = append_assoc now.heads (j ∷ []) later ∙ so_far;
      number = omega (arith, now.number, length-append now.heads (j ∷ []));
      counts = ap (λ z. take z (set l k x)) (add-one k) ∙ take-suc-set l k x (omega (arith, now.size, loop_in)) ∙ (λ i. now.counts i ++ (q i ∷ [])) ∙ sym (counts_snoc c now.heads j);
      rest = none_next k l x now.rest;
    }

pub listing_all : (ks : List RowKind) (c : TurnCounts) (j k : ℕ) (l : List LoopCount) → length ks ≤ j → Listing ks c j k l → HeadCounts (loop_rows 0 ks) c (record { count = k; counts = l })
unfolding loop_rows
listing_all ks c j k l h now =
    let none : loop_rows j (drop j ks) ≡ [] = ap (loop_rows j) (drop_of_length-le ks h) in
    let heads : now.heads ≡ loop_rows 0 ks = sym (append-nil _) ∙ ap (λ z. now.heads ++ z) (sym none) ∙ now.all in
    record { number = now.number ∙ ap length heads; counts = now.counts ∙ ap (counts_of c) heads; rest = now.rest }

-- ---- a loop by its shape
abbrev pub loop_shape : Shape → Bool
loop_shape Shape.Plain = false
loop_shape Shape.Branch = false
loop_shape Shape.Loop = true
loop_shape Shape.Close = false

by_view : (w : View) → loop_shape (shape_by w) ≡ is_loop_row w
unfolding is_loop_row
by_view (is_plain p) = refl
by_view is_pick = refl
by_view is_else = refl
by_view is_end = refl
by_view (is_loop form test last) = refl

pub loop_shape_lem : (text : List ℕ) (k : Kind) {s : Shape} → s ≡ shape_of k → loop_shape s ≡ is_loop_row (view_of (kind_of text k))
loop_shape_lem text k e = ap loop_shape (e ∙ sym (shape_text text k)) ∙ by_view (view_of (kind_of text k))

-- ---- row by row
module _ {text t : List ℕ} {count : ℕ} {counts : List (List ℕ)} (given : Counted text t count counts) where
  abbrev ks : List RowKind
  ks = script_in text t count

  abbrev heads : List ℕ
  heads = loop_rows 0 ks

  pub rows_are : length ks ≡ count
  rows_are = kinds_first text count (rows_of t) (omega (arith, given.size, given.table.size, rows_length t))

  module _ (j k : ℕ) (l : List LoopCount) (now : Listing ks (tally_of heads counts) j k l) (in_rows : j < count) (b : Bool) (is : b ≡ is_loop_row (view_of (kind_of text (kind_at (rows_of t) j)))) where
    at_j : is_loop_row (view_at ks j) ≡ b
    at_j = ap (λ x. is_loop_row (view_of x)) (kind_of_lem text count (rows_of t) j in_rows) ∙ sym is

    in_ks : j < length ks
    in_ks = omega (arith, rows_are)

    pub no_loop_lem : b ≡ false → Listing ks (tally_of heads counts) (j + 1) k l
    no_loop_lem e = rw add-one (listing_row ks _ j k l now in_ks (at_j ∙ e))

    module _ (e : b ≡ true) where
      -- it is one of the 16
      pub number_in : (k < length heads) × (k < 16)
      number_in = let h = loop_in ks _ j k l now in_ks (at_j ∙ e) in (h, omega (arith, given.table.few))

      pub one_loop : (x : LoopCount) → x ≡ record { row = j; all = count_in counts k 1 + count_in counts k 0; most = max (count_in counts k 2) (count_in counts k 0) } → Listing ks (tally_of heads counts) (j + 1) (k + 1) (set l k x)
      one_loop x q =
          let h : get_or heads k 0 ≡ j = loop_here ks _ j k l now in_ks (at_j ∙ e) in
          let c : get_or counts k [] ≡ loop_counts heads counts j
          = sym (counts_at_lem heads counts (λ a d. heads_rise ks 0 a d) k number_in.0 (omega (arith, number_in.1, given.room.long))) ∙ ap (loop_counts heads counts) h in
          rw (add-one j)
          (listing_loop ks _ j k l now in_ks (at_j ∙ e) given.table.few x (q ∙ (λ i. record { row = j; all = get_or (c i) 1 0 + get_or (c i) 0 0; most = max (get_or (c i) 2 0) (get_or (c i) 0 0) })))
