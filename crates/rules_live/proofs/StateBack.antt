-- The state of a live run says where it stands: what is read from it is what was written.
use mathlib.Core.Path.{◌≡◌, refl, sym, ◌∙◌, ap, subst}
use mathlib.Core.Bool.{Bool, true, false, cond}
use mathlib.Core.List.{List, [], ◌∷◌, ◌++◌}
use Prim.Native.Nat.{ℕ, zero, suc, ◌+◌, ◌-◌, ◌≤◌, ◌<◌, min}
use native.Mathlib.Omega.{arith}
use lib.Dec.{T, eqb, eqb→eq, eqb_refl}
use lib.IntN.{pos}
use lib.ListN.{length, replicate}
use Rattle.rules.specs.declared.Ending.{Ending}
use Rattle.rules.specs.declared.Ending.TheVariants.{Ended, Spent, NoPick}
use Rattle.rules.specs.declared.Prices.{Prices}
use Rattle.rules.specs.Blocks.{RowKind, view_of, view_at}
use Rattle.rules.specs.Figures.{Line}
use Rattle.rules.specs.Values.{Store}
use Rattle.rules.specs.Answers.{store_list}
use Rattle.rules.specs.Scripts.{All, none, some, Pairwise, and_then, Script, store_of, report_lines}
use Rattle.rules.specs.Calls.{is_loop_row, loop_rows}
use Rattle.rules.specs.Claim.{Counts-fit}
use Rattle.rules_machine.specs.RowMachine.{TurnCounts, Phase, fresh, testing, counts_of}
use Rattle.rules_live.specs.Live.{Stand, going, waits, full, finished, counts_at_stand, status_number, matching_head, store_at}
use Rattle.rules_live.specs.LiveRuns.{CanStand}
use Rattle.rules_live.specs.LiveState.{state_size, loops_from, at, loop_number, tally_in, phase_in, stand_in, state_stand, place_row, phase_number, phase_at, carried_at, loop_numbers, state_numbers}
use Rattle.rules_live.proofs.PlacesFit.{NoCounts, Limited}

-- what a state keeps of a standing: no byte that it was lent, of a finished one no ticks, and no phase where none can be
unfoldable pub kept : Stand → Stand
kept (going m) = going (record { row = m.row; phase = m.phase; now = record { store = m.now.store; left = m.now.left; picks = [] }; tally = m.tally })
kept (waits m) = waits (record { row = m.row; phase = fresh; now = record { store = m.now.store; left = m.now.left; picks = [] }; tally = m.tally })
kept (full m) = full (record { row = m.row; phase = fresh; now = record { store = m.now.store; left = m.now.left; picks = [] }; tally = m.tally })
kept (finished e i s c) = finished e i (record { store = s.store; left = 0; picks = [] }) c

-- ---- the store
store_back : (n : ℕ) (f : Store) (w : ℕ) → (n ≤ w → f w ≡ pos 0) → store_of (store_list n f) w ≡ f w
unfolding store_list
store_back zero f w h = sym (h (omega arith))
store_back (suc n) f zero h = refl
store_back (suc n) f (suc w) h = store_back n (λ w. f (suc w)) w (λ l. h (omega arith))

-- ---- the counts
-- number j of the three
abbrev count : TurnCounts → ℕ → ℕ → ℕ
count c zero = c.turns
count c (suc zero) = c.sum
count c (suc (suc j)) = c.most

-- the loops' numbers as they are
unfoldable exact : List ℕ → TurnCounts → List ℕ
exact [] c = []
exact (p ∷ hs) c = c.turns p ∷ c.sum p ∷ c.most p ∷ exact hs c

-- counts in order: no more turns in the current entry than the most in one, and no more than in all
abbrev pub Ordered : TurnCounts → List ℕ → Type 0
Ordered c = All (λ p. (c.turns p ≤ c.most p) × (c.most p ≤ c.sum p))

exactly : (ls : List Line) (hs : List ℕ) (c : TurnCounts) → Pairwise Counts-fit ls (counts_of c hs) → Ordered c hs → loop_numbers ls hs c ≡ exact hs c
unfolding loop_numbers exact counts_of
exactly [] [] c h o = refl
exactly [] (p ∷ hs) c h o = elim h [ ]
exactly (l ∷ ls) [] c h o = elim h [ ]
exactly (l ∷ ls) (p ∷ hs) c (and_then f h) (some (a, b) o) =
    let all : min (c.sum p) l.total ≡ c.sum p = omega (arith, f.all) in
    let most : min (min (c.most p) l.turns) (min (c.sum p) l.total) ≡ c.most p = omega (arith, f.most) in
    let turns : min (c.turns p) (min (min (c.most p) l.turns) (min (c.sum p) l.total)) ≡ c.turns p = omega (arith, f.most) in
    λ k. turns k ∷ all k ∷ most k ∷ exactly ls hs c h o k

three_at : (c : TurnCounts) (h : ℕ) (rest : List ℕ) (j : ℕ) → j < 3 → at (c.turns h ∷ c.sum h ∷ c.most h ∷ rest) j ≡ count c j h
three_at c h rest zero l = refl
three_at c h rest (suc zero) l = refl
three_at c h rest (suc (suc zero)) l = refl
three_at c h rest (suc (suc (suc j))) l = absurd (omega arith)

number_back : (hs : List ℕ) (c : TurnCounts) (rest : List ℕ) (p j : ℕ) → j < 3 → (All (λ h. eqb p h ≡ false) hs → count c j p ≡ 0) → loop_number hs (exact hs c ++ rest) p j ≡ count c j p
unfolding loop_number exact
number_back [] c rest p j l z = sym (z none)
number_back (h ∷ hs) c rest p j l z = by (eqb p h) (eqb→eq p h) refl (λ f. number_back hs c rest p j l f)
  where
    by : (b : Bool) → (T b → p ≡ h) → eqb p h ≡ b → ((All (λ h. eqb p h ≡ false) hs → count c j p ≡ 0) → loop_number hs (exact hs c ++ rest) p j ≡ count c j p)
        → cond b (at (c.turns h ∷ c.sum h ∷ c.most h ∷ exact hs c ++ rest) j) (loop_number hs (exact hs c ++ rest) p j) ≡ count c j p
    by true f e g = three_at c h (exact hs c ++ rest) j l ∙ ap (count c j) (sym (f tt))
    by false f e g = g (λ a. z (some e a))

-- a row that is not among the head rows is no loop
heads_miss : (ks : List RowKind) (i p j : ℕ) → p ≡ i + j → All (λ h. eqb p h ≡ false) (loop_rows i ks) → is_loop_row (view_at ks j) ≡ false
unfolding loop_rows view_of is_loop_row
heads_miss [] i p j e a = refl
heads_miss (k ∷ ks) i p zero e a = by (is_loop_row (view_of k)) refl a
  where
    by : (b : Bool) → is_loop_row (view_of k) ≡ b → All (λ h. eqb p h ≡ false) (cond b (i ∷ loop_rows (suc i) ks) (loop_rows (suc i) ks)) → is_loop_row (view_of k) ≡ false
    by true f (some h t) =
        let same : p ≡ i = omega arith in
        absurd (subst T (ap (λ n. eqb n i) (sym same) ∙ h) (eqb_refl i))
    by false f a = f
heads_miss (k ∷ ks) i p (suc j) e a = heads_miss ks (suc i) p j (omega arith) (by (is_loop_row (view_of k)) a)
  where
    by : (b : Bool) → All (λ h. eqb p h ≡ false) (cond b (i ∷ loop_rows (suc i) ks) (loop_rows (suc i) ks)) → All (λ h. eqb p h ≡ false) (loop_rows (suc i) ks)
    by true (some h t) = t
    by false a = a

module _ (π : Prices) (script : Script) where
  abbrev rows : List RowKind
  rows = script.rows

  abbrev vars : ℕ
  vars = length script.ranges

  tally_back : (c : TurnCounts) (rest : List ℕ) → Pairwise Counts-fit (report_lines script) (counts_of c (loop_rows 0 rows)) → Ordered c (loop_rows 0 rows)
      → NoCounts vars rows (matching_head script) c → tally_in (loop_rows 0 rows) (loop_numbers (report_lines script) (loop_rows 0 rows) c ++ rest) ≡ c
  unfolding tally_in
  tally_back c rest f o z =
      ap (λ l. tally_in (loop_rows 0 rows) (l ++ rest)) (exactly _ _ c f o)
      ∙ (λ k. record { turns = λ p. number 0 p (omega arith) (z.turns p) k; sum = λ p. number 1 p (omega arith) (z.sum p) k; most = λ p. number 2 p (omega arith) (z.most p) k })
    where
      number : (j p : ℕ) → j < 3 → (is_loop_row (view_at rows p) ≡ false → count c j p ≡ 0) → loop_number (loop_rows 0 rows) (exact (loop_rows 0 rows) c ++ rest) p j ≡ count c j p
      number j p l z = number_back (loop_rows 0 rows) c rest p j l (λ a. z (heads_miss rows 0 p p (omega arith) a))

  phase_back : (ph : Phase) → phase_in (phase_number ph) ≡ ph
  unfolding phase_in phase_number
  phase_back fresh = refl
  phase_back testing = refl

  -- what is read from the store and the state of a standing
  pub stand_back : (ticks used : ℕ) (a : Stand) → CanStand π rows a → Pairwise Counts-fit (report_lines script) (counts_of (counts_at_stand a) (loop_rows 0 rows))
      → Ordered (counts_at_stand a) (loop_rows 0 rows) → NoCounts vars rows (matching_head script) (counts_at_stand a) → Limited vars rows (matching_head script) (store_at a)
      → state_stand script (store_list vars (store_at a)) (state_numbers π script ticks used a) ≡ kept a
  unfolding state_stand state_numbers stand_in status_number place_row phase_at phase_in carried_at counts_at_stand store_at kept
  stand_back ticks used a can f o z s =
      let tally = tally_back (counts_at_stand a) (replicate (state_size - loops_from - length (loop_numbers (report_lines script) (loop_rows 0 rows) (counts_at_stand a))) 0) f o z in
      let store : store_of (store_list vars (store_at a)) ≡ store_at a = λ k w. store_back vars (store_at a) w (s.beyond w) k in
      (λ k. stand_in (status_number a) (record { row = place_row a; phase = phase_in (phase_at a); now = record { store = store k; left = carried_at a; picks = [] }; tally = tally k })) ∙ by a can
    where
      by : (a : Stand) → CanStand π rows a
          → stand_in (status_number a) (record { row = place_row a; phase = phase_in (phase_at a); now = record { store = store_at a; left = carried_at a; picks = [] }; tally = counts_at_stand a }) ≡ kept a
      by (going m) can = λ k. going (record { row = m.row; phase = phase_back m.phase k; now = record { store = m.now.store; left = m.now.left; picks = [] }; tally = m.tally })
      by (waits m) can = refl
      by (full m) can = refl
      by (finished Ended i s c) can = refl
      by (finished Ending.Range i s c) can = refl
      by (finished Spent i s c) can = absurd can
      by (finished NoPick i s c) can = absurd can
