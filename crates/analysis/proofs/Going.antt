-- The analysis' walk, row by row: what the code carries is what the fold carries.
use Rattle.std.specs.Option.{is_some}
use mathlib.Core.Path.{◌≡◌, refl, sym, ap, ap₂, subst, ◌∙◌, fun_ext}
use mathlib.Core.Logic.{inl, inr}
use mathlib.Core.Bool.{Bool, false, not, cond, ◌&&◌}
use mathlib.Core.List.{List, [], ◌∷◌, ◌++◌}
use Prim.Native.Nat.{ℕ, ◌+◌, ◌*◌, ◌≤◌, ◌<◌, max}
use native.Mathlib.Omega.{arith}
use native.Mathlib.Nat.{mul-le-mul}
use lib.Dec.{leb}
use lib.IntN.{ℤ, pos}
use Rattle.rules.specs.declared.Row.{Row}
use Rattle.rules.specs.Blocks.{Test, Form, Block}
use Rattle.rules.specs.Steps.{starts, assigns}
use Rattle.rules.specs.Ranges.{Env, full, after_row, join, at_start}
use Rattle.rules.specs.Trips.{Trip, trip, turns, inside, outside, after}
use Rattle.rules.specs.Bounds.{FinePrices}
use Rattle.rules.specs.declared.Prices.{Prices}
use Rattle.rules.specs.Passes.{Pass, any, start_pass, sum_over, sums, first_pass, over_passes}
use Rattle.rules.specs.Figures.{ticks, Line, alike, often, total_of, in_body, line, lines}
use Rattle.rules.proofs.Triangles.{over_same, over_past}
use Rattle.rules.proofs.Walk.{over_add, over_once, turns_walk, passes_walk}
use Rattle.rules.specs.Verdicts.{Verdict}
use Rattle.rules.specs.Verdicts.{passed, refused}
use Rattle.rules.specs.Questions.{and_then, asked, tick_limit, of_trip, loops_verdict, blocks_verdict}
use Rattle.table.specs.declared.Shape.{Shape}
use lib.ListN.{length, set}
use Rattle.analysis_lines.specs.Coded.{first_lines}
use Rattle.table.specs.Code.{kind_at}
use Rattle.table.specs.Shapes.{shape_of, plain_of}
use Rattle.analysis_steps.specs.Tree.{block_at, Whole, Ready, Walked, head_of, form_of, test_of}
use Rattle.analysis_steps.specs.Body.{body_at}
use Rattle.analysis_steps.proofs.Laws.{PickIs, LoopIs}
use Rattle.analysis_steps.proofs.Walking.{Walking, plain_row}
use Rattle.analysis_intervals.specs.Env.{env_of}
use Rattle.analysis_ticks.specs.Capped.{capped, once, over_of}
use Rattle.analysis_ticks.proofs.Caps.{cap_mul, loop_ticks_is}
use Rattle.analysis_ticks.specs.declared.passes.Round.{Round}
use Rattle.analysis_ticks.specs.Rounds.{round_of, pass_in, FineRound, branch_of}
use Rattle.analysis_ticks.proofs.Loops.{walk_is}
use Rattle.analysis.specs.declared.entries.LoopEntry.{LoopEntry}
use Rattle.analysis.specs.Enter.{walked_at, EntryPassed}
use Rattle.analysis.specs.Known.{not_known, NotedFor}
use Rattle.analysis.specs.Tallies.{FoldState, LentTally, tallied, last_ticks, line_for, Restarted, PastRow, LineAdded, BlockClosed}
use Rattle.analysis.specs.Own.{put_own}
use Rattle.analysis.specs.Fold.{loop_count, front_of, rest_of, capped_line, capped_lines, folded, Walkable, PassedPart, IsBlock, PassedBlock}
use Rattle.analysis.proofs.Laws.{state_is}
use Rattle.analysis.proofs.Folding.{cap_lines, later_in, fold_plain, first_pick, first_loop, fold_first, past_plain, pick_ticks, past_pick, own_ticks, ticks_of_all, past_loop, SameBody, same_body}
use Rattle.analysis.proofs.Bodies.{body_known, body_sum, body_lines, own_passes, cap_often}
use Rattle.analysis.proofs.Laws.{last_small}

-- what a walk over a block found, part by part, from a tally with these parts
pub record Part (π : Prices) (q : Round) (k : Bool) (ρ : Env) (s : ℕ) (o : Verdict) (ls : List Line) (n : ℕ) (os : List ℕ) (b : Block) (ranges : List (List ℤ)) (r : LentTally) : Type 0 where
  pub env : env_of ranges ≡ after ρ b
  pub kept : r.kept ≡ k && not (assigns q.v b)
  pub verdict : loops_verdict ρ b ≡ passed
  pub spent : r.spent ≡ capped (s + sum_over (pass_in q k) q.by q.count (λ j. ticks π j ρ b))
  pub over : over_of r.over ≡ and_then o (blocks_verdict π ρ b)
  pub lined : first_lines r.lines r.loops ≡ ls ++ capped_lines (lines (round_of q) (pass_in q k) ρ b)
  pub count : r.loops ≡ n + loop_count b
  pub own : r.own ≡ put_own π ρ b os
  pub long : length r.lines ≡ 16

abbrev pub from_parts : Env → Bool → ℕ → Verdict → List Line → ℕ → List ℕ → FoldState
from_parts ρ k s o ls n os = record { env = ρ; kept = k; verdict = passed; spent = s; over = o; lines = ls; loops = n; own = os }

pub part_of : {text : List ℕ} {π : Prices} {rows : List Row} {count at : ℕ} {q : Round} {ρ : Env} {t r : LentTally} {ranges : List (List ℤ)} (k : Bool) (s : ℕ) (o : Verdict) (ls : List Line) (n : ℕ) (os : List ℕ) → tallied t ρ ≡ from_parts ρ k s o ls n os
    → PassedPart text π rows count at ρ q t ranges r → Part π q k ρ s o ls n os (block_at text rows count at) ranges r
unfolding folded and_then
part_of {text} {π} {rows} {count} {at} {q} {ρ} {t} {r} {ranges} k s o ls n os e p =
    let b = block_at text rows count at in
    let v : tallied r (env_of ranges) ≡ folded π q (from_parts ρ k s o ls n os) b = p.value ∙ ap (λ x. folded π q x b) e in
    record {
      env = ap (λ (x : FoldState). x.env) v;
      kept = ap (λ (x : FoldState). x.kept) v;
      verdict = sym (ap (λ (x : FoldState). x.verdict) v);
      spent = ap (λ (x : FoldState). x.spent) v;
      over = ap (λ (x : FoldState). x.over) v;
      lined = ap (λ (x : FoldState). x.lines) v;
      count = ap (λ (x : FoldState). x.loops) v;
      own = ap (λ (x : FoldState). x.own) v;
      long = p.long;
    }

-- a tally with another list of own ticks
abbrev pub with_own : LentTally → List ℕ → LentTally
with_own r os = record { kept = r.kept; over = r.over; spent = r.spent; loops = r.loops; next = r.next; lines = r.lines; own = os }

-- what is noted only where the list has a place is noted
noted : (os : List ℕ) (e : ℕ) {x y : ℕ} → (0 < length os → x ≡ y) → set os e x ≡ set os e y
noted [] e h = refl
noted (o ∷ os) e h = ap (set (o ∷ os) e) (h (omega arith))

-- a row that is neither plain nor a close begins a block; a block that is no pick is a loop
pub block_shape : (s : Shape) → (s ≡ Shape.Plain → ⊥) → (s ≡ Shape.Close → ⊥) → IsBlock s
block_shape Shape.Plain f g = absurd (f refl)
block_shape Shape.Branch f g = inl refl
block_shape Shape.Loop f g = inr refl
block_shape Shape.Close f g = absurd (g refl)

pub loop_shape_lem : (s : Shape) → (s ≡ Shape.Branch → ⊥) → IsBlock s → s ≡ Shape.Loop
loop_shape_lem s f (inl e) = absurd (f e)
loop_shape_lem s f (inr e) = e

-- the walk is over
pub closing : {text : List ℕ} {π : Prices} {rows : List Row} {count at : ℕ} {outer : Round} {ρ₀ : Env} {ranges : List (List ℤ)} {t t₀ : LentTally} → Walked text rows count at t.next (tallied t (env_of ranges)) (folded π outer (tallied t₀ ρ₀)) → t.spent ≤ 1_000_000_000_001 → length t.lines ≡ 16
    → PassedPart text π rows count at ρ₀ outer t₀ ranges t
closing w s m = record { value = w.value; place = w.place; low = w.low; high = w.high; small = s; long = m }

nowhere : Env
nowhere w = full

-- a tally that a walk may start from, at row a
pub restart_walkable : {text : List ℕ} {π : Prices} {rows : List Row} {count a s : ℕ} {kept : Bool} {q : Round} {t r : LentTally} → Ready text rows count a → FinePrices π → FineRound q → Restarted t kept s a r → length t.lines ≡ 16 → s ≤ 1_000_000_000_001
    → t.loops + loop_count (block_at text rows count a) ≤ 16 → Walkable text π rows count r.next q r
restart_walkable {text} {π} {rows} {count} {q} {t} {r} k fine o h g l m =
    let p = ap (λ (x : FoldState). x.spent) (h.value nowhere) in
    let n = ap (λ (x : FoldState). x.loops) (h.value nowhere) in
    subst (λ z. Walkable text π rows count z q r) (sym h.next) (record { ready = k; prices = fine; small = omega arith; fine = o; room = omega arith; long = ap length h.same ∙ g })

pub lined_walkable : {text : List ℕ} {π : Prices} {rows : List Row} {count i turns total s : ℕ} {kept : Bool} {q : Round} {τ : Trip} {t r : LentTally} → Ready text rows count (i + 1) → FinePrices π → FineRound q → LineAdded t i τ turns total s kept r → s ≤ 1_000_000_000_001
    → t.loops + 1 + loop_count (block_at text rows count (i + 1)) ≤ 16 → Walkable text π rows count r.next q r
lined_walkable {text} {π} {rows} {count} {q} {t} {r} k fine o h l m =
    let p = ap (λ (x : FoldState). x.spent) (h.value nowhere) in
    let n = ap (λ (x : FoldState). x.loops) (h.value nowhere) in
    subst (λ z. Walkable text π rows count z q r) (sym h.next) (record { ready = k; prices = fine; small = omega arith; fine = o; room = omega arith; long = h.long })

pub record Going (text : List ℕ) (π : Prices) (rows : List Row) (count : ℕ) (round : Round) (at : ℕ) (x₀ : FoldState) (ρ : Env) (t : LentTally) : Type 0 where
  pub walk : Walking text rows count (folded π round) at x₀ t.next (tallied t ρ)
  pub small : t.spent ≤ 1_000_000_000_001
  pub long : length t.lines ≡ 16

module _ {text : List ℕ} {π : Prices} {rows : List Row} {count : ℕ} {round : Round} {at : ℕ} {x₀ : FoldState} {ρ : Env} {t : LentTally} (k : Going text π rows count round at x₀ ρ t) where
  -- the loops that are left
  pub room : x₀.loops + loop_count (block_at text rows count at) ≡ t.loops + loop_count (block_at text rows count t.next)
  unfolding folded
  room = ap (λ (x : FoldState). x.loops) k.walk.value

  pub go_plain : t.next < count → Whole text rows count → shape_of (kind_at rows t.next) ≡ Shape.Plain → {σ : Env} {r : LentTally} → σ ≡ after_row ρ (plain_of text (kind_at rows t.next)) → PastRow π round t (plain_of text (kind_at rows t.next)) r
      → Going text π rows count round at x₀ σ r
  go_plain l built h {σ} {r} a c =
      let p = plain_of text (kind_at rows t.next) in
      let e : tallied r σ ≡ past_plain π round (tallied t ρ) p = c.value σ ∙ state_is a refl refl refl refl refl refl refl in
      record {
        walk = rw c.next (plain_row rows count (folded π round) at x₀ k.walk l built h (λ rest. fold_plain π round (tallied t ρ) t.next p rest ∙ ap (λ y. folded π round y rest) (sym e)));
        small = let z = ap (λ (x : FoldState). x.spent) (c.value σ) in omega arith;
        long = ap length c.same ∙ k.long;
      }

  -- past a block, by its first row's own walk; or stopped in it
  first_then : folded π round x₀ (block_at text rows count at) ≡ folded π round (folded π round (tallied t ρ) (front_of (block_at text rows count t.next))) (rest_of (block_at text rows count t.next))
  first_then = k.walk.value ∙ fold_first π round (tallied t ρ) (block_at text rows count t.next) k.small

  pub go_block : {ranges : List (List ℤ)} {r : LentTally} → PassedBlock text π rows count t.next ρ round t ranges r → Going text π rows count round at x₀ (env_of ranges) r
  go_block {ranges} {r} p =
      let w = k.walk in
      record {
        walk = record { low = omega arith; high = p.high; value = first_then ∙ ap₂ (folded π round) (sym p.value) p.rest; place = w.place ∙ p.place };
        small = p.small;
        long = p.long;
      }

  pub block_stops : (n p : ℕ) → (folded π round (tallied t ρ) (front_of (block_at text rows count t.next))).verdict ≡ refused n p → (folded π round x₀ (block_at text rows count at)).verdict ≡ refused n p
  unfolding folded and_then
  block_stops n p h = ap (λ (x : FoldState). x.verdict) first_then ∙ ap (λ v. and_then v (loops_verdict (after ρ (front_of (block_at text rows count t.next))) (rest_of (block_at text rows count t.next)))) h

-- a walk from row a, by the row of its tally
pub walked_from : {text : List ℕ} {π : Prices} {rows : List Row} {count a b : ℕ} {q : Round} {ρ : Env} {t r : LentTally} {ranges : List (List ℤ)} → b ≡ a → PassedPart text π rows count b ρ q t ranges r → PassedPart text π rows count a ρ q t ranges r
walked_from {text} {π} {rows} {count} {q} {ρ} {t} {r} {ranges} e h = subst (λ z. PassedPart text π rows count z ρ q t ranges r) e h

pub stopped_from : (text : List ℕ) (rows : List Row) (count : ℕ) (ρ : Env) {a b n p : ℕ} → b ≡ a → loops_verdict ρ (block_at text rows count b) ≡ refused n p → loops_verdict ρ (block_at text rows count a) ≡ refused n p
stopped_from text rows count ρ {n = n} {p = p} e h = subst (λ z. loops_verdict ρ (block_at text rows count z) ≡ refused n p) e h

-- ---- a block at row i, from the ranges ρ and the tally t
module _ {text : List ℕ} (π : Prices) {rows : List Row} {count : ℕ} (round : Round) {i : ℕ} (ρ : Env) (t : LentTally) where
  -- ---- a pick
  module _ {m q e : ℕ} (u : PickIs text rows count i m q e) where
    abbrev A : Block
    A = block_at text rows count (i + 1)

    abbrev B : Block
    B = block_at text rows count q

    pub pick_room : t.loops + loop_count (block_at text rows count i) ≤ 16 → t.loops + loop_count A + loop_count B ≤ 16
    unfolding loop_count
    pick_room h = omega (arith, ap loop_count u.block)

    pick_alone : folded π round (tallied t ρ) (front_of (block_at text rows count i)) ≡ past_pick π round (tallied t ρ) i e A B
    unfolding front_of
    pick_alone = ap (λ b. folded π round (tallied t ρ) (front_of b)) u.block ∙ first_pick π round (tallied t ρ) i e A B

    pub pick_first : (n p : ℕ) → loops_verdict ρ A ≡ refused n p → (folded π round (tallied t ρ) (front_of (block_at text rows count i))).verdict ≡ refused n p
    unfolding and_then
    pick_first n p h = ap (λ (x : FoldState). x.verdict) pick_alone ∙ ap (λ v. and_then v (loops_verdict ρ B)) h

    pub pick_second : (n p : ℕ) → loops_verdict ρ A ≡ passed → loops_verdict ρ B ≡ refused n p → (folded π round (tallied t ρ) (front_of (block_at text rows count i))).verdict ≡ refused n p
    unfolding and_then
    pick_second n p g h = ap (λ (x : FoldState). x.verdict) pick_alone ∙ ap₂ (λ v w. and_then v w) g h

    -- a part's ticks and lines
    abbrev part : Round
    part = branch_of round

    part_ticks : (b : Block) → sum_over (pass_in part false) (pos 0) 1 (λ j. ticks π j ρ b) ≡ ticks π any ρ b
    part_ticks b = over_once (pos 0) (λ j. ticks π j ρ b)

    part_lines : (b : Block) → capped_lines (lines (round_of part) any ρ b) ≡ capped_lines (lines (alike (often (round_of round))) any ρ b)
    part_lines b = cap_lines 1 (pos 0) _ _ (omega arith) any ρ b

    -- a part, walked with its ticks from the start
    pub part_by : {at : ℕ} {p : Round} {x y z : LentTally} {ranges : List (List ℤ)} → p ≡ part → Restarted x x.kept 0 at y → PassedPart text π rows count at ρ p y ranges z
        → Part π part x.kept ρ 0 (over_of x.over) (first_lines x.lines x.loops) x.loops x.own (block_at text rows count at) ranges z
    part_by {at} {p} {x} {y} {z} {ranges} e h g =
        let ls = first_lines x.lines x.loops in
        subst (λ q. Part π q x.kept ρ 0 (over_of x.over) ls x.loops x.own (block_at text rows count at) ranges z) e (part_of x.kept 0 (over_of x.over) ls x.loops x.own (h.value ρ) g)

    pub past_pick_lem : {a b : LentTally} {first second ranges : List (List ℤ)} {r : LentTally}
        → Part π part t.kept ρ 0 (over_of t.over) (first_lines t.lines t.loops) t.loops t.own A first a
        → Part π part a.kept ρ 0 (over_of a.over) (first_lines a.lines a.loops) a.loops a.own B second b
        → BlockClosed t b i e (capped (π.pick + max a.spent b.spent)) (capped (round.count * capped (π.pick + max a.spent b.spent))) b.kept r → env_of ranges ≡ join (env_of first) (env_of second) → PassedBlock text π rows count i ρ round t ranges r
    unfolding and_then rest_of
    past_pick_lem {a} {b} {ranges} {r} pa pb c s =
        let G = pick_ticks π round (tallied t ρ) A B in
        let fg : capped (π.pick + max a.spent b.spent) ≡ capped G = omega (arith, pa.spent, pb.spent, part_ticks A, part_ticks B) in
        let all : capped (round.count * capped (π.pick + max a.spent b.spent)) ≡ capped (round.count * G) = ap (λ z. capped (round.count * z)) fg ∙ cap_mul round.count G in
        let z : tallied r (env_of ranges) ≡ past_pick π round (tallied t ρ) i e A B = state_is (s ∙ ap₂ join pa.env pb.env)
        (c.kept ∙ pb.kept ∙ ap (λ p. p && not (assigns round.v B)) pa.kept)
        (sym (ap₂ (λ v w. and_then v w) pa.verdict pb.verdict))
        (omega (arith, c.spent, all))
        (c.over.value G fg ∙ ap (λ v. and_then v (asked 13 e (leb G tick_limit) passed)) (pb.over ∙ ap (λ v. and_then v (blocks_verdict π ρ B)) pa.over))
        (ap₂ first_lines c.same c.loops ∙ pb.lined ∙ ap₂ (λ x y. x ++ y) (pa.lined ∙ ap (λ x. first_lines t.lines t.loops ++ x) (part_lines A)) (part_lines B))
        (c.loops ∙ pb.count ∙ ap (λ x. x + loop_count B) pa.count)
        (c.own ∙ ap₂ (λ o n. set o i n) (pb.own ∙ ap (put_own π ρ B) pa.own) fg) in
        record {
          value = z ∙ sym pick_alone;
          rest = rw c.next (ap rest_of u.block);
          place = rw c.next u.end;
          low = omega (arith, c.next);
          high = omega (arith, c.next);
          small = omega (arith, c.spent);
          long = ap length c.same ∙ pb.long;
        }

  -- ---- a loop
  module _ {e : ℕ} (u : LoopIs text rows count (head_of text (kind_at rows i)) i e) where
    abbrev form : Form
    form = form_of text (kind_at rows i)

    abbrev test : Test
    test = test_of text (kind_at rows i)

    abbrev body : Block
    body = body_at text rows count i

    abbrev σ : Env
    σ = at_start form test ρ

    abbrev β : Env
    β = inside form σ test body

    same : SameBody π (head_of text (kind_at rows i)).last (block_at text rows count (i + 1)) body
    same = same_body π (head_of text (kind_at rows i)).last i (block_at text rows count (i + 1))

    pub loop_room : t.loops + loop_count (block_at text rows count i) ≤ 16 → t.loops + 1 + loop_count (block_at text rows count (i + 1)) ≤ 16
    unfolding loop_count
    loop_room h = omega (arith, ap loop_count u.block, same.count)

    loop_alone : folded π round (tallied t ρ) (front_of (block_at text rows count i)) ≡ past_loop π round (tallied t ρ) i e form test body
    unfolding front_of
    loop_alone = ap (λ b. folded π round (tallied t ρ) (front_of b)) u.block ∙ first_loop π round (tallied t ρ) i e form test body

    pub loop_refused : (n p : ℕ) → of_trip i (trip form σ test body) ≡ refused n p → (folded π round (tallied t ρ) (front_of (block_at text rows count i))).verdict ≡ refused n p
    unfolding and_then
    loop_refused n p g = ap (λ (x : FoldState). x.verdict) loop_alone ∙ ap (λ v. and_then v (loops_verdict β body)) g

    pub body_refused : (n p : ℕ) → of_trip i (trip form σ test body) ≡ passed → loops_verdict β (block_at text rows count (i + 1)) ≡ refused n p → (folded π round (tallied t ρ) (front_of (block_at text rows count i))).verdict ≡ refused n p
    unfolding and_then
    body_refused n p g h = ap (λ (x : FoldState). x.verdict) loop_alone ∙ ap₂ (λ v w. and_then v w) g (same.loops β ∙ h)

    -- what is known at its start, its turns in all passes, a pass with its test
    abbrev κ : Pass
    κ = pass_in round (t.kept && not (starts round.v form test))

    abbrev W : ℕ
    W = walked_at text round t.kept (kind_at rows i) (trip form σ test body)

    abbrev turn : Pass → ℕ
    turn j = ticks π j β body + π.test

    start_is : start_pass form test (pass_in round t.kept) ≡ κ
    start_is = later_in round t.kept (λ w. starts w form test)

    turns_are : turns_walk (round_of round) κ form σ test body ≡ W
    turns_are = walk_is form σ test body (round_of round) κ

    total_is : total_of (round_of round) κ form σ test body ≡ W * round.times
    unfolding total_of
    total_is = ap (λ z. z * round.times) turns_are

    -- G: the ticks of the passes as they are walked
    module _ (x : LoopEntry) {first : LentTally} (en : EntryPassed text π i test.tested round (kind_at rows i) (trip form σ test body) t x first) where
      abbrev inner : (Pass → ℕ) → ℕ
      inner f = sum_over (pass_in x.round (is_some x.round.x)) x.round.by x.round.count f

      inner_is : (f : Pass → ℕ) → inner f ≡ sum_over (first_pass form σ test body) (in_body (round_of round) κ form σ test body).by (in_body (round_of round) κ form σ test body).count f
      inner_is = body_sum round κ form σ test body (capped (W * round.times)) x.round en.round

      sums_known : is_some x.round.x ≡ sums form σ test body
      sums_known = body_known round κ form σ test body (capped (W * round.times)) x.round en.round

      pub with_last_lem : inner (λ j. ticks π j β body) ≡ x.round.count * last_ticks text π (kind_at rows i) + inner (λ j. ticks π j β (block_at text rows count (i + 1)))
      with_last_lem =
          let p = last_ticks text π (kind_at rows i) in
          ap inner (fun_ext λ j. same.ticked j β)
          ∙ over_add (pass_in x.round (is_some x.round.x)) x.round.by x.round.count (λ _. p) (λ j. ticks π j β (block_at text rows count (i + 1)))
          ∙ ap (λ z. z + inner (λ j. ticks π j β (block_at text rows count (i + 1)))) (over_same (pass_in x.round (is_some x.round.x)) x.round.by x.round.count p)

      with_tests : inner (λ j. ticks π j β body) + x.exit.ran.tests * π.test ≡ inner turn
      with_tests =
          omega (
            arith,
            ap (λ z. z * π.test) en.ran.tests,
            over_add (pass_in x.round (is_some x.round.x)) x.round.by x.round.count (λ j. ticks π j β body) (λ _. π.test),
            over_same (pass_in x.round (is_some x.round.x)) x.round.by x.round.count π.test,
          )

      own_is : capped (x.exit.ran.own * (inner (λ j. ticks π j β body) + x.exit.ran.tests * π.test) + 1 * once π form) ≡ capped (own_ticks π round (tallied t ρ) i e form test body)
      own_is =
          let n = turns form σ test body in
          let a : x.exit.ran.own ≡ cond (sums form σ test body) 1 n = en.ran.own ∙ ap (λ b. cond b 1 n) sums_known in
          let g = with_tests ∙ inner_is turn in
          let z : x.exit.ran.own * (inner (λ j. ticks π j β body) + x.exit.ran.tests * π.test) ≡ over_passes any form σ test body turn = (λ j. a j * g j) ∙ sym (own_passes round κ form σ test body turn) in
          omega (arith, z, loop_ticks_is π form (over_passes any form σ test body turn))

      all_is : capped (x.exit.ran.all * (inner (λ j. ticks π j β body) + x.exit.ran.tests * π.test) + round.count * once π form) ≡ capped (ticks_of_all π round (tallied t ρ) i e form test body)
      all_is =
          let s = sums form σ test body in
          let K = pass_in round t.kept in
          let o : ℕ = round.count * once π form in
          let a : x.exit.ran.all ≡ cond s round.count (capped W) = en.ran.all ∙ ap (λ b. cond b round.count (capped W)) sums_known in
          let g = with_tests ∙ inner_is turn in
          let G = sum_over (first_pass form σ test body) (in_body (round_of round) κ form σ test body).by (in_body (round_of round) κ form σ test body).count turn in
          let f : Pass → ℕ = λ j. over_passes j form σ test body turn in
          let walk : sum_over κ round.by round.count f ≡ cond s round.count W * G = passes_walk (round_of round) κ form σ test body turn ∙ ap (λ z. cond s round.count z * G) turns_are in
          let past : sum_over K round.by round.count (λ j. f (start_pass form test j)) ≡ sum_over κ round.by round.count f
          = over_past (λ w. starts w form test) K round.by round.count f ∙ ap (λ k. sum_over k round.by round.count f) start_is in
          let loops : ticks_of_all π round (tallied t ρ) i e form test body ≡ sum_over K round.by round.count (λ j. f (start_pass form test j)) + o
          = ap (sum_over K round.by round.count) (fun_ext λ j. loop_ticks_is π form (f (start_pass form test j)))
          ∙ over_add K round.by round.count (λ j. f (start_pass form test j)) (λ _. once π form)
          ∙ ap (λ z. sum_over K round.by round.count (λ j. f (start_pass form test j)) + z) (over_same K round.by round.count (once π form)) in
          (λ j. capped (a j * g j + o)) ∙ cap_often round κ form σ test body s round.count W G o ∙ ap (λ z. capped (z + o)) (sym walk ∙ sym past) ∙ ap capped (sym loops)

      -- its body may be walked, and has been
      pub body_walkable : Ready text rows count (i + 1) → FinePrices π → t.loops + loop_count (block_at text rows count i) ≤ 16 → Walkable text π rows count first.next x.round first
      body_walkable k fine h = lined_walkable k fine en.fine en.lined (omega (arith, mul-le-mul en.fine.few (last_small fine text (kind_at rows i)))) (loop_room h)

      pub body_by : {ρ' : Env} {ranges : List (List ℤ)} {b : LentTally} → ρ' ≡ β → PassedPart text π rows count (i + 1) ρ' x.round first ranges b
          → Part π x.round (is_some x.round.x) β (x.round.count * last_ticks text π (kind_at rows i)) (over_of t.over) (first_lines t.lines t.loops ++ (line_for i (trip form σ test body) (turns form σ test body) (capped (W * round.times)) ∷ [])) (t.loops + 1) t.own (block_at text rows count (i + 1)) ranges b
      body_by {ρ'} {ranges} {b} e p =
          let s = x.round.count * last_ticks text π (kind_at rows i) in
          let ls = first_lines t.lines t.loops ++ (line_for i (trip form σ test body) (turns form σ test body) (capped (W * round.times)) ∷ []) in
          subst (λ z. Part π x.round (is_some x.round.x) z s (over_of t.over) ls (t.loops + 1) t.own (block_at text rows count (i + 1)) ranges b) e (part_of (is_some x.round.x) s (over_of t.over) ls (t.loops + 1) t.own (en.lined.value _) p)

      pub past_loop_lem : {inner-ranges ranges : List (List ℤ)} {b r : LentTally} {keep : Bool}
          → Part π x.round (is_some x.round.x) β (x.round.count * last_ticks text π (kind_at rows i)) (over_of t.over) (first_lines t.lines t.loops ++ (line_for i (trip form σ test body) (turns form σ test body) (capped (W * round.times)) ∷ [])) (t.loops + 1) t.own (block_at text rows count (i + 1)) inner-ranges b
          → ((G : ℕ) → b.spent ≡ capped G → BlockClosed t b i e (capped (x.exit.ran.own * (G + x.exit.ran.tests * π.test) + 1 * once π form)) (capped (x.exit.ran.all * (G + x.exit.ran.tests * π.test) + round.count * once π form)) keep r)
          → keep ≡ (t.kept && not (starts round.v form test)) && not (assigns round.v body) → env_of ranges ≡ outside form σ test body
          → {os : List ℕ} {sum : ℕ} → NotedFor (length r.own) ρ sum → os ≡ set r.own e sum → PassedBlock text π rows count i ρ round t ranges (with_own r os)
      unfolding and_then rest_of
      past_loop_lem {ranges} {b} {r} {keep} p f kp s {os} nf wrote =
          let n = turns form σ test body in
          let G = inner (λ j. ticks π j β body) in
          let F = own_ticks π round (tallied t ρ) i e form test body in
          let c = f G (p.spent ∙ ap capped (sym with_last_lem)) in
          let L : line_for i (trip form σ test body) n (capped (W * round.times)) ≡ capped_line (line (round_of round) (start_pass form test (pass_in round t.kept)) i form σ test body)
          = ap (λ z. line_for i (trip form σ test body) n (capped z)) (sym total_is ∙ ap (λ j. total_of (round_of round) j form σ test body) (sym start_is)) in
          let lined : capped_lines (lines (round_of x.round) (pass_in x.round (is_some x.round.x)) β (block_at text rows count (i + 1))) ≡ capped_lines (lines (in_body (round_of round) (start_pass form test (pass_in round t.kept)) form σ test body) (first_pass form σ test body) β body)
          = ap capped_lines (sym (same.lined (round_of x.round) (pass_in x.round (is_some x.round.x)) β))
          ∙ body_lines round κ form σ test body (capped (W * round.times)) x.round en.round (ap capped (sym total_is)) β body
          ∙ ap (λ j. capped_lines (lines (in_body (round_of round) j form σ test body) (first_pass form σ test body) β body)) (sym start_is) in
          let y : tallied (with_own r os) (env_of ranges) ≡ past_loop π round (tallied t ρ) i e form test body = state_is s
          (c.kept ∙ kp)
          (sym (ap₂ (λ a w. and_then a w) en.verdict (same.loops β ∙ p.verdict)))
          (c.spent ∙ omega (arith, all_is))
          (c.over.value F own_is ∙ ap (λ w. and_then w (asked 13 e (leb F tick_limit) passed)) (p.over ∙ ap (and_then (over_of t.over)) (sym (same.over β))))
          (ap₂ first_lines c.same c.loops ∙ p.lined ∙ ap₂ (λ a w. (first_lines t.lines t.loops ++ (a ∷ [])) ++ w) L lined)
          (c.loops ∙ p.count ∙ ap (λ m. t.loops + 1 + m) (sym same.count))
          (wrote ∙ noted r.own e nf ∙ ap (λ o. set o e (not_known 16 ρ)) (c.own ∙ ap₂ (λ o m. set o i m) (p.own ∙ sym (same.own β t.own)) own_is)) in
          record {
            value = y ∙ sym loop_alone;
            rest = rw c.next (ap rest_of u.block);
            place = rw c.next u.end;
            low = omega (arith, c.next);
            high = omega (arith, c.next);
            small = omega (arith, c.spent);
            long = ap length c.same ∙ p.long;
          }
