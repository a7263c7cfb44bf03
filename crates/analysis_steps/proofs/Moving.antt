-- The walk that finds what a block does to the variables.
use mathlib.Core.Path.{◌≡◌, ap, ◌∙◌}
use mathlib.Core.Bool.{Bool, cond}
use mathlib.Core.List.{List}
use Prim.Native.Nat.{ℕ, ◌+◌, ◌-◌, ◌≤◌, ◌<◌}
use native.Mathlib.Omega.{arith}
use Rattle.rules.specs.declared.Row.{Row}
use Rattle.rules_steps.specs.declared.Step.{Step}
use Rattle.rules_steps.specs.declared.Step.TheVariants.{Unknown}
use Rattle.rules_steps.specs.Joins.{still, then, either}
use Rattle.rules.specs.Steps.{row_step, step}
use Rattle.rules_steps.specs.Ends.{EndsWithin}
use Rattle.analysis_steps.proofs.Ends.{ends_more, then_ends}
use Rattle.table.specs.Code.{kind_at}
use Rattle.table.specs.declared.Shape.{Shape}
use Rattle.table.specs.Shapes.{shape_of, plain_of}
use Rattle.analysis_steps.specs.declared.StepOver.{StepOver}
use Rattle.analysis_steps.specs.declared.variable_set.VariableSet.{VariableSet}
use Rattle.analysis_steps.specs.Tree.{Ready, Walked, block_at, head_of}
use Rattle.analysis_steps.specs.Sets.{set_of, none, with_row, both_of, assigns_from}
use Rattle.analysis_steps.specs.Body.{AtLoop, MovesOf, BodyMoves}
use Rattle.analysis_steps.proofs.Laws.{PickIs, LoopIs}
use Rattle.analysis_steps.proofs.Walking.{Walking, begin, loop_at, plain_row, pick_row, loop_row, at_close, at_last}
use Rattle.analysis_steps.proofs.Sets.{from_none, from_plain, from_pick, from_loop, both_loop, body_set}
use Rattle.analysis_steps.proofs.Stepping.{Stepping, starts_at, closed, ended, plain_step, pick_step, loop_step, row_ends, body_is}

-- at row i, the set has what the rows from `at` assign, and s is their step
pub record Moving (text : List ℕ) (rows : List Row) (count at v : ℕ) (first : VariableSet) (i : ℕ) (set : VariableSet) (s : Step) : Type 0 where
  pub sets : Walking text rows count assigns_from at (set_of first) i (set_of set)
  pub moves : Stepping text rows count at v i s

module _ {text : List ℕ} (rows : List Row) (count at v : ℕ) (first : VariableSet) where
  module _ (r : Ready text rows count at) where
    pub begins : Moving text rows count at v first at first still
    begins = record { sets = begin rows count assigns_from at (set_of first) r.within; moves = starts_at rows count at v r }

    module _ {i : ℕ} {set : VariableSet} {s : Step} (k : Moving text rows count at v first i set s) where
      pub with_plain : i < count → shape_of (kind_at rows i) ≡ Shape.Plain → {m : VariableSet} → set_of m ≡ (with_row (set_of set) (plain_of text (kind_at rows i)))
          → {t : Step} → t ≡ then s (row_step v (plain_of text (kind_at rows i))) → Moving text rows count at v first (i + 1) m t
      with_plain l h a b = record {
        sets = rw a (plain_row rows count assigns_from at (set_of first) k.sets l r.built h (from_plain _ _ _));
        moves = rw b (plain_step rows count at v r k.moves l h);
      }

      pub with_pick : i < count → {a b : StepOver} {q : ℕ} {m n : VariableSet} → PickIs text rows count i a.next q b.next → MovesOf text rows count (i + 1) v set m a → MovesOf text rows count q v m n b
          → {t : Step} → t ≡ then s (either a.step b.step) → Moving text rows count at v first (b.next + 1) n t
      with_pick l u f g h = record {
        sets = rw (g.sets.value, f.sets.value) (pick_row rows count assigns_from at (set_of first) k.sets l r.built u (from_pick _ _ _ _ _));
        moves = rw h (pick_step rows count at v r k.moves l u (f.moves, f.near) (g.moves, g.near));
      }

      pub with_loop : i < count → {b : StepOver} → LoopIs text rows count (head_of text (kind_at rows i)) i b.next → shape_of (kind_at rows i) ≡ Shape.Loop
          → {z n : VariableSet} → set_of z ≡ none → MovesOf text rows count (i + 1) v z n b → (o : VariableSet) → set_of o ≡ (with_row (set_of n) (plain_of text (kind_at rows i)))
          → {m : VariableSet} → set_of m ≡ (both_of (set_of set) (set_of o)) → {x : Bool} → x ≡ set_of o v → {t : Step} → t ≡ then s (cond x Unknown still) → Moving text rows count at v first (b.next + 1) m t
      with_loop l u h {z} {n} e g o a {m} c f p =
          let own = a ∙ ap (λ y. with_row y (plain_of text (kind_at rows i))) (g.sets.value ∙ ap (λ y. assigns_from y (block_at text rows count (i + 1))) e) in
          record {
            sets = rw (c, own, both_loop) (loop_row rows count assigns_from at (set_of first) k.sets l r.built u (from_loop _ _ text _ h _ _));
            moves = rw p (loop_step rows count at v r k.moves l u (f ∙ ap (λ y. y v) own ∙ body_set v text (kind_at rows i) h i (block_at text rows count (i + 1))));
          }

      -- the walk is over
      over : Walked text rows count at i (set_of set) (assigns_from (set_of first)) → Walked text rows count at i s (step v) × EndsWithin (i - at) s → MovesOf text rows count at v first set (record { step = s; next = i })
      over x w = record { sets = x; moves = w.0; near = w.1 }

      pub closes : i < count → shape_of (kind_at rows i) ≡ Shape.Close → MovesOf text rows count at v first set (record { step = s; next = i })
      closes l h = over (at_close rows count assigns_from at (set_of first) (from_none _) k.sets l r.built h) (closed rows count at v r k.moves l h)

      pub ends : count ≤ i → MovesOf text rows count at v first set (record { step = s; next = i })
      ends l = over (at_last rows count assigns_from at (set_of first) (from_none _) k.sets r.built l) (ended rows count at v r k.moves l)

module _ {text : List ℕ} {rows : List Row} {count i v : ℕ} {a b : VariableSet} where
  -- what `then` asks
  pub near_room : count ≤ 256 → {m : StepOver} → MovesOf text rows count i v a b m → EndsWithin 512 m.step
  near_room few {m} k = let w = k.moves in ends_more (m.next - i) 512 (omega arith) m.step k.near

-- a loop's body: its rows, and a for's step row
pub body_of : {text : List ℕ} {rows : List Row} {count i v : ℕ} → AtLoop text rows count i → {m : StepOver} {z n : VariableSet} → set_of z ≡ none → MovesOf text rows count (i + 1) v z n m
    → {o : VariableSet} → set_of o ≡ (with_row (set_of n) (plain_of text (kind_at rows i))) → {t : Step} → t ≡ then m.step (row_step v (plain_of text (kind_at rows i))) → BodyMoves text rows count i v (record { set = o; step = t })
body_of {text} {rows} {count} {i} {v} s {m} {z} {n} e k {o} a {t} b =
    let w = k.sets in
    let l = loop_at _ _ _ s.inside s.ready.built s.loops w.place in
    let c = m.next - (i + 1) in
    let y = row_step v (plain_of text (kind_at rows i)) in
    let own = a ∙ ap (λ y. with_row y (plain_of text (kind_at rows i))) (w.value ∙ ap (λ y. assigns_from y (block_at text rows count (i + 1))) e) in
    record {
      sets = λ u. ap (λ f. f u) own ∙ body_set u text (kind_at rows i) s.loops i (block_at text rows count (i + 1));
      moves = rw (b, k.moves.value) (body_is v text (kind_at rows i) s.loops i (block_at text rows count (i + 1)));
      near = rw b (ends_more (c + 1) 256 (omega (arith, s.ready.few)) (then m.step y) (then_ends c 1 m.step y k.near (row_ends v text (kind_at rows i) (s.ready.fine i s.inside))));
    }
