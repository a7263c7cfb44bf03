-- The walk that finds a variable's step: its loop, and how large the step's ends get.
use mathlib.Core.Path.{◌≡◌, refl, sym}
use mathlib.Core.Bool.{Bool, false, cond, ◌||◌}
use mathlib.Core.List.{List}
use Prim.Native.Nat.{ℕ, ◌+◌, ◌-◌, ◌≤◌, ◌<◌}
use native.Mathlib.Omega.{arith}
use lib.Dec.{eqb}
use lib.IntN.{ℤ, pos, ◌+ℤ◌}
use Rattle.ints.proofs.Parts.{ints, add_parts}
use Rattle.rules.specs.declared.Row.{Row}
use Rattle.rules.specs.declared.Kind.{Kind}
use Rattle.rules.specs.declared.Kind.TheVariants.{Set, Move, Cue, Pick, Else, End, While, Do, For, Off, Hold}
use Rattle.rules_steps.specs.declared.Step.{Step}
use Rattle.rules_steps.specs.declared.Step.TheVariants.{Add, Grow, Shrink, Unknown}
use Rattle.rules.specs.Blocks.{Plain, assign, cue, Last, no_step, step_by, view_of, kind_of, with_last, Block, done, plain, pick, loop, snoc}
use Rattle.rules_steps.specs.Joins.{still, then, either}
use Rattle.rules.specs.Steps.{sets, starts, assigns, source_step, change_step, row_step, step_from, step}
use Rattle.rules_steps.specs.Ends.{EndsWithin}
use Rattle.rules.specs.Bounds.{Fine}
use Rattle.analysis_steps.proofs.Ends.{ends_more, ends_only, still_ends, then_ends, either_ends, change_ends}
use Rattle.table.specs.declared.Shape.{Shape}
use Rattle.table.specs.Code.{kind_at}
use Rattle.table.specs.Shapes.{shape_of, last_row, plain_of}
use Rattle.analysis_steps.specs.Tree.{Ready, Walked, block_at, head_of}
use Rattle.analysis_steps.specs.Body.{body_at}
use Rattle.analysis_steps.proofs.Laws.{PickIs, LoopIs}
use Rattle.analysis_steps.proofs.Walking.{Walking, begin, plain_row, pick_row, loop_row, at_close, at_last}
use Rattle.analysis_steps.proofs.Sets.{head_row, loop_assigns}

-- the step of one row within its limits
pub row_ends : (v : ℕ) (text : List ℕ) (k : Kind) → Fine k → EndsWithin 1 (row_step v (plain_of text k))
unfolding row_step source_step view_of kind_of
row_ends v text (Set w x) h = ends_only 1 (eqb v w) Unknown tt
row_ends v text (Move w c) (l, h) = ends_only 1 (eqb v w) (change_step c) (change_ends c h)
row_ends v text (Cue n) h = still_ends 1
row_ends v text Pick h = still_ends 1
row_ends v text Else h = still_ends 1
row_ends v text End h = still_ends 1
row_ends v text (While w c x) h = still_ends 1
row_ends v text (Do w c x) h = still_ends 1
row_ends v text (For w s c x d) (l, p, q, h) = ends_only 1 (eqb v w) (change_step d) (change_ends d h)
row_ends v text (Off w u c k) h = ends_only 1 (eqb v w) Unknown tt
row_ends v text (Hold w) h = still_ends 1

-- what `then` asks of it
pub row_room : (v : ℕ) (text : List ℕ) (k : Kind) → Fine k → EndsWithin 512 (row_step v (plain_of text k))
row_room v text k h = ends_more 1 512 (omega arith) (row_step v (plain_of text k)) (row_ends v text k h)

abbrev pub steps : ℕ → Step → Block → Step
steps v x b = step_from x v b

-- at row i, s is the step over the rows from `at`
pub record Stepping (text : List ℕ) (rows : List Row) (count at v i : ℕ) (s : Step) : Type 0 where
  pub walk : Walking text rows count (steps v) at still i s
  pub ends : EndsWithin (i - at) s

module _ {text : List ℕ} (rows : List Row) (count at v : ℕ) where
  module _ (r : Ready text rows count at) where
    pub starts_at : Stepping text rows count at v at still
    starts_at = record { walk = begin rows count (steps v) at still r.within; ends = still_ends (at - at) }

    module _ {i : ℕ} {s : Step} (k : Stepping text rows count at v i s) where
      -- what `then` asks
      pub room : EndsWithin 512 s
      room = let w = k.walk in ends_more (i - at) 512 (omega arith) s k.ends

      pub closed : i < count → shape_of (kind_at rows i) ≡ Shape.Close → Walked text rows count at i s (step v) × EndsWithin (i - at) s
      unfolding step_from
      closed l h = (at_close rows count (steps v) at still refl k.walk l r.built h, k.ends)

      pub ended : count ≤ i → Walked text rows count at i s (step v) × EndsWithin (i - at) s
      unfolding step_from
      ended l = (at_last rows count (steps v) at still refl k.walk r.built l, k.ends)

      module _ (l : i < count) where
        -- a step x of at most e − i rows after s
        next : (x : Step) (n e : ℕ) → n + i ≤ e → EndsWithin n x → Walking text rows count (steps v) at still e (then s x) → Stepping text rows count at v e (then s x)
        next x n e b h w = record { walk = w; ends = let z = k.walk in ends_more (i - at + n) (e - at) (omega arith) (then s x) (then_ends (i - at) n s x k.ends h) }

        pub plain_step : shape_of (kind_at rows i) ≡ Shape.Plain → Stepping text rows count at v (i + 1) (then s (row_step v (plain_of text (kind_at rows i))))
        unfolding step_from
        plain_step h =
            next (row_step v (plain_of text (kind_at rows i))) 1 (i + 1) (omega arith) (row_ends v text (kind_at rows i) (r.fine i l))
            (plain_row rows count (steps v) at still k.walk l r.built h (λ rest. refl))

        module _ {m q e : ℕ} (t : PickIs text rows count i m q e) {x y : Step}
            (f : Walked text rows count (i + 1) m x (step v) × EndsWithin (m - (i + 1)) x) (g : Walked text rows count q e y (step v) × EndsWithin (e - q) y) where
          either_room : EndsWithin (e - i) (either x y)
          either_room =
              either_ends (e - i) x y (ends_more (m - (i + 1)) (e - i) (omega arith) x f.1) (ends_more (e - q) (e - i) (omega arith) y g.1)

          pub pick_room : EndsWithin 512 (either x y)
          pick_room = ends_more (e - i) 512 (omega arith) (either x y) either_room

          pub pick_step : Stepping text rows count at v (e + 1) (then s (either x y))
          unfolding step_from
          pick_step =
              next (either x y) (e - i) (e + 1) (omega arith) either_room
              (pick_row rows count (steps v) at still k.walk l r.built t (λ rest. rw (f.0.value, g.0.value) refl))

        pub loop_step : {e : ℕ} → LoopIs text rows count (head_of text (kind_at rows i)) i e → {x : Bool} → x ≡ assigns v (body_at text rows count i)
            → Stepping text rows count at v (e + 1) (then s (cond x Unknown still))
        unfolding step_from
        loop_step {e} t {x} f =
            next (cond x Unknown still) 1 (e + 1) (omega arith) (ends_only 1 x Unknown tt)
            (loop_row rows count (steps v) at still k.walk l r.built t
            (λ rest. rw (loop_assigns v text (kind_at rows i) i (block_at text rows count (i + 1)), f) refl))

add_none : (a : ℤ) → a +ℤ pos 0 ≡ a
add_none a = omega (ints, add_parts a (pos 0))

then_still : (s : Step) → then s still ≡ s
unfolding then
then_still (Add a b) = rw (add_none a, add_none b)
then_still (Grow f g) = refl
then_still (Shrink f g) = refl
then_still Unknown = refl

step_snoc : (x : Step) (v : ℕ) (b : Block) (i : ℕ) (p : Plain) → step_from x v (snoc b i p) ≡ then (step_from x v b) (row_step v p)
unfolding step_from snoc
step_snoc x v done i p = refl
step_snoc x v (plain j q rest) i p = step_snoc (then x (row_step v q)) v rest i p
step_snoc x v (pick j e a b rest) i p = step_snoc (then x (either (step_from still v a) (step_from still v b))) v rest i p
step_snoc x v (loop j e form test body rest) i p = step_snoc (then x (cond (starts v form test || assigns v body) Unknown still)) v rest i p

-- the step over a loop's body
last_step : (v : ℕ) (l : Last) (i : ℕ) (b : Block) → then (step v b) (row_step v (last_row l)) ≡ step v (with_last l i b)
unfolding with_last row_step
last_step v no_step i b = then_still (step v b)
last_step v (step_by p) i b = sym (step_snoc still v b i p)

pub body_is : (v : ℕ) (text : List ℕ) (k : Kind) → shape_of k ≡ Shape.Loop → (i : ℕ) (b : Block) → then (step v b) (row_step v (plain_of text k)) ≡ step v (with_last (head_of text k).last i b)
body_is v text k h i b = rw (head_row text k h) (last_step v (head_of text k).last i b)

-- a row that does not assign v leaves its step as it is
pub row_still : (v : ℕ) (p : Plain) → sets v p ≡ false → row_step v p ≡ still
unfolding row_step sets
row_still v (assign w x) h = rw h
row_still v (cue n) h = refl

pub step_stays : (s : Step) (v : ℕ) (p : Plain) → sets v p ≡ false → then s (row_step v p) ≡ s
step_stays s v p h = rw (row_still v p h) (then_still s)
