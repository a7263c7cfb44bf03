-- Laws of a live run, for code: an action more, and the ways in which it stops.
use mathlib.Core.Path.{◌≡◌, refl, ◌∙◌, ap}
use mathlib.Core.Bool.{Bool, true, false, ◌&&◌}
use mathlib.Core.List.{List, [], ◌++◌}
use Prim.Native.Nat.{ℕ, zero, suc, ◌≤◌, ◌<◌}
use native.Mathlib.Omega.{arith}
use lib.Dec.{T, leb, leb→le, le→leb}
use lib.ListN.{length}
use Rattle.rules.specs.declared.Ending.{Ending}
use Rattle.rules.specs.Blocks.{RowKind}
use Rattle.rules.specs.declared.Prices.{Prices}
use Rattle.rules.specs.Run.{State}
use Rattle.rules_machine.specs.RowMachine.{TurnCounts, Place, Next, more, over, next, rank, Partners}
use Rattle.rules_machine.proofs.RowMachineRuns.{falls_more}
use Rattle.rules_live.specs.Live.{full, stops_here, cue_at, blocked, onward, runs_on}

module _ (π : Prices) (some-ticks : 1 ≤ π.test) (rows : List RowKind) (matching_end_lem matching_head_lem : ℕ → ℕ) (fit : Partners rows matching_end_lem matching_head_lem) where
  abbrev next_of : Place → Next
  next_of m = next π rows matching_end_lem matching_head_lem m

  -- more steps than enough are no other
  fuel_same : (n k room : ℕ) (cues : List ℕ) (m : Place) (b : Bool) (a : Next) → next_of m ≡ a → rank (length rows) m < n → rank (length rows) m < k
      → onward π rows matching_end_lem matching_head_lem n room cues m b a ≡ onward π rows matching_end_lem matching_head_lem k room cues m b a
  unfolding onward
  fuel_same zero k room cues m b a e l h = absurd (omega arith)
  fuel_same (suc n) zero room cues m b a e l h = absurd (omega arith)
  fuel_same (suc n) (suc k) room cues m true a e l h = refl
  fuel_same (suc n) (suc k) room cues m false (more w) e l h =
      let (_, f) = falls_more π some-ticks rows matching_end_lem matching_head_lem fit m w e in
      fuel_same n k room _ w _ (next_of w) refl (omega arith) (omega arith)
  fuel_same (suc n) (suc k) room cues m false (over f i s c) e l h = refl

  -- an action more: a cue row that is done puts its number at the end of the list
  pub runs_more : (room : ℕ) (cues : List ℕ) (m w : Place) → blocked π rows matching_end_lem matching_head_lem room cues m ≡ false → next_of m ≡ more w
      → runs_on π rows matching_end_lem matching_head_lem room cues m ≡ runs_on π rows matching_end_lem matching_head_lem room (cues ++ cue_at π rows matching_end_lem matching_head_lem m) w
  unfolding runs_on onward
  runs_more room cues m w b e =
      let (_, f) = falls_more π some-ticks rows matching_end_lem matching_head_lem fit m w e in
      (λ k. onward π rows matching_end_lem matching_head_lem (suc (rank (length rows) m)) room cues m (b k) (e k)) ∙ fuel_same (rank (length rows) m) (suc (rank (length rows) w)) room _ w _ _ refl f (omega arith)

  -- it stops where it is
  pub runs_over : (room : ℕ) (cues : List ℕ) (m : Place) (e : Ending) (i : ℕ) (s : State) (c : TurnCounts) → blocked π rows matching_end_lem matching_head_lem room cues m ≡ false → next_of m ≡ over e i s c
      → runs_on π rows matching_end_lem matching_head_lem room cues m ≡ record { stand = stops_here m e i s c; cues = cues }
  unfolding runs_on onward
  runs_over room cues m e i s c b q = λ k. onward π rows matching_end_lem matching_head_lem (suc (rank (length rows) m)) room cues m (b k) (q k)

  -- the list is full
  pub runs_full : (room : ℕ) (cues : List ℕ) (m : Place) → blocked π rows matching_end_lem matching_head_lem room cues m ≡ true
      → runs_on π rows matching_end_lem matching_head_lem room cues m ≡ record { stand = full m; cues = cues }
  unfolding runs_on onward
  runs_full room cues m b = λ k. onward π rows matching_end_lem matching_head_lem (suc (rank (length rows) m)) room cues m (b k) (next_of m)

-- a row that is no cue, a cue that finds room, a cue whose price does not fit: none of them is blocked
module _ (π : Prices) (rows : List RowKind) (matching_end_lem matching_head_lem : ℕ → ℕ) (room : ℕ) (cues : List ℕ) (m : Place) where
  abbrev Blocked : Bool → Type 0
  Blocked b = blocked π rows matching_end_lem matching_head_lem room cues m ≡ b

  pub blocked_none : cue_at π rows matching_end_lem matching_head_lem m ≡ [] → Blocked false
  unfolding blocked
  blocked_none e = ap (λ (l : List ℕ). leb 1 (length l) && (leb room (length cues) && leb π.cue m.now.left)) e

  pub blocked_room : length cues < room → Blocked false
  unfolding blocked
  blocked_room l = by (leb 1 (length (cue_at π rows matching_end_lem matching_head_lem m))) (leb room (length cues)) (leb→le room (length cues))
    where
      by : (a b : Bool) → (T b → room ≤ length cues) → (a && (b && leb π.cue m.now.left)) ≡ false
      by true true f = absurd (omega (arith, f tt))
      by true false f = refl
      by false b f = refl

  pub blocked_dear : m.now.left < π.cue → Blocked false
  unfolding blocked
  blocked_dear l = by (leb 1 (length (cue_at π rows matching_end_lem matching_head_lem m))) (leb room (length cues)) (leb π.cue m.now.left) (leb→le π.cue m.now.left)
    where
      by : (a b c : Bool) → (T c → π.cue ≤ m.now.left) → (a && (b && c)) ≡ false
      by true true true f = absurd (omega (arith, f tt))
      by true true false f = refl
      by true false c f = refl
      by false b c f = refl

  -- a cue is next, its price fits, and the list is full
  pub blocked_full : 1 ≤ length (cue_at π rows matching_end_lem matching_head_lem m) → room ≤ length cues → π.cue ≤ m.now.left → Blocked true
  unfolding blocked
  blocked_full l h k =
      by (leb 1 (length (cue_at π rows matching_end_lem matching_head_lem m))) (leb room (length cues)) (leb π.cue m.now.left) (le→leb _ _ l) (le→leb _ _ h) (le→leb _ _ k)
    where
      by : (a b c : Bool) → T a → T b → T c → (a && (b && c)) ≡ true
      by true true true x y z = refl
      by true true false x y z = absurd z
      by true false c x y z = absurd y
      by false b c x y z = absurd x
