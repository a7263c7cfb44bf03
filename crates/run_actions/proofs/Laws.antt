-- What the machine's parts do in memory, as `rules` has it. Assumes nothing.
use mathlib.Core.Path.{◌≡◌, refl, sym, ◌∙◌, ap, fun_ext}
use mathlib.Core.Bool.{Bool, true, false, cond, ◌&&◌}
use mathlib.Core.List.{List, [], ◌∷◌}
use Prim.Native.Nat.{ℕ, zero, suc, ◌+◌, ◌-◌, ◌≤◌, ◌<◌, max}
use native.Mathlib.Numerals.{add-one}
use native.Mathlib.Omega.{arith}
use borrow.Author.Tests.{le-leb, lt-leb, eq-eqb}
use lib.Dec.{T, eqb, eqb→eq}
use lib.ListN.{length, get_or, set, drop, length-set, drop_of_length-le}
use lib.Seq.{drop-cons, get_or-set_same, set-get_or}
use lib.IntN.{ℤ, pos}
use lib.Signed.{le_z}
use mir.Syntax.{w32}
use mir.Val.{SFits}
use Rattle.ints.proofs.Parts.{ints}
use Rattle.rules.specs.declared.Ending.{Ending}
use Rattle.rules.specs.declared.Ending.TheVariants.{Spent, NoPick}
use Rattle.rules.specs.Values.{lowest, highest, in_limits, put}
use Rattle.rules.specs.Blocks.{cue}
use Rattle.rules.specs.Run.{State, choose, charge, write, exec}
use Rattle.rules.specs.declared.Prices.{Prices}
use Rattle.rules_machine.specs.RowMachine.{TurnCounts, begin, turn, fresh, to, chosen, outcome, paid, picked}
use Rattle.rules.specs.Scripts.{store_of}
use Rattle.rules.proofs.Laws.{put_set}
use Rattle.run_actions.specs.declared.Machine.{Machine}
use Rattle.run_actions.specs.declared.Status.TheVariants.{Going, Over}
use Rattle.run_actions.specs.States.{loop_counts, Rising, RoomAt, EntryBegun, TurnBegun, phase_of, state_of, over_at, on_at, put_to, plain_to, pick_to, Acts}

-- ---- a machine that is not spent
pub going_not : {A : Type 0} {i : ℕ} → Going ≡ Over Spent i → A
going_not e = absurd (let z : ◌≡◌ {A = ℕ} 0 1 = cc in omega arith)

pub range_not : {A : Type 0} {i j : ℕ} → Over Ending.Range i ≡ Over Spent j → A
range_not e = absurd (let z : ◌≡◌ {A = ℕ} 0 1 = cc in omega arith)

none_not : {A : Type 0} {i j : ℕ} → Over NoPick i ≡ Over Spent j → A
none_not e = absurd (let z : ◌≡◌ {A = ℕ} 0 1 = cc in omega arith)

-- ---- a variable gets a number
both : (a b : Bool) → (a && b) ≡ true → (a ≡ true) × (b ≡ true)
both true true e = (refl, refl)
both true false e = (refl, e)
both false b e = (e, absurd (let z : ◌≡◌ {A = ℕ} 0 1 = cc in omega arith))

-- a number within the limits fits 32 bits
pub limits_fit : (z : ℤ) → in_limits z ≡ true → SFits w32 z
unfolding lowest highest
limits_fit z e = let (a, b) = both (le_z lowest z) (le_z z highest) e in omega ints

module _ (m : Machine) (store : List ℤ) (picks : List ℕ) (c : TurnCounts) (p at v : ℕ) (z : ℤ) (j : ℕ) (b : Bool) where
  abbrev Puts : Machine → List ℤ → Type 0
  Puts r store' = Acts m r store' picks c (put_to p at v z j b (state_of m store picks) c)

  pub put_spent : m.left < p → Puts (over_at m m.left Spent at) store
  unfolding outcome charge choose
  put_spent e = record { same = rw (lt-leb p m.left e); left = omega arith; used = λ h. h; rests = λ at q. (refl, refl) }

  pub put_range : p ≤ m.left → in_limits z ≡ false → Puts (over_at m (m.left - p) Ending.Range at) store
  unfolding outcome charge choose write
  put_range e f = record { same = rw (le-leb p m.left e, f); left = omega arith; used = λ h. h; rests = λ at q. range_not q }

  pub put_done : p ≤ m.left → in_limits z ≡ true → v < length store → Puts (on_at m (m.left - p) j b) (set store v z)
  unfolding outcome charge choose write
  put_done e f h = record {
    same = rw (le-leb p m.left e, f) (λ i. to j (phase_of b) (record { store = put_set store v z (pos 0) h i; left = m.left - p; picks = drop m.used picks }) c);
    left = omega arith;
    used = λ h. h;
    rests = λ at q. going_not q;
  }

-- ---- a cue
module _ (π : Prices) (m : Machine) (store : List ℤ) (picks : List ℕ) (c : TurnCounts) (at n j : ℕ) (b : Bool) where
  pub cue_spent : m.left < π.cue → Acts m (over_at m m.left Spent at) store picks c (plain_to π at (cue n) j b (state_of m store picks) c)
  unfolding outcome exec charge choose
  cue_spent e = record { same = rw (lt-leb π.cue m.left e); left = omega arith; used = λ h. h; rests = λ at q. (refl, refl) }

  pub cue_done : π.cue ≤ m.left → Acts m (on_at m (m.left - π.cue) j b) store picks c (plain_to π at (cue n) j b (state_of m store picks) c)
  unfolding outcome exec charge choose
  cue_done e = record { same = rw (le-leb π.cue m.left e); left = omega arith; used = λ h. h; rests = λ at q. going_not q }

-- ---- a pick
module _ (π : Prices) (m : Machine) (store : List ℤ) (picks : List ℕ) (c : TurnCounts) (i j : ℕ) where
  abbrev Picks : Machine → Type 0
  Picks r = Acts m r store picks c (pick_to π i j (state_of m store picks) c)

  pub pick_spent : m.left < π.pick → Picks (over_at m m.left Spent i)
  unfolding paid chosen
  pick_spent e = record { same = rw (lt-leb π.pick m.left e); left = omega arith; used = λ h. h; rests = λ at q. (refl, refl) }

  pub pick_none : π.pick ≤ m.left → length picks ≤ m.used → Picks (over_at m (m.left - π.pick) NoPick i)
  unfolding paid chosen picked
  pick_none e h =
      let d : drop m.used picks ≡ [] = drop_of_length-le picks h in
      record { same = rw (le-leb π.pick m.left e, d); left = omega arith; used = λ k. k; rests = λ at q. none_not q }

  -- m after the byte, on at row n, with so many bytes used
  abbrev pub picked_at : ℕ → ℕ → Machine
  picked_at n used = record { row = n; testing = false; left = m.left - π.pick; used = used; status = Going }

  pub pick_one : (n used : ℕ) → π.pick ≤ m.left → m.used < length picks → used ≡ m.used + 1 → n ≡ cond (eqb (get_or picks m.used 0) 0) j (suc i) → Picks (picked_at n used)
  unfolding paid chosen picked
  pick_one n used e h one q =
      let d : drop m.used picks ≡ get_or picks m.used 0 ∷ drop (suc m.used) picks = drop-cons picks m.used 0 h in
      record { same = rw (le-leb π.pick m.left e, d, q, one, add-one) (by (eqb (get_or picks m.used 0) 0)); left = omega arith; used = λ k. omega arith; rests = λ at q. going_not q }
    where
      after : State
      after = record { store = store_of store; left = m.left - π.pick; picks = drop (suc m.used) picks }

      by : (b : Bool) → to (cond b j (suc i)) fresh after c ≡ chosen b (to j fresh after c) (to (suc i) fresh after c)
      by true = refl
      by false = refl

-- ---- the counts
-- the head row of loop k is no other loop's
pub counts_set : (heads : List ℕ) (counts : List (List ℕ)) (k : ℕ) (x : List ℕ) → Rising heads → k < length heads → k < length counts → (p : ℕ)
    → loop_counts heads (set counts k x) p ≡ cond (eqb p (get_or heads k 0)) x (loop_counts heads counts p)
unfolding loop_counts
counts_set [] counts k x r h l p = absurd (omega arith)
counts_set (a ∷ heads) [] k x r h l p = absurd (omega arith)
counts_set (a ∷ heads) (c ∷ counts) zero x r h l p = by (eqb p a)
  where
    by : (b : Bool) → cond b x (loop_counts heads counts p) ≡ cond b x (cond b c (loop_counts heads counts p))
    by true = refl
    by false = refl
counts_set (a ∷ heads) (c ∷ counts) (suc k) x r h l p =
    by (eqb p a) (eqb p (get_or heads k 0)) (eqb→eq p a) (eqb→eq p (get_or heads k 0)) (counts_set heads counts k x (λ i j u v. r (suc i) (suc j) (omega arith) (omega arith)) (omega arith) (omega arith) p)
  where
    by : (b d : Bool) → (T b → p ≡ a) → (T d → p ≡ get_or heads k 0) → loop_counts heads (set counts k x) p ≡ cond d x (loop_counts heads counts p)
        → cond b c (loop_counts heads (set counts k x) p) ≡ cond d x (cond b c (loop_counts heads counts p))
    by true true f g e = absurd (let u = f tt in let v = g tt in omega (arith, r 0 (suc k) (omega arith) (omega arith)))
    by true false f g e = refl
    by false d f g e = e

-- the counts by row once loop k has the numbers x
module _ (heads : List ℕ) (counts : List (List ℕ)) (k : ℕ) (r : Rising heads) (h : k < length heads) (l : k < length counts) where
  abbrev head : ℕ
  head = get_or heads k 0

  abbrev row : List ℕ
  row = get_or counts k []

  counts_at_lem : loop_counts heads counts head ≡ row
  counts_at_lem = ap (λ cs. loop_counts heads cs head) (sym (set-get_or counts k [])) ∙ counts_set heads counts k row r h l head ∙ ap (λ b. cond b row (loop_counts heads counts head)) (eq-eqb head head refl)

  module _ (x : List ℕ) (f : List ℕ → ℕ) where
    column_set : (y : ℕ) → f x ≡ y → (λ p. f (loop_counts heads (set counts k x) p)) ≡ put (λ p. f (loop_counts heads counts p)) head y
    column_set y e = fun_ext λ p. ap f (counts_set heads counts k x r h l p) ∙ by (eqb p head) (loop_counts heads counts p)
      where
        by : (b : Bool) (z : List ℕ) → f (cond b x z) ≡ cond b y (f z)
        by true z = e
        by false z = refl

    column_kept : f x ≡ f row → ◌≡◌ {A = ℕ → ℕ} (λ p. f (loop_counts heads (set counts k x) p)) (λ p. f (loop_counts heads counts p))
    column_kept e = fun_ext λ p. ap f (counts_set heads counts k x r h l p) ∙ by p (eqb p head) (eqb→eq p head)
      where
        by : (p : ℕ) (b : Bool) → (T b → p ≡ head) → f (cond b x (loop_counts heads counts p)) ≡ f (loop_counts heads counts p)
        by p true q = e ∙ ap f (sym counts_at_lem ∙ ap (loop_counts heads counts) (sym (q tt)))
        by p false q = refl

-- the numbers of loop k once an entry, and once a turn has begun
abbrev pub fresh_row : List ℕ → List ℕ
fresh_row e = 0 ∷ ((get_or e 1 0 + get_or e 0 0) ∷ (max (get_or e 2 0) (get_or e 0 0) ∷ []))

abbrev pub turned_row : List ℕ → List ℕ
turned_row e = (get_or e 0 0 + 1) ∷ (get_or e 1 0 ∷ (get_or e 2 0 ∷ []))

-- turns, all turns and the most in one entry
abbrev turns : List ℕ → ℕ
turns e = get_or e 0 0

abbrev sum : List ℕ → ℕ
sum e = get_or e 1 0 + get_or e 0 0

abbrev most : List ℕ → ℕ
most e = max (get_or e 2 0) (get_or e 0 0)

module _ (counts : List (List ℕ)) (k : ℕ) (room : RoomAt k counts) where
  abbrev e : List ℕ
  e = get_or counts k []

  inside : k < length counts
  inside = omega (arith, room.long, room.small)

  pub begins : EntryBegun k counts (set counts k (fresh_row e))
  unfolding begin
  begins = record {
    long = simp length-set room.long;
    same = λ heads r h. λ i. record {
      turns = column_set heads counts k r h inside (fresh_row e) turns 0 refl i;
      sum = column_kept heads counts k r h inside (fresh_row e) sum (omega arith) i;
      most = column_kept heads counts k r h inside (fresh_row e) most (omega arith) i;
    };
    room = record { long = simp length-set room.long; small = room.small; turn = rw (get_or-set_same counts k (fresh_row e) [] inside) (omega (arith, room.turn)) };
  }

  pub turned : TurnBegun k counts (set counts k (turned_row e))
  unfolding turn
  turned = record {
    long = simp length-set room.long;
    same = λ heads r h.
        let q = counts_at_lem heads counts k r h inside in
        let was : List ℕ = loop_counts heads counts (get_or heads k 0) in
        λ i. record {
          turns = column_set heads counts k r h inside (turned_row e) turns (suc (turns was)) (rw q (add-one _)) i;
          sum = column_set heads counts k r h inside (turned_row e) sum (suc (sum was)) (rw q (omega arith)) i;
          most = column_set heads counts k r h inside (turned_row e) most (max (most was) (suc (turns was))) (rw q (omega arith)) i;
        };
  }
