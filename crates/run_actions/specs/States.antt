-- The machine's states in memory, as the places of `rules`' machine over rows, and what its functions do.
use Rattle.std.specs.Prelude.{◌≡◌, Bool, true, false, cond, List, [], ◌∷◌, ℕ, ◌+◌, ◌≤◌, ◌<◌, ◌^◌, max, eqb, length, get_or, drop, ℤ}
use Rattle.rules.specs.declared.Ending.{Ending}
use Rattle.rules.specs.declared.Ending.TheVariants.{Spent}
use Rattle.rules.specs.declared.Prices.{Prices}
use Rattle.rules.specs.Blocks.{Plain, cue}
use Rattle.rules.specs.Run.{State, charge, write, exec}
use Rattle.rules.specs.Scripts.{store_of}
use Rattle.rules.specs.Values.{number}
use Rattle.rules_machine.specs.RowMachine.{TurnCounts, begin, turn, Phase, fresh, testing, Place, Next, more, over, to, outcome, paid, picked}
use Rattle.run_actions.specs.declared.Status.{Status}
use Rattle.run_actions.specs.declared.Status.TheVariants.{Going, Over}
use Rattle.run_actions.specs.declared.Machine.{Machine}

-- ---- the counts
-- number j of loop k: 0 the turns of the current entry, 1 all turns of the entries before it, 2 the most in one of them
abbrev pub count_in : List (List ℕ) → ℕ → ℕ → ℕ
count_in counts k j = get_or (get_or counts k []) j 0

-- the numbers of the loop whose head is row p; `heads` are the head rows of all loops, in the order of the counts
unfoldable pub loop_counts : List ℕ → List (List ℕ) → ℕ → List ℕ
loop_counts [] counts p = []
loop_counts (h ∷ heads) [] p = []
loop_counts (h ∷ heads) (c ∷ counts) p = cond (eqb p h) c (loop_counts heads counts p)

-- number j of it
abbrev pub loop_count : List ℕ → List (List ℕ) → ℕ → ℕ → ℕ
loop_count heads counts p j = get_or (loop_counts heads counts p) j 0

-- the counts by row: the current entry is added to the entries before it
abbrev pub tally_of : List ℕ → List (List ℕ) → TurnCounts
tally_of heads counts = record {
  turns = λ p. loop_count heads counts p 0;
  sum = λ p. loop_count heads counts p 1 + loop_count heads counts p 0;
  most = λ p. max (loop_count heads counts p 2) (loop_count heads counts p 0);
}

-- head rows that rise
abbrev pub Rising : List ℕ → Type 0
Rising heads = (j k : ℕ) → j < k → k < length heads → get_or heads j 0 < get_or heads k 0

-- 16 loops' counts, with room for one turn more of loop k
pub record RoomAt (k : ℕ) (counts : List (List ℕ)) : Type 0 where
  pub long : length counts ≡ 16
  pub small : k < 16
  pub turn : count_in counts k 1 + count_in counts k 0 < 2 ^ 63

-- an entry of loop k begins, whatever the other loops are
pub record EntryBegun (k : ℕ) (counts counts' : List (List ℕ)) : Type 0 where
  pub long : length counts' ≡ 16
  pub same : (heads : List ℕ) → Rising heads → k < length heads → tally_of heads counts' ≡ begin (get_or heads k 0) (tally_of heads counts)
  pub room : RoomAt k counts'

-- a turn of loop k begins
pub record TurnBegun (k : ℕ) (counts counts' : List (List ℕ)) : Type 0 where
  pub long : length counts' ≡ 16
  pub same : (heads : List ℕ) → Rising heads → k < length heads → tally_of heads counts' ≡ turn (get_or heads k 0) (tally_of heads counts)

-- ---- the machine
-- the test of the loop that ends at the row is to come
abbrev pub phase_of : Bool → Phase
phase_of true = testing
phase_of false = fresh

-- the machine's state, with the picks that are left
abbrev pub state_of : Machine → List ℤ → List ℕ → State
state_of m store picks = record { store = store_of store; left = m.left; picks = drop m.used picks }

-- where a machine that goes on stands
abbrev pub place_of : Machine → List ℤ → List ℕ → TurnCounts → Place
place_of m store picks c = record { row = m.row; phase = phase_of m.testing; now = state_of m store picks; tally = c }

-- by its status: it goes on, or is over
abbrev pub by_status : Status → Machine → List ℤ → List ℕ → TurnCounts → Next
by_status Going m store picks c = more (place_of m store picks c)
by_status (Over e i) m store picks c = over e i (state_of m store picks) c

-- where a machine stands
abbrev pub next_of : Machine → List ℤ → List ℕ → TurnCounts → Next
next_of m store picks c = by_status m.status m store picks c

-- whether it goes on
abbrev pub is_going : Status → Bool
is_going Going = true
is_going (Over e i) = false

-- m with the ticks `left`, over at row i, or on at row i
abbrev pub stopped_at : Machine → ℕ → ℕ → Ending → ℕ → Machine
stopped_at m left used e i = record { row = m.row; testing = m.testing; left = left; used = used; status = Over e i }

-- over, with the picks that it has used
abbrev pub over_at : Machine → ℕ → Ending → ℕ → Machine
over_at m left e i = stopped_at m left m.used e i

-- on at row i; b: a test is to come
abbrev pub on_at : Machine → ℕ → ℕ → Bool → Machine
on_at m left i b = record { row = i; testing = b; left = left; used = m.used; status = Going }

-- a plain row's work at row i, then to row j
abbrev pub plain_to : Prices → ℕ → Plain → ℕ → Bool → State → TurnCounts → Next
plain_to π i p j b s c = outcome (exec π i p s) c (λ u. to j (phase_of b) u c)

-- the same of a known result z for v, at the price p
abbrev pub put_to : ℕ → ℕ → ℕ → ℤ → ℕ → Bool → State → TurnCounts → Next
put_to p i v z j b s c = outcome (charge p i [] s (λ t. write i v (number z) t)) c (λ u. to j (phase_of b) u c)

-- a pick at row i: byte 0 to row j
abbrev pub pick_to : Prices → ℕ → ℕ → State → TurnCounts → Next
pick_to π i j s c = paid π.pick i s c (λ u. picked i j u.picks u c)

-- from m to r, with the counts c' after it: the step x of the rules' machine. Spent, r waits where m stood
pub record Acts (m r : Machine) (store : List ℤ) (picks : List ℕ) (c' : TurnCounts) (x : Next) : Type 0 where
  pub same : next_of r store picks c' ≡ x
  pub left : r.left ≤ m.left
  pub used : m.used ≤ length picks → r.used ≤ length picks
  pub rests : (i : ℕ) → r.status ≡ Over Spent i → (r.row ≡ m.row) × (r.testing ≡ m.testing)

-- v has got z, or z is past ±L
abbrev pub PutDone : Machine → Machine → List ℤ → List ℤ → ℕ → ℕ → ℕ → ℤ → ℕ → Bool → Type 0
PutDone m r store store' p i v z j b = (picks : List ℕ) (c : TurnCounts) → Acts m r store' picks c (put_to p i v z j b (state_of m store picks) c)

-- a cue is fired
abbrev pub CueDone : Prices → Machine → Machine → Type 0
CueDone π m r = (store : List ℤ) (picks : List ℕ) (c : TurnCounts) (n : ℕ) → Acts m r store picks c (plain_to π m.row (cue n) (m.row + 1) false (state_of m store picks) c)

-- a pick is made: byte 0 to row j
abbrev pub PickDone : Prices → Machine → Machine → ℕ → List ℕ → Type 0
PickDone π m r j picks = (store : List ℤ) (c : TurnCounts) → Acts m r store picks c (pick_to π m.row j (state_of m store picks) c)

-- the bytes used after a pick: one more, where there is one
pub record AfterByte (used : ℕ) (picks : List ℕ) (r : ℕ) : Type 0 where
  pub taken : used < r → (used < length picks) × (r ≡ used + 1)
  pub none : r ≤ used → (length picks ≤ used) × (r ≡ used)
