-- The run as a machine over the numbered rows, for code that has no tree. Each step takes at most one price, so that it can pause before any. A loop's test is made at
-- its `end` row alone: the head of a while, a for or a hold sends the machine there.
use Rattle.std.specs.Prelude.{List, [], ◌∷◌, ◌≡◌, ℕ, zero, suc, ◌+◌, ◌-◌, ◌*◌, ◌<◌, max, leb, ltb, eqb, length}
use Rattle.rules.specs.declared.Ending.{Ending}
use Rattle.rules.specs.declared.Ending.TheVariants.{Ended, Spent, NoPick}
use Rattle.rules.specs.Values.{put}
unfoldable pub use Rattle.rules.specs.Values.{choose as chosen, decide}
use Rattle.rules.specs.Blocks.{from, assign, Test, while, do_while, hold, for, no_step, step_by, RowKind, View, is_plain, is_pick, is_else, is_end, is_loop, view_at, end_at}
use Rattle.rules.specs.declared.Prices.{Prices}
use Rattle.rules.specs.declared.LoopCount.{LoopCount}
use Rattle.rules.specs.Run.{State, Entry, Out, go, halt, exec, holds}
use Rattle.rules.specs.Answers.{Answer, sum_at, most_at}

-- by loop row: the turns of the current entry, all turns, the most in one entry
pub record TurnCounts : Type 0 where
  pub turns : ℕ → ℕ
  pub sum : ℕ → ℕ
  pub most : ℕ → ℕ

-- the two counts of the loops at these rows
unfoldable pub counts_of : TurnCounts → List ℕ → List LoopCount
counts_of c [] = []
counts_of c (p ∷ ps) = record { row = p; all = c.sum p; most = c.most p } ∷ counts_of c ps

-- an entry of the loop at row h begins
unfoldable pub begin : ℕ → TurnCounts → TurnCounts
begin h c = record { turns = put c.turns h 0; sum = c.sum; most = c.most }

-- a turn begins
unfoldable pub turn : ℕ → TurnCounts → TurnCounts
turn h c = record {
  turns = put c.turns h (suc (c.turns h));
  sum = put c.sum h (suc (c.sum h));
  most = put c.most h (max (c.most h) (suc (c.turns h)));
}

-- before a row: it is still to come, or, at a loop's `end`, the loop's test is to come
pub data Phase : Type 0 where
  fresh testing : Phase

-- where the machine is: its row and phase, the run's state, the counts
pub record Place : Type 0 where
  pub row : ℕ
  pub phase : Phase
  pub now : State
  pub tally : TurnCounts

-- after a step: the next place, or the run's ending with its row
pub data Next : Type 0 where
  more : Place → Next
  over : Ending → ℕ → State → TurnCounts → Next

-- to a row
abbrev pub to : ℕ → Phase → State → TurnCounts → Next
to i ph s c = more (record { row = i; phase = ph; now = s; tally = c })

-- a plain row, a for's start or a for's step, then k
unfoldable pub outcome : Out → TurnCounts → (State → Next) → Next
outcome (go s es) c k = k s
outcome (halt e i s es) c k = over e i s c

-- p ticks at row i
unfoldable pub paid : ℕ → ℕ → State → TurnCounts → (State → Next) → Next
paid p i s c k = chosen (leb p s.left) (k (record { store = s.store; left = s.left - p; picks = s.picks })) (over Spent i s c)

-- a pick at row i takes its byte: 0 to row j, any other to the next row
unfoldable pub picked : ℕ → ℕ → List ℕ → State → TurnCounts → Next
picked i j [] s c = over NoPick i s c
picked i j (x ∷ xs) s c =
    chosen (eqb x 0) (to j fresh (record { store = s.store; left = s.left; picks = xs }) c) (to (suc i) fresh (record { store = s.store; left = s.left; picks = xs }) c)

-- the test of the loop at row h, whose `end` is row e
unfoldable pub tests : Prices → ℕ → ℕ → Test → State → TurnCounts → Next
tests π h e t s c = paid π.test h s c λ u. decide (holds t u.store) (to (suc h) fresh u (turn h c)) (to (suc e) fresh u c) (over Ending.Range h u c)

-- `matching_end_lem i`: the row that closes the block that begins after row i, i a pick, an else or a loop's head. `matching_head_lem e`: that row i, of an `end` e
module _ (π : Prices) (rows : List RowKind) (matching_end_lem matching_head_lem : ℕ → ℕ) where
  -- the `end` at row e of the block that row h begins
  unfoldable pub on_end : View → ℕ → ℕ → Phase → State → TurnCounts → Next
  on_end (is_plain p) h e ph s c = to (suc e) fresh s c
  on_end is_pick h e ph s c = to (suc e) fresh s c
  on_end is_else h e ph s c = to (suc e) fresh s c
  on_end is_end h e ph s c = to (suc e) fresh s c
  on_end (is_loop form t last) h e testing s c = tests π h e t s c
  on_end (is_loop form t no_step) h e fresh s c = to e testing s c
  on_end (is_loop form t (step_by p)) h e fresh s c = outcome (exec π h p s) c (λ u. to e testing u c)

  -- row i
  unfoldable pub on_row : View → ℕ → Phase → State → TurnCounts → Next
  on_row (is_plain p) i ph s c = outcome (exec π i p s) c (λ u. to (suc i) fresh u c)
  on_row is_pick i ph s c = paid π.pick i s c (λ u. picked i (suc (matching_end_lem i)) u.picks u c)
  on_row is_else i ph s c = to (suc (matching_end_lem i)) fresh s c
  on_row is_end i ph s c = on_end (view_at rows (matching_head_lem i)) (matching_head_lem i) i ph s c
  on_row (is_loop while t last) i ph s c = to (matching_end_lem i) testing s (begin i c)
  on_row (is_loop hold t last) i ph s c = to (matching_end_lem i) testing s (begin i c)
  on_row (is_loop do_while t last) i ph s c = to (suc i) fresh s (turn i (begin i c))
  on_row (is_loop (for x) t last) i ph s c = outcome (exec π i (assign t.tested (from x)) s) c (λ u. to (matching_end_lem i) testing u (begin i c))

  -- one step; past the last row the run is ended
  unfoldable pub next : Place → Next
  next m = chosen (ltb m.row (length rows)) (on_row (view_at rows m.row) m.row m.phase m.now m.tally) (over Ended (length rows) m.now m.tally)

  -- n steps
  unfoldable pub steps : ℕ → Next → Next
  steps zero a = a
  steps (suc n) (more m) = steps n (next m)
  steps (suc n) (over e i s c) = over e i s c

-- the rows that begin a block
abbrev pub Opens : View → Type 0
Opens (is_plain p) = ⊥
Opens is_pick = Unit {0}
Opens is_else = Unit {0}
Opens is_end = ⊥
Opens (is_loop form test last) = Unit {0}

-- tables of the partner rows that fit the rows
pub record Partners (rows : List RowKind) (matching_end_lem matching_head_lem : ℕ → ℕ) : Type 0 where
  pub matching_ends : (i : ℕ) → i < length rows → Opens (view_at rows i) → matching_end_lem i ≡ end_at rows (suc i)
  pub opens : (i : ℕ) → i < length rows → Opens (view_at rows i) → matching_head_lem (end_at rows (suc i)) ≡ i
  pub ahead : (i : ℕ) → i < length rows → Opens (view_at rows i) → (i < matching_end_lem i) × (matching_end_lem i < length rows)

-- the start of a run
abbrev pub start : State → Place
start s = record { row = 0; phase = fresh; now = s; tally = record { turns = λ _. 0; sum = λ _. 0; most = λ _. 0 } }

-- the tally has counted the entries
pub data Tells (c : TurnCounts) (es : List Entry) : Type 0 where
  tells : ((p : ℕ) → (c.sum p ≡ sum_at p es) × (c.most p ≡ most_at p es)) → Tells c es

-- the machine over R rows has ended as the outcome of `run` says
pub data Finished (R : ℕ) : Out → Next → Type 0 where
  at_the_end : {s : State} {es : List Entry} {c : TurnCounts} → Tells c es → Finished R (go s es) (over Ended R s c)
  at_row : {e : Ending} {i : ℕ} {s : State} {es : List Entry} {c : TurnCounts} → Tells c es → Finished R (halt e i s es) (over e i s c)

-- the same in terms of the run's answer
pub record Replies (a : Answer) (allowance : ℕ) (picks : List ℕ) (e : Ending) (i : ℕ) (s : State) (c : TurnCounts) : Type 0 where
  pub ending : e ≡ a.ending
  pub row : i ≡ a.row
  pub ticks : allowance - s.left ≡ a.ticks
  pub used : length picks - length s.picks ≡ a.used
  pub store : s.store ≡ a.store
  pub sums : (p : ℕ) → c.sum p ≡ sum_at p a.entries
  pub mosts : (p : ℕ) → c.most p ≡ most_at p a.entries

-- what is left to do at a row
abbrev pub phase_rank : Phase → ℕ
phase_rank fresh = 1
phase_rank testing = 0

-- a measure of a run over R rows: each step takes ticks, or goes forward in the rows
unfoldable pub rank : ℕ → Place → ℕ
rank R m = m.now.left * (2 * R + 2) + (2 * (R - m.row) + phase_rank m.phase)

-- the tables by one pass over the rows with a stack of the open rows, innermost first
pub record Pairs : Type 0 where
  pub stack : List ℕ
  pub end : ℕ → ℕ
  pub head : ℕ → ℕ

-- row j begins a block
unfoldable pub push : ℕ → Pairs → Pairs
push j p = record { stack = j ∷ p.stack; end = p.end; head = p.head }

-- row j closes the innermost open row
unfoldable pub closes_row : ℕ → List ℕ → (ℕ → ℕ) → (ℕ → ℕ) → Pairs
closes_row j [] f g = record { stack = []; end = f; head = g }
closes_row j (i ∷ is) f g = record { stack = is; end = put f i j; head = put g j i }

-- row j
unfoldable pub pair_row : View → ℕ → Pairs → Pairs
pair_row (is_plain p) j ps = ps
pair_row is_pick j ps = push j ps
pair_row is_else j ps = push j (closes_row j ps.stack ps.end ps.head)
pair_row is_end j ps = closes_row j ps.stack ps.end ps.head
pair_row (is_loop form test last) j ps = push j ps

-- after j rows
unfoldable pub pairs : List RowKind → ℕ → Pairs
pairs rows zero = record { stack = []; end = λ _. 0; head = λ _. 0 }
pairs rows (suc j) = pair_row (view_at rows j) j (pairs rows j)
