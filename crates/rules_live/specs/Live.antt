-- "Runs that go frame by frame" (request 15): one step, and a series of steps.
use Rattle.std.specs.Prelude.{Bool, true, false, ◌&&◌, List, [], ◌∷◌, ◌++◌, ℕ, zero, suc, ◌+◌, ◌-◌, min, leb, ℤ, length, take}
use Rattle.rules.specs.Blocks.{RowKind, view_at}
use Rattle.rules.specs.declared.LoopCount.{LoopCount}
use Rattle.rules.specs.declared.Ending.{Ending}
use Rattle.rules.specs.declared.Ending.TheVariants.{Ended, Spent, NoPick}
use Rattle.rules.specs.declared.Prices.{Prices}
use Rattle.rules.specs.Scripts.{Script, store_of}
use Rattle.rules.specs.Values.{Store}
use Rattle.rules.specs.Run.{State}
use Rattle.rules.specs.Calls.{loop_rows}
use Rattle.rules_machine.specs.RowMachine.{TurnCounts, fresh, Place, Next, more, over, picked, next, rank, start, pairs, counts_of}
use Rattle.rules_live.specs.Cues.{cue_of}

-- ---- one step
-- Where a script stands. Going: its next price does not fit, or it has not begun. Waits: at a pick whose price is taken. Full: at a cue that finds
-- no room. Finished: ended or out of range, with the row. The picks of a place are what it was lent and has not used.
pub data Stand : Type 0 where
  going waits full : Place → Stand
  finished : Ending → ℕ → State → TurnCounts → Stand

-- where the run of a step stops, with the step's cues
pub record Stop : Type 0 where
  pub stand : Stand
  pub cues : List ℕ

-- a run that stops at place m: spent it is going, without a byte it waits, and otherwise it is finished
unfoldable pub stops_here : Place → Ending → ℕ → State → TurnCounts → Stand
stops_here m Spent i s c = going m
stops_here m NoPick i s c = waits (record { row = i; phase = fresh; now = s; tally = c })
stops_here m Ended i s c = finished Ended i s c
stops_here m Ending.Range i s c = finished Ending.Range i s c

-- place m with x ticks and the bytes r
abbrev pub having : Place → ℕ → List ℕ → Place
having m x r = record { row = m.row; phase = m.phase; now = record { store = m.now.store; left = x; picks = r }; tally = m.tally }

-- what a step is lent: q, picks, and a list with room for so many cues
pub record StepLent : Type 0 where
  pub q : ℕ
  pub picks : List ℕ
  pub room : ℕ

-- what a step does: where it leaves the script, its ticks, the bytes it uses, its cues
pub record Stepped : Type 0 where
  pub stand : Stand
  pub ticks : ℕ
  pub used : List ℕ
  pub cues : List ℕ

-- what is left
unfoldable pub left_at : Stand → ℕ
left_at (going m) = m.now.left
left_at (waits m) = m.now.left
left_at (full m) = m.now.left
left_at (finished e i s c) = s.left

-- the bytes that are not used
unfoldable pub unused_at : Stand → List ℕ
unused_at (going m) = m.now.picks
unused_at (waits m) = m.now.picks
unused_at (full m) = m.now.picks
unused_at (finished e i s c) = s.picks

-- "In the last two cases it keeps of what is left no more than it had carried into this step"
unfoldable pub keeps : ℕ → Stand → Stand
keeps carried (going m) = going m
keeps carried (waits m) = waits (having m (min m.now.left carried) m.now.picks)
keeps carried (full m) = full (having m (min m.now.left carried) m.now.picks)
keeps carried (finished e i s c) = finished e i s c

-- a step that began at place m and stopped there; its ticks are what it had and got, less what is left
unfoldable pub stepped_to : StepLent → Place → Stop → Stepped
stepped_to l m b = record {
  stand = keeps m.now.left b.stand;
  ticks = m.now.left + l.q - left_at b.stand;
  used = take (length l.picks - length (unused_at b.stand)) l.picks;
  cues = b.cues;
}

-- place m with q ticks more and the bytes that are lent
abbrev pub lent_to : StepLent → Place → Place
lent_to l m = having m (m.now.left + l.q) l.picks

module _ (π : Prices) (rows : List RowKind) (matching_end_lem matching_head_lem : ℕ → ℕ) where
  -- the cue of the row at a place
  abbrev pub cue_at : Place → List ℕ
  cue_at m = cue_of (view_at rows m.row)

  -- "a cue is next, its price fits, and the list is full": it has room for so many, and these are in it
  unfoldable pub blocked : ℕ → List ℕ → Place → Bool
  blocked room cues m = leb 1 (length (cue_at m)) && (leb room (length cues) && leb π.cue m.now.left)

  -- From place m, blocked or not, whose next step gives a, until it stops, in at most n steps. "Each cue row that is done puts its number at the
  -- end of the list".
  unfoldable pub onward : ℕ → ℕ → List ℕ → Place → Bool → Next → Stop
  onward zero room cues m b a = record { stand = going m; cues = cues }
  onward (suc n) room cues m true a = record { stand = full m; cues = cues }
  onward (suc n) room cues m false (more p) =
      let fired : List ℕ = cues ++ cue_at m in
      onward n room fired p (blocked room fired p) (next π rows matching_end_lem matching_head_lem p)
  onward (suc n) room cues m false (over e i s c) = record { stand = stops_here m e i s c; cues = cues }

  -- with these cues in the list; each step lowers the rank, so that these are enough
  unfoldable pub runs_on : ℕ → List ℕ → Place → Stop
  runs_on room cues m = onward (suc (rank (length rows) m)) room cues m (blocked room cues m) (next π rows matching_end_lem matching_head_lem m)

  -- from a pick whose price is taken: "the byte is the first one that a later step is lent"
  unfoldable pub by_byte : ℕ → Place → Next → Stop
  by_byte room m (more p) = runs_on room [] p
  by_byte room m (over e i s c) = record { stand = waits m; cues = [] }

  -- the first byte that place m is lent
  abbrev pub answered : Place → Next
  answered m = picked m.row (suc (matching_end_lem m.row)) m.now.picks m.now m.tally

  -- one step: "It gives the script q ticks and runs on"; finished, "a later step takes nothing and answers the same"
  unfoldable pub step : StepLent → Stand → Stepped
  step l (going m) = stepped_to l m (runs_on l.room [] (lent_to l m))
  step l (full m) = stepped_to l m (runs_on l.room [] (lent_to l m))
  step l (waits m) = stepped_to l m (by_byte l.room (lent_to l m) (answered (lent_to l m)))
  step l (finished e i s c) = record { stand = finished e i s c; ticks = 0; used = []; cues = [] }

-- ---- a series of steps
-- A live run so far: where it stands; the ticks of all steps, their bytes and cues end to end; how many steps ended in "waits" or "full".
pub record Live : Type 0 where
  pub stand : Stand
  pub ticks : ℕ
  pub used : List ℕ
  pub cues : List ℕ
  pub held : ℕ

-- 1 for a step that ended in "waits" or "full"
unfoldable pub is_held : Stand → ℕ
is_held (going m) = 0
is_held (waits m) = 1
is_held (full m) = 1
is_held (finished e i s c) = 0

-- before its first step
abbrev pub beginning : List ℤ → Live
beginning store = record {
  stand = going (start (record { store = store_of store; left = 0; picks = [] }));
  ticks = 0;
  used = [];
  cues = [];
  held = 0;
}

-- a step more
unfoldable pub joined : Live → Stepped → Live
joined a s = record {
  stand = s.stand;
  ticks = a.ticks + s.ticks;
  used = a.used ++ s.used;
  cues = a.cues ++ s.cues;
  held = a.held + is_held s.stand;
}

-- the partner rows of a script's rows
abbrev pub matching_end : Script → ℕ → ℕ
matching_end script = (pairs script.rows (length script.rows)).end

abbrev pub matching_head : Script → ℕ → ℕ
matching_head script = (pairs script.rows (length script.rows)).head

-- a step of a script
abbrev pub step_of : Prices → Script → StepLent → Stand → Stepped
step_of π script l a = step π script.rows (matching_end script) (matching_head script) l a

-- the steps that are lent these, after a
unfoldable pub steps_from : Prices → Script → Live → List StepLent → Live
steps_from π script a [] = a
steps_from π script a (l ∷ ls) = steps_from π script (joined a (step_of π script l a.stand)) ls

-- a series from its start
abbrev pub after_steps : Prices → Script → List ℤ → List StepLent → Live
after_steps π script store ls = steps_from π script (beginning store) ls

-- ---- the answer of a step
-- the store of a standing
unfoldable pub store_at : Stand → Store
store_at (going m) = m.now.store
store_at (waits m) = m.now.store
store_at (full m) = m.now.store
store_at (finished e i s c) = s.store

-- the counts so far
unfoldable pub counts_at_stand : Stand → TurnCounts
counts_at_stand (going m) = m.tally
counts_at_stand (waits m) = m.tally
counts_at_stand (full m) = m.tally
counts_at_stand (finished e i s c) = c

-- the row of an action: of a spent one, that at which it is spent
unfoldable pub row_of_next : Next → ℕ
row_of_next (more m) = m.row
row_of_next (over e i s c) = i

-- the row of a standing, "as a run's"
unfoldable pub row_at : Prices → Script → Stand → ℕ
row_at π script (going m) = row_of_next (next π script.rows (matching_end script) (matching_head script) m)
row_at π script (waits m) = m.row
row_at π script (full m) = m.row
row_at π script (finished e i s c) = i

-- "the status (0 going, 1 waits, 2 full, 3 ended, 4 range)"
unfoldable pub status_number : Stand → ℕ
status_number (going m) = 0
status_number (waits m) = 1
status_number (full m) = 2
status_number (finished Ended i s c) = 3
status_number (finished Ending.Range i s c) = 4
status_number (finished Spent i s c) = 0
status_number (finished NoPick i s c) = 1

-- what a step answers: "ticks of this step and of all, the pick bytes used in this step and in all, the cues of this step", the loops' counts
pub record StepAnswer : Type 0 where
  pub status : ℕ
  pub row : ℕ
  pub ticks : ℕ
  pub all_ticks : ℕ
  pub used : ℕ
  pub all_used : ℕ
  pub cues : List ℕ
  pub counts : List LoopCount

-- of a step s, after steps that took so many ticks and used so many bytes
unfoldable pub step_answer : Prices → Script → ℕ → ℕ → Stepped → StepAnswer
step_answer π script ticks used s = record {
  status = status_number s.stand;
  row = row_at π script s.stand;
  ticks = s.ticks;
  all_ticks = ticks + s.ticks;
  used = length s.used;
  all_used = used + length s.used;
  cues = s.cues;
  counts = counts_of (counts_at_stand s.stand) (loop_rows 0 script.rows);
}
