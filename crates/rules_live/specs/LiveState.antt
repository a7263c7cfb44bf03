-- The state of a live run (request 15): 64 numbers that the caller holds, "it may hold anything". What a state says is our decision:
-- 0 status, 1 row, 2 whether the test of the loop that ends there is due, 3 what is left, 4 ticks of all steps, 5 bytes of all steps, 6 to 15
-- nothing, and from 16 on for each loop, in row order, the turns of its current entry, all turns, and the most in one entry.
use Rattle.std.specs.Prelude.{Bool, true, false, cond, ◌&&◌, List, [], ◌∷◌, ◌++◌, map, ℕ, zero, suc, ◌+◌, ◌-◌, ◌*◌, min, leb, ltb, eqb, ℤ, length, get_or, drop, take, replicate}
use Rattle.rules.specs.declared.Ending.{Ending}
use Rattle.rules.specs.declared.Ending.TheVariants.{Ended}
use Rattle.rules.specs.declared.Prices.{Prices}
use Rattle.rules.specs.Blocks.{View, is_plain, is_pick, is_else, is_end, is_loop, view_at}
use Rattle.rules.specs.Figures.{Line}
use Rattle.rules.specs.Verdicts.{Verdict, passed, refused}
use Rattle.rules.specs.Scripts.{Script, store_of, report_ticks, report_lines}
use Rattle.rules.specs.Calls.{is_loop_row, loop_rows}
use Rattle.rules_machine.specs.RowMachine.{TurnCounts, Phase, fresh, testing, Place}
use Rattle.rules_frames.specs.InTime.{dearest}
use Rattle.rules_live.specs.Cues.{cue_of}
use Rattle.rules_live.specs.Live.{Stand, going, waits, full, finished, counts_at_stand, status_number, matching_head}

-- ---- its layout
-- a state of 64 numbers
abbrev pub state_size : ℕ
state_size = 64

-- where the loops' numbers begin
abbrev pub loops_from : ℕ
loops_from = 16

-- number j of a state
abbrev pub at : List ℕ → ℕ → ℕ
at ns j = get_or ns j 0

-- ---- what a state says
-- number j of the loop at row p, where the loops at the rows hs have three numbers each
unfoldable pub loop_number : List ℕ → List ℕ → ℕ → ℕ → ℕ
loop_number [] ns p j = 0
loop_number (h ∷ hs) ns p j = cond (eqb p h) (at ns j) (loop_number hs (drop 3 ns) p j)

-- the counts
unfoldable pub tally_in : List ℕ → List ℕ → TurnCounts
tally_in hs ns = record { turns = λ p. loop_number hs ns p 0; sum = λ p. loop_number hs ns p 1; most = λ p. loop_number hs ns p 2 }

-- the phase
unfoldable pub phase_in : ℕ → Phase
phase_in zero = fresh
phase_in (suc n) = testing

-- the standing, by the status
unfoldable pub stand_in : ℕ → Place → Stand
stand_in zero m = going m
stand_in (suc zero) m = waits m
stand_in (suc (suc zero)) m = full m
stand_in (suc (suc (suc zero))) m = finished Ended m.row m.now m.tally
stand_in (suc (suc (suc (suc n)))) m = finished Ending.Range m.row m.now m.tally

-- where a script stands whose store and state are these; it has not been lent a byte
unfoldable pub state_stand : Script → List ℤ → List ℕ → Stand
state_stand script store ns =
    stand_in (at ns 0)
    (record {
      row = at ns 1;
      phase = phase_in (at ns 2);
      now = record { store = store_of store; left = at ns 3; picks = [] };
      tally = tally_in (loop_rows 0 script.rows) (drop loops_from ns);
    })

-- ---- 21
-- a cue
unfoldable pub is_cue : View → Bool
is_cue v = leb 1 (length (cue_of v))

-- a pick
unfoldable pub is_pick_row : View → Bool
is_pick_row (is_plain p) = false
is_pick_row is_pick = true
is_pick_row is_else = false
is_pick_row is_end = false
is_pick_row (is_loop form test last) = false

-- the `end` of a loop, h the head of the block that it closes
unfoldable pub ends_loop : View → View → Bool
ends_loop (is_plain p) h = false
ends_loop is_pick h = false
ends_loop is_else h = false
ends_loop is_end h = is_loop_row h
ends_loop (is_loop form test last) h = false

-- The row by the status: going, at a row or past the last; waiting, at a pick; full, at a cue; ended, past the last row; out of range, at a row.
unfoldable pub row_fits : Script → ℕ → ℕ → Bool
row_fits script zero i = leb i (length script.rows)
row_fits script (suc zero) i = ltb i (length script.rows) && is_pick_row (view_at script.rows i)
row_fits script (suc (suc zero)) i = ltb i (length script.rows) && is_cue (view_at script.rows i)
row_fits script (suc (suc (suc zero))) i = eqb i (length script.rows)
row_fits script (suc (suc (suc (suc n)))) i = ltb i (length script.rows)

-- a test is due at the `end` of a loop alone, and not where a script waits, is full or finished
unfoldable pub phase_fits : Script → ℕ → ℕ → ℕ → Bool
phase_fits script status i zero = true
phase_fits script zero i (suc zero) = ltb i (length script.rows) && ends_loop (view_at script.rows i) (view_at script.rows (matching_head script i))
phase_fits script zero i (suc (suc n)) = false
phase_fits script (suc status) i (suc n) = false

-- what is left is less than the dearest price; what is finished has nothing left
unfoldable pub left_fits : Prices → ℕ → ℕ → Bool
left_fits π status n = cond (leb status 2) (ltb n (dearest π)) (eqb n 0)

-- the first six numbers: no more ticks than the report's, no more bytes than ticks
unfoldable pub head_checks : Prices → Script → ℕ → List ℕ → List Bool
head_checks π script ticks ns =
    leb (at ns 0) 4 ∷ row_fits script (at ns 0) (at ns 1) ∷ phase_fits script (at ns 0) (at ns 1) (at ns 2) ∷ left_fits π (at ns 0) (at ns 3)
    ∷ leb (at ns 4) ticks ∷ leb (at ns 5) (at ns 4) ∷ []

-- the three numbers of each loop: all turns at most its line's total and no fewer than the most in one entry, which are at most its line's turns and
-- no fewer than those of the current entry
unfoldable pub loop_checks : List Line → List ℕ → List Bool
loop_checks [] ns = []
loop_checks (l ∷ ls) ns =
    leb (at ns 0) l.turns ∷ (leb (at ns 0) (at ns 1) && leb (at ns 1) l.total)
    ∷ (leb (at ns 0) (at ns 2) && (leb (at ns 2) (at ns 1) && leb (at ns 2) l.turns)) ∷ loop_checks ls (drop 3 ns)

-- numbers that say nothing
abbrev pub zero_checks : List ℕ → List Bool
zero_checks ns = map (eqb 0) ns

-- of all 64, in order
unfoldable pub state_checks : Prices → Script → List ℕ → List Bool
state_checks π script ns =
    head_checks π script (report_ticks π script) ns ++ (zero_checks (take 10 (drop 6 ns))
    ++ (loop_checks (report_lines script) (drop loops_from ns) ++ zero_checks (drop (loops_from + 3 * length (report_lines script)) ns)))

-- the first no, from place i on
unfoldable pub first_no : ℕ → List Bool → Verdict
first_no i [] = passed
first_no i (true ∷ bs) = first_no (suc i) bs
first_no i (false ∷ bs) = refused 21 i

-- 21: "place the first number of the state (from 0) that no run of this file can have there, or 64 where the state has not 64 numbers"
unfoldable pub state_verdict : Prices → Script → List ℕ → Verdict
state_verdict π script ns = cond (eqb (length ns) state_size) (first_no 0 (state_checks π script ns)) (refused 21 state_size)

-- ---- what is written
-- the row of the place
unfoldable pub place_row : Stand → ℕ
place_row (going m) = m.row
place_row (waits m) = m.row
place_row (full m) = m.row
place_row (finished e i s c) = i

-- a test is due
unfoldable pub phase_number : Phase → ℕ
phase_number fresh = 0
phase_number testing = 1

-- at this standing
unfoldable pub phase_at : Stand → ℕ
phase_at (going m) = phase_number m.phase
phase_at (waits m) = 0
phase_at (full m) = 0
phase_at (finished e i s c) = 0

-- what is carried to the next step
unfoldable pub carried_at : Stand → ℕ
carried_at (going m) = m.now.left
carried_at (waits m) = m.now.left
carried_at (full m) = m.now.left
carried_at (finished e i s c) = 0

-- The three numbers of a loop by its line. In a run they are within it; from another state they are cut to it, so that the next step takes them.
unfoldable pub loop_numbers : List Line → List ℕ → TurnCounts → List ℕ
loop_numbers [] hs c = []
loop_numbers (l ∷ ls) [] c = []
loop_numbers (l ∷ ls) (p ∷ hs) c =
    let all : ℕ = min (c.sum p) l.total in
    let most : ℕ = min (min (c.most p) l.turns) all in min (c.turns p) most ∷ all ∷ most ∷ loop_numbers ls hs c

-- of a script that stands so after so many ticks and bytes
unfoldable pub state_numbers : Prices → Script → ℕ → ℕ → Stand → List ℕ
state_numbers π script ticks used a =
    let spent : ℕ = min ticks (report_ticks π script) in
    let loops : List ℕ = loop_numbers (report_lines script) (loop_rows 0 script.rows) (counts_at_stand a) in
    (status_number a ∷ place_row a ∷ phase_at a ∷ carried_at a ∷ spent ∷ min used spent ∷ replicate 10 0) ++ (loops ++ replicate (state_size - loops_from - length loops) 0)
