-- A cue, a pick and a second cue in the part that the pick takes, computed by the definitions: a pick that waits, a list that is full, and the cues of its run.
use mathlib.Core.Path.{◌≡◌, refl}
use mathlib.Core.List.{List, [], ◌∷◌}
use Prim.Native.Nat.{ℕ}
use lib.IntN.{pos}
use Rattle.rules.specs.declared.Comparison.TheVariants.{Less}
use Rattle.rules.specs.declared.Change.TheVariants.{Add}
use Rattle.rules.specs.Expressions.{constant}
use Rattle.rules.specs.Blocks.{view_of, Cue, Pick, End, Do, Move, in_front, loop_head, with_last, pick_head, plain_row, closes, built_row, build}
use Rattle.rules.specs.declared.Prices.{Prices}
use Rattle.rules.specs.Run.{enter, starting, turning, closing, prepend, bind, choose, charge, exec, taken, run}
use Rattle.rules.specs.Scripts.{Script, tree_of}
use Rattle.rules.specs.Answers.{answer, run_tree, sum_at}
use Rattle.rules.specs.Calls.{run_script}
use Rattle.rules_machine.specs.RowMachine.{next, on_row, on_end, paid, picked, outcome, pairs, pair_row, push, closes_row, rank}
use Rattle.rules_live.specs.Cues.{cue_of, fired, cues_by, cues_to}
use Rattle.rules_live.specs.Live.{stops_here, StepLent, left_at, unused_at, keeps, stepped_to, blocked, onward, runs_on, by_byte, step, Live, is_held, joined, steps_from, after_steps, counts_at_stand, status_number}

abbrev prices : Prices
prices = record { arithmetic = 2; cue = 3; pick = 1; test = 1 }

abbrev choice : Script
choice = record { ranges = []; rows = Cue 1 ∷ (Pick ∷ (Cue 2 ∷ (End ∷ []))) }

-- a step of 7 ticks with these bytes and room for so many cues
abbrev lent : List ℕ → ℕ → StepLent
lent picks room = record { q = 7; picks = picks; room = room }

-- status, ticks of all steps, ticks left, steps that ended in "waits" or "full"; the bytes; the cues
abbrev read : Live → List (List ℕ)
read l = (status_number l.stand ∷ (l.ticks ∷ (left_at l.stand ∷ (l.held ∷ [])))) ∷ (l.used ∷ (l.cues ∷ []))

-- cue 1 takes 3 ticks and the pick 1; it waits and keeps nothing of the 3 that are left
the_wait : read (after_steps prices choice [] (lent [] 9 ∷ [])) ≡ (1 ∷ (4 ∷ (0 ∷ (1 ∷ [])))) ∷ ([] ∷ ((1 ∷ []) ∷ []))
unfolding view_of steps_from joined step stepped_to runs_on by_byte onward blocked stops_here keeps left_at unused_at is_held status_number cue_of next on_row on_end paid picked outcome exec charge choose pairs pair_row push closes_row rank
the_wait = refl

-- 7 ticks more and no byte: nothing is done; the byte 9 comes, and cue 2 ends it
the_late_byte : read (after_steps prices choice [] (lent [] 9 ∷ (lent [] 9 ∷ (lent (9 ∷ (5 ∷ [])) 9 ∷ [])))) ≡ (3 ∷ (7 ∷ (4 ∷ (2 ∷ [])))) ∷ ((9 ∷ []) ∷ ((1 ∷ (2 ∷ [])) ∷ []))
unfolding view_of steps_from joined step stepped_to runs_on by_byte onward blocked stops_here keeps left_at unused_at is_held status_number cue_of next on_row on_end paid picked outcome exec charge choose pairs pair_row push closes_row rank
the_late_byte = refl

-- no room: the price of cue 1 is not taken; then room for one, and the byte 0 takes the other part
the_full_list : read (after_steps prices choice [] (lent [] 0 ∷ [])) ≡ (2 ∷ (0 ∷ (0 ∷ (1 ∷ [])))) ∷ ([] ∷ ([] ∷ []))
unfolding view_of steps_from joined step stepped_to runs_on by_byte onward blocked stops_here keeps left_at unused_at is_held status_number cue_of next on_row on_end paid picked outcome exec charge choose pairs pair_row push closes_row rank
the_full_list = refl

the_room : read (after_steps prices choice [] (lent [] 0 ∷ (lent (0 ∷ []) 1 ∷ []))) ≡ (3 ∷ (4 ∷ (3 ∷ (1 ∷ [])))) ∷ ((0 ∷ []) ∷ ((1 ∷ []) ∷ []))
unfolding view_of steps_from joined step stepped_to runs_on by_byte onward blocked stops_here keeps left_at unused_at is_held status_number cue_of next on_row on_end paid picked outcome exec charge choose pairs pair_row push closes_row rank
the_room = refl

-- the cues of its run with the byte 9: with 2 ticks none, with 6 the first, with 7 both; and with 7 and no byte the first
the_cues : (cues_to prices choice [] (9 ∷ []) 2 ∷ (cues_to prices choice [] (9 ∷ []) 6 ∷ (cues_to prices choice [] (9 ∷ []) 7 ∷ (cues_to prices choice [] [] 7 ∷ [])))) ≡ [] ∷ ((1 ∷ []) ∷ ((1 ∷ (2 ∷ [])) ∷ ((1 ∷ []) ∷ [])))
unfolding view_of cues_by fired cue_of run_script run_tree tree_of build built_row in_front pick_head plain_row closes answer run bind prepend exec charge choose taken
the_cues = refl

-- Two series on the same bytes with 4 ticks each: one has used the byte 9, the other waits for it. So claim 4 speaks of bytes where the ticks are fewer.
the_same_ticks : (read (after_steps prices choice [] (record { q = 4; picks = []; room = 9 } ∷ [])) ∷ (read (after_steps prices choice [] (record { q = 4; picks = 9 ∷ []; room = 9 } ∷ [])) ∷ []))
    ≡ ((1 ∷ (4 ∷ (0 ∷ (1 ∷ [])))) ∷ ([] ∷ ((1 ∷ []) ∷ []))) ∷ (((0 ∷ (4 ∷ (0 ∷ (0 ∷ [])))) ∷ ((9 ∷ []) ∷ ((1 ∷ []) ∷ []))) ∷ [])
unfolding view_of steps_from joined step stepped_to runs_on by_byte onward blocked stops_here keeps left_at unused_at is_held status_number cue_of next on_row on_end paid picked outcome exec charge choose pairs pair_row push closes_row rank
the_same_ticks = refl

-- A run without a tick has begun the first turn of a `do`, and a live run has not before its first step. So claim 1 speaks of a step or more.
abbrev opening : Script
opening = record { ranges = record { lo = pos 0; hi = pos 0 } ∷ []; rows = Do 0 Less (constant (pos 5)) ∷ (Cue 1 ∷ (Move 0 (Add 1) ∷ (End ∷ []))) }

the_first_turn : (sum_at 0 (run_script prices opening (pos 0 ∷ []) [] 0).entries ∷ ((counts_at_stand (after_steps prices opening (pos 0 ∷ []) []).stand).sum 0 ∷ [])) ≡ 1 ∷ (0 ∷ [])
unfolding view_of steps_from counts_at_stand sum_at run_script run_tree tree_of build built_row in_front loop_head with_last plain_row closes answer run enter starting turning bind closing prepend exec charge choose
the_first_turn = refl
