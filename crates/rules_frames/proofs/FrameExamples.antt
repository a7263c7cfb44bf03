-- Two scripts in frames of 7 ticks, computed by the definitions: document 01's listing, and one that lacks a pick.
use mathlib.Core.Path.{◌≡◌, refl}
use mathlib.Core.Bool.{true, false}
use mathlib.Core.List.{List, [], ◌∷◌}
use Prim.Native.Nat.{ℕ, zero, suc}
use lib.IntN.{pos}
use Rattle.rules.specs.declared.Comparison.TheVariants.{Less, AtMost}
use Rattle.rules.specs.declared.Change.TheVariants.{Add}
use Rattle.rules.specs.declared.Ending.TheVariants.{Ended, NoPick}
use Rattle.rules.specs.Values.{lowest, highest, value, applied, compares, tried, decide}
use Rattle.rules.specs.Expressions.{constant, variable, meaning}
use Rattle.rules.specs.Blocks.{view_of, Cue, Pick, End, For}
use Rattle.rules.specs.declared.Prices.{Prices}
use Rattle.rules.specs.Scripts.{Script}
use Rattle.rules.specs.Run.{choose, charge, write, result, exec}
use Rattle.rules.specs.Answers.{store_list}
use Rattle.rules_machine.specs.RowMachine.{next, on_row, on_end, tests, paid, picked, outcome, begin, turn, pairs, pair_row, push, closes_row, rank, counts_of}
use Rattle.rules.specs.Calls.{is_loop_row, loop_rows}
use Rattle.rules_frames.specs.Frames.{stopped, onward, runs_on, Progress, beginning, frame_from, after_frames, left_of, ticks_of, takes, together, most, played_as, played_at, answers, Lent, parts_of, cut_parts, total, counted, covered, fitting}

-- a cue is dear
abbrev prices : Prices
prices = record { arithmetic = 2; cue = 3; pick = 1; test = 1 }

abbrev chase : Script
chase = record {
  ranges = record { lo = pos 0; hi = pos 0 } ∷ (record { lo = pos 1; hi = pos 4 } ∷ []);
  rows = For 0 (constant (pos 1)) AtMost (constant (pos 9)) (Add 5) ∷ (For 1 (constant (pos 0)) Less (variable 0) (Add 1) ∷ (Cue 7 ∷ (End ∷ (End ∷ (Cue 8 ∷ [])))));
}

abbrev choice : Script
choice = record { ranges = []; rows = Cue 1 ∷ (Pick ∷ (Cue 2 ∷ (End ∷ []))) }

abbrev both : List Progress
both = beginning chase (pos 0 ∷ (pos 1 ∷ [])) [] ∷ (beginning choice [] [] ∷ [])

-- the ticks together in the frames 1, 2, 9 and 10: the chase leaves 1 tick of its first 7, and takes 8 in the second frame
the_ticks : (together prices 7 both 0 ∷ (together prices 7 both 1 ∷ (together prices 7 both 8 ∷ (together prices 7 both 9 ∷ [])))) ≡ 10 ∷ (8 ∷ (4 ∷ (0 ∷ [])))
unfolding together takes after_frames frame_from runs_on onward stopped left_of ticks_of next on_row on_end tests paid picked outcome begin turn pairs pair_row push closes_row rank exec charge choose write value meaning result applied compares tried decide lowest highest view_of
the_ticks = refl

-- ended in frame 9 and lacking a pick in frame 1; at most 10 ticks in one frame
the_answers : answers prices 7 both 9
    ≡ record { frame = 9; ending = Ended; row = 6; ticks = 60; used = 0; store = pos 11 ∷ (pos 6 ∷ []); counts = record { row = 0; all = 2; most = 2 } ∷ (record { row = 1; all = 7; most = 6 } ∷ []) }
    ∷ (record { frame = 1; ending = NoPick; row = 1; ticks = 4; used = 0; store = []; counts = [] } ∷ [])
unfolding answers played_at played_as counts_of loop_rows is_loop_row store_list after_frames frame_from runs_on onward stopped left_of ticks_of next on_row on_end tests paid picked outcome begin turn pairs pair_row push closes_row rank exec charge choose write value meaning result applied compares tried decide lowest highest view_of
the_answers = refl

the_most : most prices 7 both 9 ≡ 10
unfolding most together takes after_frames frame_from runs_on onward stopped left_of ticks_of next on_row on_end tests paid picked outcome begin turn pairs pair_row push closes_row rank exec charge choose write value meaning result applied compares tried decide lowest highest view_of
the_most = refl

-- question 20: what is lent for two scripts, with their lengths
abbrev lent : List ℕ → List ℕ → List ℕ → Lent
lent fs ss ps = record { files = 65 ∷ (66 ∷ (67 ∷ [])); stores = pos 5 ∷ (pos 6 ∷ []); picks = 1 ∷ []; file_lengths = fs; store_lengths = ss; pick_lengths = ps }

-- n zeros in front
repeated : ℕ → List ℕ → List ℕ
repeated zero l = l
repeated (suc n) l = 0 ∷ repeated n l

-- yes; q 0 and past 1,000,000; lists that differ in number; that do not add up; no script; nine scripts
the_fits : (fitting (lent (2 ∷ (1 ∷ [])) (0 ∷ (2 ∷ [])) (1 ∷ (0 ∷ []))) 7 ∷ (fitting (lent (2 ∷ (1 ∷ [])) (0 ∷ (2 ∷ [])) (1 ∷ (0 ∷ []))) 0
    ∷ (fitting (lent (2 ∷ (1 ∷ [])) (0 ∷ (2 ∷ [])) (1 ∷ (0 ∷ []))) 1_000_001 ∷ (fitting (lent (2 ∷ (1 ∷ [])) (0 ∷ (2 ∷ [])) (1 ∷ [])) 7
    ∷ (fitting (lent (2 ∷ (1 ∷ [])) (0 ∷ (1 ∷ [])) (1 ∷ (0 ∷ []))) 7 ∷ (fitting (record { files = []; stores = []; picks = []; file_lengths = []; store_lengths = []; pick_lengths = [] }) 7
    ∷ (fitting (lent (repeated 8 (3 ∷ [])) (repeated 8 (2 ∷ [])) (repeated 8 (1 ∷ []))) 7 ∷ [])))))))
    ≡ true ∷ (false ∷ (false ∷ (false ∷ (false ∷ (false ∷ (false ∷ []))))))
unfolding fitting counted covered total repeated
the_fits = refl

-- cut: the first script has two bytes, no number and a pick
the_parts : parts_of (lent (2 ∷ (1 ∷ [])) (0 ∷ (2 ∷ [])) (1 ∷ (0 ∷ [])))
    ≡ record { file = 65 ∷ (66 ∷ []); store = []; picks = 1 ∷ [] } ∷ (record { file = 67 ∷ []; store = pos 5 ∷ (pos 6 ∷ []); picks = [] } ∷ [])
unfolding cut_parts
the_parts = refl
