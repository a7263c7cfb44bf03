-- The two calls, report and run: their questions in order (1, 16, 2 to 7 with 17 after 3, 19 and 8 to 13, then 14 or 15), and what is answered.
use Rattle.std.specs.Prelude.{◌≡◌, Bool, true, false, cond, ◌&&◌, List, [], ◌∷◌, ◌++◌, ℕ, zero, suc, ◌≤◌, leb, ℤ, length, get_or, drop}
use Rattle.std.specs.Int.Signed.{le_z}
use Rattle.rules.specs.Blocks.{RowKind, View, is_plain, is_pick, is_else, is_end, is_loop, view_of}
use Rattle.rules.specs.Replies.{Reply, Accepted, Refused}
use Rattle.rules.specs.declared.LoopCount.{LoopCount}
use Rattle.rules.specs.declared.Ending.{Ending}
use Rattle.rules.specs.declared.Ending.TheVariants.{Ended, Spent, NoPick}
use Rattle.rules.specs.Ranges.{Range}
use Rattle.rules.specs.Figures.{Prices}
use Rattle.rules.specs.Questions.{Verdict, passed, refused, verdict}
use Rattle.rules.specs.Scripts.{Script, start_env, store_of, tree_of}
use Rattle.rules.specs.File.{Reading, read, file_script}
use Rattle.rules.specs.Report.{script_report}
use Rattle.rules.specs.Run.{Entry}
use Rattle.rules.specs.Answers.{Answer, run_tree, store_list, sum_at, most_at}

-- the questions before 14 and 15 have yes: a script; or the first no, with number and place
pub data Judged : Type 0 where
  accepted : Script → Judged
  refuses : ℕ → ℕ → Judged

-- 19 and 8 to 13
unfoldable pub judged_by : Script → Verdict → Judged
judged_by script passed = accepted script
judged_by script (refused q p) = refuses q p

-- 2 to 13
unfoldable pub judged_file : Prices → Reading Script → Judged
judged_file π (read script ls) = judged_by script (verdict π (length script.rows) (start_env script.ranges) (tree_of script.rows))
judged_file π (Reading.refused q p) = refuses q p

-- "The caller lends four prices, 1 to 1,000 each: arithmetic (set, for starts and for steps with it), cue, pick, test"
abbrev pub prices_of : List ℕ → Prices
prices_of l = record { arithmetic = get_or l 0 0; cue = get_or l 1 0; pick = get_or l 2 0; test = get_or l 3 0 }

-- "With four ones the old figures return, and the printing program uses these"
abbrev pub four_ones : List ℕ
four_ones = 1 ∷ (1 ∷ (1 ∷ (1 ∷ [])))

-- 16: "the first price (from 0) wrong, missing or extra"; n more are due, from index i on
unfoldable pub prices_verdict : ℕ → ℕ → List ℕ → Verdict
prices_verdict zero i [] = passed
prices_verdict zero i (p ∷ ps) = refused 16 i
prices_verdict (suc n) i [] = refused 16 i
prices_verdict (suc n) i (p ∷ ps) = cond (leb 1 p && leb p 1_000) (prices_verdict n (suc i) ps) (refused 16 i)

-- four prices that 16 passes
abbrev pub Priced : List ℕ → Type 0
Priced prices = prices_verdict 4 0 prices ≡ passed

-- 2 to 13, after 16
unfoldable pub judged_priced : List ℕ → Verdict → List ℕ → Judged
judged_priced prices passed file = judged_file (prices_of prices) (file_script file)
judged_priced prices (refused q p) file = refuses q p

-- 1: is the lent scratch at least 1,024 32-bit numbers? "Question 1 and its place read 1,024."
abbrev pub scratch_size : ℕ
scratch_size = 1_024

-- 1, then 16, "between questions 1 and 2", then the file's
unfoldable pub judged : List ℕ → ℕ → List ℕ → Judged
judged prices scratch file = cond (leb scratch_size scratch) (judged_priced prices (prices_verdict 4 0 prices) file) (refuses 1 scratch_size)

-- "Every report and run must come out identical from 1,024 numbers": from any two scratches that question 1 passes
unfoldable pub SameFromAnyScratch : Type 0
SameFromAnyScratch = (prices : List ℕ) (a b : ℕ) (file : List ℕ) → scratch_size ≤ a → scratch_size ≤ b → judged prices a file ≡ judged prices b file

-- 14: "is the buffer at least as long as the report?"
unfoldable pub buffer_reply : List ℕ → ℕ → Reply
buffer_reply text room = cond (leb (length text) room) (Accepted (length text)) (Refused 14 (length text))

-- the text at the front of the buffer; "bytes past a report keep their values"
unfoldable pub over : List ℕ → List ℕ → List ℕ
over text old = text ++ drop (length text) old

-- if it fits
unfoldable pub written : List ℕ → List ℕ → List ℕ
written text old = cond (leb (length text) (length old)) (over text old) old

-- what the report call answers: "the report's length, which an accepted report call answers too", or number and place
unfoldable pub reply_of : List ℕ → Judged → ℕ → Reply
reply_of prices (accepted script) room = buffer_reply (script_report (prices_of prices) script) room
reply_of prices (refuses q p) room = Refused q p

-- the buffer after it
unfoldable pub buffer_of : List ℕ → Judged → List ℕ → List ℕ
buffer_of prices (accepted script) old = written (script_report (prices_of prices) script) old
buffer_of prices (refuses q p) old = old

-- 15: "has the store V numbers, each in its range? (15, first index wrong, missing or extra)"; from index i on
unfoldable pub store_verdict : ℕ → List Range → List ℤ → Verdict
store_verdict i [] [] = passed
store_verdict i [] (x ∷ xs) = refused 15 i
store_verdict i (r ∷ rs) [] = refused 15 i
store_verdict i (r ∷ rs) (x ∷ xs) = cond (le_z r.lo x && le_z x r.hi) (store_verdict (suc i) rs xs) (refused 15 i)

-- a loop's head row
unfoldable pub is_loop_row : View → Bool
is_loop_row (is_plain p) = false
is_loop_row is_pick = false
is_loop_row is_else = false
is_loop_row is_end = false
is_loop_row (is_loop form test last) = true

-- the head rows of the loops, in row order, from row i on
unfoldable pub loop_rows : ℕ → List RowKind → List ℕ
loop_rows i [] = []
loop_rows i (k ∷ ks) = cond (is_loop_row (view_of k)) (i ∷ loop_rows (suc i) ks) (loop_rows (suc i) ks)

-- "The two counts are, for each loop, the sum and the greatest of its entries' turns"
unfoldable pub counts_at : List Entry → List ℕ → List LoopCount
counts_at es [] = []
counts_at es (p ∷ ps) = record { row = p; all = sum_at p es; most = most_at p es } ∷ counts_at es ps

-- the run of a script
unfoldable pub run_script : Prices → Script → List ℤ → List ℕ → ℕ → Answer
run_script π script store picks allowance = run_tree π (length script.rows) (tree_of script.rows) (store_of store) picks allowance

-- what a run call answers: the run and its counts, or a refusal's number and place
pub data RunReply : Type 0 where
  ran : Answer → List LoopCount → RunReply
  refuses : ℕ → ℕ → RunReply

-- the run of a script with its counts
unfoldable pub ran_script : Prices → Script → List ℤ → List ℕ → ℕ → RunReply
ran_script π script store picks allowance =
    ran (run_script π script store picks allowance) (counts_at (run_script π script store picks allowance).entries (loop_rows 0 script.rows))

-- the same after question 15
unfoldable pub stored : Prices → Script → Verdict → List ℤ → List ℕ → ℕ → RunReply
stored π script passed store picks allowance = ran_script π script store picks allowance
stored π script (refused q p) store picks allowance = refuses q p

-- what the run call answers
unfoldable pub run_reply : List ℕ → Judged → List ℤ → List ℕ → ℕ → RunReply
run_reply prices (accepted script) store picks allowance = stored (prices_of prices) script (store_verdict 0 script.ranges store) store picks allowance
run_reply prices (Judged.refuses q p) store picks allowance = refuses q p

-- "The store is overwritten with the final one"; a refused call leaves it
unfoldable pub store_after : RunReply → List ℤ → List ℤ
store_after (ran a counts) old = store_list (length old) a.store
store_after (refuses q p) old = old

-- the number of an ending in an answer of numbers: ended, spent, range, no pick
unfoldable pub ending_number : Ending → ℕ
ending_number Ended = 0
ending_number Spent = 1
ending_number Ending.Range = 2
ending_number NoPick = 3
