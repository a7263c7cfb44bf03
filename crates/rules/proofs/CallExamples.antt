-- Examples of files and calls, computed by the definitions: lines with every word, files, question 13 at its limit, lines of the report, the report's buffer,
-- a run's store and each ending of a run.
use mathlib.Core.Path.{◌≡◌, refl}
use mathlib.Core.Bool.{Bool, true, false}
use mathlib.Core.List.{List, [], ◌∷◌, ◌++◌}
use Prim.Native.Nat.{ℕ, zero, suc}
use Prim.Native.Char.{code}
use Prim.Native.String.{String, [] as []ˢ, ◌∷◌ as ◌∷ˢ◌}
use lib.IntN.{ℤ, pos, negsuc}
use Rattle.rules.specs.declared.Comparison.TheVariants.{Less, AtMost, Greater, AtLeast, Equal, Different}
use Rattle.rules.specs.declared.Change.TheVariants.{Add, Sub, Mul, Div}
use Rattle.rules.specs.declared.Operator.{Operator}
use Rattle.rules.specs.declared.Ending.{Ending}
use Rattle.rules.specs.declared.LoopCount.{LoopCount}
use Rattle.rules.specs.Replies.{Reply}
use Rattle.rules_steps.specs.declared.Step.{Step}
use Rattle.rules.specs.Expressions.{Expr, constant, variable, apply, operate}
use Rattle.rules.specs.Values.{lowest, highest, choose, limited, operated, value, compares, tried, decide}
use Rattle.rules.specs.Text.{lf, split, prefixed, starts_with, equals, is_digit, all_digits, value_from, is_natural, is_negative, is_variable, comparison_word, block_word, plain_word, word_of, words_of, line_texts, next_texts, next_lines}
use Rattle.rules.specs.Parse.{then_parse, is_mark, up_to_mark, from_mark, atom, ahead, after_term, after_factor, factor_of, expression, read_expression, at_end, parse, depth, operators}
use Rattle.rules.specs.Blocks.{RowKind, Set, Move, Cue, Pick, Else, End, While, Do, For, Off, Hold, view_of}
use Rattle.rules.specs.Nesting.{Nested, wrong, nest, opens, elses, ends, nest_row, and_rows, nest_rows}
use Rattle.rules.specs.Questions.{Verdict, passed, refused}
use Rattle.rules.specs.Scripts.{Script}
use Rattle.rules.specs.File.{turn_of, first_refusal, asks_size, asks_leaves, RowRead, Read, Wrong, checked, bare_row, set_row, move_row, off_row, cue_row, asks_test, while_row, do_row, asks_for, for_row, hold_row, words_row, row_of, Reading, then_lines, unless, row_key, script_line, count_line, asks_order, asks_range, range_words, range_lines, placed, row_line, row_lines, asks_rest, asks_closed, last_line, row_part, range_part, lines_script, file_script}
use Rattle.rules.specs.Report.{decimal_in, decimal, sign, size, joined, step_name, second_end, exact_name, key_line, loop_line, loop_lines, report_text, script_report}
use Rattle.rules.specs.Run.{Entry, prepend, bind, closing, charge, write, result, exec, taken, iter, starting, turning, enter, run}
use Rattle.rules.specs.Answers.{answer, run_tree, store_list, sum_at, most_at}
use Rattle.rules.specs.Calls.{Judged, judged_by, judged_file, prices_of, four_ones, prices_verdict, judged_priced, judged, buffer_reply, over, written, reply_of, buffer_of, store_verdict, is_loop_row, loop_rows, counts_at, run_script, RunReply, ran_script, stored, run_reply, store_after, ending_number}
use Rattle.rules.proofs.Examples.{Report, analysed, from_to, const, the_script}

-- ---- a list of cases: each answer of the definitions, and the one that the documents give
found : {A : Type 0} → List (A × A) → List A
found [] = []
found (c ∷ cs) = c.0 ∷ found cs

wanted : {A : Type 0} → List (A × A) → List A
wanted [] = []
wanted (c ∷ cs) = c.1 ∷ wanted cs

abbrev Agree : (A : Type 0) → List (A × A) → Type 0
Agree A cs = found cs ≡ wanted cs

-- the bytes of a text
bytes : String → List ℕ
bytes []ˢ = []
bytes (c ∷ˢ s) = code c ∷ bytes s

-- ---- a row's line, with two variables
line : String → RowRead
unfolding bytes split prefixed starts_with equals is_digit all_digits value_from is_natural is_negative is_variable comparison_word block_word plain_word word_of words_of line_texts next_texts then_parse is_mark up_to_mark from_mark atom ahead after_term after_factor factor_of expression read_expression at_end parse depth operators turn_of first_refusal asks_size asks_leaves checked bare_row set_row move_row off_row cue_row asks_test while_row do_row asks_for for_row hold_row words_row row_of lowest highest
line s = row_of 2 (next_texts row_key (split lf (bytes s)))

-- every word and every comparison, with numbers at their limits
all_words : Agree RowRead (
    (line "row=set v0 -1000000000\n", Read (Set 0 (constant (negsuc 999_999_999))))
    ∷ (line "row=set v1 2*v0+1\n", Read (Set 1 (apply Operator.Add (apply Operator.Mul (const 2) (variable 0)) (const 1))))
    ∷ (line "row=add v0 0\n", Read (Move 0 (Add 0)))
    ∷ (line "row=sub v1 1000000000\n", Read (Move 1 (Sub 1_000_000_000)))
    ∷ (line "row=mul v0 1\n", Read (Move 0 (Mul 1)))
    ∷ (line "row=div v1 2\n", Read (Move 1 (Div 2)))
    ∷ (line "row=cue 9999\n", Read (Cue 9_999))
    ∷ (line "row=pick\n", Read Pick)
    ∷ (line "row=else\n", Read Else)
    ∷ (line "row=end\n", Read End)
    ∷ (line "row=while v0 < v1\n", Read (While 0 Less (variable 1)))
    ∷ (line "row=while v1 <= 8\n", Read (While 1 AtMost (const 8)))
    ∷ (line "row=while v0 == 8\n", Read (While 0 Equal (const 8)))
    ∷ (line "row=do v0 > 8\n", Read (Do 0 Greater (const 8)))
    ∷ (line "row=do v0 >= 8\n", Read (Do 0 AtLeast (const 8)))
    ∷ (line "row=do v1 != v0\n", Read (Do 1 Different (variable 0)))
    ∷ (line "row=for v0 1 <= 9 add 5\n", Read (For 0 (const 1) AtMost (const 9) (Add 5)))
    ∷ (line "row=for v1 9 > v0 sub 2\n", Read (For 1 (const 9) Greater (variable 0) (Sub 2)))
    ∷ (line "row=for v0 v1 < 9 mul 3\n", Read (For 0 (variable 1) Less (const 9) (Mul 3)))
    ∷ (line "row=for v0 9 >= 1 div 4\n", Read (For 0 (const 9) AtLeast (const 1) (Div 4)))
    ∷ (line "row=hold v1\n", Read (Hold 1))
    ∷ (line "row=off v0 v1 < 5\n", Read (Off 0 1 Less (pos 5)))
    ∷ (line "row=off v1 v0 <= 0\n", Read (Off 1 0 AtMost (pos 0)))
    ∷ (line "row=off v0 v1 > -5\n", Read (Off 0 1 Greater (negsuc 4)))
    ∷ (line "row=off v0 v1 >= 1000000000\n", Read (Off 0 1 AtLeast (pos 1_000_000_000)))
    ∷ [])
unfolding found wanted line
all_words = refl

-- 3: `off` with == or !=; another key; no LF; no word; a word too few, too many, none between two spaces or at the end, of another kind; numbers of another shape.
-- 4: numbers past their limits. 5: v2. 3 before 4, and 4 before 5
no_rows_lem : Agree RowRead (
    (line "row=off v0 v1 == 5\n", Wrong 3) ∷ (line "row=off v0 v1 != 5\n", Wrong 3) ∷ (line "rows=cue 1\n", Wrong 3) ∷ (line "row:cue 1\n", Wrong 3) ∷ (line "row=cue 1", Wrong 3)
    ∷ (line "row=\n", Wrong 3) ∷ (line "row=cue\n", Wrong 3) ∷ (line "row=cue  1\n", Wrong 3) ∷ (line "row=cue 1 \n", Wrong 3) ∷ (line "row=end 1\n", Wrong 3)
    ∷ (line "row=set v0 1 1\n", Wrong 3) ∷ (line "row=add v0 1 1\n", Wrong 3) ∷ (line "row=while v0 < 1 1\n", Wrong 3) ∷ (line "row=for v0 1 < 9 add 1 1\n", Wrong 3)
    ∷ (line "row=hold v0 1\n", Wrong 3) ∷ (line "row=off v0 v1 < 5 1\n", Wrong 3) ∷ (line "row=Cue 1\n", Wrong 3) ∷ (line "row=cue v1\n", Wrong 3)
    ∷ (line "row=set 1 v0\n", Wrong 3) ∷ (line "row=for v0 1 < 9 set 1\n", Wrong 3) ∷ (line "row=cue +1\n", Wrong 3) ∷ (line "row=cue 01\n", Wrong 3) ∷ (line "row=cue -0\n", Wrong 3)
    ∷ (line "row=cue 1/\n", Wrong 3) ∷ (line "row=cue 1:\n", Wrong 3)
    ∷ (line "row=cue 10000\n", Wrong 4) ∷ (line "row=cue -1\n", Wrong 4) ∷ (line "row=mul v0 0\n", Wrong 4) ∷ (line "row=div v0 0\n", Wrong 4)
    ∷ (line "row=add v0 1000000001\n", Wrong 4) ∷ (line "row=set v0 -1000000001\n", Wrong 4) ∷ (line "row=off v0 v1 < 1000000001\n", Wrong 4)
    ∷ (line "row=set v2 1\n", Wrong 5) ∷ (line "row=set v0 v2\n", Wrong 5) ∷ (line "row=hold v2\n", Wrong 5) ∷ (line "row=off v0 v2 < 1\n", Wrong 5)
    ∷ (line "row=set v2 1000000001 1\n", Wrong 3) ∷ (line "row=set v2 1000000001\n", Wrong 4)
    ∷ [])
unfolding found wanted line
no_rows_lem = refl

-- ---- 6 and 7
times : ℕ → List RowKind → List RowKind
times zero rows = []
times (suc n) rows = rows ++ times n rows

nests : List RowKind → Nested
unfolding view_of opens elses ends nest_row and_rows nest_rows
nests rows = nest_rows rows (record { open_blocks = []; loops = 0 })

-- picks and loops 8 and 9 deep; 16 and 17 loops; `else` and `end` that close no fitting block
all_nests : Agree Nested (
    (nests (times 8 (Pick ∷ []) ++ times 8 (End ∷ [])), nest [] 0) ∷ (nests (times 9 (Pick ∷ [])), wrong 7)
    ∷ (nests (times 8 (Hold 0 ∷ []) ++ times 8 (End ∷ [])), nest [] 8) ∷ (nests (times 9 (Hold 0 ∷ [])), wrong 7)
    ∷ (nests (times 16 (Hold 0 ∷ (End ∷ []))), nest [] 16) ∷ (nests (times 17 (Hold 0 ∷ (End ∷ []))), wrong 7)
    ∷ (nests (Pick ∷ (Else ∷ (End ∷ []))), nest [] 0) ∷ (nests (Pick ∷ (Else ∷ (Else ∷ []))), wrong 6) ∷ (nests (Hold 0 ∷ (Else ∷ [])), wrong 6)
    ∷ (nests (Else ∷ []), wrong 6) ∷ (nests (End ∷ []), wrong 6)
    ∷ [])
unfolding found wanted times nests
all_nests = refl

-- ---- a file
reads : String → Reading Script
unfolding line next_lines then_lines unless script_line count_line asks_order asks_range range_words range_lines nests placed row_line row_lines asks_rest asks_closed last_line row_part range_part lines_script file_script
reads s = file_script (bytes s)

all_files : Agree (Reading Script) (
    (reads "script=1\nvars=0\nrows=0\n", Reading.read (record { ranges = []; rows = [] }) ([] ∷ []))
    ∷ (
      reads "script=1\nvars=2\nrange=-9 9\nrange=0 1\nrows=3\nrow=pick\nrow=else\nrow=end\n",
      Reading.read (record { ranges = record { lo = negsuc 8; hi = pos 9 } ∷ (from_to 0 1 ∷ []); rows = Pick ∷ (Else ∷ (End ∷ [])) }) ([] ∷ []),
    )
    -- bytes after the last row; the last line without its LF; a line that is missing; another key; another script number; a word too many
    ∷ (reads "script=1\nvars=1\nrange=0 0\nrows=1\nrow=cue 1\nx", Reading.refused 3 6)
    ∷ (reads "script=1\nvars=1\nrange=0 0\nrows=1\nrow=cue 1\n\n", Reading.refused 3 6)
    ∷ (reads "script=1\nvars=1\nrange=0 0\nrows=1\nrow=cue 1", Reading.refused 3 5)
    ∷ (reads "script=1\nvars=1\nrange=0 0\nrows=2\nrow=cue 1\n", Reading.refused 3 6)
    ∷ (reads "script=1\nvars=1\nrange=0 0\ncols=0\n", Reading.refused 3 4)
    ∷ (reads "script=2\nvars=0\nrows=0\n", Reading.refused 3 1)
    ∷ (reads "script=1 1\nvars=0\nrows=0\n", Reading.refused 3 1)
    ∷ (reads "script=1\nvars=0 0\nrows=0\n", Reading.refused 3 2)
    ∷ (reads "script=1\nvars=1\nrange=0 0 0\nrows=0\n", Reading.refused 3 3)
    -- V and R at their limits and past them; a range past its limits, and turned round
    ∷ (reads "script=1\nvars=16\n", Reading.refused 3 3)
    ∷ (reads "script=1\nvars=17\n", Reading.refused 4 2)
    ∷ (reads "script=1\nvars=0\nrows=256\n", Reading.refused 3 4)
    ∷ (reads "script=1\nvars=0\nrows=257\n", Reading.refused 4 3)
    ∷ (reads "script=1\nvars=1\nrange=-1000000001 0\n", Reading.refused 4 3)
    ∷ (reads "script=1\nvars=1\nrange=1 0\n", Reading.refused 4 3)
    -- a block left open: the line after the last, if there are no bytes on it
    ∷ (reads "script=1\nvars=0\nrows=1\nrow=pick\n", Reading.refused 6 5)
    ∷ (reads "script=1\nvars=0\nrows=1\nrow=pick\nx", Reading.refused 3 5)
    ∷ [])
unfolding found wanted reads
all_files = refl

-- 2: n bytes
long_file : ℕ → List ℕ
long_file zero = []
long_file (suc n) = 120 ∷ long_file n

file_size : (file_script (long_file 16_384) ≡ Reading.refused 3 1) × (file_script (long_file 16_385) ≡ Reading.refused 2 16_384)
unfolding long_file reads
file_size = (refl, refl)

-- ---- 1, then 16, then the file's
call : List ℕ → ℕ → String → Judged
unfolding reads judged judged_priced prices_verdict judged_file judged_by analysed
call prices scratch s = judged prices scratch (bytes s)

all_calls : Agree Judged (
    (call [] 1_023 "", Judged.refuses 1 1_024)
    ∷ (call four_ones 1_023 "script=1\nvars=0\nrows=0\n", Judged.refuses 1 1_024)
    ∷ (call [] 1_024 "", Judged.refuses 16 0)
    ∷ (call four_ones 1_024 "", Judged.refuses 3 1)
    ∷ (call four_ones 1_024 "script=1\nvars=0\nrows=0\n", Judged.accepted (record { ranges = []; rows = [] }))
    ∷ (call four_ones 1_024 "script=1\nvars=1\nrange=0 0\nrows=3\nrow=cue 1\nrow=while v0 < 9\nrow=end\n", Judged.refuses 9 1)
    ∷ [])
unfolding found wanted call
all_calls = refl

-- ---- 13: a loop of 500,000 turns round a `for` of 999,998, so that a do takes 500,000 · (2 · 999,998 + 2 + 1 + 1) ticks
abbrev long : RowKind → List RowKind
long head = head ∷ (For 1 (const 1) AtMost (const 999_998) (Add 1) ∷ (End ∷ (Move 0 (Add 1) ∷ (End ∷ []))))

figures : List RowKind → Report
unfolding analysed
figures rows = analysed (from_to 0 0 ∷ (from_to 0 0 ∷ [])) rows

abbrev million_million : Report
million_million =
    Report.report (record { row = 0; step = Step.Add (pos 1) (pos 1); turns = 500_000; total = 500_000; exact = true }
    ∷ (record { row = 1; step = Step.Add (pos 1) (pos 1); turns = 999_998; total = 499_999_000_000; exact = true } ∷ [])) 1_000_000_000_000

-- 10^12 ticks; one more in the loop (a while's last test), in a block round it (a pick), in the file (a row after it)
tick_limit_lem : Agree Report (
    (figures (long (Do 0 Less (const 500_000))), million_million)
    ∷ (figures (long (While 0 Less (const 500_000))), Report.refuses 13 4)
    ∷ (figures (Pick ∷ (long (Do 0 Less (const 500_000)) ++ (End ∷ []))), Report.refuses 13 6)
    ∷ (figures (long (Do 0 Less (const 500_000)) ++ (Cue 1 ∷ [])), Report.refuses 13 6)
    ∷ [])
unfolding found wanted figures
tick_limit_lem = refl

-- ---- lines of the report
all_lines : Agree (List ℕ) (
    (loop_line (record { row = 12; step = Step.Grow 2 3; turns = 4; total = 40; exact = false }), bytes "loop=12 grow 2 3 4 40 most\n")
    ∷ (loop_line (record { row = 3; step = Step.Shrink 5 7; turns = 1; total = 0; exact = false }), bytes "loop=3 shrink 5 7 1 0 most\n")
    ∷ (loop_line (record { row = 0; step = Step.Add (negsuc 3) (negsuc 2); turns = 5; total = 5; exact = false }), bytes "loop=0 add -4 -3 5 5 most\n")
    ∷ [])
unfolding found wanted bytes decimal_in decimal sign size joined step_name second_end exact_name loop_line analysed
all_lines = refl

-- ---- the report call: one cue, whose price is 10
abbrev one_cue : Judged
one_cue = Judged.accepted (record { ranges = []; rows = Cue 1 ∷ [] })

reply : Judged → ℕ → Reply
unfolding reply_of buffer_reply decimal_in decimal joined key_line loop_lines report_text script_report analysed
reply j room = reply_of (1 ∷ (10 ∷ (1 ∷ (1 ∷ [])))) j room

-- 14, with a buffer that is one byte short, as long as the report, longer; and a file that is refused
all_replies : Agree Reply (
    (reply one_cue 32, Reply.Refused 14 33)
    ∷ (reply one_cue 33, Reply.Accepted 33)
    ∷ (reply one_cue 35, Reply.Accepted 33)
    ∷ (reply (Judged.refuses 9 2) 35, Reply.Refused 9 2)
    ∷ [])
unfolding found wanted reply
all_replies = refl

buffer : Judged → String → List ℕ
unfolding reply buffer_of written over bytes
buffer j old = buffer_of (1 ∷ (10 ∷ (1 ∷ (1 ∷ [])))) j (bytes old)

-- "bytes past a report keep their values"
all_buffers : Agree (List ℕ) (
    (buffer one_cue "01234567890123456789012345678901", bytes "01234567890123456789012345678901")
    ∷ (buffer one_cue "012345678901234567890123456789012", bytes "report=1\nrows=1\nloops=0\nticks=10\n")
    ∷ (buffer one_cue "01234567890123456789012345678901234", bytes "report=1\nrows=1\nloops=0\nticks=10\n34")
    ∷ (buffer (Judged.refuses 9 2) "01234567890123456789012345678901234", bytes "01234567890123456789012345678901234")
    ∷ [])
unfolding found wanted buffer
all_buffers = refl

-- ---- 15: a value at an end of its range, or past it; a value missing; one extra
stores : List ℤ → Verdict
unfolding store_verdict
stores xs = store_verdict 0 (from_to 0 5 ∷ (from_to 1 9 ∷ [])) xs

all_stores : Agree Verdict (
    (stores (pos 0 ∷ pos 9 ∷ []), passed)
    ∷ (stores (pos 5 ∷ pos 1 ∷ []), passed)
    ∷ (stores (negsuc 0 ∷ pos 9 ∷ []), refused 15 0)
    ∷ (stores (pos 6 ∷ pos 0 ∷ []), refused 15 0)
    ∷ (stores (pos 0 ∷ pos 0 ∷ []), refused 15 1)
    ∷ (stores (pos 0 ∷ pos 10 ∷ pos 0 ∷ []), refused 15 1)
    ∷ (stores [], refused 15 0)
    ∷ (stores (pos 0 ∷ []), refused 15 1)
    ∷ (stores (pos 0 ∷ pos 9 ∷ pos 0 ∷ []), refused 15 2)
    ∷ [])
unfolding found wanted stores
all_stores = refl

-- ---- the run call: the ending's number, its row, ticks, bytes used, store and counts; or a refusal, and the store
data Told : Type 0 where
  ran : ℕ → ℕ → ℕ → ℕ → List ℤ → List LoopCount → Told
  not_run : ℕ → ℕ → List ℤ → Told

tells : RunReply → List ℤ → Told
tells (RunReply.ran a counts) old = ran (ending_number a.ending) a.row a.ticks a.used (store_after (RunReply.ran a counts) old) counts
tells (RunReply.refuses q p) old = not_run q p (store_after (RunReply.refuses q p) old)

-- ended, spent, range, no pick
all_endings : ending_number Ending.Ended ∷ (ending_number Ending.Spent ∷ (ending_number Ending.Range ∷ (ending_number Ending.NoPick ∷ []))) ≡ 0 ∷ (1 ∷ (2 ∷ (3 ∷ [])))
unfolding ending_number
all_endings = refl

-- under the prices 2, 10, 3 and 5
runs : List RowKind → List ℤ → List ℕ → ℕ → Told
unfolding tells ending_number store_after run_reply stored store_verdict ran_script run_script counts_at loop_rows is_loop_row run_tree answer store_list sum_at most_at run enter starting turning iter exec bind prepend closing choose charge write taken value result compares tried decide operated limited operate analysed
runs rows store picks allowance =
    tells (run_reply (2 ∷ (10 ∷ (3 ∷ (5 ∷ [])))) (Judged.accepted (record { ranges = from_to 0 1_000_000_000 ∷ (from_to 1 100_000 ∷ []); rows = rows })) store picks allowance) store

abbrev two : ℕ → ℕ → List ℤ
two a b = pos a ∷ (pos b ∷ [])

-- one loop, with one entry
abbrev turned : ℕ → ℕ → List LoopCount
turned p n = record { row = p; all = n; most = n } ∷ []

abbrev square : Expr
square = apply Operator.Mul (variable 1) (variable 1)

abbrev picking : List RowKind
picking = Cue 7 ∷ (Pick ∷ (Move 0 (Add 1) ∷ (Else ∷ (Set 0 square ∷ (End ∷ (While 0 Less square ∷ (Move 0 (Add 3) ∷ (End ∷ []))))))))

all_picks : Agree Told (
    -- "0 takes else, any other then"; a byte that is not used
    (runs picking (two 0 3) (1 ∷ []) 99, ran 0 9 41 1 (two 10 3) (turned 6 3))
    ∷ (runs picking (two 0 3) (255 ∷ []) 41, ran 0 9 41 1 (two 10 3) (turned 6 3))
    ∷ (runs picking (two 0 3) (0 ∷ []) 99, ran 0 9 20 1 (two 9 3) (turned 6 0))
    ∷ (runs picking (two 0 3) (0 ∷ (1 ∷ [])) 99, ran 0 9 20 1 (two 9 3) (turned 6 0))
    -- "a pick without a byte", after its tick
    ∷ (runs picking (two 0 3) [] 99, ran 3 1 13 0 (two 0 3) (turned 6 0))
    ∷ (runs picking (two 0 3) [] 12, ran 1 1 10 0 (two 0 3) (turned 6 0))
    -- spent at a cue, a pick, a row of a branch, the first test, a row of the body, the last test
    ∷ (runs picking (two 0 3) (1 ∷ []) 9, ran 1 0 0 0 (two 0 3) (turned 6 0))
    ∷ (runs picking (two 0 3) (1 ∷ []) 12, ran 1 1 10 0 (two 0 3) (turned 6 0))
    ∷ (runs picking (two 0 3) (1 ∷ []) 14, ran 1 2 13 1 (two 0 3) (turned 6 0))
    ∷ (runs picking (two 0 3) (1 ∷ []) 19, ran 1 6 15 1 (two 1 3) (turned 6 0))
    ∷ (runs picking (two 0 3) (1 ∷ []) 21, ran 1 7 20 1 (two 1 3) (turned 6 1))
    ∷ (runs picking (two 0 3) (1 ∷ []) 40, ran 1 6 36 1 (two 10 3) (turned 6 3))
    -- past L: a sum, the value of an expression, a limit
    ∷ (runs picking (two 1_000_000_000 3) (1 ∷ []) 99, ran 2 2 15 1 (two 1_000_000_000 3) (turned 6 0))
    ∷ (runs picking (two 0 100_000) (0 ∷ []) 99, ran 2 4 15 1 (two 0 100_000) (turned 6 0))
    ∷ (runs picking (two 0 100_000) (1 ∷ []) 99, ran 2 6 20 1 (two 1 100_000) (turned 6 0))
    -- a store that 15 refuses is left
    ∷ (runs picking (two 0 0) (1 ∷ []) 99, not_run 15 1 (two 0 0))
    ∷ (runs picking (pos 0 ∷ []) (1 ∷ []) 99, not_run 15 1 (pos 0 ∷ []))
    ∷ (runs picking (pos 0 ∷ (pos 3 ∷ (pos 3 ∷ []))) (1 ∷ []) 99, not_run 15 2 (pos 0 ∷ (pos 3 ∷ (pos 3 ∷ []))))
    ∷ [])
unfolding found wanted runs
all_picks = refl

abbrev scaling : List RowKind
scaling = Set 0 (const 0) ∷ (For 0 square Less (const 9) (Mul 1_000_000_000) ∷ (Cue 4 ∷ (End ∷ [])))

abbrev once : List RowKind
once = Do 0 Less (const 9) ∷ (Move 0 (Add 5) ∷ (End ∷ []))

abbrev held : List RowKind
held = Hold 0 ∷ (Off 0 1 Greater (pos 5) ∷ (Move 1 (Add 1) ∷ (End ∷ [])))

-- "a test, for start or for step has its loop's head row"; a do's first turn is not tested; a hold and its off
all_loops : Agree Told (
    (runs scaling (two 7 3) [] 99, ran 0 4 9 0 (two 9 3) (turned 1 0))
    ∷ (runs scaling (two 7 2) [] 99, ran 2 1 21 0 (two 4 2) (turned 1 1))
    ∷ (runs scaling (two 7 100_000) [] 99, ran 2 1 4 0 (two 0 100_000) (turned 1 0))
    ∷ (runs scaling (two 7 2) [] 3, ran 1 1 2 0 (two 0 2) (turned 1 0))
    ∷ (runs scaling (two 7 2) [] 8, ran 1 1 4 0 (two 4 2) (turned 1 0))
    ∷ (runs scaling (two 7 2) [] 20, ran 1 1 19 0 (two 4 2) (turned 1 1))
    ∷ (runs once (two 9 1) [] 7, ran 0 3 7 0 (two 14 1) (turned 0 1))
    ∷ (runs once (two 9 1) [] 1, ran 1 1 0 0 (two 9 1) (turned 0 1))
    ∷ (runs once (two 9 1) [] 6, ran 1 0 2 0 (two 14 1) (turned 0 1))
    ∷ (runs held (two 1 5) [] 23, ran 0 4 23 0 (two 0 7) (turned 0 2))
    ∷ [])
unfolding found wanted runs
all_loops = refl

entries_of_lem : List RowKind → List ℤ → ℕ → List Entry
unfolding runs
entries_of_lem rows store allowance = (run_script (prices_of (2 ∷ (10 ∷ (3 ∷ (5 ∷ []))))) (record { ranges = []; rows = rows }) store [] allowance).entries

abbrev entered : ℕ → ℕ → Bool → List Entry
entered p n t = record { row = p; turns = n; tested = t } ∷ []

-- "its loop, its turns and whether its test ended it, which means that the test failed and not that the run ended at it"
all_entries : Agree (List Entry) (
    (entries_of_lem scaling (two 7 3) 99, entered 1 0 true)
    ∷ (entries_of_lem scaling (two 7 2) 99, entered 1 1 false)
    ∷ (entries_of_lem scaling (two 7 100_000) 99, entered 1 0 false)
    ∷ (entries_of_lem scaling (two 7 2) 3, entered 1 0 false)
    ∷ (entries_of_lem scaling (two 7 2) 8, entered 1 0 false)
    ∷ (entries_of_lem once (two 9 1) 7, entered 0 1 true)
    ∷ (entries_of_lem once (two 9 1) 6, entered 0 1 false)
    ∷ (entries_of_lem once (two 9 1) 1, entered 0 1 false)
    ∷ (entries_of_lem scaling (two 7 2) 1, [])
    ∷ [])
unfolding found wanted entries_of_lem
all_entries = refl

-- document 01's run, with its counts; and a file that is refused
run_call : (tells (run_reply four_ones (Judged.accepted the_script) (two 0 1) [] 32) (two 0 1)
    ≡ ran 0 6 32 0 (two 11 6) (record { row = 0; all = 2; most = 2 } ∷ (record { row = 1; all = 7; most = 6 } ∷ [])))
    × (tells (run_reply four_ones (Judged.refuses 9 2) (two 0 1) [] 32) (two 0 1) ≡ not_run 9 2 (two 0 1))
unfolding runs
run_call = (refl, refl)
