-- Document 01's worked example in frames.
use mathlib.Core.Path.{◌≡◌, refl}
use mathlib.Core.List.{List, [], ◌∷◌}
use Prim.Native.Nat.{ℕ}
use lib.ListN.{length}
use lib.IntN.{pos, ℤ}
use Rattle.ints.specs.Ints.{min_z, max_z, clamp}
use Rattle.rules.specs.Expressions.{meaning}
use Rattle.rules.specs.declared.Ending.TheVariants.{Ended}
use Rattle.rules.specs.Values.{lowest, highest, value, applied, compares, tried, decide}
use Rattle.rules.specs.Blocks.{view_of, snoc, in_front, with_last, loop_head, plain_row, closes, built_row, build}
use Rattle.rules_steps.specs.Joins.{then}
use Rattle.rules.specs.Steps.{sets, assigns, change_step, source_step, row_step, step_from, moving, equal_ends, is_add, behind, sole_row, sole_of, difference}
use Rattle.rules.specs.Ranges.{bounds, source_range, after_row, at_start, edge, inside_range, by_step, outside_range, suits}
use Rattle.rules.specs.Turns.{climb, while_turns, at_test}
use Rattle.rules.specs.Passes.{sum, sum_over, sums, first_pass, triangle, turns_in, later, over_passes}
use Rattle.rules.specs.Trips.{led, turns_of, inner_of, outer_of, keeps, misses, sole_way, trip_by, loop_env, limit_way, toward, hold_way, way_of}
use Rattle.rules.specs.Figures.{price, loop_ticks, ticks}
use Rattle.rules.specs.Questions.{and_then, asked, known, has_figure, loop_verdict, loops_verdict, tick_limit, blocks_verdict, verdict}
use Rattle.rules.specs.Run.{choose, charge, write, result, exec}
use Rattle.rules.specs.Nesting.{opens, ends, nest_row}
use Rattle.rules.specs.Scripts.{tree_of}
use Rattle.rules.specs.Text.{split, prefixed, starts_with, equals, is_digit, all_digits, value_from, is_natural, is_negative, is_variable, comparison_word, block_word, plain_word, word_of, words_of, next_lines, line_texts, next_texts}
use Rattle.rules.specs.File.{file_script, lines_script, range_part, row_part, script_line, count_line, range_lines, row_lines, row_line, placed, last_line, unless, asks_rest, asks_closed, asks_range, asks_order, asks_for, first_refusal, range_words, checked, bare_row, cue_row, for_row, words_row, row_of, turn_of, asks_size, asks_leaves}
use Rattle.rules.specs.Parse.{then_parse, is_mark, up_to_mark, from_mark, atom, ahead, after_term, after_factor, close, factor_of, expression, at_end, parse, depth, operators, read_expression}
use Rattle.rules.specs.Report.{first_end}
use Rattle.rules_machine.specs.RowMachine.{next, on_end, tests, paid, begin, turn, pairs, pair_row, push, rank, counts_of}
use Rattle.rules.specs.Answers.{store_list}
use Rattle.rules.specs.File
use Rattle.rules.specs.Calls
use Rattle.rules.proofs.Examples.{the_file}
use Rattle.rules_machine.specs.RowMachine
use Rattle.rules_frames.specs.Frames.{stopped, runs_on, frame_from, left_of, ticks_of, takes, together, most, due, lasts, played_as, played_at, answers, Lent, cut_parts, counted, covered, fitting, joins, enters, readiness, FramesReply, played, played_by, frames_reply}
use Rattle.rules_frames.specs.Frames

-- ---- change 14: the listing alone in frames of 20 ticks: its 32 ticks end in frame 2 = ceil(32/20)
abbrev lent : List ℕ → List ℤ → List ℕ → List ℕ → List ℕ → Lent
lent files stores fs ss ps = record { files = files; stores = stores; picks = []; file_lengths = fs; store_lengths = ss; pick_lengths = ps }

the_frames : frames_reply Calls.four_ones 1_024 (lent the_file (pos 0 ∷ (pos 1 ∷ [])) (length the_file ∷ []) (2 ∷ []) (0 ∷ [])) 20
    ≡ played (record { frame = 2; ending = Ended; row = 6; ticks = 32; used = 0; store = pos 11 ∷ (pos 6 ∷ []); counts = record { row = 0; all = 2; most = 2 } ∷ (record { row = 1; all = 7; most = 6 } ∷ []) } ∷ []) 20
unfolding the_file Calls.judged Calls.judged_priced Calls.prices_verdict Calls.judged_file Calls.judged_by file_script lines_script range_part row_part script_line count_line range_lines row_lines row_line placed last_line File.then_lines unless asks_rest asks_closed asks_range asks_order asks_for first_refusal range_words checked bare_row cue_row for_row row_of split prefixed starts_with equals is_digit all_digits value_from is_natural is_negative is_variable comparison_word block_word plain_word word_of words_of next_lines nest_row opens ends tree_of build built_row loop_head plain_row closes in_front snoc verdict and_then loops_verdict asked loop_verdict known moving keeps suits has_figure blocks_verdict tick_limit ticks price loop_ticks led turns_of inner_of outer_of misses sole_way trip_by is_add behind sole_row sole_of while_turns climb at_test at_start loop_env inside_range outside_range by_step bounds edge step_from then row_step source_step change_step assigns sets after_row source_range applied lowest highest min_z max_z clamp limit_way difference line_texts next_texts Frames.onward is_mark up_to_mark from_mark atom ahead after_term after_factor close factor_of expression read_expression at_end parse depth operators turn_of asks_size asks_leaves meaning later sum Frames.total sum_over sums first_pass triangle turns_in over_passes first_end equal_ends toward hold_way way_of frames_reply fitting counted covered cut_parts readiness enters joins Calls.store_verdict played_by lasts due answers played_at played_as counts_of Calls.loop_rows Calls.is_loop_row store_list most together takes Frames.after_frames frame_from runs_on stopped left_of ticks_of next RowMachine.on_row on_end tests paid RowMachine.outcome begin turn pairs pair_row push RowMachine.closes_row rank exec charge choose write value result compares decide tried then_parse words_row view_of with_last
the_frames = refl

-- a store that is wrong in script 0 comes before a file that is wrong in script 1
the_first_no : frames_reply Calls.four_ones 1_024 (lent the_file (pos 3 ∷ (pos 1 ∷ [])) (length the_file ∷ (0 ∷ [])) (2 ∷ (0 ∷ [])) (0 ∷ (0 ∷ []))) 20 ≡ FramesReply.refuses 15 0
unfolding the_file Calls.judged Calls.judged_priced Calls.prices_verdict Calls.judged_file Calls.judged_by file_script lines_script range_part row_part script_line count_line range_lines row_lines row_line placed last_line File.then_lines unless asks_rest asks_closed asks_range asks_order asks_for first_refusal range_words checked bare_row cue_row for_row row_of split prefixed starts_with equals is_digit all_digits value_from is_natural is_negative is_variable comparison_word block_word plain_word word_of words_of next_lines nest_row opens ends tree_of build built_row loop_head plain_row closes in_front snoc verdict and_then loops_verdict asked loop_verdict known moving keeps suits has_figure blocks_verdict tick_limit ticks price loop_ticks led turns_of inner_of outer_of misses sole_way trip_by is_add behind sole_row sole_of while_turns climb at_test at_start loop_env inside_range outside_range by_step bounds edge step_from then row_step source_step change_step assigns sets after_row source_range applied lowest highest min_z max_z clamp limit_way difference line_texts next_texts Frames.onward is_mark up_to_mark from_mark atom ahead after_term after_factor close factor_of expression read_expression at_end parse depth operators turn_of asks_size asks_leaves meaning later sum Frames.total sum_over sums first_pass triangle turns_in over_passes first_end equal_ends toward hold_way way_of frames_reply fitting counted covered cut_parts readiness enters joins Calls.store_verdict played_by decide tried then_parse words_row view_of with_last
the_first_no = refl
