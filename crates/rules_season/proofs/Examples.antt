-- Examples of the season sheet, computed by the definitions.
use mathlib.Core.Path.{◌≡◌, refl}
use mathlib.Core.List.{List, [], ◌∷◌}
use Rattle.ints.specs.Ints.{min_z, max_z, clamp}
use Rattle.rules.specs.Expressions.{meaning}
use Rattle.rules.specs.declared.Comparison.TheVariants.{Less}
use Rattle.rules.specs.declared.Change.TheVariants.{Add}
use Rattle.rules.specs.Values.{lowest, highest, applied}
use Rattle.rules.specs.Blocks.{view_of, snoc, in_front, with_last, loop_head, plain_row, closes, built_row, build, Move, Cue, End, While}
use Rattle.rules_steps.specs.Joins.{then}
use Rattle.rules.specs.Steps.{sets, assigns, change_step, source_step, row_step, step_from, equal_ends, is_add, behind, sole_row, sole_of, difference}
use Rattle.rules.specs.Ranges.{bounds, source_range, after_row, at_start, edge, inside_range, by_step, outside_range}
use Rattle.rules.specs.Turns.{climb, while_turns, at_test}
use Rattle.rules.specs.Passes.{sum, sum_over, sums, first_pass, triangle, turns_in, later, over_passes}
use Rattle.rules.specs.Trips.{led, turns_of, inner_of, outer_of, misses, sole_way, trip_by, loop_env, limit_way, toward, hold_way, way_of}
use Rattle.rules.specs.Figures.{price, loop_ticks, ticks, lines, total_of, in_body}
use Rattle.rules.specs.Scripts.{tree_of}
use Rattle.rules.specs.Text.{split, prefixed, equals}
use Rattle.rules.specs.Report.{script_report, report_text, key_line, loop_line, loop_lines, joined, decimal, decimal_in, sign, size, step_name, first_end, second_end, exact_name}
use Rattle.rules.specs.Calls
use Rattle.rules.proofs.Examples.{const, the_script}
use Rattle.rules_season.specs.Season

-- ---- change 10
-- no input is no name, a lone LF one empty name; the last name may lack its LF
names_read : Season.names_of [] ∷ (Season.names_of (10 ∷ []) ∷ (Season.names_of (97 ∷ 10 ∷ 98 ∷ []) ∷ (Season.names_of (97 ∷ 10 ∷ 98 ∷ 10 ∷ []) ∷ [])))
    ≡ [] ∷ (([] ∷ []) ∷ (((97 ∷ []) ∷ ((98 ∷ []) ∷ [])) ∷ (((97 ∷ []) ∷ ((98 ∷ []) ∷ [])) ∷ [])))
unfolding Season.names_of Season.until_last split prefixed
names_read = refl

-- the listing twice, an empty file twice and a file over the limit
a_season : List Calls.Judged
a_season = Calls.accepted the_script ∷ (Calls.refuses 3 1 ∷ (Calls.accepted the_script ∷ (Calls.refuses 13 4 ∷ (Calls.refuses 3 1 ∷ []))))

season_text : Season.sheet_text (Season.sheet_of a_season) ≡
    97 ∷ 99 ∷ 99 ∷ 101 ∷ 112 ∷ 116 ∷ 101 ∷ 100 ∷ 61 ∷ 50 ∷ 10 ∷
    114 ∷ 101 ∷ 102 ∷ 117 ∷ 115 ∷ 101 ∷ 100 ∷ 61 ∷ 51 ∷ 10 ∷
    114 ∷ 101 ∷ 102 ∷ 117 ∷ 115 ∷ 101 ∷ 100 ∷ 45 ∷ 51 ∷ 61 ∷ 50 ∷ 10 ∷
    114 ∷ 101 ∷ 102 ∷ 117 ∷ 115 ∷ 101 ∷ 100 ∷ 45 ∷ 49 ∷ 51 ∷ 61 ∷ 49 ∷ 10 ∷
    116 ∷ 105 ∷ 99 ∷ 107 ∷ 115 ∷ 61 ∷ 54 ∷ 52 ∷ 10 ∷
    103 ∷ 114 ∷ 101 ∷ 97 ∷ 116 ∷ 101 ∷ 115 ∷ 116 ∷ 61 ∷ 51 ∷ 50 ∷ 10 ∷
    103 ∷ 114 ∷ 111 ∷ 117 ∷ 112 ∷ 115 ∷ 61 ∷ 49 ∷ 10 ∷ []
unfolding a_season Season.sheet_text Season.sheet_of Season.scripts_of Season.refusals_of Season.met Season.sum_of_ticks Season.most_ticks Season.firsts Season.among Season.same_group Season.number_lines equals script_report report_text key_line loop_line loop_lines joined decimal decimal_in sign size step_name first_end second_end exact_name tree_of build built_row loop_head plain_row closes in_front snoc lines ticks price loop_ticks led turns_of inner_of outer_of misses sole_way trip_by is_add behind sole_row sole_of while_turns climb at_test equal_ends at_start loop_env inside_range outside_range by_step bounds edge step_from then row_step source_step change_step assigns sets after_row source_range applied lowest highest min_z max_z clamp limit_way difference meaning total_of in_body later sum sum_over sums first_pass triangle turns_in over_passes view_of with_last toward hold_way way_of Season.same_report Season.cues_of Season.cue_of
season_text = refl

-- ---- change 13: a rain and a fire of equal length
same_cues : Season.cues_of (Cue 7 ∷ (While 0 Less (const 9) ∷ (Cue 8 ∷ (Move 0 (Add 1) ∷ (End ∷ (Cue 7 ∷ [])))))) ≡ 7 ∷ (8 ∷ (7 ∷ []))
unfolding Season.cues_of Season.cue_of view_of
same_cues = refl
