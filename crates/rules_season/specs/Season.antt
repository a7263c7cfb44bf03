-- Change 10, "A season's figures": one sheet for a whole repertoire; change 13, "When two effects are the same": its groups.
use Rattle.std.specs.Prelude.{◌≡◌, ◌↔◌, Bool, false, not, cond, ◌&&◌, ◌||◌, ℕ, zero, suc, ◌+◌, max, T, leb, eqb, length}
use mathlib.Core.List.{List, [], ◌∷◌, ◌++◌, Memᴰ}
use Rattle.rules.specs.Blocks.{assign, cue, RowKind, View, is_plain, is_pick, is_else, is_end, is_loop, view_of}
use Rattle.rules.specs.Figures.{ones}
use Rattle.rules.specs.Scripts.{Script, report_ticks}
use Rattle.rules.specs.Text.{lf, split, equals}
use Rattle.rules.specs.Report.{decimal, joined, ticks_key, gap, newline, key_line, script_report}
use Rattle.rules.specs.Calls.{Judged, accepted, refuses, four_ones, scratch_size, judged}

-- ---- the names
-- the last line "may lack its LF": what stands after the last LF is a name if it is not empty
unfoldable pub until_last : List (List ℕ) → List (List ℕ)
until_last [] = []
until_last ([] ∷ []) = []
until_last ((b ∷ bs) ∷ []) = (b ∷ bs) ∷ []
until_last (n ∷ (m ∷ more)) = n ∷ until_last (m ∷ more)

-- "file names from standard input, one a line"
unfoldable pub names_of : List ℕ → List (List ℕ)
names_of input = until_last (split lf input)

-- a name holds a 0 byte
unfoldable pub holds_zero : List ℕ → Bool
holds_zero [] = false
holds_zero (b ∷ bs) = eqb b 0 || holds_zero bs

-- a name that is not "empty, over 255 bytes", and holds no 0 byte
unfoldable pub good_name : List ℕ → Bool
good_name name = leb 1 (length name) && (leb (length name) 255 && not (holds_zero name))

-- ---- the sheet
-- what the questions say of each file, with "four ones as prices"; every scratch that question 1 passes gives the same
unfoldable pub judged_all : List (List ℕ) → List Judged
judged_all [] = []
judged_all (f ∷ fs) = judged four_ones scratch_size f ∷ judged_all fs

-- the accepted scripts, in the order of the list
unfoldable pub scripts_of : List Judged → List Script
scripts_of [] = []
scripts_of (accepted s ∷ js) = s ∷ scripts_of js
scripts_of (refuses q p ∷ js) = scripts_of js

-- the numbers of the refusals
unfoldable pub refusals_of : List Judged → List ℕ
refusals_of [] = []
refusals_of (accepted s ∷ js) = refusals_of js
refusals_of (refuses q p ∷ js) = q ∷ refusals_of js

-- how often a number is met
unfoldable pub met : ℕ → List ℕ → ℕ
met q [] = 0
met q (r ∷ rs) = cond (eqb q r) 1 0 + met q rs

-- "ticks (the sum)"
unfoldable pub sum_of_ticks : List Script → ℕ
sum_of_ticks [] = 0
sum_of_ticks (s ∷ ss) = report_ticks ones s + sum_of_ticks ss

-- "greatest (of one file's ticks, 0 if none)"
unfoldable pub most_ticks : List Script → ℕ
most_ticks [] = 0
most_ticks (s ∷ ss) = max (report_ticks ones s) (most_ticks ss)

-- change 10's groups, the old sheet's: their reports are equal
unfoldable pub same_report : Script → Script → Bool
same_report a b = equals (script_report ones a) (script_report ones b)

-- a row's cue number
unfoldable pub cue_of : View → List ℕ
cue_of (is_plain (cue n)) = n ∷ []
cue_of (is_plain (assign v x)) = []
cue_of is_pick = []
cue_of is_else = []
cue_of is_end = []
cue_of (is_loop form test last) = []

-- "their cue numbers in row order": those of all cue rows of the file
unfoldable pub cues_of : List RowKind → List ℕ
cues_of [] = []
cues_of (r ∷ rs) = cue_of (view_of r) ++ cues_of rs

-- two accepted files are in one group "exactly if their reports are equal and their cue numbers in row order are equal too"
unfoldable pub same_group : Script → Script → Bool
same_group a b = same_report a b && equals (cues_of a.rows) (cues_of b.rows)

-- one of these is in the group of s
unfoldable pub among : Script → List Script → Bool
among s [] = false
among s (t ∷ ts) = same_group t s || among s ts

-- the first file of each group; `seen` are the files before
unfoldable pub firsts : List Script → List Script → List Script
firsts seen [] = []
firsts seen (s ∷ ss) = cond (among s seen) (firsts (seen ++ (s ∷ [])) ss) (s ∷ firsts (seen ++ (s ∷ [])) ss)

-- the figures; `counts` by refusal number
pub record Sheet : Type 0 where
  pub accepted : ℕ
  pub refused : ℕ
  pub counts : ℕ → ℕ
  pub ticks : ℕ
  pub greatest : ℕ
  pub groups : ℕ

-- of a list of files: `groups` is the number of groups among accepted files
unfoldable pub sheet_of : List Judged → Sheet
sheet_of js = record {
  accepted = length (scripts_of js);
  refused = length (refusals_of js);
  counts = λ q. met q (refusals_of js);
  ticks = sum_of_ticks (scripts_of js);
  greatest = most_ticks (scripts_of js);
  groups = length (firsts [] (scripts_of js));
}

-- ---- its text
-- `accepted=`
abbrev pub accepted_key : List ℕ
accepted_key = 97 ∷ 99 ∷ 99 ∷ 101 ∷ 112 ∷ 116 ∷ 101 ∷ 100 ∷ 61 ∷ []

-- `refused`
abbrev pub refused_word : List ℕ
refused_word = 114 ∷ 101 ∷ 102 ∷ 117 ∷ 115 ∷ 101 ∷ 100 ∷ []

-- `refused=`
abbrev pub refused_key : List ℕ
refused_key = refused_word ++ (61 ∷ [])

-- `refused-NUMBER=`
abbrev pub number_key : ℕ → List ℕ
number_key q = refused_word ++ (45 ∷ (decimal q ++ (61 ∷ [])))

-- `greatest=`
abbrev pub greatest_key : List ℕ
greatest_key = 103 ∷ 114 ∷ 101 ∷ 97 ∷ 116 ∷ 101 ∷ 115 ∷ 116 ∷ 61 ∷ []

-- `groups=`
abbrev pub groups_key : List ℕ
groups_key = 103 ∷ 114 ∷ 111 ∷ 117 ∷ 112 ∷ 115 ∷ 61 ∷ []

-- "for each refusal number met in rising order": the lines of n numbers from q on
unfoldable pub number_lines : ℕ → ℕ → (ℕ → ℕ) → List (List ℕ)
number_lines zero q counts = []
number_lines (suc n) q counts = cond (eqb (counts q) 0) (number_lines n (suc q) counts) (key_line (number_key q) (counts q) ∷ number_lines n (suc q) counts)

-- the sheet's lines; the refusal numbers are 1 to 20
unfoldable pub sheet_text : Sheet → List ℕ
sheet_text s =
    joined (key_line accepted_key s.accepted ∷ (key_line refused_key s.refused
    ∷ (number_lines 20 1 s.counts ++ (key_line ticks_key s.ticks ∷ (key_line greatest_key s.greatest ∷ (key_line groups_key s.groups ∷ []))))))

-- `refused=NUMBER PLACE` and LF, "as by document 01's program"
unfoldable pub refusal_text : ℕ → ℕ → List ℕ
refusal_text q p = joined (refused_key ∷ (decimal q ∷ (gap ∷ (decimal p ∷ (newline ∷ [])))))

-- the counts of n numbers from q on, added up
unfoldable pub counts_from : ℕ → ℕ → (ℕ → ℕ) → ℕ
counts_from zero q counts = 0
counts_from (suc n) q counts = counts q + counts_from n (suc q) counts

-- the lines `refused-NUMBER` add up to `refused`: no file is refused by a number that has no line
unfoldable pub RefusedAddUp : Type 0
RefusedAddUp = (files : List (List ℕ)) → counts_from 20 1 (sheet_of (judged_all files)).counts ≡ (sheet_of (judged_all files)).refused

-- ---- what code needs: one more file at the end of the list
-- an accepted one; `seen` are the accepted scripts before it
unfoldable pub with_accepted : List Script → Script → Sheet → Sheet
with_accepted seen s sheet = record {
  accepted = sheet.accepted + 1;
  refused = sheet.refused;
  counts = sheet.counts;
  ticks = sheet.ticks + report_ticks ones s;
  greatest = max sheet.greatest (report_ticks ones s);
  groups = sheet.groups + cond (among s seen) 0 1;
}

-- a refused one
unfoldable pub with_refused : ℕ → Sheet → Sheet
with_refused q sheet = record {
  accepted = sheet.accepted;
  refused = sheet.refused + 1;
  counts = λ r. sheet.counts r + cond (eqb r q) 1 0;
  ticks = sheet.ticks;
  greatest = sheet.greatest;
  groups = sheet.groups;
}

-- the sheet of a longer list
unfoldable pub SheetGrows : Type 0
SheetGrows =
    (js : List Judged)
    → ((s : Script) → sheet_of (js ++ (accepted s ∷ [])) ≡ with_accepted (scripts_of js) s (sheet_of js))
    × ((q p : ℕ) → sheet_of (js ++ (refuses q p ∷ [])) ≡ with_refused q (sheet_of js))

-- no two of these are in one group
pub data Apart : List Script → Type 0 where
  none_apart : Apart []
  more_apart : {s : Script} {ss : List Script} → ((t : Script) → Memᴰ t ss → T (not (same_group s t))) → Apart ss → Apart (s ∷ ss)

-- "Each figure is exact over the list": no two of the firsts are in one group, each accepted file is in the group of one of them, and each first is one of the files
unfoldable pub GroupsExact : Type 0
GroupsExact =
    (ss : List Script)
    → Apart (firsts [] ss)
    × ((s : Script) → Memᴰ s ss → (t : Script) × Memᴰ t (firsts [] ss) × T (same_group t s))
    × ((t : Script) → Memᴰ t (firsts [] ss) → Memᴰ t ss)

-- ---- change 13
-- the group is that of equal reports and equal cue numbers
unfoldable pub SameGroupIs : Type 0
SameGroupIs = (a b : Script) → T (same_group a b) ↔ (script_report ones a ≡ script_report ones b) × (cues_of a.rows ≡ cues_of b.rows)

-- "No group may hold files that the old sheet separated": what is in one group now was in one before
unfoldable pub GroupsFiner : Type 0
GroupsFiner = (a b : Script) → T (same_group a b) → T (same_report a b)

-- and to be in one group is an equivalence
pub record Equivalence (same : Script → Script → Bool) : Type 0 where
  pub reflexive : (a : Script) → T (same a a)
  pub symmetric : (a b : Script) → T (same a b) → T (same b a)
  pub transitive : (a b c : Script) → T (same a b) → T (same b c) → T (same a c)
