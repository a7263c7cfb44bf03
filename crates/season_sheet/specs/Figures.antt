-- The season's sheet as code holds it, and the parts of its text.
use Rattle.std.specs.Prelude.{◌≡◌, Bool, not, cond, List, [], ◌∷◌, ◌++◌, ℕ, ◌+◌, ◌≤◌, ◌<◌, eqb, length, get_or}
use Rattle.rules.specs.Figures.{ones}
use Rattle.rules.specs.Scripts.{Script, report_ticks}
use Rattle.rules.specs.Report.{joined, key_line, ticks_key}
use Rattle.rules.specs.Calls.{Judged, accepted, refuses}
use Rattle.rules_season.specs.Season as season
use Rattle.rules_season.specs.Season.{scripts_of, among, sheet_of, accepted_key, refused_key, number_key, greatest_key, groups_key, number_lines, sheet_text}
use Rattle.report.specs.Pieces.{Wrote}
use Rattle.season_sheet.specs.declared.sheet.Sheet.{Sheet}

-- the figures by their names; `counts` has 21, by refusal number
abbrev pub figures_of : Sheet → List ℕ → season.Sheet
figures_of s counts = record {
  accepted = s.accepted;
  refused = s.refused;
  counts = λ q. get_or counts q 0;
  ticks = s.ticks;
  greatest = s.greatest;
  groups = s.groups;
}

-- they are the sheet of these files
pub record SheetIs (js : List Judged) (s : Sheet) (counts : List ℕ) : Type 0 where
  pub accepts : s.accepted ≡ (sheet_of js).accepted
  pub refusals : s.refused ≡ (sheet_of js).refused
  pub numbers : (q : ℕ) → q < 21 → get_or counts q 0 ≡ (sheet_of js).counts q
  pub sum : s.ticks ≡ (sheet_of js).ticks
  pub most : s.greatest ≡ (sheet_of js).greatest
  pub classes : s.groups ≡ (sheet_of js).groups

-- an accepted file more: it is the sheet with that file at the end; and what moved
pub record Accepting (old : Sheet) (ticks len count : ℕ) (fresh : Bool) (new : Sheet) : Type 0 where
  pub sheet : (js : List Judged) (s : Script) (counts : List ℕ) → SheetIs js old counts → ticks ≡ report_ticks ones s → fresh ≡ not (among s (scripts_of js)) → SheetIs (js ++ (accepted s ∷ [])) new counts
  pub accepts : new.accepted ≡ old.accepted + 1
  pub refusals : new.refused ≡ old.refused
  pub sum : new.ticks ≡ old.ticks + ticks
  pub classes : new.groups ≡ old.groups + cond fresh 1 0
  pub bytes : new.used ≡ old.used + cond fresh len 0
  pub cues : new.cued ≡ old.cued + cond fresh count 0

-- the counter of that number is one more; numbers from 21 on have none
pub record CounterRaised (q : ℕ) (old new : List ℕ) : Type 0 where
  pub long : length new ≡ 21
  pub numbers : (k : ℕ) → k < 21 → get_or new k 0 ≡ get_or old k 0 + cond (eqb k q) 1 0

-- a refused file more
pub record Refusing (old : Sheet) (q : ℕ) (counts counts' : List ℕ) (new : Sheet) : Type 0 where
  pub sheet : (js : List Judged) (p : ℕ) → SheetIs js old counts → SheetIs (js ++ (refuses q p ∷ [])) new counts'
  pub accepts : new.accepted ≡ old.accepted
  pub refusals : new.refused ≡ old.refused + 1
  pub sum : new.ticks ≡ old.ticks
  pub classes : new.groups ≡ old.groups
  pub bytes : new.used ≡ old.used
  pub cues : new.cued ≡ old.cued
  pub long : length counts' ≡ 21
  pub each : (k : ℕ) → k < 21 → get_or counts' k 0 ≤ get_or counts k 0 + 1

-- ---- the text's parts
-- `accepted=` and `refused=`
unfoldable pub front_text : ℕ → ℕ → List ℕ
front_text a r = key_line accepted_key a ++ key_line refused_key r

-- the line of a refusal number that was met n times
unfoldable pub met_text : ℕ → ℕ → List ℕ
met_text q n = cond (eqb n 0) [] (key_line (number_key q) n)

-- those of all refusal numbers
unfoldable pub numbers_text : (ℕ → ℕ) → List ℕ
numbers_text counts = joined (number_lines 20 1 counts)

-- `ticks=`, `greatest=` and `groups=`
unfoldable pub tail_text : ℕ → ℕ → ℕ → List ℕ
tail_text t g n = joined (key_line ticks_key t ∷ (key_line greatest_key g ∷ (key_line groups_key n ∷ [])))

-- the sheet's text is written: that of its figures, and so of the files whose sheet it is
pub record SheetWritten (s : Sheet) (counts old new : List ℕ) (r : ℕ) : Type 0 where
  pub text : Wrote (sheet_text (figures_of s counts)) old new r
  pub season : (js : List Judged) → SheetIs js s counts → Wrote (sheet_text (sheet_of js)) old new r
  pub short : r ≤ 1_144
