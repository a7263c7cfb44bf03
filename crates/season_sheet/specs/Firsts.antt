-- The reports and the cue numbers of the groups' first files, as code keeps them.
use Rattle.std.specs.Prelude.{◌≡◌, Bool, not, cond, List, [], ◌∷◌, ◌++◌, map, ℕ, ◌+◌, ◌*◌, ◌≤◌, ◌<◌, length, take, drop}
use Rattle.rules.specs.Figures.{ones}
use Rattle.rules.specs.Scripts.{Script}
use Rattle.rules.specs.Report.{script_report, longest_report}
use Rattle.rules_season.specs.Season.{cues_of, among, firsts}
use Rattle.season_sheet.specs.declared.groups.Kept.{Kept}

-- the sum of these lengths
unfoldable pub total : List ℕ → ℕ
total [] = 0
total (n ∷ ns) = n + total ns

-- the parts of a text that have these lengths, one after the other
unfoldable pub cut_by : List ℕ → List ℕ → List (List ℕ)
cut_by [] text = []
cut_by (n ∷ ns) text = take n text ∷ cut_by ns (drop n text)

-- a script's cue numbers
abbrev pub script_cues : Script → List ℕ
script_cues s = cues_of s.rows

-- parts of a list kept one after the other: those of the first `groups` lengths, which take its first `used` places, at most `most` each
pub record Parts (most groups used : ℕ) (lengths text : List ℕ) (parts : List (List ℕ)) : Type 0 where
  pub each : cut_by (take groups lengths) text ≡ parts
  pub sum : total (take groups lengths) ≡ used
  pub room : used ≤ most * groups

-- of the accepted files so far: how many groups, and the reports and the cue numbers of their first files
pub record Firsts (ss : List Script) (k : Kept) (lengths reports counts cues : List ℕ) : Type 0 where
  pub count : k.groups ≡ length (firsts [] ss)
  pub texts : Parts longest_report k.groups k.used lengths reports (map (script_report ones) (firsts [] ss))
  pub numbers : Parts 256 k.groups k.cued counts cues (map script_cues (firsts [] ss))

-- room for one more first, whose report and cue numbers stand behind those kept
pub record Behind (k : Kept) (len count : ℕ) (lengths reports counts cues : List ℕ) : Type 0 where
  pub place : k.groups < length lengths
  pub text : total (take k.groups lengths) ≤ k.used
  pub bytes : k.used + len ≤ length reports
  pub same : length counts ≡ length lengths
  pub numbers : total (take k.groups counts) ≤ k.cued
  pub room : k.cued + count ≤ length cues

-- what is kept with one more first, if it is one
abbrev pub more : Bool → Kept → ℕ → ℕ → Kept
more fresh k len count = record { groups = k.groups + cond fresh 1 0; used = k.used + cond fresh len 0; cued = k.cued + cond fresh count 0 }

-- one accepted file more, its report and its cue numbers behind those kept: whether it is in a new group, and what is kept then
abbrev pub FirstsAfter : Kept → ℕ → ℕ → List ℕ → List ℕ → List ℕ → List ℕ → List ℕ → List ℕ → Bool → Type 0
FirstsAfter k len count lengths lengths' reports counts counts' cues r =
    (ss : List Script) (s : Script) → Firsts ss k lengths reports counts cues → take len (drop k.used reports) ≡ script_report ones s → len ≤ longest_report → take count (drop k.cued cues) ≡ cues_of s.rows → count ≤ 256
    → (r ≡ not (among s ss)) × Firsts (ss ++ (s ∷ [])) (more r k len count) lengths' reports counts' cues
