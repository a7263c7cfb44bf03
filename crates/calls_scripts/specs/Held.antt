-- A script as it is held for the frames, and all of them.
use Rattle.std.specs.Prelude.{◌≡◌, List, [], ◌∷◌, ◌++◌, ℕ, zero, suc, ◌-◌, ◌≤◌, ◌<◌, ◌^◌, ℤ, Result, Ok, Err, length, get_or, take, drop, replicate}
use Rattle.rules.specs.Verdicts.{Verdict}
use Rattle.rules.specs.Verdicts.{passed as Passed, refused as Refused}
use Rattle.rules.specs.Written.{Written}
use Rattle.rules.specs.Scripts.{Script}
use Rattle.rules.specs.File.{file_script}
use Rattle.rules.specs.Calls.{accepted, Priced, prices_of, judged_file, scratch_size, judged}
use Rattle.rules_frames.specs.Frames.{Progress, beginning, Lent, ScriptPart, parts_of, total, Readiness, ready, readiness}
use Rattle.table.specs.Code.{rows_of, kind_at}
use Rattle.table.specs.Paired.{Table}
use Rattle.run_machine.specs.Steps.{script_in}
use Rattle.calls_lists.specs.declared.Extent.{Extent}
use Rattle.calls_lists.specs.Parts.{part_of, ExtentOf}
use Rattle.calls.specs.Held.{admitted}
use Rattle.calls_scripts.specs.declared.Places.{Places}
use Rattle.calls_scripts.specs.declared.Held.{Held}
use Rattle.calls_scripts.specs.declared.ScriptRefusal.{ScriptRefusal}
use Rattle.rules.specs.declared.Refusal.{Refusal}
use Rattle.calls_scripts.specs.declared.HeldScripts as code

-- ---- where a script stands
-- the tables of eight scripts, end to end
abbrev pub table_lengths : List ℕ
table_lengths = replicate 8 1_024

-- at most 8 files, each with a store and picks
pub record Lengths (fs ss ps : List ℕ) : Type 0 where
  pub few : length fs ≤ 8
  pub stores : length ss ≡ length fs
  pub picks : length ps ≡ length fs
  pub file_sum : total fs < 2 ^ 64
  pub store_sum : total ss < 2 ^ 64
  pub pick_sum : total ps < 2 ^ 64

-- the places of script k
pub record PlacesOf (fs ss ps : List ℕ) (k : ℕ) (p : Places) : Type 0 where
  pub file : ExtentOf fs k p.file
  pub table : ExtentOf table_lengths k p.table
  pub store : ExtentOf ss k p.store
  pub picks : ExtentOf ps k p.picks

-- what stands at a place in what is lent
abbrev pub slice_of : {A : Type 0} → Extent → List A → List A
slice_of s xs = take (s.to - s.from) (drop s.from xs)

-- the place lies in it
abbrev pub Inside : {A : Type 0} → Extent → List A → Type 0
Inside s xs = (s.from ≤ s.to) × (s.to ≤ length xs)

-- it is ys at the place, and else what it was
pub record PutAt {A : Type 0} (s : Extent) (ys xs xs' : List A) : Type 0 where
  pub size : length ys ≡ s.to - s.from
  pub all : xs' ≡ take s.from xs ++ (ys ++ drop (s.to - s.from) (drop s.from xs))

-- ---- one script
-- a script of a file, with `count` rows in its table
pub record HeldAs (file : List ℕ) (script : Script) (count : ℕ) (t : List ℕ) : Type 0 where
  pub size : count ≤ 256
  pub rows : script.rows ≡ script_in file t count
  pub written : (i : ℕ) → i < count → Written file (kind_at (rows_of t) i)
  pub table : Table file (rows_of t) count t

-- a script's own questions, and how many rows it has
pub record Entered : Type 0 where
  pub verdict : Verdict
  pub count : ℕ

-- as code answers it
abbrev pub entered_by : Result ℕ Refusal → Entered
entered_by (Ok n) = record { verdict = Passed; count = n }
entered_by (Err r) = record { verdict = Refused r.number r.place; count = 0 }

-- its own questions; the table has the rows of an accepted file, also where its store is refused; and it is held if they have yes
pub record EnteredAs (prices file : List ℕ) (store : List ℤ) (t : List ℕ) (e : Entered) : Type 0 where
  pub verdict : e.verdict ≡ admitted (judged_file (prices_of prices) (file_script file)) store
  pub rows : (script : Script) → judged_file (prices_of prices) (file_script file) ≡ accepted script → (count : ℕ) × HeldAs file script count t
  pub held : e.verdict ≡ Passed → (script : Script) → judged_file (prices_of prices) (file_script file) ≡ accepted script → HeldAs file script e.count t

-- it may be read at its places
pub record MayEnterAt (prices files : List ℕ) (stores : List ℤ) (tables : List ℕ) (p : Places) : Type 0 where
  pub priced : Priced prices
  pub file : Inside p.file files
  pub store : Inside p.store stores
  pub table : Inside p.table tables
  pub whole : p.table.to - p.table.from ≡ 1_024

-- it has been; of the tables only its own is another
pub record EnteredAt (prices files : List ℕ) (stores : List ℤ) (tables tables' : List ℕ) (p : Places) (e : Entered) : Type 0 where
  pub table : List ℕ
  pub wrote : PutAt p.table table tables tables'
  pub entered : EnteredAs prices (slice_of p.file files) (slice_of p.store stores) table e

-- ---- all of them
-- the files and stores are in parts that fit, and there are eight tables
pub record MayEnter (prices files fs : List ℕ) (stores : List ℤ) (ss ps tables : List ℕ) : Type 0 where
  pub priced : Priced prices
  pub lengths : Lengths fs ss ps
  pub all_files : total fs ≡ length files
  pub all_stores : total ss ≡ length stores
  pub all_tables : length tables ≡ 8_192

-- past the last of a list of parts
abbrev pub no_part : ScriptPart
no_part = record { file = []; store = []; picks = [] }

-- past the last script in progress
abbrev pub no_progress : Progress
no_progress = beginning (record { ranges = []; rows = [] }) [] []

-- past the last script that is held
abbrev pub nobody : Held
nobody = let nowhere : Extent = record { from = 0; to = 0 } in record { places = record { file = nowhere; table = nowhere; store = nowhere; picks = nowhere }; count = 0 }

-- script j is held
pub record HeldAt (l : Lent) (tables : List ℕ) (j : ℕ) (script : Script) (h : Held) : Type 0 where
  pub places : PlacesOf l.file_lengths l.store_lengths l.pick_lengths j h.places
  pub held : HeldAs (part_of l.file_lengths j l.files) script h.count (part_of table_lengths j tables)

-- the scripts in progress are held
abbrev pub Holds : Lent → List Progress → List ℕ → List Held → Type 0
Holds l ps tables each = (j : ℕ) → j < length l.file_lengths → HeldAt l tables j (get_or ps j no_progress).script (get_or each j nobody)

-- all scripts: the readiness of `rules`
abbrev pub HeldBy : Verdict → List ℕ → Lent → List ℕ → List Held → Type 0
HeldBy Passed prices l tables each = (ps : List Progress) × (readiness prices scratch_size (parts_of l) ≡ ready ps) × Holds l ps tables each
HeldBy (Refused q p) prices l tables each = readiness prices scratch_size (parts_of l) ≡ Readiness.refuses q p

-- a script's own verdict, before which of the later ones is refused
unfoldable pub first_no : Verdict → ℕ → ℕ
first_no (Refused q p) later = 1
first_no Passed zero = 0
first_no Passed (suc k) = suc (suc k)

-- which script is refused, from 1: the first whose own questions have no; 0 where none has
unfoldable pub refused_script : List ℕ → List ScriptPart → ℕ
refused_script prices [] = 0
refused_script prices (h ∷ hs) = first_no (admitted (judged prices scratch_size h.file) h.store) (refused_script prices hs)

-- no script is refused, and all are held
pub record AllHeld (prices : List ℕ) (l : Lent) (tables : List ℕ) (c : code.HeldScripts) : Type 0 where
  pub none : refused_script prices (parts_of l) ≡ 0
  pub number : c.number ≡ length l.file_lengths
  pub held : HeldBy Passed prices l tables c.each

-- a script is refused: which one, and by what
pub record OneRefused (prices : List ℕ) (l : Lent) (tables : List ℕ) (r : ScriptRefusal) : Type 0 where
  pub script : r.script ≡ refused_script prices (parts_of l)
  pub refused : HeldBy (Refused r.refusal.number r.refusal.place) prices l tables []

-- the same of what code answers
abbrev pub HeldScriptsAs : List ℕ → Lent → List ℕ → Result code.HeldScripts ScriptRefusal → Type 0
HeldScriptsAs prices l tables (Ok c) = AllHeld prices l tables c
HeldScriptsAs prices l tables (Err r) = OneRefused prices l tables r
