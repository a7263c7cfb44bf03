-- What change 14 says of its frames: each script does what it does alone, and is finished in time.
use Rattle.std.specs.Prelude.{List, [], ◌∷◌, ◌≡◌, ℕ, suc, ◌+◌, ◌-◌, ◌*◌, ◌≤◌, ◌<◌, max, ℤ, length}
use Rattle.rules.specs.Blocks.{RowKind}
use Rattle.rules.specs.declared.Ending.TheVariants.{Spent}
use Rattle.rules.specs.declared.Prices.{Prices}
use Rattle.rules.specs.Verdicts.{passed}
use Rattle.rules.specs.Scripts.{All, Script, report_ticks, Accepted, StoreIn}
use Rattle.rules.specs.Answers.{Answer, store_list}
use Rattle.rules_machine.specs.RowMachine.{Place, Next, more, over, next, pairs, rank, Partners, Replies}
use Rattle.rules.specs.Calls.{accepted, prices_of, judged, store_verdict, loop_rows, counts_at, run_script}
use Rattle.rules.specs.Claim.{Unspent}
use Rattle.rules_frames.specs.Frames.{runs_on, given, Progress, beginning, after_frames, ticks_in, most, due, lasts, Played, played_of, answers, Lent, ScriptPart, parts_of, played, frames_reply}

-- For all prices with a test of at least one tick, all rows with their partner rows and all places: what has stopped before a price that did not
-- fit, and gets d ticks more, comes to stand where it had come with d ticks more from the beginning.
unfoldable pub Resumed : Type 0
Resumed =
    (π : Prices) → 1 ≤ π.test → (rows : List RowKind) (matching_end_lem matching_head_lem : ℕ → ℕ) → Partners rows matching_end_lem matching_head_lem → (m p : Place) (d : ℕ)
    → runs_on π rows matching_end_lem matching_head_lem m ≡ more p → runs_on π rows matching_end_lem matching_head_lem (given d p) ≡ runs_on π rows matching_end_lem matching_head_lem (given d m)

-- A script that was given n ticks stands as a run's answer says: it has ended so, or its next price is the one that did not fit.
abbrev pub StandsAs : Prices → List RowKind → Answer → ℕ → List ℕ → Next → Type 0
StandsAs π rows a n picks (more m) =
    (i : ℕ) × (next π rows (pairs rows (length rows)).end (pairs rows (length rows)).head m ≡ over Spent i m.now m.tally) × Replies a n picks Spent i m.now m.tally
StandsAs π rows a n picks (over e i s c) = Unspent e × Replies a n picks e i s c

-- a script's answer by its run alone
unfoldable pub alone : Prices → Script → List ℤ → List ℕ → ℕ → ℕ → Played
alone π script store picks allowance f =
    let a : Answer = run_script π script store picks allowance in
    record {
      frame = f;
      ending = a.ending;
      row = a.row;
      ticks = a.ticks;
      used = a.used;
      store = store_list (length script.ranges) a.store;
      counts = counts_at a.entries (loop_rows 0 script.rows);
    }

-- finished
abbrev pub Done : Next → Type 0
Done (more m) = ⊥
Done (over e i s c) = Unspent e

-- frame f is the first, from 1, in which running alone is not spent: by frame n a script has got n · q ticks
pub record FirstFrame (π : Prices) (q : ℕ) (script : Script) (store : List ℤ) (picks : List ℕ) (f : ℕ) : Type 0 where
  pub some : 1 ≤ f
  pub first : (n : ℕ) → 1 ≤ n → n < f → (run_script π script store picks (n * q)).ending ≡ Spent
  pub last : Unspent (run_script π script store picks (f * q)).ending

-- a script as it should be from frame ceil(T/q) on: finished by then, in the first frame by which it has the ticks for it, and as alone with allowance T
pub record InTime (π : Prices) (q : ℕ) (script : Script) (store : List ℤ) (picks : List ℕ) (p : Progress) : Type 0 where
  pub finished : Done p.stand
  pub frame : FirstFrame π q script store picks p.frame
  pub by_due : p.frame ≤ due q (report_ticks π script)
  pub same : played_of q p ≡ alone π script store picks (report_ticks π script) p.frame

-- the dearest price
abbrev pub dearest : Prices → ℕ
dearest π = max (max π.arithmetic π.cue) (max π.pick π.test)

-- What an unfinished script over R rows carries into its next frame, n ticks given so far: less than the dearest price, and counts that leave room for
-- the steps which its ticks are still good for.
pub record Carries (π : Prices) (R n : ℕ) (m : Place) : Type 0 where
  pub left : m.now.left < dearest π
  pub counts : (p : ℕ) → (m.tally.turns p + rank R m ≤ n * (2 * R + 2) + (2 * R + 1)) × (m.tally.sum p + rank R m ≤ n * (2 * R + 2) + (2 * R + 1))

-- if it is unfinished
abbrev pub CarriesOn : Prices → ℕ → ℕ → Next → Type 0
CarriesOn π R n (more m) = Carries π R n m
CarriesOn π R n (over e i s c) = Unit {0}

-- A script after n frames: it has done what its run alone with allowance n · q does; the next frame takes the ticks that q more of allowance are good
-- for; it carries little; and from frame ceil(T/q) on it is in time.
pub record AsAlone (π : Prices) (script : Script) (store : List ℤ) (picks : List ℕ) (q n : ℕ) (p : Progress) : Type 0 where
  pub stands : 1 ≤ n → StandsAs π script.rows (run_script π script store picks (n * q)) (p.frame * q) picks p.stand
  pub ticks : (run_script π script store picks (n * q)).ticks + ticks_in π q (beginning script store picks) n ≡ (run_script π script store picks (suc n * q)).ticks
  pub carries : CarriesOn π (length script.rows) (n * q) p.stand
  pub in_time : due q (report_ticks π script) ≤ n → InTime π q script store picks p

-- For all prices with a test of at least one tick, accepted scripts, stores inside the ranges, picks, q and n: "A script whose report says T is finished
-- by frame ceil(T/q), or the first if T is 0, for all picks .., and its ending, store, ticks and turns equal those of running alone with allowance T".
unfoldable pub FramesAsAlone : Type 0
FramesAsAlone =
    (π : Prices) → 1 ≤ π.test → (script : Script) → Accepted π script → (store : List ℤ) → StoreIn script store → (picks : List ℕ) (q n : ℕ) → 1 ≤ q
    → AsAlone π script store picks q n (after_frames π q (beginning script store picks) n)

-- the scripts of the call, each accepted with its store
pub data Accepts (prices : List ℕ) (scratch : ℕ) : List ScriptPart → List Progress → Type 0 where
  none : Accepts prices scratch [] []
  some : {h : ScriptPart} {hs : List ScriptPart} {ps : List Progress} {script : Script} → judged prices scratch h.file ≡ accepted script
      → store_verdict 0 script.ranges h.store ≡ passed → Accepts prices scratch hs ps → Accepts prices scratch (h ∷ hs) (beginning script h.store h.picks ∷ ps)

-- the answers to these scripts, each as alone with allowance T
pub data Alone (π : Prices) (q : ℕ) : List ScriptPart → List Progress → List Played → Type 0 where
  none : Alone π q [] [] []
  some : {h : ScriptPart} {hs : List ScriptPart} {p : Progress} {ps : List Progress} {rs : List Played} {f : ℕ} → FirstFrame π q p.script h.store h.picks f
      → f ≤ due q (report_ticks π p.script) → Alone π q hs ps rs
      → Alone π q (h ∷ hs) (p ∷ ps) (alone π p.script h.store h.picks (report_ticks π p.script) f ∷ rs)

-- what running alone takes in frame n + 1: the ticks that q more of allowance are good for
unfoldable pub alone_in : Prices → ℕ → Script → ScriptPart → ℕ → ℕ
alone_in π q script h n = (run_script π script h.store h.picks (suc n * q)).ticks - (run_script π script h.store h.picks (n * q)).ticks

-- all scripts, each alone, added up
unfoldable pub all_alone : Prices → ℕ → List ScriptPart → List Progress → ℕ → ℕ
all_alone π q [] ps n = 0
all_alone π q (h ∷ hs) [] n = 0
all_alone π q (h ∷ hs) (p ∷ ps) n = alone_in π q p.script h n + all_alone π q hs ps n

-- m is the greatest of g 0, g 1, ..
pub record Greatest (g : ℕ → ℕ) (m : ℕ) : Type 0 where
  pub bound : (n : ℕ) → g n ≤ m
  pub reached : (n : ℕ) × (g n ≡ m)

-- the same of the whole call, and "the most ticks that all together took in one frame"
unfoldable pub AllInTime : Type 0
AllInTime =
    (prices : List ℕ) (scratch : ℕ) (l : Lent) (q : ℕ) (rs : List Played) (m : ℕ) → frames_reply prices scratch l q ≡ played rs m
    → (ps : List Progress) × Accepts prices scratch (parts_of l) ps × Alone (prices_of prices) q (parts_of l) ps rs × Greatest (all_alone (prices_of prices) q (parts_of l) ps) m

-- all are finished after n frames
abbrev pub AllDone : Prices → ℕ → List Progress → ℕ → Type 0
AllDone π q ps n = All (λ p. Done (after_frames π q p n).stand) ps

-- The loop of frames ends, by the last frame that is due; each frame takes at most q and the dearest price of each script.
unfoldable pub FramesEnd : Type 0
FramesEnd =
    (prices : List ℕ) (scratch q : ℕ) → 1 ≤ q → (hs : List ScriptPart) (ps : List Progress) → Accepts prices scratch hs ps → (n : ℕ)
    → let π : Prices = prices_of prices in
    (lasts π q ps ≤ n → AllDone π q ps n) × (most π q ps n ≤ length ps * (q + dearest π))

-- Once all are finished, no frame changes an answer or the most ticks.
unfoldable pub NoMore : Type 0
NoMore = (π : Prices) (q : ℕ) (ps : List Progress) (n m : ℕ) → n ≤ m → AllDone π q ps n → (answers π q ps m ≡ answers π q ps n) × (most π q ps m ≡ most π q ps n)
