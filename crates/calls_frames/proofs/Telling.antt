-- When all are finished: each script's answer, and the stores. Assumes nothing.
use mathlib.Core.Path.{◌≡◌, refl, sym, ◌∙◌, ap, subst}
use mathlib.Core.Bool.{Bool, true, false, not}
use mathlib.Core.List.{List, [], ◌∷◌, ◌++◌}
use Prim.Native.Nat.{ℕ, zero, suc, ◌-◌, ◌*◌, ◌≤◌, ◌<◌}
use native.Mathlib.Nat.{mul-le-mul_right}
use native.Mathlib.Omega.{arith}
use lib.Dec.{T, leb, leb→le, nleb→lt}
use lib.IntN.{ℤ}
use lib.ListN.{length, get_or, drop, replicate, length-drop, length-replicate, get_or-replicate}
use Rattle.rules.specs.declared.Ending.{Ending}
use Rattle.rules.specs.declared.Ending.TheVariants.{Ended, Spent, NoPick}
use Rattle.rules.specs.declared.Prices.{Prices}
use Rattle.rules.specs.Verdicts.{passed as Passed}
use Rattle.rules_machine.specs.RowMachine.{TurnCounts, Place, more, over, counts_of}
use Rattle.rules.specs.Answers.{store_list}
use Rattle.rules.specs.Scripts.{none, some, Script, store_of}
use Rattle.rules.specs.Calls.{prices_of, scratch_size, loop_rows}
use Rattle.rules_frames.specs.Frames
use Rattle.rules_frames.specs.Frames.{stopped, after_frames, left_of, ticks_of, most, lasts, played_as, played_at, played_of, answers, Lent, ScriptPart, parts_of, cut_parts, ready, readiness, played, played_by, stores_of, stores_after}
use Rattle.rules_frames.specs.InTime.{Done, AllDone, FramesEnd, NoMore}
use Rattle.rules_frames.proofs.FramesAsAlone.{cast_accepts, frames_end, no_more}
use Rattle.rules_frames.proofs.Cut.{joined, cut_length, cut_at, cut_stores}
use Rattle.rules.proofs.Laws.{list_of_store}
use Rattle.run_actions.specs.declared.Machine.{Machine}
use Rattle.run_actions.specs.declared.Status.{Status}
use Rattle.run_actions.specs.declared.Status.TheVariants.{Going, Over}
use Rattle.run_actions.specs.States.{tally_of, state_of}
use Rattle.run_machine.specs.Steps.{Room}
use Rattle.runner.specs.declared.Ran.{Ran}
use Rattle.runner.specs.Answered.{ran_by}
use Rattle.runner.specs.Runs.{stand_by}
use Rattle.runner.proofs.Start.{cleared}
use Rattle.run_loops.specs.Loops.{Counted, HeadCounts}
use Rattle.calls_lists.specs.Parts.{part_of}
use Rattle.calls_lists.proofs.Extents.{extent_part, extent_within}
use Rattle.calls_scripts.specs.declared.HeldScripts.{HeldScripts}
use Rattle.calls_scripts.specs.Held.{no_part, no_progress, nobody, table_lengths, slice_of, HeldAs}
use Rattle.calls_scripts.proofs.Tables.{tables_whole}
use Rattle.calls_turns.specs.declared.Progress.{Progress}
use Rattle.calls_frames.specs.declared.Played as code
use Rattle.calls_frames.specs.declared.Ended as ended
use Rattle.calls_turns.specs.Progress.{Stands}
use Rattle.calls_frames.specs.Playing.{FramesReady, Uncounted, PlayedOut}
use Rattle.calls_frames.specs.Answers.{no_answer, AnsweredBy, AllAnswerable, AllAnswered, ToldPlayed, no_played, ToldFrames, Framed}
use Rattle.calls_turns.proofs.Standing.{after_script, after_picks}
use Rattle.calls_frames.proofs.Playing.{scripts_count, held_at, inside_at, part_same, plays}

-- no turn is counted at the start
pub uncounted : Uncounted (replicate 8 (replicate 16 (replicate 3 0)))
uncounted = (length-replicate 8 none_yet, λ j h. rw (get_or-replicate 8 j none_yet [] h) cleared)
  where
    none_yet : List (List ℕ)
    none_yet = replicate 16 (replicate 3 0)

counts_length : (c : TurnCounts) (rs : List ℕ) → length (counts_of c rs) ≡ length rs
unfolding counts_of
counts_length c [] = refl
counts_length c (r ∷ rs) = ap suc (counts_length c rs)

-- ---- one script
module _ (π : Prices) (q : ℕ) (p : Frames.Progress) (n : ℕ) (x : Progress) (store : List ℤ) (picks : List ℕ) (counts : List (List ℕ)) (s : Stands π q p n x store picks counts) where
  -- its counts fit
  pub counted_in : (file t : List ℕ) (count : ℕ) → HeldAs file p.script count t → Counted file t count counts
  counted_in file t count held = record { size = held.size; table = held.table; room = subst (λ ks. Room ks counts) held.rows s.room }

-- ---- one script that is finished
module _ (π : Prices) (q : ℕ) (p : Frames.Progress) (n : ℕ) (x : Progress) (store : List ℤ) (picks : List ℕ) (counts : List (List ℕ)) (s : Stands π q p n x store picks counts)
    (done : Done (after_frames π q p n).stand) (lent : p.picks ≡ picks) where
  abbrev P : Frames.Progress
  P = after_frames π q p n

  abbrev m : Machine
  m = x.machine

  abbrev c : TurnCounts
  c = tally_of (loop_rows 0 p.script.rows) counts

  -- it is over, so
  module _ (e : Ending) (i : ℕ) (at : P.stand ≡ over e i (state_of m store picks) c) where
    so : played_of q P ≡ played_as q P e i (state_of m store picks) c
    unfolding played_at
    so = ap (played_at q P) at

    frame_is : (played_of q P).frame ≡ x.frame
    unfolding played_as
    frame_is = ap (λ (z : Frames.Played). z.frame) so ∙ s.frame

    ending_is : (played_of q P).ending ≡ e
    unfolding played_as
    ending_is = ap (λ (z : Frames.Played). z.ending) so

    row_is : (played_of q P).row ≡ i
    unfolding played_as
    row_is = ap (λ (z : Frames.Played). z.row) so

    ticks_are : (played_of q P).ticks ≡ x.frame * q - m.left
    unfolding played_as ticks_of left_of
    ticks_are = ap (λ (z : Frames.Played). z.ticks) so ∙ (λ j. s.frame j * q - left_of (at j))

    used_is : (played_of q P).used ≡ m.used
    unfolding played_as
    used_is =
        ap (λ (z : Frames.Played). z.used) so
        ∙ ap (λ (z : List ℕ). length z - length (drop m.used picks)) (after_picks π q p n ∙ lent)
        ∙ omega (arith, length-drop m.used picks, s.used)

    counts_are : (played_of q P).counts ≡ counts_of c (loop_rows 0 p.script.rows)
    unfolding played_as
    counts_are = ap (λ (z : Frames.Played). z.counts) so ∙ ap (λ (z : Script). counts_of c (loop_rows 0 z.rows)) (after_script π q p n)

    pub store_is : length store ≡ length p.script.ranges → (played_of q P).store ≡ store
    unfolding played_as
    store_is size =
        ap (λ (z : Frames.Played). z.store) so
        ∙ ap (λ (z : Script). store_list (length z.ranges) (store_of store)) (after_script π q p n)
        ∙ ap (λ k. store_list k (store_of store)) (sym size)
        ∙ list_of_store store

    told_so : m.status ≡ Over e i → (file t : List ℕ) (count : ℕ) → HeldAs file p.script count t → (r : code.Played) → AnsweredBy q x t count counts r → ToldPlayed r (played_of q P)
    told_so status file t count held r a =
        let l = subst (λ ks. HeadCounts (loop_rows 0 ks) (tally_of (loop_rows 0 ks) counts) (record { count = r.outcome.loops; counts = r.outcome.counts })) (sym held.rows) (a.loops file (counted_in π q p n x store picks counts s file t count held)) in
        record {
          frame = a.frame ∙ sym frame_is;
          ending = ap (λ (z : Ran). z.ending) (is_ran a) ∙ sym ending_is;
          row = ap (λ (z : Ran). z.row) (is_ran a) ∙ sym row_is;
          ticks = ap (λ (z : Ran). z.ticks) (is_ran a) ∙ sym ticks_are;
          used = ap (λ (z : Ran). z.used) (is_ran a) ∙ sym used_is;
          loops = l.number ∙ sym (ap length counts_are ∙ counts_length c (loop_rows 0 p.script.rows));
          counts = l.counts ∙ sym counts_are;
          rest = l.rest;
        }
      where
        is_ran : AnsweredBy q x t count counts r → record { ending = r.outcome.ending; row = r.outcome.row; ticks = r.outcome.ticks; used = r.outcome.used } ≡ ran_by (Over e i) m (x.frame * q)
        is_ran a = a.ran ∙ ap (λ z. ran_by z m (x.frame * q)) status

  -- it is over
  pub told_one : (file t : List ℕ) (count : ℕ) → HeldAs file p.script count t → (r : code.Played) → AnsweredBy q x t count counts r → length store ≡ length p.script.ranges
      → ToldPlayed r (played_of q P) × ((played_of q P).store ≡ store)
  unfolding stopped
  told_one file t count held r a size = by m.status refl s.stand
    where
      no_more_place : {A : Type 0} {z : Place} → P.stand ≡ more z → A
      no_more_place e = absurd (subst Done e done)

      by : (y : Status) → m.status ≡ y → P.stand ≡ stand_by y m store picks c → ToldPlayed r (played_of q P) × ((played_of q P).store ≡ store)
      by Going e at = no_more_place at
      by (Over Ended i) e at = (told_so Ended i at e file t count held r a, store_is Ended i at size)
      by (Over Spent i) e at = no_more_place at
      by (Over Ending.Range i) e at = (told_so Ending.Range i at e file t count held r a, store_is Ending.Range i at size)
      by (Over NoPick i) e at = (told_so NoPick i at e file t count held r a, store_is NoPick i at size)

-- ---- all scripts
-- by their indices
done_all : (π : Prices) (q n : ℕ) (ps : List Frames.Progress) → ((j : ℕ) → j < length ps → Done (after_frames π q (get_or ps j no_progress) n).stand) → AllDone π q ps n
done_all π q n [] f = none
done_all π q n (p ∷ ps) f = some (f 0 (omega arith)) (done_all π q n ps (λ j h. f (suc j) (omega arith)))

answers_length : (π : Prices) (q n : ℕ) (ps : List Frames.Progress) → length (answers π q ps n) ≡ length ps
unfolding answers
answers_length π q n [] = refl
answers_length π q n (p ∷ ps) = ap suc (answers_length π q n ps)

answers_at : (π : Prices) (q n : ℕ) (ps : List Frames.Progress) (j : ℕ) → j < length ps → get_or (answers π q ps n) j no_played ≡ played_of q (after_frames π q (get_or ps j no_progress) n)
unfolding answers
answers_at π q n [] j h = absurd (omega arith)
answers_at π q n (p ∷ ps) zero h = refl
answers_at π q n (p ∷ ps) (suc j) h = answers_at π q n ps j (omega arith)

stores_joined : (hs : List ScriptPart) (rs : List Frames.Played) → length hs ≡ length rs → ((j : ℕ) → j < length hs → (get_or hs j no_part).store ≡ (get_or rs j no_played).store) → joined hs ≡ stores_of rs
unfolding joined stores_of
stores_joined [] [] e f = refl
stores_joined [] (r ∷ rs) e f = absurd (omega arith)
stores_joined (h ∷ hs) [] e f = absurd (omega arith)
stores_joined (h ∷ hs) (r ∷ rs) e f = λ i. f 0 (omega arith) i ++ stores_joined hs rs (omega arith) (λ j g. f (suc j) (omega arith)) i

-- once all are finished, the answers are those of the last frame that is due
settles : (prices : List ℕ) (q : ℕ) → 1 ≤ q → (hs : List ScriptPart) (ps : List Frames.Progress) → readiness prices scratch_size hs ≡ ready ps → (n : ℕ)
    → AllDone (prices_of prices) q ps n → let π : Prices = prices_of prices in
    (answers π q ps (lasts π q ps) ≡ answers π q ps n) × (most π q ps (lasts π q ps) ≡ most π q ps n)
unfolding NoMore FramesEnd
settles prices q tick hs ps e n d = by (leb n last) (leb→le n last) (nleb→lt n last)
  where
    last : ℕ
    last = lasts (prices_of prices) q ps

    by : (b : Bool) → (T b → n ≤ last) → (T (not b) → last < n) → (answers (prices_of prices) q ps last ≡ answers (prices_of prices) q ps n) × (most (prices_of prices) q ps last ≡ most (prices_of prices) q ps n)
    by true f g = no_more (prices_of prices) q ps n last (f tt) d
    by false f g =
        let (a, b) = no_more (prices_of prices) q ps last n (omega (arith, g tt)) ((frames_end prices scratch_size q tick hs ps (cast_accepts prices scratch_size hs ps e) last).0 (omega arith)) in
        (sym a, sym b)

module _ (prices : List ℕ) (l : Lent) (q : ℕ) (ps : List Frames.Progress) (tables : List ℕ) (all : HeldScripts) (on : FramesReady prices l q ps tables all) (e : ended.Ended) (stores : List ℤ)
    (counts : List (List (List ℕ))) (out : PlayedOut prices l q ps e stores counts) where
  -- the table of script j
  table_at : (j : ℕ) → j < length l.file_lengths → slice_of (get_or all.each j nobody).places.table tables ≡ part_of table_lengths j tables
  table_at j h = extent_part _ _ _ (held_at prices l q ps tables all on j h).places.table tables

  -- what the scripts that are held have for it
  pub answerable : AllAnswerable q all tables e.progress counts
  answerable j h =
      let i : j < length l.file_lengths = omega (arith, on.number) in
      let s = out.each j i in
      let at = held_at prices l q ps tables all on j i in (
        extent_within _ _ _ at.places.table tables (omega (arith, on.fits.few)) (tables_whole tables on.eight),
        record {
          left = s.left;
          few = omega (arith, mul-le-mul_right q s.late, out.few);
          counted = (part_of l.file_lengths j l.files, rw (table_at j i) (counted_in _ _ _ _ _ _ _ _ s _ _ _ at.held));
        },
      )

module _ (prices : List ℕ) (l : Lent) (q : ℕ) (ps : List Frames.Progress) (tables : List ℕ) (all : HeldScripts) (on : FramesReady prices l q ps tables all) (e : ended.Ended) (stores : List ℤ)
    (counts : List (List (List ℕ))) (out : PlayedOut prices l q ps e stores counts) (r : List code.Played) (told : AllAnswered q all tables e.progress counts r) where
  one : (j : ℕ) → j < length l.file_lengths → ToldPlayed (get_or r j no_answer) (played_of q (after_frames (prices_of prices) q (get_or ps j no_progress) out.n))
      × ((played_of q (after_frames (prices_of prices) q (get_or ps j no_progress) out.n)).store ≡ part_of l.store_lengths j stores)
  one j h =
      told_one (prices_of prices) q (get_or ps j no_progress) out.n _ _ _ _ (out.each j h) (out.done j h) (ap (λ (z : Frames.Progress). z.picks) (plays prices l q ps tables all on j h).is)
      _ _ _ (held_at prices l q ps tables all on j h).held (get_or r j no_answer) (rw (table_at prices l q ps tables all on e stores counts out j h) at (told.each j (omega (arith, on.number))))
      (part_same prices l q ps tables all on j h stores out.long ∙ (inside_at prices l q ps tables all on j h).whole)

  abbrev π : Prices
  π = prices_of prices

  abbrev rs : List Frames.Played
  rs = answers π q ps out.n

  count : length rs ≡ length l.file_lengths
  count = answers_length π q out.n ps ∙ scripts_count prices l q ps tables all on

  told_all : (script m : ℕ) → m ≡ e.most → ToldFrames (record { verdict = Passed; script = script; most = m; scripts = r }) rs (most π q ps out.n)
  told_all script m z = record {
    verdict = refl;
    most = z ∙ out.most;
    few = omega (arith, count, on.fits.few);
    each = λ j h. rw (answers_at π q out.n ps j (omega (arith, answers_length π q out.n ps))) (one j (omega (arith, count))).0;
    rest = λ j h. told.rest j (omega (arith, count, on.number));
  }

  stores_are : stores ≡ stores_of rs
  stores_are =
      let hs : List ScriptPart = cut_parts l.file_lengths l.store_lengths l.pick_lengths l.files stores l.picks in
      let n : length hs ≡ length l.file_lengths = cut_length l.file_lengths l.store_lengths l.pick_lengths l.files stores l.picks on.fits.stores on.fits.picks in
      sym (cut_stores l.file_lengths l.store_lengths l.pick_lengths l.files stores l.picks on.fits.stores on.fits.picks (on.fits.store_sum ∙ sym out.long))
      ∙ stores_joined hs rs (n ∙ sym count) λ j h.
      ap (λ (z : ScriptPart). z.store) (cut_at l.file_lengths l.store_lengths l.pick_lengths l.files stores l.picks on.fits.stores on.fits.picks j (omega arith) no_part)
      ∙ sym (ap (λ (z : Frames.Played). z.store) (answers_at π q out.n ps j (omega (arith, answers_length π q out.n ps, count))) ∙ (one j (omega arith)).1)

  pub framed : (script m : ℕ) → m ≡ e.most → Framed (played_by π q (ready ps)) l.stores stores (record { verdict = Passed; script = script; most = m; scripts = r })
  unfolding played_by stores_after
  framed script m z =
      let (a, b) = settles prices q on.fits.tick (parts_of l) ps on.ready out.n (done_all π q out.n ps (λ j h. out.done j (omega (arith, scripts_count prices l q ps tables all on)))) in
      let reply : played_by π q (ready ps) ≡ played rs (most π q ps out.n) = λ i. played (a i) (b i) in
      rw reply (record { told = told_all script m z; stores = stores_are })
