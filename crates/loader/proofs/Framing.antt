-- The call of frames: its questions in their order, and that each script is in time. Assumes nothing.
use mathlib.Core.Path.{◌≡◌, refl, sym, ◌∙◌, ap, subst}
use mathlib.Core.Bool.{Bool, true, false, cond}
use mathlib.Core.List.{List, [], ◌∷◌, ◌++◌}
use Prim.Native.Nat.{ℕ, zero, suc, ◌+◌, ◌≤◌, ◌<◌}
use native.Mathlib.Omega.{arith}
use lib.Dec.{T}
use lib.IntN.{ℤ}
use lib.ListN.{length, get_or, take, drop}
use lib.Seq.{take_at, drop-append-add}
use Rattle.rules.specs.Verdicts.{passed as Passed, refused as Refused}
use Rattle.rules.specs.declared.Prices.{Prices}
use Rattle.rules.specs.Scripts.{Script, report_ticks}
use Rattle.rules.specs.Values.{Store}
use Rattle.rules.specs.Answers.{store_list}
use Rattle.rules.specs.Calls.{prices_of, scratch_size, SameFromAnyScratch}
use Rattle.rules_frames.specs.Frames
use Rattle.rules_frames.specs.Frames.{Progress, due, Lent, ScriptPart, parts_of, Readiness, enters, readiness, fitting, FramesReply, played, played_by, frames_reply, stores_of, stores_after, total}
use Rattle.rules_frames.specs.InTime.{alone, Accepts, Alone, FirstFrame, all_alone, Greatest, AllInTime}
use Rattle.rules_frames.proofs.FramesAsAlone.{all_in_time}
use Rattle.rules.proofs.Demand3File.{same_from_any_scratch, store_in}
use Rattle.rules_frames.proofs.Cut.{cut_length, cut_at}
use Rattle.calls_lists.specs.Parts.{part_of, Fitted}
use Rattle.calls_lists.proofs.Fits.{fitted}
use Rattle.calls_lists.proofs.Extents.{part_length}
use Rattle.calls_scripts.specs.Held.{no_part, no_progress}
use Rattle.calls_scripts.proofs.Readiness.{plays_at}
use Rattle.calls_frames.specs.Answers.{FramesAnswer, no_answer, no_frames, ToldPlayed, no_played, ToldFrames, FramesAnswered, Framed, FramedScripts}
use Rattle.loader.specs.Kept.{verdict_number, lent_verdict}
use Rattle.loader.specs.Framing.{script_meant, frames_number, most_by, frames_first, OnTime, FramedCall}
use Rattle.loader.proofs.Laws.{lent_no, lent_room}

-- ---- the questions
-- one readiness from every scratch that is long enough
cast_scratch : (prices : List ℕ) (a b : ℕ) → scratch_size ≤ a → scratch_size ≤ b → (hs : List ScriptPart) → readiness prices a hs ≡ readiness prices b hs
unfolding readiness SameFromAnyScratch
cast_scratch prices a b x y [] = refl
cast_scratch prices a b x y (h ∷ hs) = λ i. enters (same_from_any_scratch prices a b h.file x y i) h (cast_scratch prices a b x y hs i)

-- 1 or 16 has no: so has the first script's
cast_lent : (prices : List ℕ) (scratch q p : ℕ) → lent_verdict prices scratch ≡ Refused q p → (hs : List ScriptPart) → 1 ≤ length hs → readiness prices scratch hs ≡ Readiness.refuses q p
unfolding readiness enters
cast_lent prices scratch q p e [] l = absurd (omega arith)
cast_lent prices scratch q p e (h ∷ hs) l = ap (λ j. enters j h (readiness prices scratch hs)) (lent_no prices scratch h.file e)

-- the answer, the stores after it, and which script is refused
abbrev Meant : List ℕ → ℕ → Lent → ℕ → List ℤ → FramesAnswer → Type 0
Meant prices scratch l q new f = Framed (frames_reply prices scratch l q) l.stores new f × (f.script ≡ script_meant prices scratch l q)

module _ (prices : List ℕ) (scratch : ℕ) (l : Lent) (q : ℕ) where
  pub framed_20 : fitting l q ≡ false → Meant prices scratch l q l.stores (no_frames 20 0 0)
  unfolding frames_reply stores_after
  framed_20 e = rw e (record { told = refl; stores = refl }, refl)

  module _ (yes-20 : fitting l q ≡ true) where
    pub fits : Fitted l q
    fits = fitted l q (subst T (sym yes-20) tt)

    reply : frames_reply prices scratch l q ≡ played_by (prices_of prices) q (readiness prices scratch (parts_of l))
    unfolding frames_reply
    reply = rw yes-20

    pub framed_lent : (n p : ℕ) → lent_verdict prices scratch ≡ Refused n p → Meant prices scratch l q l.stores (no_frames n p 0)
    unfolding played_by stores_after
    framed_lent n p e =
        let count = cut_length l.file_lengths l.store_lengths l.pick_lengths l.files l.stores l.picks fits.stores fits.picks in
        let no : frames_reply prices scratch l q ≡ FramesReply.refuses n p = reply ∙ ap (played_by (prices_of prices) q) (cast_lent prices scratch n p e (parts_of l) (omega (arith, fits.some))) in
        (rw no (record { told = refl; stores = refl }), rw (yes-20, e) refl)

    pub framed_yes : lent_verdict prices scratch ≡ Passed → (new : List ℤ) (f : FramesAnswer) → FramedScripts prices l q new f → Meant prices scratch l q new f
    framed_yes e new f h =
        (rw (reply ∙ ap (played_by (prices_of prices) q) (cast_scratch prices scratch scratch_size (lent_room prices scratch e) (omega arith) (parts_of l))) h.framed, rw (yes-20, e) h.script)

-- ---- the answer's numbers
told_number : (f : FramesAnswer) (r : FramesReply) → FramesAnswered f r → verdict_number f.verdict ≡ frames_number r
told_number f (played rs m) t = ap verdict_number t.verdict
told_number f (FramesReply.refuses q p) t = ap (λ (z : FramesAnswer). verdict_number z.verdict) t

told_first : (f : FramesAnswer) (r : FramesReply) → FramesAnswered f r → most_by f.verdict f.most ≡ frames_first r
told_first f (played rs m) t = λ i. most_by (t.verdict i) (t.most i)
told_first f (FramesReply.refuses q p) t = ap (λ (z : FramesAnswer). most_by z.verdict z.most) t

-- ---- in time
-- script j of those that are as alone
alone_at : {π : Prices} {q : ℕ} {hs : List ScriptPart} {ps : List Progress} {rs : List Frames.Played} → Alone π q hs ps rs → (j : ℕ) → j < length hs
    → let script : Script = (get_or ps j no_progress).script in let h : ScriptPart = get_or hs j no_part in
    (f : ℕ) × FirstFrame π q script h.store h.picks f × (f ≤ due q (report_ticks π script)) × (get_or rs j no_played ≡ alone π script h.store h.picks (report_ticks π script) f)
alone_at Alone.none j l = absurd (omega arith)
alone_at (Alone.some {f = f} a b rest) zero l = (f, a, b, refl)
alone_at (Alone.some a b rest) (suc j) l = alone_at rest j (omega arith)

alone_length : {π : Prices} {q : ℕ} {hs : List ScriptPart} {ps : List Progress} {rs : List Frames.Played} → Alone π q hs ps rs → length rs ≡ length hs
alone_length Alone.none = refl
alone_length (Alone.some a b rest) = ap suc (alone_length rest)

-- the stores end to end, in their parts
part_stores : (ss : List ℕ) (rs : List Frames.Played) → length ss ≡ length rs → ((i : ℕ) → i < length rs → length (get_or rs i no_played).store ≡ get_or ss i 0) → (j : ℕ) → j < length rs
    → part_of ss j (stores_of rs) ≡ (get_or rs j no_played).store
unfolding stores_of total
part_stores [] [] e f j h = absurd (omega arith)
part_stores [] (r ∷ rs) e f j h = absurd (omega arith)
part_stores (s ∷ ss) [] e f j h = absurd (omega arith)
part_stores (s ∷ ss) (r ∷ rs) e f zero h = take_at r.store (stores_of rs) s (f 0 (omega arith))
part_stores (s ∷ ss) (r ∷ rs) e f (suc j) h =
    let n : s + total (take j ss) ≡ length r.store + total (take j ss) = omega (arith, f 0 (omega arith)) in
    ap (λ k. take (get_or ss j 0) (drop k (r.store ++ stores_of rs))) n
    ∙ ap (take (get_or ss j 0)) (drop-append-add r.store (stores_of rs) (total (take j ss)))
    ∙ part_stores ss rs (omega arith) (λ i g. f (suc i) (omega arith)) j (omega arith)

list_length : (n : ℕ) (f : Store) → length (store_list n f) ≡ n
unfolding store_list
list_length zero f = refl
list_length (suc n) f = ap suc (list_length n (λ w. f (suc w)))

alone_frame : (π : Prices) (script : Script) (store : List ℤ) (picks : List ℕ) (allowance f : ℕ) → (alone π script store picks allowance f).frame ≡ f
unfolding alone
alone_frame π script store picks allowance f = refl

alone_store : (π : Prices) (script : Script) (store : List ℤ) (picks : List ℕ) (allowance f : ℕ) → length (alone π script store picks allowance f).store ≡ length script.ranges
unfolding alone
alone_store π script store picks allowance f = list_length (length script.ranges) _

module _ (prices : List ℕ) (scratch : ℕ) (l : Lent) (q : ℕ) (new : List ℤ) (f : FramesAnswer) where
  abbrev π : Prices
  π = prices_of prices

  abbrev InTime : Type 0
  InTime =
      (ps : List Progress)
      × Accepts prices scratch (parts_of l) ps
      × ((j : ℕ) → j < length l.file_lengths
      → OnTime π q (get_or ps j no_progress).script (get_or (parts_of l) j no_part) (get_or f.scripts j no_answer) (part_of l.store_lengths j new))
      × Greatest (all_alone π q (parts_of l) ps) f.most

  -- 20 has yes
  did_fit : (rs : List Frames.Played) (m : ℕ) → frames_reply prices scratch l q ≡ played rs m → Fitted l q
  unfolding frames_reply
  did_fit rs m e = by (fitting l q) refl e
    where
      by : (b : Bool) → fitting l q ≡ b → cond b (played_by π q (readiness prices scratch (parts_of l))) (FramesReply.refuses 20 0) ≡ played rs m → Fitted l q
      by true z e = fits prices scratch l q z
      by false z e = absurd (let y : ◌≡◌ {A = ℕ} 0 1 = cc in omega arith)

  module _ (rs : List Frames.Played) (m : ℕ) (told : ToldFrames f rs m) (kept : new ≡ stores_of rs) (fit : Fitted l q) (ps : List Progress) (accepts : Accepts prices scratch (parts_of l) ps)
      (as_alone : Alone π q (parts_of l) ps rs) (highest : Greatest (all_alone π q (parts_of l) ps) m) where
    count : length (parts_of l) ≡ length l.file_lengths
    count = cut_length l.file_lengths l.store_lengths l.pick_lengths l.files l.stores l.picks fit.stores fit.picks

    number : length rs ≡ length l.file_lengths
    number = alone_length as_alone ∙ count

    abbrev script : ℕ → Script
    script j = (get_or ps j no_progress).script

    abbrev part : ℕ → ScriptPart
    part j = get_or (parts_of l) j no_part

    -- its run alone with allowance T, finished in frame g
    abbrev by_itself : ℕ → ℕ → Frames.Played
    by_itself j g = alone π (script j) (part j).store (part j).picks (report_ticks π (script j)) g

    long : (i : ℕ) → i < length rs → length (get_or rs i no_played).store ≡ get_or l.store_lengths i 0
    long i h =
        let (g, a, b, z) = alone_at as_alone i (omega (arith, alone_length as_alone)) in
        let p = plays_at accepts i (omega (arith, alone_length as_alone)) in
        ap (λ (y : Frames.Played). length y.store) z
        ∙ alone_store π (script i) (part i).store (part i).picks (report_ticks π (script i)) g
        ∙ sym (store_in (script i) (part i).store p.yes_15).whole
        ∙ ap (λ (y : ScriptPart). length y.store) (cut_at l.file_lengths l.store_lengths l.pick_lengths l.files l.stores l.picks fit.stores fit.picks i (omega (arith, number)) no_part)
        ∙ part_length l.store_lengths l.stores i (omega (arith, number, fit.stores)) fit.store_sum

    module _ (j : ℕ) (h : j < length l.file_lengths) (g : ℕ) (first : FirstFrame π q (script j) (part j).store (part j).picks g) (late : g ≤ due q (report_ticks π (script j))) (z : get_or rs j no_played ≡ by_itself j g) where
      t : ToldPlayed (get_or f.scripts j no_answer) (get_or rs j no_played)
      t = told.each j (omega (arith, number))

      its_frame : (get_or f.scripts j no_answer).frame ≡ g
      its_frame = t.frame ∙ ap (λ (y : Frames.Played). y.frame) z ∙ alone_frame π (script j) (part j).store (part j).picks (report_ticks π (script j)) g

      here : get_or rs j no_played ≡ by_itself j (get_or f.scripts j no_answer).frame
      here = z ∙ ap (by_itself j) (sym its_frame)

      on_time : OnTime π q (script j) (part j) (get_or f.scripts j no_answer) (part_of l.store_lengths j new)
      on_time = record {
        frame = subst (FirstFrame π q (script j) (part j).store (part j).picks) (sym its_frame) first;
        by_due = omega (arith, its_frame);
        same = subst (ToldPlayed (get_or f.scripts j no_answer)) here t;
        kept = ap (part_of l.store_lengths j) kept ∙ part_stores l.store_lengths rs (omega (arith, number, fit.stores)) long j (omega (arith, number)) ∙ ap (λ (y : Frames.Played). y.store) here;
      }

    all_on_time : InTime
    all_on_time = (ps, accepts, λ j h. let (g, a, b, z) = alone_at as_alone j (omega (arith, count)) in on_time j h g a b z, subst (Greatest (all_alone π q (parts_of l) ps)) (sym told.most) highest)

  in_time : (r : FramesReply) → frames_reply prices scratch l q ≡ r → Framed r l.stores new f → f.verdict ≡ Passed → InTime
  unfolding stores_after AllInTime
  in_time (played rs m) e h v =
      let (ps, accepts, as_alone, highest) = all_in_time prices scratch l q rs m e in
      all_on_time rs m h.told h.stores (did_fit rs m e) ps accepts as_alone highest
  in_time (FramesReply.refuses n p) e h v = absurd (let z : f.verdict ≡ Refused n p = ap (λ (y : FramesAnswer). y.verdict) h.told in let y : ◌≡◌ {A = ℕ} 0 1 = cc in omega arith)

  pub framed_call : Meant prices scratch l q new f → FramedCall prices scratch l q new f
  framed_call (h, script) =
      let r = frames_reply prices scratch l q in
      record { answer = h; number = told_number f r h.told; first = told_first f r h.told; script = script; in_time = in_time r refl h }
