-- Change 14, proved: a script in frames does what it does alone, and is finished in time.
use mathlib.Core.Path.{◌≡◌, refl, sym, ◌∙◌, ap, subst}
use mathlib.Core.Bool.{Bool, true, false, not, cond}
use mathlib.Core.List.{List, [], ◌∷◌}
use Prim.Native.Nat.{ℕ, zero, suc, ◌+◌, ◌-◌, ◌*◌, ◌/◌, ◌%◌, ◌≤◌, ◌<◌, max}
use native.Mathlib.Omega.{arith}
use native.Mathlib.Nat.{suc-mul, mul-le-mul_right, div-add-mod', mod-lt}
use lib.Dec.{T, leb, ltb, leb→le, nleb→lt, ltb→lt, nltb→le}
use lib.IntN.{ℤ}
use lib.ListN.{length}
use Rattle.ints.proofs.Diffs.{both}
use Rattle.rules.specs.declared.Ending.{Ending}
use Rattle.rules.specs.declared.Ending.TheVariants.{Spent}
use Rattle.rules.specs.Blocks.{RowKind, Block, parts, to_end, build}
use Rattle.rules.specs.declared.Prices.{Prices}
use Rattle.rules.specs.Verdicts.{Verdict, passed, refused}
use Rattle.rules.specs.Scripts.{none, some, Script, store_of, tree_of, report_ticks, Accepted, StoreIn}
use Rattle.rules.specs.Run.{State, Entry, Out, go, halt, run}
use Rattle.rules.specs.Answers.{Answer, answer, run_tree, store_list, sum_at, most_at}
use Rattle.rules_machine.specs.RowMachine.{TurnCounts, Place, Next, more, over, steps, start, pairs, rank, Partners, Replies, counts_of}
use Rattle.rules.specs.Calls.{Judged, accepted, prices_of, judged, store_verdict, loop_rows, counts_at, run_script}
use Rattle.rules.specs.Claim.{Unspent, Demand3}
use Rattle.rules_frames.specs.Frames.{given, Progress, beginning, frame_from, frame_of, after_frames, left_of, ticks_of, takes, together, most, due, lasts, played_as, played_at, played_of, answers, Lent, ScriptPart, parts_of, counted, covered, fitting, Readiness, ready, joins, enters, readiness, FramesReply, played, played_by, frames_reply}
use Rattle.rules_frames.specs.InTime.{StandsAs, alone, Done, InTime, dearest, CarriesOn, AsAlone, FramesAsAlone, Accepts, Alone, alone_in, all_alone, Greatest, AllInTime, AllDone, FramesEnd, NoMore}
use Rattle.rules.proofs.TreeOf.{tree_of_lem}
use Rattle.rules_machine.proofs.PairsIn.{partners}
use Rattle.rules_machine.proofs.RowMachineRuns.{row_answer}
use Rattle.rules.proofs.Demand3.{demand3}
use Rattle.rules.proofs.Demand3File.{file_accepted, test_priced, store_in}
use Rattle.rules_machine.proofs.RunMore.{run_more}
use Rattle.rules_frames.proofs.Resumed.{Above, above, above_same, steps_room, Pauses, finished, waiting, step_more, runs_on_lem, pauses_less, resumes}

-- ceil(T/q) frames have T ticks
pub due_enough : (q t : ℕ) → 1 ≤ q → (1 ≤ due q t) × (t ≤ due q t * q)
unfolding due
due_enough q t h =
    let x : ℕ = t + (q - 1) in
    let a = div-add-mod' x q in
    let b : x % q < q = mod-lt x h in
    let c : x / q * q ≤ max 1 (x / q) * q = mul-le-mul_right q (omega arith) in
    (omega arith, omega arith)

-- before ceil(T/q) frames less than T ticks have been given
pub due_less : (q t n : ℕ) → 1 ≤ q → 1 ≤ n → n < due q t → n * q < t
unfolding due
due_less q t n h some_frame l =
    let x : ℕ = t + (q - 1) in
    let c : suc n * q ≤ x / q * q = mul-le-mul_right q (omega arith) in
    omega (arith, div-add-mod' x q, suc-mul n q)

-- a finished script stays as it is
frame_done : (π : Prices) (q n : ℕ) (p : Progress) (a : Next) → Done a → frame_from π q n p a ≡ p
unfolding frame_from
frame_done π q n p (more m) h = absurd h
frame_done π q n p (over e i s c) h = refl

settled : (π : Prices) (q : ℕ) (p : Progress) (n j : ℕ) → Done (after_frames π q p n).stand → after_frames π q p (j + n) ≡ after_frames π q p n
unfolding after_frames
settled π q p n zero h = let e : 0 + n ≡ n = omega arith in ap (after_frames π q p) e
settled π q p n (suc j) h =
    let e : suc j + n ≡ suc (j + n) = omega arith in
    ap (after_frames π q p) e
    ∙ ap (frame_of π q (suc (j + n))) (settled π q p n j h)
    ∙ frame_done π q (suc (j + n)) (after_frames π q p n) (after_frames π q p n).stand h

pub settled_at : (π : Prices) (q : ℕ) (p : Progress) (n m : ℕ) → n ≤ m → Done (after_frames π q p n).stand → after_frames π q p m ≡ after_frames π q p n
settled_at π q p n m l h = let e : m ≡ (m - n) + n = omega arith in ap (after_frames π q p) e ∙ settled π q p n (m - n) h

-- the counts of a tally that has counted the entries
pub counts_same : (c : TurnCounts) (es : List Entry) (ps : List ℕ) → ((p : ℕ) → c.sum p ≡ sum_at p es) → ((p : ℕ) → c.most p ≡ most_at p es) → counts_of c ps ≡ counts_at es ps
unfolding counts_of counts_at
counts_same c es [] f g = refl
counts_same c es (p ∷ ps) f g = λ k. record { row = p; all = f p k; most = g p k } ∷ counts_same c es ps f g k

-- counts from nothing
abbrev blank : TurnCounts
blank = record { turns = λ _. 0; sum = λ _. 0; most = λ _. 0 }

with_room : (k n : ℕ) {j : ℕ} {c : TurnCounts} → Above j blank c → j + k ≤ n → (p : ℕ) → (c.turns p + k ≤ n) × (c.sum p + k ≤ n)
with_room k n (above f) l p = let (x, y) = f p in (omega arith, omega arith)

module _ (π : Prices) (one : 1 ≤ π.test) (script : Script) (ok : Accepted π script) (store : List ℤ) (inside : StoreIn script store) (picks : List ℕ) where
  abbrev rows : List RowKind
  rows = script.rows

  abbrev matching_end_lem : ℕ → ℕ
  matching_end_lem = (pairs rows (length rows)).end

  abbrev matching_head_lem : ℕ → ℕ
  matching_head_lem = (pairs rows (length rows)).head

  abbrev tree : Block
  tree = (tree_of_lem rows _ ok.legal.closed.1).0

  abbrev whole : build 0 rows ≡ parts (to_end (length rows) tree) []
  whole = (tree_of_lem rows _ ok.legal.closed.1).1

  pub fit : Partners rows matching_end_lem matching_head_lem
  fit = partners rows tree whole

  -- its start with n ticks, and its run alone
  abbrev begins : ℕ → Next
  begins n = more (start (record { store = store_of store; left = n; picks = picks }))

  abbrev runs : ℕ → Answer
  runs n = run_script π script store picks n

  -- where it has ended, it is with the answer of its run alone
  pub answered : (n k : ℕ) (e : Ending) (i : ℕ) (s : State) (c : TurnCounts) → steps π rows matching_end_lem matching_head_lem k (begins n) ≡ over e i s c → Replies (runs n) n picks e i s c
  unfolding run_script
  answered n k e i s c q = row_answer π one rows matching_end_lem matching_head_lem fit tree whole (store_of store) picks n k e i s c q

  pub ticks_most : (n : ℕ) → (runs n).ticks ≤ n
  unfolding run_script run_tree answer
  ticks_most n = by (run π (tree_of rows) (record { store = store_of store; left = n; picks = picks }))
    where
      by : (o : Out) → (answer (length rows) n picks o).ticks ≤ n
      by (go s es) = omega arith
      by (halt e i s es) = omega arith

  -- T ticks are enough
  pub enough : (n : ℕ) → report_ticks π script ≤ n → Unspent (runs n).ending
  unfolding run_script Demand3
  enough n h = (demand3 π one script ok store inside picks n h).unspent

  -- two runs that are not spent are one
  grown : (n m : ℕ) → n ≤ m → Unspent (runs n).ending → runs m ≡ runs n
  unfolding run_script
  grown n m l h = run_more π (length rows) (tree_of rows) (store_of store) picks n m l h

  pub agree : (n m : ℕ) → Unspent (runs n).ending → Unspent (runs m).ending → runs n ≡ runs m
  agree n m h k = by (leb n m) (leb→le n m) (nleb→lt n m)
    where
      by : (b : Bool) → (T b → n ≤ m) → (T (not b) → m < n) → runs n ≡ runs m
      by true f g = sym (grown n m (f tt) h)
      by false f g = grown m n (omega (arith, g tt)) k

  module _ (q : ℕ) (tick : 1 ≤ q) where
    -- from its start with n ticks it comes to stand at a
    abbrev Comes : ℕ → Next → Type 0
    Comes n a = Pauses π one rows matching_end_lem matching_head_lem fit (begins n) a

    -- a script after k frames: it has done what k · q ticks allow from the start
    data Stage (k : ℕ) : Progress → Type 0 where
      before : k ≡ 0 → Stage k (beginning script store picks)
      runs_yet : {m : Place} → Comes (k * q) (more m) → Stage k (record { script = script; picks = picks; stand = more m; frame = k })
      is_over : {e : Ending} {i : ℕ} {s : State} {c : TurnCounts} {f : ℕ} → 1 ≤ f → f ≤ k → Comes (f * q) (over e i s c)
          → Stage k (record { script = script; picks = picks; stand = over e i s c; frame = f })

    stage_at : (k n : ℕ) (a : Next) → n ≡ suc k * q → Comes n a → Stage (suc k) (record { script = script; picks = picks; stand = a; frame = suc k })
    stage_at k n a e h = by a (subst (λ m. Comes m a) e h)
      where
        by : (a : Next) → Comes (suc k * q) a → Stage (suc k) (record { script = script; picks = picks; stand = a; frame = suc k })
        by (more m) h = runs_yet h
        by (over e i s c) h = is_over {f = suc k} (omega arith) (omega arith) h

    stage_frame : (k : ℕ) (p : Progress) → Stage k p → Stage (suc k) (frame_of π q (suc k) p)
    unfolding frame_from
    stage_frame k _ (before z) = stage_at k (0 + q) _ (omega (arith, suc-mul k q, ap (λ n. n * q) z)) (runs_on_lem π one rows matching_end_lem matching_head_lem fit _)
    stage_frame k _ (runs_yet {m = m} h) = stage_at k (k * q + q) _ (sym (suc-mul k q)) (resumes π one rows matching_end_lem matching_head_lem fit _ m q h)
    stage_frame k _ (is_over l m h) = is_over l (omega arith) h

    stage : (n : ℕ) → Stage n (after_frames π q (beginning script store picks) n)
    unfolding after_frames
    stage zero = before refl
    stage (suc n) = stage_frame n _ (stage n)

    -- it stands as its run alone
    stage_stands : (k : ℕ) (p : Progress) → 1 ≤ k → Stage k p → StandsAs π rows (runs (k * q)) (p.frame * q) picks p.stand
    stage_stands k _ l (before z) = absurd (omega arith)
    stage_stands k _ l (runs_yet (waiting {m = m} {i = i} n r w)) =
        (i, w.stop, answered (k * q) (suc n) Spent i _ _ (step_more π one rows matching_end_lem matching_head_lem fit n _ _ r ∙ w.stop))
    stage_stands k _ l (is_over {e = e} {i = i} {s = s} {c = c} {f = f} first last (finished n r u)) =
        let a = answered (f * q) n e i s c r in
        (u, subst (λ z. Replies z (f * q) picks e i s c) (sym (grown (f * q) (k * q) (mul-le-mul_right q last) (subst Unspent a.ending u))) a)

    -- the ticks so far
    stage_ticks : (k : ℕ) (p : Progress) → Stage k p → ticks_of q p ≡ (runs (k * q)).ticks
    unfolding ticks_of left_of
    stage_ticks k _ (before z) = let e : k * q ≡ 0 * q = ap (λ n. n * q) z in omega (arith, ticks_most (k * q))
    stage_ticks zero _ (runs_yet h) = omega (arith, ticks_most (0 * q))
    stage_ticks (suc k) _ (runs_yet h) = (stage_stands (suc k) _ (omega arith) (runs_yet h)).2.ticks
    stage_ticks k _ (is_over first last h) = (stage_stands k _ (omega arith) (is_over first last h)).1.ticks

    -- the ticks of one frame
    stage_takes : (k : ℕ) (p : Progress) → Stage k p → ticks_of q p + takes q p.stand (frame_of π q (suc k) p).stand ≡ ticks_of q (frame_of π q (suc k) p)
    unfolding frame_from ticks_of takes left_of
    stage_takes k _ (before z) = omega (arith, suc-mul k q, ap (λ n. n * q) z)
    stage_takes k _ (runs_yet {m = m} h) =
        let had = pauses_less π one rows matching_end_lem matching_head_lem fit h in
        let got = pauses_less π one rows matching_end_lem matching_head_lem fit (runs_on_lem π one rows matching_end_lem matching_head_lem fit (given q m)) in
        omega (arith, suc-mul k q)
    stage_takes k _ (is_over first last h) = omega arith

    -- what it carries
    stage_carries : (k : ℕ) (p : Progress) → Stage k p → CarriesOn π (length rows) (k * q) p.stand
    unfolding rank
    stage_carries k _ (before z) = record { left = omega arith; counts = λ p. (omega arith, omega arith) }
    stage_carries k _ (runs_yet (waiting n r w)) =
        let (j, z, l) = steps_room π one rows matching_end_lem matching_head_lem fit n _ _ r blank 0 (above_same blank) in
        record { left = w.carried; counts = with_room _ _ z (omega arith) }
    stage_carries k _ (is_over first last h) = tt

    -- with T ticks given it is finished, with the answer of its run alone
    stage_done : (k : ℕ) (p : Progress) → 1 ≤ k → report_ticks π script ≤ k * q → Stage k p
        → Done p.stand × (1 ≤ p.frame) × (p.frame ≤ k) × (played_of q p ≡ alone π script store picks (report_ticks π script) p.frame)
    unfolding played_at played_as ticks_of left_of alone
    stage_done k _ l h (before z) = absurd (omega arith)
    stage_done k _ l h (runs_yet r) = absurd (subst Unspent (sym (stage_stands k _ l (runs_yet r)).2.ending) (enough (k * q) h))
    stage_done k _ l h (is_over {e = e} {i = i} {s = s} {c = c} {f = f} first last r) =
        let t : ℕ = report_ticks π script in
        let (u, a) = stage_stands k _ l (is_over first last r) in
        let b : Replies (runs t) (f * q) picks e i s c
        = subst (λ z. Replies z (f * q) picks e i s c) (agree (k * q) t (subst Unspent a.ending u) (enough t (omega arith))) a in (
          u,
          first,
          last,
          λ j. record {
            frame = f;
            ending = b.ending j;
            row = b.row j;
            ticks = b.ticks j;
            used = b.used j;
            store = store_list (length script.ranges) (b.store j);
            counts = counts_same c (runs t).entries (loop_rows 0 rows) b.sums b.mosts j;
          },
        )

    -- not finished before its frame
    stage_first : (k n : ℕ) (p : Progress) → 1 ≤ n → Stage n p → (Done p.stand → p.frame ≡ k) → n < k → (runs (n * q)).ending ≡ Spent
    stage_first k n _ l (before z) f m = absurd (omega arith)
    stage_first k n _ l (runs_yet r) f m = sym (stage_stands n _ l (runs_yet r)).2.ending
    stage_first k n _ l (is_over first last r) f m = absurd (omega (arith, f (stage_stands n _ l (is_over first last r)).0))

    -- in its frame it is finished
    stage_last : (k : ℕ) (p : Progress) → Stage k p → Done p.stand → Unspent (runs (p.frame * q)).ending
    stage_last k _ (before z) d = absurd d
    stage_last k _ (runs_yet h) d = absurd d
    stage_last k _ (is_over {e = e} {i = i} {s = s} {c = c} {f = f} first last (finished n r u)) d = subst Unspent (answered (f * q) n e i s c r).ending u

    abbrev played_for : ℕ → Progress
    played_for n = after_frames π q (beginning script store picks) n

    stage_in_time : (n : ℕ) → due q (report_ticks π script) ≤ n → InTime π q script store picks (played_for n)
    stage_in_time n is-moved =
        let k : ℕ = due q (report_ticks π script) in
        let (some_frame, ticks) = due_enough q (report_ticks π script) tick in
        let (d, f, l, e) = stage_done k _ some_frame ticks (stage k) in
        let same-frame : (m : ℕ) → m ≤ k → Done (played_for m).stand → (played_for m).frame ≡ (played_for k).frame
        = λ m less o. ap (λ (p : Progress). p.frame) (sym (settled_at π q (beginning script store picks) m k less o)) in
        subst (InTime π q script store picks) (sym (settled_at π q (beginning script store picks) k n is-moved d))
        (record {
          finished = d;
          frame = record { some = f; first = λ m some-m less. stage_first _ m _ some-m (stage m) (same-frame m (omega arith)) less; last = stage_last k _ (stage k) d };
          by_due = l;
          same = e;
        })

    as_alone : (n : ℕ) → AsAlone π script store picks q n (played_for n)
    unfolding after_frames
    as_alone n = record {
      stands = λ l. stage_stands n _ l (stage n);
      ticks = omega (arith, stage_ticks n _ (stage n), stage_ticks (suc n) _ (stage_frame n _ (stage n)), stage_takes n _ (stage n));
      carries = stage_carries n _ (stage n);
      in_time = λ is-moved. stage_in_time n is-moved;
    }

pub frames_as_alone : FramesAsAlone
unfolding FramesAsAlone
frames_as_alone π one script ok store inside picks q n tick = as_alone π one script ok store inside picks q tick n

-- ---- all scripts
-- what a frame takes
takes_most : (π : Prices) (R n q : ℕ) (a b : Next) → CarriesOn π R n a → takes q a b ≤ q + dearest π
unfolding takes
takes_most π R n q (more m) b h = omega (arith, h.left)
takes_most π R n q (over e i s c) b h = omega arith

module _ (prices : List ℕ) (scratch q : ℕ) (tick : 1 ≤ q) where
  abbrev π : Prices
  π = prices_of prices

  of_part : (h : ScriptPart) (script : Script) → judged prices scratch h.file ≡ accepted script → store_verdict 0 script.ranges h.store ≡ passed
      → (n : ℕ) → AsAlone π script h.store h.picks q n (after_frames π q (beginning script h.store h.picks) n)
  of_part h script e v n =
      let f = file_accepted prices scratch h.file script e in
      as_alone π (test_priced prices f.priced) script f.script_accepted h.store (store_in script h.store v) h.picks q tick n

  answers_alone : {hs : List ScriptPart} {ps : List Progress} → Accepts prices scratch hs ps → (n : ℕ) → lasts π q ps ≤ n → Alone π q hs ps (answers π q ps n)
  unfolding answers lasts
  answers_alone Accepts.none n l = Alone.none
  answers_alone (Accepts.some {h = h} {script = script} e v rest) n l =
      let t = (of_part h script e v n).in_time (omega arith) in
      rw t.same (Alone.some t.frame t.by_due (answers_alone rest n (omega arith)))

  all_done : {hs : List ScriptPart} {ps : List Progress} → Accepts prices scratch hs ps → (n : ℕ) → lasts π q ps ≤ n → AllDone π q ps n
  unfolding lasts
  all_done Accepts.none n l = none
  all_done (Accepts.some {h = h} {script = script} e v rest) n l = some ((of_part h script e v n).in_time (omega arith)).finished (all_done rest n (omega arith))

  together_takes : {hs : List ScriptPart} {ps : List Progress} → Accepts prices scratch hs ps → (n : ℕ) → together π q ps n ≤ length ps * (q + dearest π)
  unfolding together
  together_takes Accepts.none n = omega arith
  together_takes (Accepts.some {h = h} {ps = ps} {script = script} e v rest) n =
      let p : ℕ → Progress = after_frames π q (beginning script h.store h.picks) in
      let one_more_lem = takes_most π (length script.rows) (n * q) q (p n).stand (p (suc n)).stand (of_part h script e v n).carries in
      omega (arith, together_takes rest n, suc-mul (length ps) (q + dearest π))

  most_takes : {hs : List ScriptPart} {ps : List Progress} → Accepts prices scratch hs ps → (n : ℕ) → most π q ps n ≤ length ps * (q + dearest π)
  unfolding most
  most_takes h zero = omega arith
  most_takes h (suc n) = omega (arith, together_takes h n, most_takes h n)

  -- what all together take in a frame is what each takes alone
  together_alone : {hs : List ScriptPart} {ps : List Progress} → Accepts prices scratch hs ps → (n : ℕ) → together π q ps n ≡ all_alone π q hs ps n
  unfolding together all_alone alone_in
  together_alone Accepts.none n = refl
  together_alone (Accepts.some {h = h} {script = script} e v rest) n = omega (arith, (of_part h script e v n).ticks, together_alone rest n)

pub frames_end : FramesEnd
unfolding FramesEnd
frames_end prices scratch q tick hs ps h n = (all_done prices scratch q tick h n, most_takes prices scratch q tick h n)

-- once all are finished
answers_settled : (π : Prices) (q : ℕ) (n m : ℕ) → n ≤ m → (ps : List Progress) → AllDone π q ps n → answers π q ps m ≡ answers π q ps n
unfolding answers
answers_settled π q n m l [] none = refl
answers_settled π q n m l (p ∷ ps) (some d ds) = λ k. played_of q (settled_at π q p n m l d k) ∷ answers_settled π q n m l ps ds k

takes_none : (q : ℕ) (a b : Next) → Done a → takes q a b ≡ 0
unfolding takes
takes_none q (more m) b u = absurd u
takes_none q (over e i s c) b u = refl

together_settled : (π : Prices) (q n m : ℕ) → n ≤ m → (ps : List Progress) → AllDone π q ps n → together π q ps m ≡ 0
unfolding together
together_settled π q n m l [] none = refl
together_settled π q n m l (p ∷ ps) (some d ds) =
    omega (
      arith,
      together_settled π q n m l ps ds,
      ap (λ (r : Progress). takes q r.stand (after_frames π q p (suc m)).stand) (settled_at π q p n m l d),
      takes_none q (after_frames π q p n).stand (after_frames π q p (suc m)).stand d,
    )

most_settled : (π : Prices) (q n j : ℕ) (ps : List Progress) → AllDone π q ps n → most π q ps (j + n) ≡ most π q ps n
unfolding most
most_settled π q n zero ps d = let e : 0 + n ≡ n = omega arith in ap (most π q ps) e
most_settled π q n (suc j) ps d =
    let e : suc j + n ≡ suc (j + n) = omega arith in
    ap (most π q ps) e ∙ omega (arith, most_settled π q n j ps d, together_settled π q n (j + n) (omega arith) ps d)

pub no_more : NoMore
unfolding NoMore
no_more π q ps n m l d = let e : m ≡ (m - n) + n = omega arith in (answers_settled π q n m l ps d, ap (most π q ps) e ∙ most_settled π q n (m - n) ps d)

-- the most of n frames: none takes more, and some frame takes it
module _ (π : Prices) (q : ℕ) (ps : List Progress) where
  most_bound : (n m : ℕ) → m < n → together π q ps m ≤ most π q ps n
  unfolding most
  most_bound zero m l = absurd (omega arith)
  most_bound (suc n) m l = by (ltb m n) (ltb→lt m n) (nltb→le m n) (most_bound n m)
    where
      by : (b : Bool) → (T b → m < n) → (T (not b) → n ≤ m) → (m < n → together π q ps m ≤ most π q ps n) → together π q ps m ≤ max (most π q ps n) (together π q ps n)
      by true f g ih = omega (arith, ih (f tt))
      by false f g ih = let e : m ≡ n = omega (arith, g tt) in omega (arith, ap (together π q ps) e)

  most_reached : (z : ℕ) → together π q ps z ≡ 0 → (n : ℕ) → (k : ℕ) × (together π q ps k ≡ most π q ps n)
  unfolding most
  most_reached z e zero = (z, e)
  most_reached z e (suc n) = by (leb (together π q ps n) (most π q ps n)) (leb→le _ _) (nleb→lt _ _) (most_reached z e n)
    where
      by : (b : Bool) → (T b → together π q ps n ≤ most π q ps n) → (T (not b) → most π q ps n < together π q ps n) → (k : ℕ) × (together π q ps k ≡ most π q ps n)
          → (k : ℕ) × (together π q ps k ≡ max (most π q ps n) (together π q ps n))
      by true f g (k, h) = (k, omega (arith, f tt))
      by false f g (k, h) = (n, omega (arith, g tt))

greatest : (prices : List ℕ) (scratch q : ℕ) → 1 ≤ q → {hs : List ScriptPart} {ps : List Progress} → Accepts prices scratch hs ps
    → Greatest (all_alone (prices_of prices) q hs ps) (most (prices_of prices) q ps (lasts (prices_of prices) q ps))
greatest prices scratch q tick {hs} {ps} h = record { bound = λ n. bound n (ltb n last) (ltb→lt n last) (nltb→le n last); reached = (k, sym (together_alone prices scratch q tick h k) ∙ r) }
  where
    ρ : Prices
    ρ = prices_of prices

    last : ℕ
    last = lasts ρ q ps

    ended : AllDone ρ q ps last
    ended = all_done prices scratch q tick h last (omega arith)

    bound : (n : ℕ) (b : Bool) → (T b → n < last) → (T (not b) → last ≤ n) → all_alone ρ q hs ps n ≤ most ρ q ps last
    bound n true f g = omega (arith, together_alone prices scratch q tick h n, most_bound ρ q ps last n (f tt))
    bound n false f g = omega (arith, together_alone prices scratch q tick h n, together_settled ρ q last n (g tt) ps ended)

    some_frame : (k : ℕ) × (together ρ q ps k ≡ most ρ q ps last)
    some_frame = most_reached ρ q ps last (together_settled ρ q last last (omega arith) ps ended) last

    k : ℕ
    k = some_frame.0

    r : together ρ q ps k ≡ most ρ q ps last
    r = some_frame.1

-- ---- the call
refuses_not : {A : Type 0} (n p : ℕ) (ps : List Progress) → Readiness.refuses n p ≡ ready ps → A
refuses_not n p ps e = absurd (let z : ◌≡◌ {A = ℕ} 0 1 = cc in omega arith)

module _ (prices : List ℕ) (scratch : ℕ) where
  -- one script more
  module _ (h : ScriptPart) (hs : List ScriptPart) (ps : List Progress) (script : Script) (yes_13 : judged prices scratch h.file ≡ accepted script) where
    joins_accepts : (v : Verdict) → store_verdict 0 script.ranges h.store ≡ v → (rest : Readiness) → ((qs : List Progress) → rest ≡ ready qs → Accepts prices scratch hs qs)
        → joins script v h rest ≡ ready ps → Accepts prices scratch (h ∷ hs) ps
    unfolding joins
    joins_accepts passed v (ready qs) ih e =
        let same : beginning script h.store h.picks ∷ qs ≡ ps = cc in
        subst (Accepts prices scratch (h ∷ hs)) same (Accepts.some yes_13 v (ih qs refl))
    joins_accepts passed v (Readiness.refuses n p) ih e = refuses_not n p ps e
    joins_accepts (refused n p) v rest ih e = refuses_not n p ps e

  enters_accepts : (h : ScriptPart) (hs : List ScriptPart) (ps : List Progress) (j : Judged) → judged prices scratch h.file ≡ j → ((qs : List Progress) → readiness prices scratch hs ≡ ready qs → Accepts prices scratch hs qs)
      → enters j h (readiness prices scratch hs) ≡ ready ps → Accepts prices scratch (h ∷ hs) ps
  unfolding enters
  enters_accepts h hs ps (accepted script) r ih e = joins_accepts h hs ps script r _ refl (readiness prices scratch hs) ih e
  enters_accepts h hs ps (Judged.refuses n p) r ih e = refuses_not n p ps e

  -- the scripts that play are accepted, each with its store
  pub cast_accepts : (hs : List ScriptPart) (ps : List Progress) → readiness prices scratch hs ≡ ready ps → Accepts prices scratch hs ps
  unfolding readiness
  cast_accepts [] ps e = let same : [] ≡ ps = cc in subst (Accepts prices scratch []) same Accepts.none
  cast_accepts (h ∷ hs) ps e = enters_accepts h hs ps _ refl (λ qs r. cast_accepts hs qs r) e

-- 20 has yes: q is at least 1
fitting_tick : (l : Lent) (q : ℕ) → T (fitting l q) → 1 ≤ q
unfolding fitting
fitting_tick l q h = leb→le 1 q (both (leb 1 q) (leb q 1_000_000) (both (covered l) _ (both (counted l) _ h).1).1).0

pub all_in_time : AllInTime
unfolding AllInTime frames_reply played_by
all_in_time prices scratch l q rs m e = by (fitting l q) (fitting_tick l q) e
  where
    at : (c : Readiness) → readiness prices scratch (parts_of l) ≡ c → 1 ≤ q → played_by (prices_of prices) q c ≡ played rs m → (ps : List Progress) × Accepts prices scratch (parts_of l) ps × Alone (prices_of prices) q (parts_of l) ps rs × Greatest (all_alone (prices_of prices) q (parts_of l) ps) m
    at (ready ps) c tick e =
        let h = cast_accepts prices scratch (parts_of l) ps c in
        let same : answers (prices_of prices) q ps (lasts (prices_of prices) q ps) ≡ rs = cc in
        let least : most (prices_of prices) q ps (lasts (prices_of prices) q ps) ≡ m = cc in (
          ps,
          h,
          subst (Alone (prices_of prices) q (parts_of l) ps) same (answers_alone prices scratch q tick h (lasts (prices_of prices) q ps) (omega arith)),
          subst (Greatest (all_alone (prices_of prices) q (parts_of l) ps)) least (greatest prices scratch q tick h),
        )
    at (Readiness.refuses n p) c tick e = absurd (let z : ◌≡◌ {A = ℕ} 0 1 = cc in omega arith)

    by : (b : Bool) → (T b → 1 ≤ q) → cond b (played_by (prices_of prices) q (readiness prices scratch (parts_of l))) (FramesReply.refuses 20 0) ≡ played rs m
        → (ps : List Progress) × Accepts prices scratch (parts_of l) ps × Alone (prices_of prices) q (parts_of l) ps rs × Greatest (all_alone (prices_of prices) q (parts_of l) ps) m
    by true f e = at _ refl (f tt) e
    by false f e = absurd (let z : ◌≡◌ {A = ℕ} 0 1 = cc in omega arith)
