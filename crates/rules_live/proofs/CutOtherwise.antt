-- Cutting changes nothing: two series of steps on the same bytes.
use mathlib.Core.Path.{◌≡◌, refl, sym, ◌∙◌, ap}
use mathlib.Core.Bool.{Bool, true, false, not}
use mathlib.Core.List.{List, [], ◌∷◌, ◌++◌, append_assoc, append-nil}
use Prim.Native.Nat.{ℕ, zero, suc, ◌+◌, ◌-◌, ◌≤◌, ◌<◌}
use native.Mathlib.Omega.{arith}
use lib.Dec.{T, leb, leb→le, nleb→lt}
use lib.IntN.{ℤ}
use lib.ListN.{length, take, drop, length-append, take-append-drop}
use lib.Seq.{take_at, drop_at}
use Rattle.rules.specs.Blocks.{RowKind}
use Rattle.rules.specs.declared.Prices.{Prices}
use Rattle.rules.specs.Scripts.{Script}
use Rattle.rules.specs.Answers.{Answer}
use Rattle.rules.specs.Calls.{loop_rows, counts_at, run_script}
use Rattle.rules_machine.specs.RowMachine.{Replies}
use Rattle.rules_frames.specs.Frames.{left_of}
use Rattle.rules_frames.proofs.FramesAsAlone.{counts_same}
use Rattle.rules_live.specs.Cues.{fired, cues_by, cues_to}
use Rattle.rules_live.specs.Live.{joined, step_of, matching_end, Stand, going, waits, full, finished, Live, beginning, store_at, counts_at_stand, row_at}
use Rattle.rules_live.specs.LiveRuns.{CutOtherwise, Cut, lent_of, cut_from, SameBytesCut, StartAccepts, IsFinished, ending_at, Begins, Alike, CuttingChangesNothing}
use Rattle.rules_live.proofs.Acts.{state}
use Rattle.rules_live.proofs.Comes.{Stands, Comes, comes_answer, comes_ticks, picked_left}
use Rattle.rules_live.proofs.OneStep.{reach}
use Rattle.rules_live.proofs.Series.{step_leaves, Goes, goes_step, goes_start, goes}

-- of two lists that begin one, one begins the other
begins_either : {A : Type 0} (u r v s : List ℕ) → u ++ r ≡ v ++ s → ((l : List ℕ) → v ≡ u ++ l → A) → ((x : ℕ) (l : List ℕ) → u ≡ v ++ (x ∷ l) → A) → A
begins_either [] r v s e f g = f v refl
begins_either (x ∷ u) r [] s e f g = g x u refl
begins_either (x ∷ u) r (y ∷ v) s e f g = begins_either u r v s (cc) (λ l same. f l (cc)) (λ z l same. g z l (cc))

-- cues of a larger allowance come after
cues_begin : (rows : List RowKind) (answers : ℕ → Answer) (t x : ℕ) → Begins (cues_by rows answers t) (cues_by rows answers (t + x))
unfolding cues_by
cues_begin rows answers t zero = let e : t + 0 ≡ t = omega arith in ([], ap (cues_by rows answers) e ∙ sym (append-nil _))
cues_begin rows answers t (suc x) =
    let e : t + suc x ≡ suc (t + x) = omega arith in
    let (l, same) = cues_begin rows answers t x in
    let new : List ℕ = fired rows (answers (t + x)) (answers (suc (t + x))) in
    (l ++ new, ap (cues_by rows answers) e ∙ ap (λ z. z ++ new) same ∙ append_assoc (cues_by rows answers t) l new)

module _ (π : Prices) (script : Script) (store : List ℤ) (accepts : StartAccepts π script store) where
  -- what is known of a live run
  abbrev Known : Live → Type 0
  Known a = Stands π script store accepts a.ticks a.used a.cues (reach (matching_end script) a.stand)

  abbrev runs : List ℕ → ℕ → Answer
  runs picks n = run_script π script store picks n

  reach_left : (a : Stand) (r : List ℕ) → left_of (reach (matching_end script) a 0 r) ≡ 0
  unfolding reach left_of
  reach_left (going m) r = refl
  reach_left (full m) r = refl
  reach_left (waits m) r = picked_left m.row _ r m.now.store m.tally r
  reach_left (finished e i s c) r = refl

  -- a run with the bytes that it has used, and any others, has taken all its ticks
  all_ticks : (a : Live) → Known a → (r : List ℕ) → (runs (a.used ++ r) a.ticks).ticks ≡ a.ticks
  all_ticks a h r = comes_ticks π script store accepts h.comes r (reach_left a.stand r)

  -- a finished one has the answer of every run with these ticks and bytes, or more
  ends_so : (t : ℕ) (u : List ℕ) (a : Stand) → IsFinished a → Comes π script store accepts t u (reach (matching_end script) a) → (x : ℕ) (r : List ℕ)
      → Replies (runs (u ++ r) (t + x)) (t + x) (u ++ r) (ending_at a) (row_at π script a) (state (store_at a) x r) (counts_at_stand a)
  unfolding reach ending_at row_at store_at counts_at_stand
  ends_so t u (going m) f h x r = absurd f
  ends_so t u (waits m) f h x r = absurd f
  ends_so t u (full m) f h x r = absurd f
  ends_so t u (finished e i s c) f h x r = comes_answer π script store accepts h x r e i (state s.store x r) c refl

  -- two live runs on the same bytes
  module _ (a b : Live) (h : Known a) (k : Known b) (r s : List ℕ) (same : a.used ++ r ≡ b.used ++ s) where
    -- with fewer ticks it has used what the other used first
    used_first : a.ticks < b.ticks → Begins a.used b.used
    used_first less =
        begins_either a.used r b.used s same (λ l e. (l, e))
        (λ x l e. absurd (omega (arith, h.asked b.used x l e b.ticks, all_ticks b k [], ap (λ z. (runs z b.ticks).ticks) (append-nil b.used))))

    -- none has more ticks than a finished one
    none_later : IsFinished b.stand → a.ticks ≤ b.ticks
    none_later f = by (leb a.ticks b.ticks) (leb→le a.ticks b.ticks) (nleb→lt a.ticks b.ticks)
      where
        by : (c : Bool) → (T c → a.ticks ≤ b.ticks) → (T (not c) → b.ticks < a.ticks) → a.ticks ≤ b.ticks
        by true g l = g tt
        by false g l =
            let e : b.ticks + (a.ticks - b.ticks) ≡ a.ticks = omega (arith, l tt) in
            let all = (ends_so b.ticks b.used b.stand f k.comes (a.ticks - b.ticks) s).ticks in
            absurd (omega (arith, l tt, all, all_ticks a h r, ap (λ z. (runs z a.ticks).ticks) same, ap (λ n. (runs (b.used ++ s) n).ticks) e))

    -- with no more ticks it has fired what the other fired first
    fired_first : a.ticks ≤ b.ticks → Begins a.cues b.cues
    fired_first l =
        let e : a.ticks + (b.ticks - a.ticks) ≡ b.ticks = omega arith in
        let (more, q) = cues_begin script.rows (runs (b.used ++ s)) a.ticks (b.ticks - a.ticks) in
        let here : cues_to π script store (b.used ++ s) a.ticks ≡ a.cues = ap (λ z. cues_to π script store z a.ticks) (sym same) ∙ h.cued r in
        (more, sym (k.cued s) ∙ ap (cues_to π script store (b.used ++ s)) (sym e) ∙ q ∙ ap (λ z. z ++ more) here)

  -- both finished
  both_finished : (a b : Live) → Known a → Known b → (r s : List ℕ) → a.used ++ r ≡ b.used ++ s → IsFinished a.stand → IsFinished b.stand → Alike π script a b
  both_finished a b h k r s same f g =
      let ticks : a.ticks ≡ b.ticks = omega (arith, none_later a b h k r s same g, none_later b a k h s r (sym same) f) in
      let answer : runs (a.used ++ r) (a.ticks + 0) ≡ runs (b.used ++ s) (b.ticks + 0) = λ j. runs (same j) (ticks j + 0) in
      let x = ends_so a.ticks a.used a.stand f h.comes 0 r in
      let y = ends_so b.ticks b.used b.stand g k.comes 0 s in
      let bytes : length a.used ≡ length b.used
      = omega (arith, x.used, y.used, ap (λ (z : Answer). z.used) answer, length-append a.used r, length-append b.used s) in
      record {
        ending = x.ending ∙ ap (λ (z : Answer). z.ending) answer ∙ sym y.ending;
        row = x.row ∙ ap (λ (z : Answer). z.row) answer ∙ sym y.row;
        ticks = ticks;
        used = sym (take_at a.used r _ refl) ∙ ap (take (length a.used)) same ∙ take_at b.used s _ (sym bytes);
        store = x.store ∙ ap (λ (z : Answer). z.store) answer ∙ sym y.store;
        counts = counts_same _ _ (loop_rows 0 script.rows) x.sums x.mosts ∙ ap (λ (z : Answer). counts_at z.entries (loop_rows 0 script.rows)) answer
            ∙ sym (counts_same _ _ (loop_rows 0 script.rows) y.sums y.mosts);
        cues = sym (h.cued r) ∙ (λ j. cues_to π script store (same j) (ticks j)) ∙ k.cued s;
      }

  cut_alike : (a b : Live) → Known a → Known b → (bytes : List ℕ) → Begins a.used bytes → Begins b.used bytes → CutOtherwise π script a b
  cut_alike a b h k bytes (r, e) (s, d) =
      let same = sym e ∙ d in
      record {
        finished_alike = both_finished a b h k r s same;
        last = none_later a b h k r s same;
        fired = fired_first a b h k r s same;
        used = used_first a b h k r s same;
      }

  -- a step that is lent the next bytes has used the first ones
  cut_goes : (bytes : List ℕ) (cs : List Cut) (n : ℕ) (a : Live) → Goes π script store accepts n a → Begins a.used bytes
      → Known (cut_from π script bytes a cs) × Begins (cut_from π script bytes a cs).used bytes
  unfolding cut_from joined
  cut_goes bytes [] n a g b = (g.known, b)
  cut_goes bytes (c ∷ cs) n a g (r, e) =
      let l = lent_of bytes a c in
      let (v, d) = (step_leaves π script store accepts l a.stand g.known g.can_stand).used in
      let s : List ℕ = (step_of π script l a.stand).used in
      let rest : drop (length a.used) bytes ≡ r = ap (drop (length a.used)) e ∙ drop_at a.used r _ refl in
      let cut : r ≡ s ++ (v ++ drop c.count r)
      = sym (take-append-drop c.count r) ∙ ap (λ z. z ++ drop c.count r) (ap (take c.count) (sym rest) ∙ d) ∙ append_assoc s v (drop c.count r) in
      cut_goes bytes cs (suc n) _ (goes_step π script store accepts n a l g) (v ++ drop c.count r, e ∙ ap (λ z. a.used ++ z) cut ∙ sym (append_assoc a.used s _))

pub cutting_changes_nothing : CuttingChangesNothing
unfolding CuttingChangesNothing
cutting_changes_nothing π script store accepts ks ls bytes e d =
    let start = goes_start π script store accepts in
    cut_alike π script store accepts _ _ (goes π script store accepts 0 (beginning store) ks start).known (goes π script store accepts 0 (beginning store) ls start).known bytes e d

pub same_bytes_cut : SameBytesCut
unfolding SameBytesCut
same_bytes_cut π script store accepts bytes cs ds =
    let start = goes_start π script store accepts in
    let (h, e) = cut_goes π script store accepts bytes cs 0 (beginning store) start (bytes, refl) in
    let (k, d) = cut_goes π script store accepts bytes ds 0 (beginning store) start (bytes, refl) in
    cut_alike π script store accepts _ _ h k bytes e d
