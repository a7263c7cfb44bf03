-- Laws of what is printed of a live run. Assumes nothing.
use mathlib.Core.Path.{◌≡◌, refl, ap}
use mathlib.Core.Bool.{Bool, true, false}
use mathlib.Core.List.{List, [], ◌∷◌, ◌++◌, append_assoc}
use Prim.Native.Nat.{ℕ, ◌≤◌}
use native.Mathlib.Omega.{arith}
use borrow.Author.Tests.{ne_eqb}
use lib.IntN.{ℤ}
use lib.ListN.{length, take, drop, length-append}
use Rattle.rules.specs.Report.{decimal, joined, ticks_key, newline, gap}
use Rattle.rules.specs.Calls.{over}
use Rattle.rules.specs.declared.Ending.TheVariants.{Ended, Spent, NoPick}
use Rattle.rules.specs.declared.Ending.{Ending}
use Rattle.rules.specs.declared.Refusal.{Refusal}
use Rattle.std.specs.Prelude.{Result, Ok, Err, IfOk}
use Rattle.rules_live.specs.LiveCalls.{StepReply, stepped, cues_stepped}
use Rattle.calls_live.specs.declared.StepDone.{StepDone}
use Rattle.calls_live.specs.Told.{SteppedAs}
use Rattle.answer_text.specs.Texts.{used_key, listed}
use Rattle.answer_text.specs.Steps.{frame_key, all_key, cues_key, going_word, waits_word, full_word, ended_word, range_word, status_word, cue_text, step_front, ending_of}

-- ---- the word of a status, by the tests of the code
pub going_word_lem : (s : ℕ) → s ≡ 0 → going_word ≡ status_word s
unfolding status_word
going_word_lem s e = rw e refl

pub waits_word_lem : (s : ℕ) → s ≡ 1 → waits_word ≡ status_word s
unfolding status_word
waits_word_lem s e = rw e refl

pub full_word_lem : (s : ℕ) → s ≡ 2 → full_word ≡ status_word s
unfolding status_word
full_word_lem s e = rw e refl

pub ended_word_lem : (s : ℕ) → s ≡ 3 → ended_word ≡ status_word s
unfolding status_word
ended_word_lem s e = rw e refl

pub range_word_lem : (s : ℕ) → (s ≡ 0 → ⊥) → (s ≡ 1 → ⊥) → (s ≡ 2 → ⊥) → (s ≡ 3 → ⊥) → range_word ≡ status_word s
unfolding status_word
range_word_lem s a b c d = rw (ne_eqb s 0 a, ne_eqb s 1 b, ne_eqb s 2 c, ne_eqb s 3 d) refl

-- ---- a cue in the list
pub cue_first : (first : Bool) (n : ℕ) → first ≡ true → decimal n ≡ cue_text first n
unfolding cue_text
cue_first first n e = rw e refl

pub cue_next : (first : Bool) (n : ℕ) → first ≡ false → (44 ∷ []) ++ decimal n ≡ cue_text first n
unfolding cue_text
cue_next first n e = rw e refl

-- ---- a step's line
eight : (a b c d e f g h : List ℕ) → (((((a ++ b) ++ (c ++ d)) ++ e) ++ f) ++ g) ++ h ≡ a ++ (b ++ (c ++ (d ++ (e ++ (f ++ (g ++ h))))))
eight a b c d e f g h = simp append_assoc refl

pub step_front_lem : (frame : ℕ) (d : StepDone)
    → (((((frame_key ++ decimal frame) ++ (status_word d.status ++ decimal d.row)) ++ ((gap ++ ticks_key) ++ decimal d.ticks)) ++ ((gap ++ all_key) ++ decimal d.all_ticks)) ++ ((gap ++ used_key) ++ decimal d.used)) ++ (gap ++ cues_key) ≡ step_front frame d
unfolding step_front joined
step_front_lem frame d =
    eight frame_key (decimal frame) (status_word d.status) (decimal d.row) ((gap ++ ticks_key) ++ decimal d.ticks) ((gap ++ all_key) ++ decimal d.all_ticks) ((gap ++ used_key) ++ decimal d.used) (gap ++ cues_key)

-- a step fires no more cues than its list has places
pub few_cues : (reply : StepReply) (store store' : List ℤ) (state state' cues cues' : List ℕ) (r : Result StepDone Refusal) → SteppedAs reply store store' state state' cues cues' r → length cues' ≡ length cues → IfOk r (λ (d : StepDone). d.cues ≤ length cues)
unfolding cues_stepped over
few_cues (stepped a s t) store store' state state' cues cues' (Ok d) h l =
    omega (arith, h.told.cues, l, ap length h.new_cues, length-append a.cues (drop (length a.cues) cues))
few_cues (StepReply.refuses q p) store store' state state' cues cues' (Ok d) h l = absurd h.told
few_cues reply store store' state state' cues cues' (Err r) h l = tt

-- ---- how a run ends that is cut off
pub ending_ended : (s : ℕ) → s ≡ 3 → Ended ≡ ending_of s
unfolding ending_of
ending_ended s e = rw e refl

pub ending_range : (s : ℕ) → s ≡ 4 → Ending.Range ≡ ending_of s
unfolding ending_of
ending_range s e = rw e refl

pub ending_waits : (s : ℕ) → s ≡ 1 → NoPick ≡ ending_of s
unfolding ending_of
ending_waits s e = rw e refl

pub ending_spent : (s : ℕ) → (s ≡ 3 → ⊥) → (s ≡ 4 → ⊥) → (s ≡ 1 → ⊥) → Spent ≡ ending_of s
unfolding ending_of
ending_spent s a b c = rw (ne_eqb s 3 a, ne_eqb s 4 b, ne_eqb s 1 c) refl
