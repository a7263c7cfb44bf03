-- The numbers of refusals, and what follows from them.
use mathlib.Core.Path.{◌≡◌, refl, sym, ◌∙◌, ap, subst}
use mathlib.Core.Bool.{Bool, true, false, cond}
use mathlib.Core.List.{List, [], ◌∷◌, map, flat_map}
use Prim.Native.Nat.{ℕ, suc, ◌≤◌}
use native.Mathlib.Omega.{arith}
use lib.Dec.{T, leb, leb→le, le→leb}
use lib.ListN.{length}
use Rattle.ints.proofs.Diffs.{cond_true}
use Rattle.rules.specs.Text.{split, lf}
use Rattle.rules.specs.File
use Rattle.rules.specs.Scripts.{All, none, some, Script, start_env, tree_of}
use Rattle.rules.specs.Figures.{Prices}
use Rattle.rules.specs.Questions.{Verdict, passed, refused, asked}
use Rattle.rules.specs.FirstOver.{BlockTicks, script_blocks, PlaceOf13}
use Rattle.rules.specs.Stepping.{loops_in}
use Rattle.rules.specs.Calls.{Judged, accepted, refuses, judged_by, judged_file, judged_priced, judged, prices_verdict, Priced, prices_of, scratch_size, reply_of, buffer_of, run_reply, store_after, SameFromAnyScratch}
use Rattle.rules.specs.ScriptText.{ReadExactly}
use Rattle.rules.specs.Order
use Rattle.rules.specs.Order.{Question, ask, first_no, line_order, has_yes, lines_questions, JudgedInOrder}
use Rattle.rules.proofs.Accepted.{refused_not}
use Rattle.rules.proofs.PlaceOf13.{place_of_13}
use Rattle.rules.proofs.ReadLegal.{read_legal}
use Rattle.rules.proofs.TextOfScripts.{read_exactly}
use Rattle.rules.proofs.Demand3File.{same_from_any_scratch}
use Rattle.rules.proofs.Good.{all_append}
use Rattle.rules.proofs.Yes.{loops_yes, yes_loops}
use Rattle.rules.proofs.AcceptedExactly.{all_words, all_yes}
use Rattle.rules.proofs.Order.{said, lines_order, prices_order, judged_in_order}
use Rattle.rules.specs.Refusals.{is_reading, is_refusal, RefusalNumbers, Over13, PlaceOf13File, SameCallsFromAnyScratch}

same_refused : {q p r t : ℕ} → Verdict.refused q p ≡ refused r t → q ≡ r
same_refused e = cc

-- the number of a first no is that of one of the questions
first_number_lem : (Q : ℕ → Type 0) {qs : List Question} → All (λ x. Q x.number) qs → {q p : ℕ} → first_no qs ≡ refused q p → Q q
unfolding first_no asked
first_number_lem Q none {q} {p} e = refused_not q p (sym e)
first_number_lem Q (some {x = x} {l = l} h t) {q} {p} e = by x.yes e (λ e. first_number_lem Q t e)
  where
    by : (b : Bool) → asked x.number x.place b (first_no l) ≡ refused q p → (first_no l ≡ refused q p → Q q) → Q q
    by true e ih = ih e
    by false e ih = subst Q (same_refused e) h

all_map : {A : Type 0} {Q : Question → Type 0} (f : A → Question) {l : List A} → All (λ x. Q (f x)) l → All Q (map f l)
all_map f none = none
all_map f (some h t) = some h (all_map f t)

-- ---- 2 to 7 and 17
lines_number : (Q : ℕ → Type 0) → All Q line_order → (lines : List (List ℕ)) (p : ℕ) → All (λ x. Q x.number) (lines_questions p lines)
unfolding lines_questions Order.line_questions
lines_number Q h [] p = none
lines_number Q h (noes ∷ lines) p = all_append (all_map (λ q. ask q p (has_yes q noes)) h) (lines_number Q h lines (suc p))

file_number : (file : List ℕ) {q p : ℕ} → File.file_script file ≡ File.refused q p → T (is_reading q)
unfolding File.file_script
file_number file {q} {p} e = by (leb (length file) 16_384) e
  where
    by : (b : Bool) → cond b (File.lines_script (split lf file)) (File.refused 2 16_384) ≡ File.refused q p → T (is_reading q)
    by true e =
        first_number_lem (λ z. T (is_reading z)) (lines_number (λ z. T (is_reading z)) (some tt (some tt (some tt (some tt (some tt (some tt none)))))) (Order.file_noes (split lf file)) 1)
        (lines_order (split lf file) ∙ ap said e)
    by false e = subst (λ z. T (is_reading z)) (same_refused (ap said e)) tt

-- ---- all
abbrev Numbered : List Question → Type 0
Numbered qs = All (λ x. T (is_refusal x.number)) qs

each_number : {A : Type 0} (f : A → List Question) → ((x : A) → Numbered (f x)) → (l : List A) → Numbered (flat_map f l)
unfolding flat_map
each_number f h [] = none
each_number f h (x ∷ l) = all_append (h x) (each_number f h l)

blocks_number : (bs : List BlockTicks) → Numbered (map Order.block_question bs)
blocks_number [] = none
blocks_number (b ∷ bs) = some tt (blocks_number bs)

read_number : (π : Prices) (r : File.Reading Script) → Numbered (Order.read_questions π r)
unfolding Order.script_questions Order.trip_questions
read_number π (File.read s ls) =
    all_append (each_number Order.loop_questions (λ l. some tt (some tt (some tt (some tt (some tt (some tt none)))))) (loops_in (start_env s.ranges) (tree_of s.rows)))
    (all_append (blocks_number (script_blocks π s)) (some tt none))
read_number π (File.refused q p) = none

questions_number : (prices : List ℕ) (scratch : ℕ) (file : List ℕ) → Numbered (Order.questions prices scratch file)
unfolding Order.questions Order.price_questions Order.file_questions
questions_number prices scratch file =
    some tt (some tt (some tt (some tt (some tt (some tt (some tt
    (all_append (lines_number (λ z. T (is_refusal z)) (some tt (some tt (some tt (some tt (some tt (some tt none)))))) (Order.file_noes (split lf file)) 1)
    (read_number (prices_of prices) (File.lines_script (split lf file))))))))))

pub refusal_numbers : RefusalNumbers
unfolding RefusalNumbers JudgedInOrder
refusal_numbers prices scratch file q p e = first_number_lem (λ z. T (is_refusal z)) (questions_number prices scratch file) ((judged_in_order prices scratch file q p).0 e)

-- ---- the place of 13
same_refusal : (q p r t : ℕ) → Judged.refuses q p ≡ refuses r t → (q ≡ r) × (p ≡ t)
same_refusal q p r t e = (cc, cc)

not_accepted : {A : Type 0} (s : Script) (q p : ℕ) → accepted s ≡ refuses q p → A
not_accepted s q p e = absurd (let z : ◌≡◌ {A = ℕ} 0 1 = cc in omega arith)

script_over : (s : Script) (v : Verdict) (p : ℕ) → judged_by s v ≡ refuses 13 p → v ≡ refused 13 p
unfolding judged_by
script_over s passed p e = not_accepted s 13 p e
script_over s (refused q r) p e = let (a, b) = same_refusal q r 13 p e in ap (λ z. refused z r) a ∙ ap (refused 13) b

module _ (prices : List ℕ) (scratch : ℕ) (file : List ℕ) (p : ℕ) where
  over_file : (r : File.Reading Script) → File.file_script file ≡ r → scratch_size ≤ scratch → Priced prices → judged_file (prices_of prices) r ≡ refuses 13 p
      → (script : Script) × Over13 prices scratch file p script
  unfolding judged_file PlaceOf13 ReadExactly
  over_file (File.read s ls) f room priced e =
      let (passes, place) = (place_of_13 (prices_of prices) s (read_legal file s ls f) p).0 (script_over s _ p e) in
      (s, record { room = room; priced = priced; reads = (read_exactly file s).0 (ls, f); loops = all_words (loops_yes (tree_of s.rows) (start_env s.ranges) passes); place = place })
  over_file (File.refused q r) f room priced e = absurd (subst (λ z. T (is_reading z)) (same_refusal q r 13 p e).0 (file_number file f))

  over_priced : (v : Verdict) → prices_verdict 4 0 prices ≡ v → scratch_size ≤ scratch → judged_priced prices v file ≡ refuses 13 p → (script : Script) × Over13 prices scratch file p script
  unfolding judged_priced Order.price_questions
  over_priced passed f room e = over_file (File.file_script file) refl room f e
  over_priced (refused q r) f room e =
      let n = first_number_lem (λ z. z ≡ 16) (some refl (some refl (some refl (some refl (some refl none))))) (prices_order prices ∙ f) in
      absurd (omega (arith, (same_refusal q r 13 p e).0))

  over_judged : judged prices scratch file ≡ refuses 13 p → (script : Script) × Over13 prices scratch file p script
  unfolding judged
  over_judged e = by (leb scratch_size scratch) (leb→le scratch_size scratch) e
    where
      by : (b : Bool) → (T b → scratch_size ≤ scratch) → cond b (judged_priced prices (prices_verdict 4 0 prices) file) (refuses 1 scratch_size) ≡ refuses 13 p → (script : Script) × Over13 prices scratch file p script
      by true f e = over_priced (prices_verdict 4 0 prices) refl (f tt) e
      by false f e = absurd (omega (arith, (same_refusal 1 scratch_size 13 p e).0))

  judged_over : (script : Script) → Over13 prices scratch file p script → judged prices scratch file ≡ refuses 13 p
  unfolding judged judged_priced judged_file judged_by PlaceOf13 ReadExactly
  judged_over script o =
      let (ls, q) = (read_exactly file script).1 o.reads in
      let v = (place_of_13 (prices_of prices) script (read_legal file script ls q) p).1 (yes_loops (tree_of script.rows) (start_env script.ranges) (all_yes o.loops), o.place) in
      cond_true (leb scratch_size scratch) _ _ (le→leb scratch_size scratch o.room)
      ∙ ap (λ z. judged_priced prices z file) o.priced ∙ ap (judged_file (prices_of prices)) q ∙ ap (judged_by script) v

pub place_of_13_file : PlaceOf13File
unfolding PlaceOf13File
place_of_13_file prices scratch file p = (over_judged prices scratch file p, λ (script, o). judged_over prices scratch file p script o)

-- ---- one reply from every scratch
pub same_calls : SameCallsFromAnyScratch
unfolding SameCallsFromAnyScratch SameFromAnyScratch
same_calls prices file a b h k =
    let e = same_from_any_scratch prices a b file h k in
    record {
      reply = λ room. ap (λ j. reply_of prices j room) e;
      buffer = λ old. ap (λ j. buffer_of prices j old) e;
      run = λ store picks allowance. ap (λ j. run_reply prices j store picks allowance) e;
      store = λ store picks allowance. ap (λ j. store_after (run_reply prices j store picks allowance) store) e;
    }
