-- A file is accepted exactly when each question has yes, every loop's kind by its terms.
use mathlib.Core.Path.{◌≡◌, refl, sym, ◌∙◌, ap, subst}
use mathlib.Core.List.{List}
use Prim.Native.Nat.{ℕ, ◌≤◌}
use native.Mathlib.Omega.{arith}
use lib.Dec.{leb, le→leb}
use lib.ListN.{length}
use Rattle.ints.proofs.Diffs.{cond_true}
use Rattle.rules.specs.ScriptText.{ReadExactly}
use Rattle.rules.specs.Trips.{Way, own, broken, copied, chase, watched, way_of}
use Rattle.rules.specs.Figures.{Prices}
use Rattle.rules.specs.Questions.{passed, loops_verdict, blocks_verdict, verdict}
use Rattle.rules.specs.Scripts.{All, Script, start_env, tree_of}
use Rattle.rules.specs.Calls.{accepted, judged, judged_priced, judged_file, judged_by, prices_of, prices_verdict, scratch_size}
use Rattle.rules.specs.File
use Rattle.rules.specs.Stepping.{LoopAt}
use Rattle.rules.specs.LoopKinds.{KindsExact}
use Rattle.rules.specs.AcceptedExactly.{Answered, by_hold, by_copy, by_chase, by_own, EachYes, AcceptedExactly}
use Rattle.rules.proofs.PlaceOf13.{blocks_listed}
use Rattle.rules.proofs.TextOfScripts.{read_exactly}
use Rattle.rules.proofs.Demand3File.{file_accepted, prices_pass}
use Rattle.rules.proofs.Good.{all_map}
use Rattle.rules.proofs.Accepted.{then_yes}
use Rattle.rules.proofs.Yes.{YesBy, LoopYes, then_on, loops_yes, yes_loops, within_yes, yes_within, listed_yes, yes_listed, prices_fine}
use Rattle.rules.proofs.LoopKinds.{kinds_exact, own_not_hold, broken_hold, never_both}

module _ (l : LoopAt) where
  to_words : (way : Way) → way_of l.form l.test l.body ≡ way → YesBy way l.form l.start l.test l.body → Answered l
  unfolding KindsExact
  to_words own e y = by_own (own_not_hold l.form l.test l.body e)
      (λ w ahead c. let f = ((kinds_exact l.form l.test l.body w).0 ahead).1 c in absurd (let z : ◌≡◌ {A = ℕ} 0 1 = cc in omega arith))
      (λ w c. let f = (kinds_exact l.form l.test l.body w).1.1 c in absurd (let z : ◌≡◌ {A = ℕ} 0 1 = cc in omega arith)) y
  to_words (copied w ahead) e y = by_copy (((kinds_exact l.form l.test l.body w).0 ahead).0 e) y
  to_words (chase w) e y = by_chase ((kinds_exact l.form l.test l.body w).1.0 e) y
  to_words (watched w c k ahead) e y = by_hold (((kinds_exact l.form l.test l.body w).2 c k ahead).0 e)
  to_words broken e y = absurd y

  abbrev Yes : Way → Type 0
  Yes way = YesBy way l.form l.start l.test l.body

  from_words : Answered l → Yes (way_of l.form l.test l.body)
  unfolding KindsExact
  from_words (by_hold {w = w} {c = c} {k = k} {ahead = ahead} t) = subst Yes (sym (((kinds_exact l.form l.test l.body w).2 c k ahead).1 t)) tt
  from_words (by_copy {w = w} {ahead = ahead} t y) = subst Yes (sym (((kinds_exact l.form l.test l.body w).0 ahead).1 t)) y
  from_words (by_chase {w = w} t y) = subst Yes (sym ((kinds_exact l.form l.test l.body w).1.1 t)) y
  from_words (by_own n f g y) = by (way_of l.form l.test l.body) refl
    where
      by : (way : Way) → way_of l.form l.test l.body ≡ way → Yes way
      by own e = y
      by (copied w ahead) e = absurd (f w ahead (((kinds_exact l.form l.test l.body w).0 ahead).0 e))
      by (chase w) e = absurd (g w ((kinds_exact l.form l.test l.body w).1.0 e))
      by (watched w c k ahead) e = never_both l.form n (((kinds_exact l.form l.test l.body w).2 c k ahead).0 e).kind
      by broken e = never_both l.form n (broken_hold l.form l.test l.body e)

pub all_words : {ls : List LoopAt} → All LoopYes ls → All Answered ls
all_words h = all_map (λ l y. to_words l (way_of l.form l.test l.body) refl y) h

pub all_yes : {ls : List LoopAt} → All Answered ls → All LoopYes ls
all_yes h = all_map from_words h

-- ---- all questions
judged_by_lem : (prices : List ℕ) (scratch : ℕ) (file : List ℕ) (script : Script) (ls : List (List ℕ)) → scratch_size ≤ scratch → prices_verdict 4 0 prices ≡ passed
    → File.file_script file ≡ File.read script ls → verdict (prices_of prices) (length script.rows) (start_env script.ranges) (tree_of script.rows) ≡ passed
    → judged prices scratch file ≡ accepted script
unfolding judged judged_priced judged_file judged_by
judged_by_lem prices scratch file script ls r p q v =
    cond_true (leb scratch_size scratch) _ _ (le→leb scratch_size scratch r)
    ∙ ap (λ z. judged_priced prices z file) p ∙ ap (judged_file (prices_of prices)) q ∙ ap (judged_by script) v

pub accepted_exactly : AcceptedExactly
unfolding AcceptedExactly ReadExactly verdict
accepted_exactly prices scratch file script = (forth, back)
  where
    π : Prices
    π = prices_of prices

    forth : judged prices scratch file ≡ accepted script → EachYes prices scratch file script
    forth e =
        let f = file_accepted prices scratch file script e in
        let (u, v) = then_yes (loops_verdict (start_env script.ranges) (tree_of script.rows)) _ f.script_accepted.loops in
        let (x, y) = then_yes (blocks_verdict π (start_env script.ranges) (tree_of script.rows)) _ v in
        let (four, each) = prices_pass 4 0 prices f.priced in
        record {
          room = f.room;
          four = four;
          priced = each;
          reads = (read_exactly file script).0 f.lines;
          loops = all_words (loops_yes (tree_of script.rows) (start_env script.ranges) u);
          blocks = listed_yes _ (sym (blocks_listed π (tree_of script.rows) (start_env script.ranges)) ∙ x);
          whole = (within_yes _ _ _ y).0;
        }

    back : EachYes prices scratch file script → judged prices scratch file ≡ accepted script
    back y =
        let (ls, q) = (read_exactly file script).1 y.reads in
        let p = prices_fine 4 0 prices y.four y.priced in
        let v = then_on _ _ (yes_loops (tree_of script.rows) (start_env script.ranges) (all_yes y.loops))
        (then_on _ _ (blocks_listed π (tree_of script.rows) (start_env script.ranges) ∙ yes_listed _ y.blocks) (yes_within _ _ _ y.whole refl)) in
        judged_by_lem prices scratch file script ls y.room p q v
