-- "A file is accepted there if each question that a run asks before 15 has yes for an answer": one field a question, every loop's kind by its terms.
use Rattle.std.specs.Prelude.{◌≡◌, ◌↔◌, Bool, List, ℕ, ◌≤◌, ◌<◌, ℤ, length, get_or}
use Rattle.rules.specs.declared.Comparison.{Comparison}
use Rattle.rules.specs.FirstOver.{script_blocks}
use Rattle.rules.specs.Scripts.{All, Script, start_env, tree_of, report_ticks}
use Rattle.rules.specs.ScriptText.{ReadYes}
use Rattle.rules.specs.Calls.{accepted, judged, prices_of}
use Rattle.rules.specs.Stepping.{LoopAt, loops_in}
use Rattle.rules.specs.LoopKinds.{NotHold, CopyTerms, ChaseTerms, HoldTerms}
use Rattle.rules.specs.Yes.{OwnYes, CopiedYes, ChasedYes, Affordable}

-- 19 and 8 to 12 of a loop: a hold keeps its terms; a loop of change 1 or 5 has yes for what it is asked; and so has every other, of a base kind
pub data Answered (l : LoopAt) : Type 0 where
  by_hold : {w : ℕ} {c : Comparison} {k : ℤ} {ahead : Bool} → HoldTerms l.form l.test l.body w c k ahead → Answered l
  by_copy : {w : ℕ} {ahead : Bool} → CopyTerms l.form l.test l.body w ahead → CopiedYes l.test l.body w → Answered l
  by_chase : {w : ℕ} → ChaseTerms l.form l.test l.body w → ChasedYes l.test l.body w → Answered l
  by_own : NotHold l.form → ((w : ℕ) (ahead : Bool) → CopyTerms l.form l.test l.body w ahead → ⊥) → ((w : ℕ) → ChaseTerms l.form l.test l.body w → ⊥)
      → OwnYes l.form l.start l.test l.body → Answered l

-- each question before 14 and 15 has yes
pub record EachYes (prices : List ℕ) (scratch : ℕ) (file : List ℕ) (script : Script) : Type 0 where
  -- 1
  pub room : 1_024 ≤ scratch
  -- 16: "four prices, 1 to 1,000 each"
  pub four : length prices ≡ 4
  pub priced : (i : ℕ) → i < 4 → (1 ≤ get_or prices i 0) × (get_or prices i 0 ≤ 1_000)
  -- 2 to 7 and 17, one by one
  pub reads : ReadYes file script
  -- 19 and 8 to 12 of every loop, in row order
  pub loops : All Answered (loops_in (start_env script.ranges) (tree_of script.rows))
  -- 13: "every block's tick figure, and the file's"
  pub blocks : All (λ b. Affordable b.ticks) (script_blocks (prices_of prices) script)
  pub whole : Affordable (report_ticks (prices_of prices) script)

-- a file is accepted exactly when each question has yes
unfoldable pub AcceptedExactly : Type 0
AcceptedExactly = (prices : List ℕ) (scratch : ℕ) (file : List ℕ) (script : Script) → (judged prices scratch file ≡ accepted script) ↔ EachYes prices scratch file script
