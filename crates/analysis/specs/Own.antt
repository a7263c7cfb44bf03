-- Each block's own tick figure, at its head row, and at a loop's end row the variables that are not known before it.
use Rattle.std.specs.Prelude.{◌≡◌, List, ℕ, set}
use Rattle.rules.specs.Blocks.{Block, done, plain, pick, loop}
use Rattle.rules.specs.Ranges.{Env, after_row, join, at_start}
use Rattle.rules.specs.Trips.{inside, outside, after}
use Rattle.rules.specs.declared.Prices.{Prices}
use Rattle.rules.specs.Verdicts.{passed}
use Rattle.rules.specs.Passes.{any}
use Rattle.rules.specs.Figures.{ticks}
use Rattle.rules.specs.Questions.{loops_verdict}
use Rattle.rules.specs.Scripts.{Script, start_env, tree_of}
use Rattle.analysis_ticks.specs.Capped.{capped}
use Rattle.analysis.specs.Known.{not_known}

-- own with the ticks of each block of b, alone, at its head row, stopped just past the limit, and with the variables that are not known before a loop at its end row; ρ the ranges
-- before b. A row past the end of own is left out
unfoldable pub put_own : Prices → Env → Block → List ℕ → List ℕ
put_own π ρ done own = own
put_own π ρ (plain i p rest) own = put_own π (after_row ρ p) rest own
put_own π ρ (pick i e a b rest) own = put_own π (join (after ρ a) (after ρ b)) rest (set (put_own π ρ b (put_own π ρ a own)) i (capped (ticks π any ρ (pick i e a b done))))
put_own π ρ (loop i e form test body rest) own =
    put_own π (outside form (at_start form test ρ) test body) rest
    (set (set (put_own π (inside form (at_start form test ρ) test body) body own) i (capped (ticks π any ρ (loop i e form test body done)))) e (not_known 16 ρ))

-- the questions 19 and 8 to 12 of a script have yes
abbrev pub LoopsPass : Script → Type 0
LoopsPass script = loops_verdict (start_env script.ranges) (tree_of script.rows) ≡ passed

-- of such a script: those of all its blocks
abbrev pub OwnPut : Prices → Script → List ℕ → List ℕ → Type 0
OwnPut π script own own' = LoopsPass script → own' ≡ put_own π (start_env script.ranges) (tree_of script.rows) own
