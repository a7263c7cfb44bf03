-- The numbers of refusals; the place of 13 from a file's bytes; one reply from every scratch.
use Rattle.std.specs.Prelude.{◌≡◌, ◌⊎◌, ◌↔◌, Bool, ◌&&◌, ◌||◌, List, ℕ, ◌≤◌, T, leb, eqb, ℤ}
use Rattle.rules.specs.FirstOver.{script_blocks, FirstOver, WholeOver}
use Rattle.rules.specs.Scripts.{All, Script, start_env, tree_of}
use Rattle.rules.specs.ScriptText.{ReadYes}
use Rattle.rules.specs.Calls.{judged, refuses, Priced, prices_of, scratch_size, reply_of, buffer_of, run_reply, store_after}
use Rattle.rules.specs.Stepping.{loops_in}
use Rattle.rules.specs.AcceptedExactly.{Answered}

-- 2 to 7 and 17: asked of the file's bytes
abbrev pub is_reading : ℕ → Bool
is_reading q = leb 2 q && leb q 7 || eqb q 17

-- 1 to 13, 16, 17 and 19
abbrev pub is_refusal : ℕ → Bool
is_refusal q = leb 1 q && leb q 13 || eqb q 16 || eqb q 17 || eqb q 19

-- a file is refused by no other number
unfoldable pub RefusalNumbers : Type 0
RefusalNumbers = (prices : List ℕ) (scratch : ℕ) (file : List ℕ) (q p : ℕ) → judged prices scratch file ≡ refuses q p → T (is_refusal q)

-- every question before 13 has yes, and p is the first `end` row over the limit, or R where no block is over it
pub record Over13 (prices : List ℕ) (scratch : ℕ) (file : List ℕ) (p : ℕ) (script : Script) : Type 0 where
  pub room : scratch_size ≤ scratch
  pub priced : Priced prices
  pub reads : ReadYes file script
  pub loops : All Answered (loops_in (start_env script.ranges) (tree_of script.rows))
  pub place : FirstOver (script_blocks (prices_of prices) script) p ⊎ WholeOver (prices_of prices) script p

-- a file is refused by 13 at p exactly then
unfoldable pub PlaceOf13File : Type 0
PlaceOf13File =
    (prices : List ℕ) (scratch : ℕ) (file : List ℕ) (p : ℕ) → (judged prices scratch file ≡ refuses 13 p) ↔ ((script : Script) × Over13 prices scratch file p script)

-- "Every report and run must come out identical from 1,024 numbers": reply and buffer of a report, reply and store of a run
pub record SameCalls (prices : List ℕ) (file : List ℕ) (a b : ℕ) : Type 0 where
  pub reply : (room : ℕ) → reply_of prices (judged prices a file) room ≡ reply_of prices (judged prices b file) room
  pub buffer : (old : List ℕ) → buffer_of prices (judged prices a file) old ≡ buffer_of prices (judged prices b file) old
  pub run : (store : List ℤ) (picks : List ℕ) (allowance : ℕ)
      → run_reply prices (judged prices a file) store picks allowance ≡ run_reply prices (judged prices b file) store picks allowance
  pub store : (store : List ℤ) (picks : List ℕ) (allowance : ℕ)
      → store_after (run_reply prices (judged prices a file) store picks allowance) store ≡ store_after (run_reply prices (judged prices b file) store picks allowance) store

unfoldable pub SameCallsFromAnyScratch : Type 0
SameCallsFromAnyScratch = (prices file : List ℕ) (a b : ℕ) → scratch_size ≤ a → scratch_size ≤ b → SameCalls prices file a b
