-- A text that is put behind what is written.
use Rattle.std.specs.Prelude.{◌≡◌, List, ◌++◌, ℕ, ◌+◌, ◌≤◌, length}
use Rattle.report.specs.Pieces.{Wrote}

-- where `at` bytes of a text are written, this text more is
pub record Adds (more : List ℕ) (at : ℕ) (old new : List ℕ) (r : ℕ) : Type 0 where
  pub count : r ≡ at + length more
  pub long : length new ≡ length old
  pub wrote : (base text : List ℕ) → Wrote text base old at → length text + length more ≤ length base → Wrote (text ++ more) base new r
