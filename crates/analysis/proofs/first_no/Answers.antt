-- `analysis::first_no` meets its contract.
use mathlib.Core.Path.{◌≡◌, refl}
use Prim.Native.Nat.{ℕ}
use Rattle.std.proofs.Common.{Option, Some, None}
use Rattle.analysis.specs.Whole.{of_block, of_file, none}
use Rattle.analysis.proofs.first_no.Goals as goal

none_of : (o : Option ℕ) → ((p : ℕ) → o ≡ Some p → ⊥) → o ≡ None
none_of (Some p) f = absurd (f p refl)
none_of None f = refl

pub returns-in-Some : goal.returns-in-Some
returns-in-Some c = of_block _ c.in-Some.is refl

pub returns-then-t-gt-LIMIT : goal.returns-then-t-gt-LIMIT
returns-then-t-gt-LIMIT c = of_file (none_of _ c.in_default.not-Some) c.if-t-gt-LIMIT.true refl

pub returns : goal.returns
returns c = none (none_of _ c.in_default.not-Some) c.if-t-gt-LIMIT.false refl
