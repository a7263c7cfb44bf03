-- The error that a `?` passes on, where both sides have errors of one type. Assumes nothing.
use mathlib.Core.Path.{◌≡◌, ap}
use Rattle.std.specs.Prelude.{Result, Ok, Err, IsErr, IsErrAnd}

pub passed_on : {A B : Type 0} (r : Result A B) (e : B) → IsErr r × IsErrAnd r (λ y. y ≡ e) → r ≡ Err e
passed_on (Ok x) e h = absurd h.1
passed_on (Err y) e h = ap Err h.1
