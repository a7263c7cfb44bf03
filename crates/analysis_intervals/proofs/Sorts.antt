-- The sort of a test, from what code asks of its comparison.
use mathlib.Core.Path.{◌≡◌, refl, sym}
use mathlib.Core.Bool.{true, false, false≢true}
use Rattle.rules.specs.Ranges.{Sort, rising, falling, same, differ}
use Rattle.analysis_intervals.specs.Sorts.{is_rising, is_falling, is_differ}

pub is_rising_lem : (d : Sort) → is_rising d ≡ true → d ≡ rising
is_rising_lem rising h = refl
is_rising_lem falling h = absurd (false≢true h)
is_rising_lem same h = absurd (false≢true h)
is_rising_lem differ h = absurd (false≢true h)

pub is_falling_lem : (d : Sort) → is_falling d ≡ true → d ≡ falling
is_falling_lem rising h = absurd (false≢true h)
is_falling_lem falling h = refl
is_falling_lem same h = absurd (false≢true h)
is_falling_lem differ h = absurd (false≢true h)

pub is_differ_lem : (d : Sort) → is_differ d ≡ true → d ≡ differ
is_differ_lem rising h = absurd (false≢true h)
is_differ_lem falling h = absurd (false≢true h)
is_differ_lem same h = absurd (false≢true h)
is_differ_lem differ h = refl

pub is_same : (d : Sort) → false ≡ is_rising d → false ≡ is_falling d → false ≡ is_differ d → d ≡ same
is_same rising h k l = absurd (false≢true h)
is_same falling h k l = absurd (false≢true k)
is_same same h k l = refl
is_same differ h k l = absurd (false≢true l)

-- == or !=
pub unordered : (P : Sort → Type 0) (d : Sort) → is_rising d ≡ false → is_falling d ≡ false → P same → P differ → P d
unordered P rising h k p q = absurd (false≢true (sym h))
unordered P falling h k p q = absurd (false≢true (sym k))
unordered P same h k p q = p
unordered P differ h k p q = q
