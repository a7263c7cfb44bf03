-- What the figures ask of their numbers.
use Rattle.std.specs.Prelude.{◌≡◌, Bool, cond, ◌&&◌, ◌≤◌, ℤ, pos, negsuc, ◌+ℤ◌, ◌*ℤ◌, ◌≤ℤ◌}
use Rattle.std.specs.Int.Signed.{le_z}
use Rattle.ints.specs.Ints.{eq_z}
use Rattle.rules_steps.specs.declared.Step.{Step}
use Rattle.rules_steps.specs.Ends.{Near}
use Rattle.rules.specs.Ranges.{Range, Sort, rising, falling, same, differ, single}
use Rattle.rules.specs.Turns.{apart}
use Rattle.analysis_intervals.specs.declared.comparisons.WideInterval.{WideInterval}

-- its ends are within 1,024 times L
pub record NearEnds (w : WideInterval) : Type 0 where
  pub low : Near 1024 w.lo
  pub high : Near 1024 w.hi

-- how large what the first test sees is
abbrev pub FirstTested : Step → WideInterval → Type 0
FirstTested (Step.Add a b) r = NearEnds r
FirstTested (Step.Grow f g) r = Unit {0}
FirstTested (Step.Shrink f g) r = Near 5 r.hi
FirstTested Step.Unknown r = Unit {0}

-- what the figure of a step and a sort of test asks: the answers to questions 8 to 12
abbrev pub Countable : Step → Sort → WideInterval → WideInterval → ℤ → Type 0
Countable (Step.Add a b) rising s n e = NearEnds s × Near 1024 e × Near 1024 a × (pos 1 ≤ℤ a)
Countable (Step.Add a b) falling s n e = NearEnds s × Near 1024 e × Near 1024 b × (b ≤ℤ negsuc 0)
Countable (Step.Add a b) same s n e = Unit {0}
Countable (Step.Add a b) differ s n e = Near 1024 a × (a ≡ pos 0 → ⊥) × NearEnds s × NearEnds n
Countable (Step.Grow f g) d s n e = (pos 1 ≤ℤ s.lo) × Near 5 e × (2 ≤ f) × (f ≤ 2_000_000_001)
Countable (Step.Shrink f g) d s n e = (pos 1 ≤ℤ e) × Near 5 s.hi × (2 ≤ f) × (f ≤ 2_000_000_001)
Countable Step.Unknown d s n e = Unit {0}

-- the terms of the figure under !=
unfoldable pub meeting : ℤ → Range → Range → Bool
meeting a r n =
    cond (eq_z a (pos 1)) (le_z r.hi n.lo) (cond (eq_z a (negsuc 0)) (le_z n.hi r.lo)
    (single r && (single n && eq_z (r.lo +ℤ a *ℤ pos (apart a r n)) n.lo)))
