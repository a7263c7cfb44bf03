-- A block has a line for each of its loops.
use mathlib.Core.Path.{◌≡◌, refl}
use mathlib.Core.List.{◌++◌}
use mathlib.Core.Bool.{◌||◌}
use native.Mathlib.Omega.{arith}
use lib.ListN.{length, length-append}
use Rattle.rules.specs.Blocks.{Block, done, plain, pick, loop}
use Rattle.rules.specs.Steps.{sets, starts, assigns}
use Rattle.rules.specs.Ranges.{Env, after_row, join, at_start}
use Rattle.rules.specs.Trips.{inside, outside, after}
use Rattle.rules.specs.Passes.{Pass, any, later, start_pass, first_pass}
use Rattle.rules.specs.Figures as figures
use Rattle.rules.specs.Figures.{alike, often, in_body, lines}
use Rattle.analysis.specs.Fold.{loop_count}

pub lines_count : (b : Block) (r : figures.Round) (k : Pass) (ρ : Env) → length (lines r k ρ b) ≡ loop_count b
unfolding lines loop_count
lines_count done r k ρ = refl
lines_count (plain i p rest) r k ρ = lines_count rest r (later (λ w. sets w p) k) (after_row ρ p)
lines_count (pick i e a b rest) r k ρ =
    let R = alike (often r) in
    let K = later (λ w. assigns w a || assigns w b) k in
    let σ = join (after ρ a) (after ρ b) in
    omega (arith, length-append (lines R any ρ a) (lines R any ρ b ++ lines r K σ rest), length-append (lines R any ρ b) (lines r K σ rest), lines_count a R any ρ, lines_count b R any ρ, lines_count rest r K σ)
lines_count (loop i e form test body rest) r k ρ =
    let σ = at_start form test ρ in
    let R = in_body r (start_pass form test k) form σ test body in
    let K = later (λ w. starts w form test || assigns w body) k in
    omega (
      arith,
      length-append (lines R (first_pass form σ test body) (inside form σ test body) body) (lines r K (outside form σ test body) rest),
      lines_count body R (first_pass form σ test body) (inside form σ test body),
      lines_count rest r K (outside form σ test body),
    )
