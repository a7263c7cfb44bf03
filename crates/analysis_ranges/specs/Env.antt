-- Ranges that are put together one variable after the other.
use Rattle.std.specs.Prelude.{Bool, cond, ℕ, ltb, eqb}
use Rattle.rules.specs.Ranges.{Range, Env, full}

-- σ for the first i variables, ρ for the others
unfoldable pub env_up_to : ℕ → Env → Env → Env
env_up_to i σ ρ w = cond (ltb w i) (σ w) (ρ w)

-- one range for the tested variable, all for what a loop's body assigns, else as before
unfoldable pub widened_env : (ℕ → Bool) → Range → ℕ → Env → Env
widened_env set mine v ρ w = cond (eqb w v) mine (cond (set w) full (ρ w))
