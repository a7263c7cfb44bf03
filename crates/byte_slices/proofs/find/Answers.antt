-- A byte of the part from `from` on is the byte of the whole slice that many further on.
use Rattle.std.proofs.Common.{rules, arith, ◌≡◌, ℕ, ◌<◌, ◌≤◌, ◌-◌, ◌+◌, length, drop, take, get_or, List}
use Rattle.std.proofs.lemmas.Grind.{common_steps}
use Rattle.byte_slices.proofs.find.Goals as goal

moved : (s : List ℕ) (from to b n : ℕ) → from ≤ to → to ≤ length s → n ≤ to - from → ((k : ℕ) → k < n → get_or (take (to - from) (drop from s)) k 0 ≡ b → ⊥) → (k : ℕ) → from ≤ k → k < from + n → get_or s k 0 ≡ b → ⊥
moved s from to b n h i m none k lo hi e =
    none (k - from) (omega arith) (grind (arith, common_steps))

-- src/lib.rt:18:1
pub returns-in-Some-clause-before : goal.returns-in-Some-clause-before
returns-in-Some-clause-before c = moved c.args.s.now c.args.from c.args.to c.args.b c.in-Some.n c.requires.order c.requires.inside (search rules) (search rules)

-- src/lib.rt:18:1
pub returns-in-None-clause-before : goal.returns-in-None-clause-before
returns-in-None-clause-before c = λ k lo hi. moved c.args.s.now c.args.from c.args.to c.args.b (c.args.to - c.args.from) c.requires.order c.requires.inside (omega arith) (search rules) k lo (omega arith)
