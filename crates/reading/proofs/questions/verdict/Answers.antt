use Rattle.std.proofs.lemmas.Bool.Decides.{nat_tests}
use mathlib.Core.Path.{◌≡◌, refl, ◌∙◌}
use mathlib.Core.Bool.{false, ◌&&◌}
use Prim.Native.Nat.{ℕ, zero, suc, ◌≤◌, ◌<◌}
use native.Mathlib.Omega.{arith}
use lib.Dec.{leb}
use borrow.Author.Tests.{le-leb}
use Rattle.rules.specs.File.{first_refusal}
use Rattle.reading.specs.Asking.{Sizes, sizes_of, decided, finished, end_question}
use Rattle.reading.proofs.questions.verdict.Goals as goal
use Rattle.reading.proofs.questions.verdict.Goals.{then-c-via-then-c, then-c-via-else-c+then-c-gt0}
use Rattle.reading.proofs.questions.verdict.Goals.{else-c-le-DEEPEST-via-then-c-le-DEEPEST+else-c-le-MOST_OPERATORS, else-c-le-DEEPEST-via-else-c-le-DEEPEST}

open-one : (d : ℕ) (a : Sizes) → 0 < d → 3 ≡ finished d a
unfolding finished
open-one zero a h = absurd (omega arith)
open-one (suc d) a h = refl

open_none : (d : ℕ) (a : Sizes) → d ≤ 0 → decided a ≡ finished d a
unfolding finished
open_none zero a h = refl
open_none (suc d) a h = absurd (omega arith)

big_false : (d o : ℕ) → (d ≤ 8 → o ≤ 15 → ⊥) → leb d 8 && leb o 15 ≡ false
big_false d o h = grind (arith, nat_tests)

pub returns-then-c : goal.returns-then-c
unfolding end_question
returns-then-c c =
    elim c.then-c.branch [
      | then-c-via-then-c w ↦ rw w.if-c.true
      | then-c-via-else-c+then-c-gt0 w ↦ rw w.if-c.false (open-one _ _ w.if-c-gt0.true)
    ]

pub returns-then-c-le-MOST_OPERATORS : goal.returns-then-c-le-MOST_OPERATORS
unfolding end_question decided first_refusal
returns-then-c-le-MOST_OPERATORS c =
    let d : c.args.c.deep ≤ 8 = omega (arith, c.if-c-le-DEEPEST.true) in
    let o : c.args.c.ops ≤ 15 = omega (arith, c.if-c-le-MOST_OPERATORS.true) in
    rw c.if-c.false (rw (le-leb _ _ d, le-leb _ _ o) at (open_none _ (sizes_of c.args.c) c.if-c-gt0.false))

pub returns : goal.returns
unfolding end_question decided
returns c =
    let a = c.args.c in
    let out : a.deep ≤ 8 → a.ops ≤ 15 → ⊥ =
    elim c.else-c-le-DEEPEST.branch [
      | else-c-le-DEEPEST-via-then-c-le-DEEPEST+else-c-le-MOST_OPERATORS w ↦ λ d o. absurd (omega (arith, o, w.if-c-le-MOST_OPERATORS.false))
      | else-c-le-DEEPEST-via-else-c-le-DEEPEST w ↦ λ d o. absurd (omega (arith, d, w.if-c-le-DEEPEST.false))
    ]
    in
    let big : leb a.deep 8 && leb a.ops 15 ≡ false = big_false _ _ out in
    rw c.if-c.false (c.first_refusal.ensures ∙ (rw big at (open_none a.depth (sizes_of a) c.if-c-gt0.false)))
