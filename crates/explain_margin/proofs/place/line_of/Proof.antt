-- `explain_margin::place::line_of` meets its contract. Assumes nothing.
use borrow.Author.Rules.{rules}
use native.Mathlib.Numerals.{unary_clauses}
use native.Mathlib.Omega.{arith}
use mathlib.Core.Path.{◌≡◌, refl, sym, ap, ◌∙◌}
use Prim.Native.Nat.{suc, ◌+◌, ◌-◌, ◌≤◌, ◌<◌}
use lib.ListN.{length, drop}
use Rattle.rules.specs.Text.{lf, split}
use Rattle.reading.specs.Words.{before}
use Rattle.reading.proofs.TextLaws.{part_rest}
use Rattle.explain_margin.specs.Places.{line_from}
use Rattle.explain_margin.proofs.Laws.{line_inside, line_last, line_next, line_here}
use Rattle.explain_margin.proofs.place.line_of.Statement.{statement}
use Rattle.explain_margin.proofs.place.line_of.Tie as tie

abbrev invariant-loop-i : tie.invariant-loop-i
invariant-loop-i file k at₀ i₀ at i = (i ≤ k) × (at ≤ length file) × (line_from 0 (split lf file) k ≡ line_from at (split lf (drop at file)) (k - i))

abbrev decreases-loop-i : tie.decreases-loop-i
decreases-loop-i file k at₀ i₀ at i = k - i

loop_holds : tie.Need-loop-i-init invariant-loop-i decreases-loop-i
loop_holds c = (omega arith, omega arith, simp unary_clauses refl)

add-end : tie.Need-overflow_add-end invariant-loop-i decreases-loop-i
add-end c =
    let file = c.args.file.now in
    let l = c.loop-i in
    let p : c.position.result ≡ before lf (drop l.at file) = c.position.ensures ∙ ap (before lf) (part_rest file l.at) in
    record { fits = omega (arith, p, line_inside file l.at l.invariant.1) }

returns : tie.Need-returns-then-end-file invariant-loop-i decreases-loop-i
returns c =
    let file = c.args.file.now in
    let k = c.args.k in
    let l = c.loop-i in
    let p : c.position.result ≡ before lf (drop l.at file) = c.position.ensures ∙ ap (before lf) (part_rest file l.at) in
    let n : k - l.i ≡ suc (k - (l.i + 1)) = omega (arith, c.loop-i-test.true) in
    (sym (l.invariant.2 ∙ ap (line_from l.at _) n ∙ line_last file l.at (omega (arith, p, c.if-end-file.true)) _), tt)

add_at : tie.Need-overflow_add-at invariant-loop-i decreases-loop-i
add_at c =
    let file = c.args.file.now in
    let l = c.loop-i in
    let p : c.position.result ≡ before lf (drop l.at file) = c.position.ensures ∙ ap (before lf) (part_rest file l.at) in
    record { fits = omega (arith, p, c.if-end-file.false, line_inside file l.at l.invariant.1) }

loop_again : tie.Need-loop-i-preserved invariant-loop-i decreases-loop-i
loop_again c =
    let file = c.args.file.now in
    let k = c.args.k in
    let l = c.loop-i in
    let p : c.position.result ≡ before lf (drop l.at file) = c.position.ensures ∙ ap (before lf) (part_rest file l.at) in
    let inside : l.at + before lf (drop l.at file) < length file = omega (arith, p, c.if-end-file.false, line_inside file l.at l.invariant.1) in
    let n : k - l.i ≡ suc (k - (l.i + 1)) = omega (arith, c.loop-i-test.true) in
    (omega (arith, c.loop-i-test.true), omega (arith, p), rw p (l.invariant.2 ∙ ap (line_from l.at _) n ∙ line_next file l.at inside _))

add-end-2 : tie.Need-overflow_add-end-2 invariant-loop-i decreases-loop-i
add-end-2 c =
    let file = c.args.file.now in
    let l = c.loop-i in
    let p : c.position-2.result ≡ before lf (drop l.at file) = c.position-2.ensures ∙ ap (before lf) (part_rest file l.at) in
    record { fits = omega (arith, p, line_inside file l.at l.invariant.1) }

returns_2 : tie.Need-returns invariant-loop-i decreases-loop-i
returns_2 c =
    let file = c.args.file.now in
    let l = c.loop-i in
    let p : c.position-2.result ≡ before lf (drop l.at file) = c.position-2.ensures ∙ ap (before lf) (part_rest file l.at) in
    let n : c.args.k - l.i ≡ 0 = omega (arith, c.loop-i-test.false) in
    (rw p (sym (l.invariant.2 ∙ ap (line_from l.at _) n ∙ line_here file l.at)), (omega arith, omega (arith, p, line_inside file l.at l.invariant.1)))

pub line_of_spec : {M : Type 1} → statement M
line_of_spec = tie.close (tie.spec invariant-loop-i decreases-loop-i loop_holds (λ c. search rules) (λ c. search rules) (λ c. search rules) (λ c κs. search rules) add-end returns add_at (λ c. search rules) (λ c. search rules) loop_again (λ c. search rules) (λ c. search rules) (λ c. search rules) (λ c κs. search rules) add-end-2 returns_2)
