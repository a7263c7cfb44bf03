-- The step times the turns fits.
use borrow.Author.Rules.{rules}
use mathlib.Core.Path.{◌≡◌, refl, sym, ap, ◌∙◌}
use mathlib.Core.Bool.{Bool, true, false, ◌&&◌}
use Prim.Native.Nat.{ℕ}
use lib.IntN.{ℤ, pos, negsuc, ◌+ℤ◌, ◌*ℤ◌}
use mir.Syntax.{w64}
use mir.Val.{SFits, of_z}
use mir.Facts.{to_z-of_z, sfits_lit}
use Rattle.ints.specs.Ints.{eq_z}
use Rattle.ints.proofs.Parts.{ints, eq_z_no, eq_test}
use Rattle.rules.specs.Ranges.{single}
use Rattle.rules.specs.Turns.{apart}
use Rattle.analysis_intervals.specs.declared.comparisons.WideInterval.{WideInterval}
use Rattle.analysis_intervals.specs.Wide.{wide_range}
use Rattle.analysis_turns.specs.Needs.{NearEnds, meeting}
use Rattle.analysis_turns.proofs.Answers.{apart_few}
use Rattle.analysis_turns.proofs.Products.{Product, product}
use Rattle.analysis_turns.proofs.figures.meets.Goals as goal

minus_one : SFits w64 (negsuc 0)
minus_one = omega ints

known : {a : ℤ} {r n : WideInterval} {k : ℕ} → SFits w64 a → (of_z w64 a ≡ of_z w64 (pos 1) → ⊥) → (of_z w64 a ≡ of_z w64 (negsuc 0) → ⊥) → NearEnds r → NearEnds n → k ≡ apart a (wide_range r) (wide_range n) → Product a r.lo k
known {a} {r} {n} f g h p q e = rw e (product a (wide_range r) (wide_range n) (eq_z_no a (pos 1) f (sfits_lit tt) g) (eq_z_no a (negsuc 0) f minus_one h) p.low q.low (apart_few a _ _ p.low p.high q.low q.high))

third : (a : ℤ) (r n : WideInterval) → eq_z a (pos 1) ≡ false → eq_z a (negsuc 0) ≡ false → (single (wide_range r) && single (wide_range n)) && eq_z (r.lo +ℤ a *ℤ pos (apart a (wide_range r) (wide_range n))) n.lo ≡ meeting a (wide_range r) (wide_range n)
unfolding meeting
third a r n e f = rw (e, f) (by (single (wide_range r)) (single (wide_range n)) _)
  where
    by : (p q s : Bool) → (p && q) && s ≡ p && (q && s)
    by true q s = refl
    by false q s = refl

pub overflow_cast-result : goal.overflow_cast-result
overflow_cast-result c =
    let e = rw (to_z-of_z c.ranges.a) at c.apart.ensures in
    (known c.ranges.a c.if-a-eq1.false c.if-a-eqminus1.false c.requires.2 c.requires.3 e).k64

pub overflow_mul-result : goal.overflow_mul-result
overflow_mul-result c =
    let e = rw (to_z-of_z c.ranges.a) at c.apart.ensures in
    let k = known c.ranges.a c.if-a-eq1.false c.if-a-eqminus1.false c.requires.2 c.requires.3 e in
    simp (to_z-of_z c.ranges.a, to_z-of_z k.k64) k.product

pub overflow_add-result : goal.overflow_add-result
overflow_add-result c =
    let e = rw (to_z-of_z c.ranges.a) at c.apart.ensures in
    let k = known c.ranges.a c.if-a-eq1.false c.if-a-eqminus1.false c.requires.2 c.requires.3 e in
    let f : SFits w64 c.args.r.lo = search rules in
    simp (to_z-of_z f, to_z-of_z c.ranges.a, to_z-of_z k.k64, to_z-of_z k.product) k.sum

pub returns-then-are_single : goal.returns-then-are_single
returns-then-are_single c =
    let a = c.args in
    let e1 = eq_z_no a.a (pos 1) c.ranges.a (sfits_lit tt) c.if-a-eq1.false in
    let e2 = eq_z_no a.a (negsuc 0) c.ranges.a minus_one c.if-a-eqminus1.false in
    let e = rw (to_z-of_z c.ranges.a) at c.apart.ensures in
    let k = known c.ranges.a c.if-a-eq1.false c.if-a-eqminus1.false c.requires.2 c.requires.3 e in
    let f : SFits w64 a.r.lo = search rules in
    let h : SFits w64 a.n.lo = search rules in
    simp (to_z-of_z f, to_z-of_z c.ranges.a, to_z-of_z k.k64, to_z-of_z k.product)
    (eq_test k.sum h ∙ ap (λ z. eq_z (a.r.lo +ℤ a.a *ℤ pos z) a.n.lo) e ∙ ap (λ b. b && eq_z (a.r.lo +ℤ a.a *ℤ pos (apart a.a (wide_range a.r) (wide_range a.n))) a.n.lo) (sym c.if-are_single.true ∙ c.are_single.ensures) ∙ third a.a a.r a.n e1 e2)

pub returns-else-are_single : goal.returns-else-are_single
returns-else-are_single c =
    let a = c.args in
    let e1 = eq_z_no a.a (pos 1) c.ranges.a (sfits_lit tt) c.if-a-eq1.false in
    let e2 = eq_z_no a.a (negsuc 0) c.ranges.a minus_one c.if-a-eqminus1.false in
    c.if-are_single.false ∙ ap (λ b. b && eq_z (a.r.lo +ℤ a.a *ℤ pos (apart a.a (wide_range a.r) (wide_range a.n))) a.n.lo) (sym c.if-are_single.false ∙ c.are_single.ensures) ∙ third a.a a.r a.n e1 e2
