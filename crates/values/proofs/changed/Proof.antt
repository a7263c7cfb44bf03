-- `values::changed` meets its contract. Assumes nothing.
use borrow.Author.Rules.{rules, sfits_of}
use mathlib.Core.Path.{subst}
use Prim.Native.Nat.{ℕ}
use mir.Syntax.{w32}
use mir.Val.{Fits}
use mir.Facts.{to_z-of_z}
use Rattle.rules.specs.Values.{applied}
use Rattle.rules.specs.Scripts.{ChangeLimits}
use Rattle.values.proofs.Wide.{Wide, wide}
use Rattle.values.proofs.changed.Statement.{statement}
use Rattle.values.proofs.changed.Tie as tie

-- the row's number and the value
known : (s : tie.Start) (n : ℕ) → Fits w32 n → Wide s.args.x n
known s n f = wide s.args.x n s.ranges.x f

add_result : tie.Need-overflow_add-result
add_result c =
    let h = known c.before c.in-Add.c (search rules) in
    simp (to_z-of_z h.x32, to_z-of_z h.x64, to_z-of_z h.c64) h.sum

sub-result : tie.Need-overflow_sub-result
sub-result c =
    let h = known c.before c.in-Sub.c (search rules) in
    simp (to_z-of_z h.x32, to_z-of_z h.x64, to_z-of_z h.c64) h.difference

mul-result : tie.Need-overflow_mul-result
mul-result c =
    let h = known c.before c.in-Mul.c (search rules) in
    simp (to_z-of_z h.x32, to_z-of_z h.x64, to_z-of_z h.c64) h.product

returns : tie.Need-returns-in-Add
unfolding applied
returns c =
    let h = known c.before c.in-Add.c (search rules) in
    rw c.in-Add.is (simp (to_z-of_z h.x32, to_z-of_z h.x64, to_z-of_z h.c64, to_z-of_z h.sum))

returns_2 : tie.Need-returns-in-Sub
unfolding applied
returns_2 c =
    let h = known c.before c.in-Sub.c (search rules) in
    rw c.in-Sub.is (simp (to_z-of_z h.x32, to_z-of_z h.x64, to_z-of_z h.c64, to_z-of_z h.difference))

returns_3 : tie.Need-returns-in-Mul
unfolding applied
returns_3 c =
    let h = known c.before c.in-Mul.c (search rules) in
    rw c.in-Mul.is (simp (to_z-of_z h.x32, to_z-of_z h.x64, to_z-of_z h.c64, to_z-of_z h.product))

returns-4 : tie.Need-returns-in-Div
unfolding applied
returns-4 c =
    let s = c.before.before in
    rw (c.in-Div.is, to_z-of_z (sfits_of c.quotient_of.type_inv), c.quotient_of.ensures) (simp (to_z-of_z s.ranges.x))

pub changed_spec : {M : Type 1} → statement M
changed_spec =
    tie.close
    (tie.spec
    (λ c. search rules) (λ c. let h = known c.before 0 (search rules) in search rules) (λ c. search rules)
    add_result
    (λ c. search rules) (λ c. let h = known c.before 0 (search rules) in search rules) (λ c. search rules)
    sub-result
    (λ c. search rules) (λ c. let h = known c.before 0 (search rules) in search rules) (λ c. search rules)
    mul-result
    (λ c. search rules)
    (λ c κs. (subst ChangeLimits c.in-Div.is c.requires).0)
    returns
    returns_2
    returns_3
    returns-4)
