-- `run_machine::limit_of` meets its contract. Assumes nothing.
use mathlib.Core.Path.{◌≡◌, sym, ◌∙◌, ap, subst}
use mathlib.Core.Bool.{Bool, true, false, cond}
use Prim.Native.Nat.{ℕ, ◌<◌}
use mir.Facts.{to_z-of_z, sfits_widen}
use mir.Val.{SFits}
use mir.Syntax.{w32, w64}
use borrow.Author.Rules.{rules, sfits_of}
use borrow.Author.Tests.{ne_eqb}
use lib.Dec.{eqb}
use lib.ListN.{length}
use Rattle.rules.specs.Blocks.{expr_of}
use Rattle.rules.specs.Expressions.{meaning}
use Rattle.rules.specs.Scripts.{store_of}
use Rattle.rules.specs.Values.{value, operated, number}
use Rattle.values.proofs.Results.{in_number}
use Rattle.table.specs.Code.{constant_in, operand_in, is_expression, limit_kind_in, limit_in, numbers_at}
use Rattle.table.specs.Code
use Rattle.run_machine.specs.Rows.{Readable, ReadAs}
use Rattle.run_machine.specs.Limits.{kept_of, Keeps}
use Rattle.run_machine.proofs.Limits.{kept_same, kept_as}
use Rattle.run_machine.proofs.limit_of.Statement.{statement}
use Rattle.run_machine.proofs.limit_of.Tie as tie

-- an operand that is no constant, by one bit of its kind
by_bit : (k x : ℕ) (b : Bool) → (k ≡ 0 → ⊥) → b ≡ is_expression (operand_in k x) → operand_in k x ≡ operand_in (cond b 2 1) x
by_bit k x b n e = let z = ne_eqb k 0 n in rw z (by (eqb k 1) (rw z at e))
  where
    by : (d : Bool) → b ≡ is_expression (cond d (operand_in 1 x) (operand_in 2 x)) → cond d (operand_in 1 x) (operand_in 2 x) ≡ operand_in (cond b 2 1) x
    by true e = rw e
    by false e = rw e

told : (c : tie.After-limit_is_expression) (b : Bool) → c.limit_is_expression.result ≡ b → let a = c.args in
    operand_in (cond b 2 1) c.limit_value_at-x.result ≡ limit_in (numbers_at a.rows.now a.i)
told c b q =
    let a = c.args in
    let e = numbers_at a.rows.now a.i in
    ap (operand_in (cond b 2 1)) c.limit_value_at-x.ensures
    ∙ sym (by_bit (limit_kind_in e) (Code.number e 2) b (λ z. c.if-limit_kind_at-eq-CONSTANT.false (c.limit_kind_at.ensures ∙ z)) (sym q ∙ c.limit_is_expression.ensures))

readable : (c : tie.After-limit_is_expression) (b : Bool) → c.limit_is_expression.result ≡ b → let a = c.args in
    Readable a.text.now (length a.store.now) (operand_in (cond b 2 1) c.limit_value_at-x.result)
readable c b q = let s = c in subst (Readable s.args.text.now (length s.args.store.now)) (sym (told c b q)) s.requires.limit

returns : tie.Need-returns-then-limit_kind_at-eq-CONSTANT
unfolding value operated expr_of meaning
returns c =
    let a = c.args in
    let e = numbers_at a.rows.now a.i in
    let z = c.constant in
    let f : SFits w32 z.result = sfits_of z.type_inv in
    let k = sym c.limit_kind_at.ensures ∙ c.if-limit_kind_at-eq-CONSTANT.true in
    let p = c.requires in
    rw (to_z-of_z f, to_z-of_z (sfits_widen {w' = w64} tt f))
    (record {
      read = in_number z.result f ∙ ap number (z.ensures ∙ ap constant_in c.limit_value_at-x.ensures)
          ∙ sym (ap (λ n. value (expr_of a.text.now (operand_in n (Code.number e 2))) (store_of a.store.now)) k);
      still = kept_same p.long p.kept;
    })

-- the loop's number, and what is kept for it
kept-value-requires : tie.Need-kept_value-requires
kept-value-requires c κs =
    let s = c in
    let a = s.args in
    let n = numbers_at a.rows.now a.i in
    let d = c.before.before.before in
    let t = told d true c.if-limit_is_expression.true in
    let e = c.loop_at.ensures in
    record {
      limit = readable d true c.if-limit_is_expression.true;
      loop = subst (λ k. k < 16) (sym e) s.requires.loop;
      long = s.requires.long;
      kept = subst (λ y. Keeps (expr_of a.text.now y) a.store.now (kept_of a.limits.now c.loop_at.result)) (sym t)
          (subst (λ k. Keeps (expr_of a.text.now (limit_in n)) a.store.now (kept_of a.limits.now k)) (sym e) s.requires.kept);
    }

returns_2 : tie.Need-returns-then-limit_is_expression
returns_2 c =
    let a = c.args in
    let z = c.kept_value in
    let f : SFits w64 z.result = sfits_of z.type_inv in
    let t = told c.before.before.before.before true c.if-limit_is_expression.true in
    rw (to_z-of_z f) (record {
      read = subst (λ x. ReadAs a.text.now a.store.now x z.result) t z.ensures.read;
      still = kept_as (ap (expr_of a.text.now) t) c.loop_at.ensures z.ensures.still;
    })

returns_3 : tie.Need-returns
returns_3 c =
    let s = c in
    let a = s.args in
    let f : SFits w64 c.value_of.result = sfits_of c.value_of.type_inv in
    rw (to_z-of_z f) (record {
      read = subst (λ x. ReadAs a.text.now a.store.now x c.value_of.result) (told c.before.before false c.if-limit_is_expression.false) c.value_of.ensures;
      still = kept_same s.requires.long s.requires.kept;
    })

pub limit_of_spec : {M : Type 1} → statement M
limit_of_spec =
    tie.close
    (tie.spec
    (λ c κs. c.requires.size) (λ c κs. c.requires.size) (λ c κs. search rules)
    (λ c. let f : SFits w32 c.constant.result = sfits_of c.constant.type_inv in rw (to_z-of_z f) (sfits_widen tt f))
    returns
    (λ c κs. c.requires.size)
    (λ c κs. c.requires.size)
    kept-value-requires
    returns_2
    (λ c κs. readable c.before false c.if-limit_is_expression.false)
    returns_3)
