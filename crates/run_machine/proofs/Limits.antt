-- What is kept of the limits. Assumes nothing.
use mathlib.Core.Path.{◌≡◌, refl, sym, ◌∙◌, ap, subst}
use mathlib.Core.List.{List}
use mathlib.Core.Logic.{inl}
use Prim.Native.Nat.{ℕ, ◌<◌}
use native.Mathlib.Omega.{arith}
use lib.IntN.{ℤ, pos}
use lib.ListN.{length, set, length-set}
use lib.Seq.{get_or-set_same, get_or-set_other}
use Rattle.rules.specs.Expressions.{Expr}
use Rattle.rules.specs.Blocks.{expr_of}
use Rattle.rules.specs.Scripts.{store_of}
use Rattle.rules.specs.Values.{value}
use Rattle.rules.specs.Written.{Composed}
use Rattle.table.specs.Code.{operand_in, number}
use Rattle.run_actions.specs.declared.Machine.{Machine}
use Rattle.run_machine.specs.Limits.{not_kept, kept_of, Keeps, nothing, its_value, StillKept, TestKept}
use Rattle.run_machine.specs.Rows.{row_of, Readable}

-- nothing is changed
pub kept_same : {limit : Expr} {store limits : List ℤ} {k : ℕ} → length limits ≡ 16 → Keeps limit store (kept_of limits k) → StillKept limit store k limits limits
kept_same l h = record { long = l; others = λ j n. refl; kept = h }

-- a number is kept for loop k
pub kept_set : {limit : Expr} {store limits : List ℤ} {k : ℕ} (z : ℤ) → k < 16 → length limits ≡ 16 → Keeps limit store z → StillKept limit store k limits (set limits k z)
kept_set {limit} {store} {limits} {k} z l e h = record {
  long = length-set limits k z ∙ e;
  others = λ j n. get_or-set_other limits k j z (pos 0) n;
  kept = subst (Keeps limit store) (sym (get_or-set_same limits k z (pos 0) (omega arith))) h;
}

-- an expression of the table is neither a constant nor a variable
pub is_composed : (text : List ℕ) (vars x : ℕ) → Readable text vars (operand_in 2 x) → Composed (expr_of text (operand_in 2 x))
unfolding expr_of
is_composed text vars x r = r.written.composed

-- the same limit and loop in other words
pub kept_as : {x y : Expr} {store limits limits' : List ℤ} {k j : ℕ} → x ≡ y → k ≡ j → StillKept x store k limits limits' → StillKept y store j limits limits'
kept_as {x} {y} {store} {limits} {limits'} {k} {j} e q h = subst (λ z. StillKept z store j limits limits') e (subst (λ i. StillKept x store i limits limits') q h)

-- a loop that is left keeps nothing
pub test_left : {text t : List ℕ} {m r : Machine} {x : Expr} {store limits limits' : List ℤ} {j : ℕ} → j ≡ number (row_of t m) 1 → number (row_of t m) 1 < 16
    → StillKept x store (number (row_of t m) 1) limits limits' → TestKept text t m r store limits (set limits' j not_kept)
test_left {text} {t} {m} {r} {x} {store} {limits} {limits'} e l h = subst (λ k. TestKept text t m r store limits (set limits' k not_kept)) (sym e) (record {
  long = length-set limits' _ not_kept ∙ h.long;
  others = λ j n. get_or-set_other limits' _ j not_kept (pos 0) n ∙ h.others j n;
  own = λ _. inl (get_or-set_same limits' _ not_kept (pos 0) (omega (arith, h.long)));
})

-- a limit that comes to the same in another store
pub kept_store : {x : Expr} {store store' : List ℤ} {z : ℤ} → (Composed x → value x (store_of store') ≡ value x (store_of store)) → Keeps x store z → Keeps x store' z
kept_store e (nothing q) = nothing q
kept_store e (its_value c q) = its_value c (q ∙ sym (e c))
