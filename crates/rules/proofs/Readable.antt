-- A report's numbers are read back as what they are.
use mathlib.Core.Path.{◌≡◌, refl, sym, ◌∙◌, ap, subst}
use mathlib.Core.Bool.{Bool, true, false, not, cond}
use mathlib.Core.List.{List, [], ◌∷◌, ◌++◌}
use Prim.Native.Nat.{ℕ, zero, suc, ◌+◌, ◌*◌, ◌-◌, ◌/◌, ◌%◌, ◌^◌, ◌≤◌, ◌<◌}
use native.Mathlib.Nat.{pow-zero, pow-succ'}
use native.Mathlib.Omega.{arith}
use lib.Dec.{T, ltb, leb, eqb, le→leb, eqb→eq, ltb→lt, nltb→le}
use lib.IntN.{pos}
use Rattle.ints.proofs.Diffs.{cond_elim, cond_true, cond_false, and_in}
use Rattle.rules.specs.declared.Word.TheVariants.{Number}
use Rattle.rules.specs.Text.{value_from, is_digit, all_digits, is_natural, word_of}
use Rattle.rules.specs.Report.{decimal_in, decimal}
use Rattle.rules.specs.Readable.{TwentyDigits, DecimalValue, DecimalReads}

value_last : (m b : ℕ) (s : List ℕ) → value_from m (s ++ (b ∷ [])) ≡ value_from m s * 10 + (b - 48)
unfolding value_from
value_last m b [] = refl
value_last m b (c ∷ s) = value_last (m * 10 + (c - 48)) b s

value_in_lem : (k n : ℕ) → n < 10 ^ k → value_from 0 (decimal_in k n) ≡ n
unfolding decimal_in value_from
value_in_lem zero n h = omega (arith, pow-zero 10)
value_in_lem (suc k) n h =
    cond_elim (λ l. value_from 0 l ≡ n) (ltb n 10) ((48 + n) ∷ []) (decimal_in k (n / 10) ++ ((48 + n % 10) ∷ []))
    (λ _. omega arith)
    (λ _. omega (arith, value_last 0 (48 + n % 10) (decimal_in k (n / 10)), value_in_lem k (n / 10) (omega (arith, pow-succ' 10 k))))

pub decimal_value : DecimalValue
unfolding DecimalValue decimal
decimal_value n h = value_in_lem 20 n h

-- ---- a number without leading zeros
digit : (d : ℕ) → d < 10 → T (is_digit (48 + d))
unfolding is_digit
digit d h = and_in (leb 48 (48 + d)) (leb (48 + d) 57) (le→leb 48 (48 + d) (omega arith)) (le→leb (48 + d) 57 (omega arith))

-- a digit that is not 0, and digits
data Leads : List ℕ → Type 0 where
  leads : {d : ℕ} {s : List ℕ} → 1 ≤ d → d < 10 → T (all_digits s) → Leads ((48 + d) ∷ s)

digits_last : (s : List ℕ) (d : ℕ) → d < 10 → T (all_digits s) → T (all_digits (s ++ ((48 + d) ∷ [])))
unfolding all_digits
digits_last [] d h t = subst T (sym (cond_true (is_digit (48 + d)) true false (digit d h))) tt
digits_last (b ∷ s) d h t = by (is_digit b) t (λ u. digits_last s d h u)
  where
    by : (c : Bool) → T (cond c (all_digits s) false) → (T (all_digits s) → T (all_digits (s ++ ((48 + d) ∷ [])))) → T (cond c (all_digits (s ++ ((48 + d) ∷ []))) false)
    by true t ih = ih t
    by false t ih = t

leads_last : {s : List ℕ} (d : ℕ) → d < 10 → Leads s → Leads (s ++ ((48 + d) ∷ []))
leads_last d h (leads {d = e} {s = s} a b c) = leads a b (digits_last s d h c)

leads_in : (k n : ℕ) → 1 ≤ n → n < 10 ^ k → Leads (decimal_in k n)
unfolding decimal_in all_digits
leads_in zero n one h = absurd (omega (arith, pow-zero 10))
leads_in (suc k) n one h =
    cond_elim Leads (ltb n 10) ((48 + n) ∷ []) (decimal_in k (n / 10) ++ ((48 + n % 10) ∷ []))
    (λ t. leads one (ltb→lt n 10 t) tt)
    (λ t. leads_last (n % 10) (omega arith) (leads_in k (n / 10) (omega (arith, nltb→le n 10 t)) (omega (arith, pow-succ' 10 k))))

leads_natural : {s : List ℕ} → Leads s → T (is_natural s)
unfolding is_natural all_digits
leads_natural (leads {d = d} {s = []} a b t) = digit d b
leads_natural (leads {d = d} {s = c ∷ s} a b t) =
    subst T (sym (cond_false (eqb (48 + d) 48) false _ (not_zero (eqb (48 + d) 48) (eqb→eq (48 + d) 48)) ∙ cond_true (is_digit (48 + d)) _ false (digit d b))) t
  where
    not_zero : (c : Bool) → (T c → 48 + d ≡ 48) → T (not c)
    not_zero true f = absurd (omega (arith, f tt))
    not_zero false f = tt

pub decimal_natural : (n : ℕ) → TwentyDigits n → T (is_natural (decimal n))
unfolding decimal decimal_in is_natural is_digit
decimal_natural zero h = tt
decimal_natural (suc n) h = leads_natural (leads_in 20 (suc n) (omega arith) h)

pub decimal_reads : DecimalReads
unfolding DecimalReads DecimalValue word_of
decimal_reads n h = cond_true (is_natural (decimal n)) _ _ (decimal_natural n h) ∙ ap (λ m. Number (pos m)) (decimal_value n h)
