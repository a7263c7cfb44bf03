-- A report has at most 2,089 bytes.
use mathlib.Core.Path.{◌≡◌, refl}
use mathlib.Core.Bool.{Bool, true, false}
use mathlib.Core.List.{List, [], ◌∷◌, ◌++◌}
use Prim.Native.Nat.{ℕ, zero, suc, ◌+◌, ◌*◌, ◌/◌, ◌%◌, ◌≤◌}
use native.Mathlib.Omega.{arith}
use lib.Dec.{ltb}
use lib.IntN.{ℤ, pos, negsuc}
use lib.ListN.{length, length-append}
use Rattle.ints.proofs.Diffs.{cond_elim}
use Rattle.rules_steps.specs.declared.Step.{Step}
use Rattle.rules_steps.specs.declared.Step.TheVariants.{Add, Grow, Shrink, Unknown}
use Rattle.rules.specs.Figures.{Line}
use Rattle.rules.specs.Scripts.{Script}
use Rattle.rules.specs.Report.{decimal_in, decimal, sign, size, joined, step_name, first_end, second_end, exact_name, report_key, rows_key, loops_key, ticks_key, key_line, loop_line, loop_lines, report_text, script_report, longest_report}
use Rattle.rules.specs.Calls.{accepted, prices_of, judged}
use Rattle.rules.proofs.LinesAtHeads.{lines_few}
use Rattle.rules.proofs.Demand3File.{file_accepted}

decimal_in_lem : (k n : ℕ) → length (decimal_in k n) ≤ k
unfolding decimal_in
decimal_in_lem zero n = omega arith
decimal_in_lem (suc k) n =
    cond_elim (λ l. length l ≤ suc k) (ltb n 10) ((48 + n) ∷ []) (decimal_in k (n / 10) ++ ((48 + n % 10) ∷ []))
    (λ _. omega arith) (λ _. omega (arith, length-append (decimal_in k (n / 10)) ((48 + n % 10) ∷ []), decimal_in_lem k (n / 10)))

pub decimal_short : (n : ℕ) → length (decimal n) ≤ 20
unfolding decimal
decimal_short n = decimal_in_lem 20 n

sign_short : (z : ℤ) → length (sign z) ≤ 1
unfolding sign
sign_short (pos n) = omega arith
sign_short (negsuc n) = omega arith

step_short : (st : Step) → length (step_name st) ≤ 6
unfolding step_name
step_short (Add a b) = omega arith
step_short (Grow f g) = omega arith
step_short (Shrink f g) = omega arith
step_short Unknown = omega arith

exact_short : (b : Bool) → length (exact_name b) ≤ 5
unfolding exact_name
exact_short true = omega arith
exact_short false = omega arith

pub key_short : (key : List ℕ) (n : ℕ) → length (key_line key n) ≤ length key + 21
unfolding key_line joined
key_short key n = simp length-append (omega (arith, decimal_short n))

first_line : length (key_line report_key 1) ≡ 9
unfolding key_line joined decimal decimal_in
first_line = refl

line_short : (l : Line) → length (loop_line l) ≤ 125
unfolding loop_line joined
line_short l =
    let a : ℤ = first_end l.step in
    let b : ℤ = second_end l.step in
    simp length-append (omega (
      arith,
      decimal_short l.row,
      step_short l.step,
      sign_short a,
      decimal_short (size a),
      sign_short b,
      decimal_short (size b),
      decimal_short l.turns,
      decimal_short l.total,
      exact_short l.exact,
    ))

lines_short : (ls : List Line) (more : List (List ℕ)) → length (joined (loop_lines ls ++ more)) ≤ 125 * length ls + length (joined more)
unfolding loop_lines joined
lines_short [] more = omega arith
lines_short (l ∷ ls) more = omega (arith, length-append (loop_line l) (joined (loop_lines ls ++ more)), line_short l, lines_short ls more)

report_short : (rows : ℕ) (ls : List Line) (ticks : ℕ) → length ls ≤ 16 → length (report_text rows ls ticks) ≤ longest_report
unfolding report_text joined
report_short rows ls ticks few =
    simp length-append (omega (
      arith,
      first_line,
      key_short rows_key rows,
      key_short loops_key (length ls),
      lines_short ls (key_line ticks_key ticks ∷ []),
      length-append (key_line ticks_key ticks) [],
      key_short ticks_key ticks,
    ))

-- the report of every accepted file
pub longest_report_lem : (prices : List ℕ) (scratch : ℕ) (file : List ℕ) (script : Script) → judged prices scratch file ≡ accepted script
    → length (script_report (prices_of prices) script) ≤ longest_report
unfolding script_report
longest_report_lem prices scratch file script e = report_short _ _ _ (lines_few script (file_accepted prices scratch file script e).script_accepted.legal)
