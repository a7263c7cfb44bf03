-- Every number in the report of an accepted file has at most 20 digits.
use mathlib.Core.Path.{sym, subst}
use mathlib.Core.List.{List, [], ◌∷◌}
use Prim.Native.Nat.{ℕ, suc, ◌+◌, ◌*◌, ◌≤◌, ◌<◌}
use native.Mathlib.Omega.{arith}
use lib.ListN.{length}
use lib.IntN.{ℤ, pos, negsuc}
use Rattle.ints.proofs.Parts.{ints, neg_parts}
use Rattle.ints.proofs.Diffs.{cond_elim}
use Rattle.rules_steps.specs.declared.Step.{Step}
use Rattle.rules_steps.specs.declared.Step.TheVariants.{Add, Grow, Shrink, Unknown}
use Rattle.rules_steps.specs.Joins.{factor_limit}
use Rattle.rules_steps.specs.Ends.{Near, EndsWithin}
use Rattle.rules.specs.Blocks.{RowKind, view_of}
use Rattle.rules.specs.Figures.{Line}
use Rattle.rules.specs.Scripts.{All, none, some, report_ticks, report_lines}
use Rattle.rules.specs.Report.{first_end, second_end, size}
use Rattle.rules.specs.Calls.{is_loop_row, loop_rows, prices_of}
use Rattle.rules.specs.Claim.{line_rows}
use Rattle.rules.specs.Formulas.{TotalsWithinTicks, TurnsWithinLimit}
use Rattle.rules.specs.Readable.{TwentyDigits, ShortLine, FiguresShort}
use Rattle.rules.specs.AcceptedExactly.{AcceptedExactly}
use Rattle.rules.proofs.AcceptedExactly.{accepted_exactly}
use Rattle.rules.proofs.LinesAtHeads.{lines_at_heads, lines_few}
use Rattle.rules.proofs.TotalsFit.{totals_within_ticks, turns_within_limit}
use Rattle.rules.proofs.EndsFit.{script_ends}
use Rattle.rules.proofs.Demand3File.{file_accepted}

-- ---- rows
heads_below : (ks : List RowKind) (i n : ℕ) → i + length ks ≤ n → All (λ q. q < n) (loop_rows i ks)
unfolding loop_rows
heads_below [] i n h = none
heads_below (k ∷ ks) i n h =
    let rest = heads_below ks (suc i) n (omega arith) in
    let lt : i < n = omega arith in
    cond_elim (All (λ q. q < n)) (is_loop_row (view_of k)) (i ∷ loop_rows (suc i) ks) (loop_rows (suc i) ks) (λ _. some lt rest) (λ _. rest)

rows_below : (ls : List Line) (n : ℕ) → All (λ q. q < n) (line_rows ls) → All (λ l. l.row < n) ls
unfolding line_rows
rows_below [] n h = none
rows_below (l ∷ ls) n (some h t) = some h (rows_below ls n t)

-- ---- ends
near_short : (z : ℤ) → Near 512 z → TwentyDigits (size z)
unfolding size
near_short (pos n) h = omega (ints, h.high)
near_short (negsuc n) h = omega (ints, h.low, neg_parts (pos (512 * 1_000_000_000)))

ends_short : (st : Step) → EndsWithin 512 st → TwentyDigits (size (first_end st)) × TwentyDigits (size (second_end st))
unfolding first_end second_end size factor_limit
ends_short (Add a b) (h, k) = (near_short a h, near_short b k)
ends_short (Grow f g) h = (omega (arith, h.first), omega (arith, h.second))
ends_short (Shrink f g) h = (omega (arith, h.first), omega (arith, h.second))
ends_short Unknown h = (omega arith, omega arith)

lines_short : (ls : List Line) → All (λ l. l.row < 256) ls → All (λ l. EndsWithin 512 l.step) ls → All (λ l. l.turns ≤ 1_000_000_000_000) ls → All (λ l. l.total ≤ 1_000_000_000_000) ls
    → All ShortLine ls
lines_short [] none none none none = none
lines_short (l ∷ ls) (some a t) (some b u) (some c v) (some d w) =
    let (x, y) = ends_short l.step b in
    let short : ShortLine l = record { row = omega arith; first = x; second = y; turns = omega arith; total = omega arith } in
    some short (lines_short ls t u v w)

below : (m n : ℕ) {ls : List Line} → m ≤ n → All (λ l. l.total ≤ m) ls → All (λ l. l.total ≤ n) ls
below m n h none = none
below m n h (some {x = l} k t) = let le : l.total ≤ n = omega arith in some le (below m n h t)

pub figures_short : FiguresShort
unfolding FiguresShort TotalsWithinTicks TurnsWithinLimit AcceptedExactly
figures_short prices scratch file script e =
    let legal = (file_accepted prices scratch file script e).script_accepted.legal in
    let whole = ((accepted_exactly prices scratch file script).0 e).whole in
    record {
      rows = omega (arith, legal.sizes.1);
      loops = omega (arith, lines_few script legal);
      lines = lines_short (report_lines script)
          (rows_below (report_lines script) 256 (subst (All (λ q. q < 256)) (sym (lines_at_heads script legal)) (heads_below script.rows 0 256 (omega (arith, legal.sizes.1)))))
          (script_ends script legal) (turns_within_limit prices scratch file script e)
          (below (report_ticks (prices_of prices) script) 1_000_000_000_000 whole (totals_within_ticks prices scratch file script e));
      ticks = omega (arith, whole);
    }
