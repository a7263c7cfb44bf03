-- Demand 3, proved.
use mathlib.Core.Path.{◌≡◌, refl, sym, ◌∙◌, ap, subst}
use mathlib.Core.List.{List, [], ◌∷◌, Memᴰ}
use lib.ListN.{length}
use Prim.Native.Nat.{ℕ, zero, suc, ◌≤◌, ◌<◌}
use native.Mathlib.Omega.{arith}
use lib.Dec.{eqb, eqb→eq}
use lib.IntN.{ℤ}
use lib.Signed.{◌≤ℤ◌}
use Rattle.ints.proofs.Diffs.{cond_elim}
use Rattle.rules.specs.Values.{lowest, highest}
use Rattle.rules.specs.Blocks.{Block}
use Rattle.rules.specs.Ranges.{Range, Env}
use Rattle.rules.specs.Passes.{any, sum_over}
use Rattle.rules.specs.Trips.{after}
use Rattle.rules.specs.Figures.{Prices, ticks, Line, lines, alike}
use Rattle.rules.specs.Questions.{verdict, loops_verdict}
use Rattle.rules.specs.Run.{Entry, Out}
use Rattle.rules.specs.Scripts.{All, none, some, Script, Pairwise, no_more, and_then, start_env, store_of, of_built, tree_of, RangeLimits, Legal}
use Rattle.rules.specs.Answers.{Answer, answer, run_tree, own, sum_at, most_at}
use Rattle.rules.specs.Calls.{counts_at}
use Rattle.rules.specs.Claim.{Fits, Lined, Counts-fit, line_rows, Kept-within, Demand3}
use Rattle.rules.proofs.Good.{Good, good_go, good_halt, all_map}
use Rattle.rules.proofs.Courses.{In}
use Rattle.rules.proofs.Sound.{total, sound}
use Rattle.rules.proofs.Accepted.{accepted, then_yes}
use Rattle.rules.proofs.Whole.{Placed, lines_of, all_at}
use Rattle.rules.proofs.Building.{Laws, Right, right, built}
use Rattle.rules.proofs.TreeOf.{tree_of_lem}
use Rattle.rules.proofs.LinesAtHeads.{lines_at_heads}
use Rattle.ints.proofs.Parts.{ints}

-- the most of entries that are each within n
most_le : (p n : ℕ) (es : List Entry) → ((e : Entry) → Memᴰ e es → e.row ≡ p → e.turns ≤ n) → most_at p es ≤ n
unfolding most_at
most_le p n [] f = omega arith
most_le p n (e ∷ es) f =
    let a : own p e.row e.turns ≤ n = cond_elim (λ z. z ≤ n) (eqb p e.row) e.turns 0 (λ q. f e (Memᴰ.head refl) (sym (eqb→eq p e.row q))) (λ _. omega arith) in
    omega (arith, most_le p n es (λ x m. f x (Memᴰ.tail m)))

-- the counts of the loops, line by line
counts_fit : (es : List Entry) (ls : List Line) → All (λ l. Counts-fit l (record { row = l.row; all = sum_at l.row es; most = most_at l.row es })) ls
    → Pairwise Counts-fit ls (counts_at es (line_rows ls))
unfolding counts_at line_rows
counts_fit es [] none = no_more
counts_fit es (l ∷ ls) (some h t) = and_then h (counts_fit es ls t)

kept : (b : Block) (ρ : Env) (i j : ℕ) (hs : List ℕ) → Placed i b j → line_rows (lines (alike 1) any ρ b) ≡ hs
    → (es : List Entry) → All (Lined (lines (alike 1) any ρ b)) es → ((p : ℕ) → sum_at p es ≤ total p any ρ b) → Pairwise Counts-fit (lines (alike 1) any ρ b) (counts_at es hs)
unfolding sum_over
kept b ρ i j hs h at es lined sums =
    subst (λ z. Pairwise Counts-fit (lines (alike 1) any ρ b) (counts_at es z)) at
    (counts_fit es (lines (alike 1) any ρ b)
    (all_map (λ l f.
    let each : (e : Entry) → Memᴰ e es → e.row ≡ l.row → Fits l e
    = λ e m at. let (k, n, fits) = all_at es lined m in subst (λ z. Fits z e) (f.only k n (sym fits.here ∙ at)) fits in
    record { row = refl; most = most_le l.row l.turns es (λ e m at. (each e m at).bounded); all = omega (arith, sums l.row, f.product) })
    (lines_of b (alike 1) any ρ i j h)))

-- a store inside the declared ranges
pub in_ranges : (rs : List Range) (store : List ℤ) → All RangeLimits rs → length store ≡ length rs
    → ((w : ℕ) → w < length rs → ((start_env rs w).lo ≤ℤ store_of store w) × (store_of store w ≤ℤ (start_env rs w).hi)) → In (start_env rs) (store_of store)
unfolding lowest highest
in_ranges [] [] l e f w = record { low = omega arith; high = omega arith; least = omega arith; most = omega arith }
in_ranges [] (x ∷ xs) l e f w = absurd (omega arith)
in_ranges (r ∷ rs) [] l e f w = absurd (omega arith)
in_ranges (r ∷ rs) (x ∷ xs) (some (a, b, c) l) e f zero = let (u, v) = f 0 (omega arith) in record { low = omega ints; high = omega ints; least = omega ints; most = omega ints }
in_ranges (r ∷ rs) (x ∷ xs) (some h l) e f (suc w) = in_ranges rs xs l (omega arith) (λ n k. f (suc n) (omega arith)) w

within : (π : Prices) (b : Block) (ρ : Env) (i j rows allowance : ℕ) (picks hs : List ℕ) {o : Out} → Placed i b j → line_rows (lines (alike 1) any ρ b) ≡ hs
    → Good (λ t. In (after ρ b) t.store) (Lined (lines (alike 1) any ρ b)) (ticks π any ρ b) (λ p. total p any ρ b) allowance o
    → let a : Answer = answer rows allowance picks o in Kept-within (ticks π any ρ b) (lines (alike 1) any ρ b) a.ending a.ticks (counts_at a.entries hs) a.entries
unfolding answer
within π b ρ i j rows allowance picks hs h at (good_go {es = es} fair _) =
    record { unspent = tt; few_ticks = omega (arith, fair.used); counted = kept b ρ i j hs h at es fair.lined fair.sums; lined = fair.lined }
within π b ρ i j rows allowance picks hs h at (good_halt {es = es} fair u) =
    record { unspent = u; few_ticks = omega (arith, fair.used); counted = kept b ρ i j hs h at es fair.lined fair.sums; lined = fair.lined }

-- the tree of a legal script, by a law for each kind of row
pub tree_along : (R : ℕ → Block → ℕ → Type 0) → Laws R → (script : Script) → Legal script → R 0 (tree_of script.rows) (length script.rows)
unfolding tree_of
tree_along R laws script legal =
    let (_, kl) = legal.numbers in
    let (tree, closed) = tree_of_lem script.rows _ legal.closed.1 in
    let same : tree_of script.rows ≡ tree = ap of_built closed in
    subst (λ b. R 0 b (length script.rows)) (sym same) (built R laws script.rows _ tree kl closed)

pub demand3 : Demand3
unfolding Demand3 run_tree verdict
demand3 π one script ok store inside picks allowance enough =
    let ρ = start_env script.ranges in
    let (rl, _) = ok.legal.numbers in
    let right-tree = tree_along Right right script ok.legal in
    let (passes, _) = then_yes (loops_verdict ρ (tree_of script.rows)) _ ok.loops in
    within π (tree_of script.rows) ρ 0 (length script.rows) _ allowance picks _ right-tree.placed (lines_at_heads script ok.legal)
    (sound π one (alike 1) any any (tree_of script.rows) right-tree.sane ρ (accepted _ ρ passes) _ (in_ranges script.ranges store rl inside.whole inside.each) tt enough)
