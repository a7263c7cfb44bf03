-- A script that has passed the questions 4 to 7: its rows are a tree, each inside its limits, with at most 16 loops.
use mathlib.Core.Path.{◌≡◌, refl, sym, ap, subst, ◌∙◌}
use mathlib.Core.Bool.{Bool, true, false}
use mathlib.Core.List.{List, [], ◌∷◌}
use Prim.Native.Nat.{ℕ, zero, suc, ◌≤◌, ◌<◌}
use native.Mathlib.Omega.{arith}
use borrow.Author.Tests.{ltb-true, ltb-false}
use lib.Dec.{ltb}
use lib.IntN.{ℤ, pos}
use lib.ListN.{length, get_or, take, length-take, get_or-eq_default}
use lib.Seq.{get_or-take, length-take-le}
use Rattle.rules.specs.declared.Row.{Row}
use Rattle.rules.specs.Blocks.{End, kinds_of}
use Rattle.rules.specs.Written.{Written}
use Rattle.rules.specs.Scripts as scripts
use Rattle.rules.specs.Scripts.{All, none, some, pair_range, pair_ranges, BlankFrom, RowLimits, RowBelow, script_of, tree_of, Legal}
use Rattle.rules.specs.Passes.{any}
use Rattle.rules.specs.Figures.{alike}
use Rattle.rules.proofs.Laws.{kinds_length}
use Rattle.rules.proofs.LinesAtHeads.{lines_few}
use Rattle.rules.proofs.TreeOf.{tree_of_lem}
use Rattle.rules.proofs.Rows.{block_whole}
use Rattle.table.specs.Code.{kind_at}
use Rattle.table.proofs.Limits.{row_fine}
use Rattle.analysis_steps.specs.Tree.{kinds, block_at, Whole, Ready}
use Rattle.analysis_steps.proofs.Laws.{kind_is}
use Rattle.analysis_intervals.specs.Env.{env_of}
use Rattle.analysis.specs.Fold.{loop_count}
use Rattle.analysis.proofs.Counts.{lines_count}

pub all_get : {A : Type 0} {Q : A → Type 0} (l : List A) → All Q l → (i : ℕ) → i < length l → (d : A) → Q (get_or l i d)
all_get [] none i h d = absurd (omega arith)
all_get (x ∷ l) (some q a) zero h d = q
all_get (x ∷ l) (some q a) (suc i) h d = all_get l a i (omega arith) d

-- ---- ranges
pub pairs_at : (r : List (List ℤ)) (w : ℕ) → get_or (pair_ranges r) w (record { lo = pos 0; hi = pos 0 }) ≡ pair_range (get_or r w [])
unfolding pair_ranges
pairs_at [] w = refl
pairs_at (p ∷ r) zero = refl
pairs_at (p ∷ r) (suc w) = pairs_at r w

module _ (r : List (List ℤ)) (vars : ℕ) (h : BlankFrom vars r) where
  at_var : (w : ℕ) (t : Bool) → ltb w vars ≡ t → scripts.start_env (take vars (pair_ranges r)) w ≡ pair_range (get_or r w [])
  at_var w true e = get_or-take vars (pair_ranges r) w _ (ltb-true w vars e) ∙ pairs_at r w
  at_var w false e =
      let k : vars ≤ w = ltb-false w vars e in
      let l : length (take vars (pair_ranges r)) ≤ w = omega (arith, length-take vars (pair_ranges r)) in
      get_or-eq_default (take vars (pair_ranges r)) (record { lo = pos 0; hi = pos 0 }) {n = w} l ∙ sym (h.blank w k)

  -- the array's ranges are the script's
  pub env_is : scripts.start_env (take vars (pair_ranges r)) ≡ env_of r
  unfolding env_of
  env_is = λ d w. at_var w (ltb w vars) refl d

-- ---- rows
module _ (text : List ℕ) (ranges : List (List ℤ)) (vars : ℕ) (rows : List Row) (count : ℕ) (legal : Legal (script_of text ranges vars rows count)) (few : count ≤ 256) (all : count ≤ length rows) where
  pub long : length (kinds text rows count) ≡ count
  long = length-take-le count (kinds_of text rows) (omega (arith, kinds_length text rows))

  pub whole : Whole text rows count
  unfolding script_of
  whole =
      let (n, e) = legal.closed in
      let (tree, w) = tree_of_lem (kinds text rows count) n e in
      record { tree = tree; long = long; builds = w }

  pub ready : length text ≤ 16_384 → ((i : ℕ) → i < count → Written text (kind_at rows i)) → Ready text rows count 0
  unfolding script_of
  ready short written = record {
    few = few;
    reach = all;
    within = omega arith;
    built = whole;
    fine = λ i l.
        let k : i < length (kinds text rows count) = omega (arith, long) in
        let same = kind_is text rows count i l in
        row_fine text short _ legal.sizes.0 (kind_at rows i) (subst RowLimits same (all_get (kinds text rows count) legal.numbers.1 i k End)) (subst (RowBelow _) same (all_get (kinds text rows count) legal.variables i k End)) (written i l);
    written = written;
  }

  -- the whole file is the block at row 0
  pub file_is : block_at text rows count 0 ≡ tree_of (kinds text rows count)
  file_is = block_whole (kinds text rows count) whole.tree whole.builds

  pub few_in : loop_count (block_at text rows count 0) ≤ 16
  unfolding script_of
  few_in =
      let script = script_of text ranges vars rows count in
      omega (arith, ap loop_count file_is, lines_count (tree_of script.rows) (alike 1) any (scripts.start_env script.ranges), lines_few script legal)
