-- The analysis' answer, from what the walk over the whole file found.
use Rattle.std.specs.Prelude.{None}
use mathlib.Core.Path.{◌≡◌, refl, ap, sym, ◌∙◌}
use mathlib.Core.Bool.{false}
use mathlib.Core.List.{List, []}
use Prim.Native.Nat.{ℕ, ◌≤◌}
use native.Mathlib.Omega.{arith}
use lib.IntN.{ℤ, pos}
use lib.ListN.{length, take}
use Rattle.rules.specs.declared.Row.{Row}
use Rattle.rules.specs.Blocks.{Block}
use Rattle.rules.specs.Ranges.{Env}
use Rattle.rules.specs.Bounds.{FinePrices}
use Rattle.rules.specs.declared.Prices.{Prices}
use Rattle.rules.specs.Passes.{any}
use Rattle.rules.specs.Figures.{ticks, alike, lines}
use Rattle.rules.proofs.Walk.{over_once}
use Rattle.analysis_ticks.specs.declared.passes.Round.{Round}
use Rattle.rules.specs.Verdicts.{Verdict}
use Rattle.rules.specs.Verdicts.{passed, refused}
use Rattle.rules.specs.Questions.{and_then, loops_verdict, verdict}
use Rattle.rules.specs.Scripts as scripts
use Rattle.rules.specs.Scripts.{pair_ranges, BlankFrom, script_of, tree_of, Legal}
use Rattle.analysis_steps.specs.Tree.{kinds, block_at}
use Rattle.analysis_intervals.specs.Env.{env_of}
use Rattle.analysis.specs.declared.tallies.Tally.{Tally}
use Rattle.analysis.specs.Tallies.{LentTally, with_lent, tallied}
use Rattle.analysis.specs.Fold.{PassedPart}
use Rattle.analysis.specs.Own.{put_own, OwnPut}
use Rattle.analysis_lines.specs.Coded.{first_lines}
use Rattle.analysis.specs.Whole.{FirstNo, of_block, of_file, none, AnalysisOf}
use Rattle.analysis.proofs.Going.{from_parts, part_of}
use Rattle.analysis.proofs.Totals.{lines_true}
use Rattle.analysis.proofs.Verdicts.{verdict_loop, verdict_block, verdict_file, verdict_passed}
use Rattle.analysis.proofs.Legals.{env_is, file_is, few_in}

-- the one pass of a file's rows
abbrev pub alone : Round
alone = record { count = 1; by = pos 0; times = 1; v = 0; x = None }

-- a refusal has not passed
pub not_both : {A : Type 0} {v : Verdict} {q p : ℕ} → v ≡ refused q p → v ≡ passed → A
not_both e z = absurd (let z : ◌≡◌ {A = ℕ} 0 1 = cc in omega arith)

module _ (π : Prices) (fine : FinePrices π) (text : List ℕ) (ranges : List (List ℤ)) (vars : ℕ) (rows : List Row) (count : ℕ) (legal : Legal (script_of text ranges vars rows count)) (few : count ≤ 256) (all : count ≤ length rows) (blank : BlankFrom vars ranges) where
  abbrev ρ : Env
  ρ = env_of ranges

  abbrev b : Block
  b = block_at text rows count 0

  -- what is found of the array is the script's
  moved : {A : Type 0} (f : Env → Block → A) → f (scripts.start_env (take vars (pair_ranges ranges))) (tree_of (kinds text rows count)) ≡ f ρ b
  moved f = λ j. f (env_is ranges vars blank j) (sym (file_is text ranges vars rows count legal few all) j)

  -- a loop is refused
  pub stopped : (n p : ℕ) → loops_verdict ρ b ≡ refused n p → (ls : List (List ℕ)) → AnalysisOf π (script_of text ranges vars rows count) count (record { verdict = refused n p; ticks = 0; loops = 0 }) ls
  unfolding script_of
  stopped n p h ls = record {
    verdict = moved (verdict π count) ∙ verdict_loop π count ρ b n p h;
    ticks = λ z. not_both refl z;
    loops = λ z. not_both refl z;
    long = λ z. not_both refl z;
    lines = λ z. not_both refl z;
    none = λ z. (refl, refl);
  }

  pub stopped_own : (n p : ℕ) → loops_verdict ρ b ≡ refused n p → (os os' : List ℕ) → OwnPut π (script_of text ranges vars rows count) os os'
  unfolding script_of
  stopped_own n p h os os' g = absurd (let n = sym h ∙ sym (moved loops_verdict) ∙ g in let z : ◌≡◌ {A = ℕ} 0 1 = cc in omega arith)

  pub result : {last : List (List ℤ)} {os : List ℕ} (t₀ : LentTally) (t : Tally) (ls : List (List ℕ)) → tallied t₀ ρ ≡ from_parts ρ false 0 passed [] 0 t₀.own → PassedPart text π rows count 0 ρ alone t₀ last (with_lent t ls os) → (f : Verdict) → FirstNo t count f
      → (n : ℕ) → (f ≡ passed → n ≡ t.spent) → (k : ℕ) → (f ≡ passed → k ≡ t.loops) → ((f ≡ passed → ⊥) → (n ≡ 0) × (k ≡ 0))
      → AnalysisOf π (script_of text ranges vars rows count) count (record { verdict = f; ticks = n; loops = k }) ls
  unfolding script_of and_then
  result t₀ t ls e s f (of_block o l p) m u k v free =
      let part = part_of false 0 passed [] 0 t₀.own e s in
      record {
        verdict = moved (verdict π count) ∙ verdict_block π count ρ b part.verdict t.over part.over l ∙ sym p;
        ticks = λ w. not_both p w;
        loops = λ w. not_both p w;
        long = λ w. not_both p w;
        lines = λ w. not_both p w;
        none = free;
      }
  result t₀ t ls e s f (of_file l o p) m u k v free =
      let part = part_of false 0 passed [] 0 t₀.own e s in
      record {
        verdict = moved (verdict π count) ∙ verdict_file π count ρ b part.verdict t.over part.over l (omega (arith, part.spent, over_once (pos 0) (λ j. ticks π j ρ b))) ∙ sym p;
        ticks = λ w. not_both p w;
        loops = λ w. not_both p w;
        long = λ w. not_both p w;
        lines = λ w. not_both p w;
        none = free;
      }
  result t₀ t ls e s f (none l o p) j u k v free =
      let part = part_of false 0 passed [] 0 t₀.own e s in
      let m : ticks π any ρ b ≤ 1_000_000_000_000 = omega (arith, part.spent, over_once (pos 0) (λ j. ticks π j ρ b)) in
      let n : t.spent ≡ ticks π any ρ b = omega (arith, part.spent, over_once (pos 0) (λ j. ticks π j ρ b)) in
      record {
        verdict = moved (verdict π count) ∙ verdict_passed π count ρ b part.verdict t.over part.over l m ∙ sym p;
        ticks = λ w. u w ∙ n ∙ sym (moved (ticks π any));
        loops = λ w. omega (arith, v w, part.count, few_in text ranges vars rows count legal few all);
        long = λ w. part.long;
        lines = λ w. ap (first_lines ls) (v w) ∙ part.lined ∙ lines_true π fine.test.some b ρ part.verdict m ∙ sym (moved (lines (alike 1) any));
        none = free;
      }

  -- the blocks' own ticks, where no loop is refused
  pub own_put : {last : List (List ℤ)} {os : List ℕ} (t₀ : LentTally) (t : Tally) (ls : List (List ℕ)) (e : tallied t₀ ρ ≡ from_parts ρ false 0 passed [] 0 t₀.own) (s : PassedPart text π rows count 0 ρ alone t₀ last (with_lent t ls os)) → OwnPut π (script_of text ranges vars rows count) t₀.own os
  unfolding script_of
  own_put t₀ t ls e s g = (part_of false 0 passed [] 0 t₀.own e s).own ∙ sym (moved (λ ρ b. put_own π ρ b t₀.own))
