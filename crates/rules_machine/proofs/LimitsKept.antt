-- Question 10 by rows: the limit of a loop of an accepted script, where it is neither a constant nor a variable alone, is not assigned in the loop's body.
use mathlib.Core.Path.{◌≡◌, refl, sym, ◌∙◌, ap, subst}
use mathlib.Core.Bool.{not, ◌&&◌}
use mathlib.Core.List.{List, [], ◌∷◌}
use Prim.Native.Nat.{ℕ, suc, ◌<◌}
use native.Mathlib.Omega.{arith}
use lib.Dec.{T}
use lib.IntN.{pos}
use lib.ListN.{length}
use Rattle.ints.proofs.Diffs.{cond_elim}
use Rattle.rules.specs.declared.Prices.{Prices}
use Rattle.rules.specs.Expressions.{Expr, constant, variable, group, apply}
use Rattle.rules.specs.Blocks.{from, changed, off, Plain, Test, Form, while, do_while, hold, for, Last, no_step, step_by, View, is_plain, is_pick, is_else, is_end, is_loop, view_of, view_at, Block, done, plain, pick, loop, snoc, with_last, parts, to_end, build, block_at, end_at, RowKind, End, Else, Pick, Set, Move, Off, Cue, While, Do, For, Hold}
use Rattle.rules.specs.Ranges.{Env, after_row, join, at_start, ordered, sort}
use Rattle.rules.specs.Steps.{Sole, other, sole, sole_of}
use Rattle.rules.specs.Trips.{Way, own, broken, copied, chase, watched, limit_way, copies, sole_way, way_of, keeps, trip_by, inside, outside, after}
use Rattle.rules.specs.Verdicts.{passed}
use Rattle.rules.specs.Questions.{and_then, of_trip, loops_verdict, blocks_verdict, verdict}
use Rattle.rules.specs.Scripts.{Script, start_env, tree_of, Accepted}
use Rattle.rules.specs.Written.{Composed}
use Rattle.rules.proofs.Accepted.{then_yes, loop_fits}
use Rattle.rules.proofs.Rows.{LoopAt, block_loop, block_whole}
use Rattle.rules_machine.proofs.Nested.{Inherited, all_rows, each_block}

-- the loops of the block pass 19 and 8 to 12, from some ranges
abbrev LoopsPass : Block → Type 0
LoopsPass b = (ρ : Env) × (loops_verdict ρ b ≡ passed)

snoc_verdict : (b : Block) (i : ℕ) (p : Plain) (ρ : Env) → loops_verdict ρ (snoc b i p) ≡ loops_verdict ρ b
unfolding snoc loops_verdict
snoc_verdict done i p ρ = refl
snoc_verdict (plain j q rest) i p ρ = snoc_verdict rest i p (after_row ρ q)
snoc_verdict (pick j e a b rest) i p ρ = λ t. and_then (loops_verdict ρ a) (and_then (loops_verdict ρ b) (snoc_verdict rest i p (join (after ρ a) (after ρ b)) t))
snoc_verdict (loop j e form test body rest) i p ρ =
    let σ = at_start form test ρ in
    λ t. and_then (of_trip j (trip_by (way_of form test body) form σ test body)) (and_then (loops_verdict (inside form σ test body) body) (snoc_verdict rest i p (outside form σ test body) t))

last_verdict : (last : Last) (b : Block) (i : ℕ) (ρ : Env) → loops_verdict ρ (with_last last i b) ≡ loops_verdict ρ b
unfolding with_last
last_verdict no_step b i ρ = refl
last_verdict (step_by p) b i ρ = snoc_verdict b i p ρ

pass_inherited : Inherited LoopsPass
unfolding loops_verdict
pass_inherited = record {
  of_plain = λ i p rest (ρ, h). (after_row ρ p, h);
  of_pick = λ i e a b rest (ρ, h). let (x, y) = then_yes (loops_verdict ρ a) _ h in let (u, v) = then_yes (loops_verdict ρ b) _ y in ((ρ, x), (ρ, u), (_, v));
  of_loop = λ i e form test last body rest (ρ, h).
      let (x, y) = then_yes _ _ h in
      let (u, v) = then_yes (loops_verdict (inside form (at_start form test ρ) test (with_last last i body)) (with_last last i body)) _ y in
      ((_, sym (last_verdict last body i _) ∙ u), (_, v));
}

-- a kind of loop whose limit is asked
abbrev Asked : Way → Type 0
Asked own = Unit {0}
Asked broken = Unit {0}
Asked (copied w ahead) = Unit {0}
Asked (chase w) = ⊥
Asked (watched w c k ahead) = ⊥

asked_keeps : (i : ℕ) (form : Form) (ρ : Env) (test : Test) (body : Block) (way : Way) → Asked way → of_trip i (trip_by way form ρ test body) ≡ passed → T (keeps test.limit body)
unfolding trip_by
asked_keeps i form ρ test body own a q = (loop_fits i _ _ _ _ _ _ _ _ q).1
asked_keeps i form ρ test body broken a q = (loop_fits i _ _ _ _ _ _ _ _ q).1
asked_keeps i form ρ test body (copied w ahead) a q = (loop_fits i _ _ _ _ _ _ _ _ q).1
asked_keeps i form ρ test body (chase w) a q = absurd a
asked_keeps i form ρ test body (watched w c k ahead) a q = absurd a

module _ (test : Test) (body : Block) where
  limit_asked : (x : Expr) → Composed x → Asked (limit_way test body x)
  unfolding limit_way Composed
  limit_asked (constant k) c = tt
  limit_asked (group x) c = tt
  limit_asked (apply o x y) c = tt
  limit_asked (variable w) c = absurd c

  sole_asked : Composed test.limit → (s : Sole) → Asked (sole_way test body s)
  unfolding sole_way
  sole_asked c other = limit_asked test.limit c
  sole_asked c (sole w (from x) before after) = cond_elim Asked (copies test body w before after) (copied w before) own (λ _. tt) (λ _. tt)
  sole_asked c (sole w (changed d) before after) = tt
  sole_asked c (sole w (off u k n) before after) = tt

  -- a hold's limit is 0
  abbrev Holds : Form → Type 0
  Holds while = Unit {0}
  Holds do_while = Unit {0}
  Holds hold = test.limit ≡ constant (pos 0)
  Holds (for x) = Unit {0}

  way_asked : (form : Form) → Holds form → Composed test.limit → Asked (way_of form test body)
  unfolding way_of Composed
  way_asked while h c = sole_asked c _
  way_asked do_while h c = sole_asked c _
  way_asked hold h c = absurd (subst Composed h c)
  way_asked (for x) h c = limit_asked test.limit c

abbrev HoldsZero : View → Type 0
HoldsZero (is_plain p) = Unit {0}
HoldsZero is_pick = Unit {0}
HoldsZero is_else = Unit {0}
HoldsZero is_end = Unit {0}
HoldsZero (is_loop form test last) = Holds test done form

holds_zero_lem : (k : RowKind) → HoldsZero (view_of k)
unfolding view_of
holds_zero_lem End = tt
holds_zero_lem Else = tt
holds_zero_lem Pick = tt
holds_zero_lem (Set v x) = tt
holds_zero_lem (Move v c) = tt
holds_zero_lem (Off v w c k) = tt
holds_zero_lem (Cue n) = tt
holds_zero_lem (While v c x) = tt
holds_zero_lem (Do v c x) = tt
holds_zero_lem (For v s c x d) = tt
holds_zero_lem (Hold v) = refl

-- the limits of a script's loops
pub limit_keeps : {π : Prices} (script : Script) → Accepted π script → (tree : Block) → build 0 script.rows ≡ parts (to_end (length script.rows) tree) []
    → (h : ℕ) → h < length script.rows → (form : Form) (test : Test) (last : Last) → view_at script.rows h ≡ is_loop form test last → Composed test.limit
    → T (keeps test.limit (with_last last h (block_at script.rows (suc h))))
unfolding verdict loops_verdict
limit_keeps script accepted tree whole h l form test last v c =
    let rows = script.rows in
    let first : LoopsPass (block_at rows 0) = subst LoopsPass (sym (block_whole rows tree whole)) (start_env script.ranges, (then_yes _ _ accepted.loops).0) in
    let (ρ, here) = each_block rows tree whole LoopsPass pass_inherited 0 (length rows) (all_rows rows tree whole) first h (omega arith) (omega arith) in
    let at = block_loop rows tree whole h l form test last v in
    asked_keeps h form (at_start form test ρ) test (with_last last h (block_at rows (suc h))) _
    (way_asked test _ form (subst HoldsZero v (holds_zero_lem _)) c) (then_yes _ _ (subst (λ b. loops_verdict ρ b ≡ passed) at.block here)).0
