-- The loops of a script are those of its rows.
use mathlib.Core.Path.{◌≡◌, refl, sym, ◌∙◌, ap, subst}
use mathlib.Core.List.{List, [], ◌∷◌}
use Prim.Native.Nat.{ℕ, zero, suc, ◌+◌}
use native.Mathlib.Omega.{arith}
use lib.ListN.{length, drop}
use Rattle.rules.specs.Blocks.{RowKind, Plain, Test, Form, Last, no_step, step_by, View, is_plain, is_pick, is_else, is_end, is_loop, view_at, Block, done, plain, pick, loop, snoc, Part, to_end, to_else, Built, parts, misfit, in_front, with_last, loop_head, pick_head, plain_row, closes, built_row, build, block_of, block_at}
use Rattle.rules.specs.Ranges.{Env, after_row, join, at_start}
use Rattle.rules.specs.Trips.{inside, outside, after}
use Rattle.rules.specs.Scripts.{All, none, some, start_env, of_built, tree_of}
use Rattle.rules.specs.Stepping.{loops_in, FromRow, LoopsFromRows}
use Rattle.rules.proofs.Rows.{parts_row, parts_last}
use Rattle.rules.proofs.Totals.{all_append}

module _ (rows : List RowKind) where
  -- what row i says of a loop there
  record Says (i : ℕ) (form : Form) (test : Test) (body : Block) : Type 0 where
    last : Last
    head : view_at rows i ≡ is_loop form test last
    inner : body ≡ with_last last i (block_at rows (suc i))

  unfoldable Faithful : Block → Type 0
  Faithful done = Unit {0}
  Faithful (plain i p rest) = Faithful rest
  Faithful (pick i e a b rest) = Faithful a × Faithful b × Faithful rest
  Faithful (loop i e form test body rest) = Says i form test body × Faithful body × Faithful rest

  abbrev block_in : Part → Block
  block_in (to_end e b) = b
  block_in (to_else e b) = b

  abbrev AllFaithful : List Part → Type 0
  AllFaithful [] = Unit {0}
  AllFaithful (p ∷ ps) = Faithful (block_in p) × AllFaithful ps

  abbrev Faithfully : Built → Type 0
  Faithfully (parts p ps) = AllFaithful (p ∷ ps)
  Faithfully misfit = Unit {0}

  front : (f : Block → Block) (p : Part) (ps : List Part) → ((b : Block) → Faithful b → Faithful (f b)) → AllFaithful (p ∷ ps) → AllFaithful (in_front f p ∷ ps)
  unfolding in_front
  front f (to_end e b) ps g (h, t) = (g b h, t)
  front f (to_else e b) ps g (h, t) = (g b h, t)

  snoc_faithful : (b : Block) (i : ℕ) (p : Plain) → Faithful b → Faithful (snoc b i p)
  unfolding snoc Faithful
  snoc_faithful done i p h = tt
  snoc_faithful (plain j q rest) i p h = snoc_faithful rest i p h
  snoc_faithful (pick j e a b rest) i p (x, y, h) = (x, y, snoc_faithful rest i p h)
  snoc_faithful (loop j e form test body rest) i p (x, y, h) = (x, y, snoc_faithful rest i p h)

  last_faithful : (last : Last) (i : ℕ) (b : Block) → Faithful b → Faithful (with_last last i b)
  unfolding with_last
  last_faithful no_step i b h = h
  last_faithful (step_by p) i b h = snoc_faithful b i p h

  plain_faithful : (i : ℕ) (p : Plain) (b : Built) → Faithfully b → Faithfully (plain_row i p b)
  unfolding plain_row Faithful
  plain_faithful i p (parts q ps) h = front (plain i p) q ps (λ b k. k) h
  plain_faithful i p misfit h = tt

  pick_faithful : (i : ℕ) (b : Built) → Faithfully b → Faithfully (pick_head i b)
  unfolding pick_head Faithful
  pick_faithful i (parts (to_end e a) (rest ∷ more)) (h, t) = front (pick i e a done) rest more (λ b k. (h, tt, k)) t
  pick_faithful i (parts (to_end e a) []) h = tt
  pick_faithful i (parts (to_else j a) (to_end e b ∷ (rest ∷ more))) (h, (k, t)) = front (pick i e a b) rest more (λ c l. (h, k, l)) t
  pick_faithful i (parts (to_else j a) (to_end e b ∷ [])) h = tt
  pick_faithful i (parts (to_else j a) (to_else e b ∷ more)) h = tt
  pick_faithful i (parts (to_else j a) []) h = tt
  pick_faithful i misfit h = tt

  loop_faithful : (i : ℕ) (form : Form) (test : Test) (last : Last) (b : Built) → view_at rows i ≡ is_loop form test last → block_of b ≡ block_at rows (suc i) → Faithfully b
      → Faithfully (loop_head i form test last b)
  unfolding loop_head Faithful
  loop_faithful i form test last (parts (to_end e body) (rest ∷ more)) v q (h, t) =
      front (loop i e form test (with_last last i body)) rest more (λ b k. (record { last = last; head = v; inner = ap (with_last last i) q }, last_faithful last i body h, k)) t
  loop_faithful i form test last (parts (to_end e body) []) v q h = tt
  loop_faithful i form test last (parts (to_else e body) more) v q h = tt
  loop_faithful i form test last misfit v q h = tt

  close_faithful : (p : Part) (b : Built) → Faithful (block_in p) → Faithfully b → Faithfully (closes p b)
  unfolding closes
  close_faithful p (parts q ps) s h = (s, h)
  close_faithful p misfit s h = tt

  row_faithful : (v : View) (i : ℕ) (b : Built) → view_at rows i ≡ v → block_of b ≡ block_at rows (suc i) → Faithfully b → Faithfully (built_row v i b)
  unfolding built_row Faithful
  row_faithful (is_plain p) i b e q h = plain_faithful i p b h
  row_faithful is_pick i b e q h = pick_faithful i b h
  row_faithful is_else i b e q h = close_faithful (to_else i done) b tt h
  row_faithful is_end i b e q h = close_faithful (to_end i done) b tt h
  row_faithful (is_loop form test last) i b e q h = loop_faithful i form test last b e q h

  from_row : (n i : ℕ) → i + n ≡ length rows → Faithfully (build i (drop i rows))
  unfolding Faithful block_at
  from_row zero i e = let z : i ≡ length rows = omega arith in subst Faithfully (sym (ap (λ j. build j (drop j rows)) z ∙ parts_last rows)) (tt, tt)
  from_row (suc n) i e = subst Faithfully (sym (parts_row rows i (omega arith))) (row_faithful (view_at rows i) i (build (suc i) (drop (suc i) rows)) refl refl (from_row n (suc i) (omega arith)))

  tree_faithful : Faithful (tree_of rows)
  unfolding tree_of Faithful
  tree_faithful = by (build 0 (drop 0 rows)) (from_row (length rows) 0 (omega arith))
    where
      by : (b : Built) → Faithfully b → Faithful (of_built b)
      by (parts (to_end e b) []) (h, t) = h
      by (parts (to_end e b) (p ∷ ps)) h = tt
      by (parts (to_else e b) ps) h = tt
      by misfit h = tt

  loops_faithful : (b : Block) (ρ : Env) → Faithful b → All (FromRow rows) (loops_in ρ b)
  unfolding Faithful loops_in
  loops_faithful done ρ h = none
  loops_faithful (plain i p rest) ρ h = loops_faithful rest (after_row ρ p) h
  loops_faithful (pick i e a b rest) ρ (x, y, h) = all_append (loops_faithful a ρ x) (all_append (loops_faithful b ρ y) (loops_faithful rest (join (after ρ a) (after ρ b)) h))
  loops_faithful (loop i e form test body rest) ρ (s, x, h) =
      let σ = at_start form test ρ in
      some (record { last = s.last; head = s.head; body = s.inner }) (all_append (loops_faithful body (inside form σ test body) x) (loops_faithful rest (outside form σ test body) h))

pub loops_from_rows : LoopsFromRows
unfolding LoopsFromRows
loops_from_rows script = loops_faithful script.rows (tree_of script.rows) (start_env script.ranges) (tree_faithful script.rows)
