-- The questions 6 and 7 go by rows. They have yes exactly when the rows are a tree, at most 8 blocks deep, with at most 16 loops.
use mathlib.Core.Path.{◌≡◌, refl, sym, ◌∙◌, ap, subst}
use mathlib.Core.Logic.{◌↔◌}
use mathlib.Core.Bool.{Bool, true, false, cond, ◌&&◌}
use mathlib.Core.List.{List, [], ◌∷◌}
use Prim.Native.Nat.{ℕ, zero, suc, ◌+◌, ◌≤◌, ◌<◌, max}
use native.Mathlib.Omega.{arith}
use lib.Dec.{T, ltb, ltb→lt, lt→ltb}
use lib.ListN.{length}
use Rattle.ints.proofs.Diffs.{both, cond_true, and_in}
use Rattle.rules.specs.Blocks.{Plain, Form, Test, Last, no_step, step_by, View, is_plain, is_pick, is_else, is_end, is_loop, view_of, Block, done, plain, pick, loop, snoc, Part, to_end, to_else, Built, parts, misfit, in_front, with_last, loop_head, pick_head, plain_row, closes, built_row, build, RowKind}
use Rattle.rules.specs.Nesting.{Open, in_loop, in_pick, in_else, Nest, Nested, nested, wrong, nest, opens, elses, ends, nest_row, and_rows, nest_rows}
use Rattle.rules.specs.Scripts.{of_built, tree_of}
use Rattle.rules.specs.Calls.{is_loop_row, loop_rows}
use Rattle.rules.specs.ScriptText.{deepest}
use Rattle.rules.proofs.TreeOf.{FitBuilt, front, some_part, wrong_not, tree_of_lem}

snoc_deep : (b : Block) (i : ℕ) (p : Plain) → deepest (snoc b i p) ≡ deepest b
unfolding snoc deepest
snoc_deep done i p = refl
snoc_deep (plain j q rest) i p = snoc_deep rest i p
snoc_deep (pick j e a b rest) i p = ap (max (suc (max (deepest a) (deepest b)))) (snoc_deep rest i p)
snoc_deep (loop j e form test body rest) i p = ap (max (suc (deepest body))) (snoc_deep rest i p)

last_deep : (l : Last) (i : ℕ) (b : Block) → deepest (with_last l i b) ≡ deepest b
unfolding with_last
last_deep no_step i b = refl
last_deep (step_by p) i b = snoc_deep b i p

-- ---- the parts from a row on are not too deep
abbrev outer : ℕ → ℕ
outer zero = zero
outer (suc d) = d

-- with d blocks round the first part
abbrev Deep : ℕ → List Part → Type 0
Deep d [] = Unit {0}
Deep d (to_end e b ∷ ps) = (d + deepest b ≤ 8) × Deep (outer d) ps
Deep d (to_else e b ∷ ps) = (d + deepest b ≤ 8) × Deep d ps

abbrev DeepBuilt : ℕ → Built → Type 0
DeepBuilt d (parts p ps) = Deep d (p ∷ ps)
DeepBuilt d misfit = Unit {0}

-- a row or block in front of a part, m deep
deep_front : (f : Block → Block) (m : ℕ) → ((b : Block) → deepest (f b) ≡ max m (deepest b)) → (d : ℕ) (p : Part) (ps : List Part)
    → Deep d (in_front f p ∷ ps) ↔ ((d + m ≤ 8) × Deep d (p ∷ ps))
unfolding in_front
deep_front f m q d (to_end e b) ps = (λ (h, t). (omega (arith, q b), (omega (arith, q b), t)), λ (l, (h, t)). (omega (arith, q b), t))
deep_front f m q d (to_else e b) ps = (λ (h, t). (omega (arith, q b), (omega (arith, q b), t)), λ (l, (h, t)). (omega (arith, q b), t))

plain_deep : (i : ℕ) (p : Plain) (b : Block) → deepest (plain i p b) ≡ max 0 (deepest b)
unfolding deepest
plain_deep i p b = omega arith

loop_deep : (i e : ℕ) (form : Form) (test : Test) (last : Last) (body b : Block) → deepest (loop i e form test (with_last last i body) b) ≡ max (suc (deepest body)) (deepest b)
unfolding deepest
loop_deep i e form test last body b = ap (λ d. max (suc d) (deepest b)) (last_deep last i body)

pick_deep : (i e : ℕ) (a c b : Block) → deepest (pick i e a c b) ≡ max (suc (max (deepest a) (deepest c))) (deepest b)
unfolding deepest
pick_deep i e a c b = refl

-- ---- rows that pass are not too deep
module _ (d : ℕ) (i : ℕ) where
  plain_not_deep : (p : Plain) (b : Built) → DeepBuilt d b → d ≤ 8 → DeepBuilt d (plain_row i p b)
  unfolding plain_row
  plain_not_deep p (parts q qs) h l = (deep_front (plain i p) 0 (plain_deep i p) d q qs).1 (omega arith, h)
  plain_not_deep p misfit h l = tt

  loop_not_deep : (form : Form) (test : Test) (last : Last) (b : Built) → DeepBuilt (suc d) b → DeepBuilt d (loop_head i form test last b)
  unfolding loop_head
  loop_not_deep form test last (parts (to_end e body) (rest ∷ more)) (h, t) =
      (deep_front (loop i e form test (with_last last i body)) (suc (deepest body)) (loop_deep i e form test last body) d rest more).1 (omega arith, t)
  loop_not_deep form test last (parts (to_end e body) []) h = tt
  loop_not_deep form test last (parts (to_else e body) more) h = tt
  loop_not_deep form test last misfit h = tt

  pick_not_deep : (b : Built) → DeepBuilt (suc d) b → DeepBuilt d (pick_head i b)
  unfolding pick_head deepest
  pick_not_deep (parts (to_end e a) (rest ∷ more)) (h, t) =
      (deep_front (pick i e a done) (suc (max (deepest a) 0)) (pick_deep i e a done) d rest more).1 (omega arith, t)
  pick_not_deep (parts (to_end e a) []) h = tt
  pick_not_deep (parts (to_else j a) (to_end e b ∷ (rest ∷ more))) (h, (k, t)) =
      (deep_front (pick i e a b) (suc (max (deepest a) (deepest b))) (pick_deep i e a b) d rest more).1 (omega arith, t)
  pick_not_deep (parts (to_else j a) (to_end e b ∷ [])) h = tt
  pick_not_deep (parts (to_else j a) (to_else e b ∷ more)) h = tt
  pick_not_deep (parts (to_else j a) []) h = tt
  pick_not_deep misfit h = tt

-- a block that opens
opened : (b : Bool) (t : Nest) (rest : Nest → Nested) (last : Nest) → and_rows (cond b (nested t) (wrong 7)) rest ≡ nested last → T b × (rest t ≡ nested last)
unfolding and_rows
opened true t rest last e = (tt, e)
opened false t rest last e = wrong_not 7 last e

module _ (i : ℕ) (b : Built) (rest : Nest → Nested) (last : Nest) (later : (t : Nest) → length t.open_blocks ≤ 8 → rest t ≡ nested last → DeepBuilt (length t.open_blocks) b) where
  else_not_deep : (st : List Open) (n : ℕ) → length st ≤ 8 → and_rows (elses st n) rest ≡ nested last → DeepBuilt (length st) (closes (to_else i done) b)
  unfolding and_rows elses closes deepest
  else_not_deep [] n l e = wrong_not 6 last e
  else_not_deep (in_loop ∷ st) n l e = wrong_not 6 last e
  else_not_deep (in_else ∷ st) n l e = wrong_not 6 last e
  else_not_deep (in_pick ∷ st) n l e = by b (later _ l e)
    where
      by : (b : Built) → DeepBuilt (suc (length st)) b → DeepBuilt (suc (length st)) (closes (to_else i done) b)
      by (parts p ps) h = (omega arith, h)
      by misfit h = tt

  end_not_deep : (st : List Open) (n : ℕ) → length st ≤ 8 → and_rows (ends st n) rest ≡ nested last → DeepBuilt (length st) (closes (to_end i done) b)
  unfolding and_rows ends closes deepest
  end_not_deep [] n l e = wrong_not 6 last e
  end_not_deep (o ∷ st) n l e = by b (later _ (omega arith) e)
    where
      by : (b : Built) → DeepBuilt (length st) b → DeepBuilt (suc (length st)) (closes (to_end i done) b)
      by (parts p ps) h = (omega arith, h)
      by misfit h = tt

  row_not_deep : (w : View) (s : Nest) → length s.open_blocks ≤ 8 → and_rows (nest_row w s) rest ≡ nested last → DeepBuilt (length s.open_blocks) (built_row w i b)
  unfolding nest_row opens and_rows built_row
  row_not_deep (is_plain p) s l e = plain_not_deep (length s.open_blocks) i p b (later s l e) l
  row_not_deep is_pick s l e =
      let (t, f) = opened (ltb (length s.open_blocks) 8) _ rest last e in
      pick_not_deep (length s.open_blocks) i b (later _ (ltb→lt (length s.open_blocks) 8 t) f)
  row_not_deep is_else s l e = else_not_deep s.open_blocks s.loops l e
  row_not_deep is_end s l e = end_not_deep s.open_blocks s.loops l e
  row_not_deep (is_loop form test at_the_end) s l e =
      let (t, f) = opened (ltb (length s.open_blocks) 8 && ltb s.loops 16) _ rest last e in
      loop_not_deep (length s.open_blocks) i form test at_the_end b (later _ (ltb→lt (length s.open_blocks) 8 (both (ltb (length s.open_blocks) 8) (ltb s.loops 16) t).0) f)

rows_not_deep : (rs : List RowKind) (i : ℕ) (s : Nest) (n : ℕ) → length s.open_blocks ≤ 8 → nest_rows rs s ≡ nest [] n → DeepBuilt (length s.open_blocks) (build i rs)
unfolding nest_rows build deepest
rows_not_deep [] i s n l e = (omega arith, tt)
rows_not_deep (r ∷ rs) i s n l e = row_not_deep i (build (suc i) rs) (λ t. nest_rows rs t) _ (λ t k f. rows_not_deep rs (suc i) t n k f) (view_of r) s l e

-- ---- a tree that is not too deep passes
module _ (rows i : ℕ) (st : List Open) where
  plain_back : (p : Plain) (b : Built) → FitBuilt rows st (plain_row i p b) → DeepBuilt (length st) (plain_row i p b) → FitBuilt rows st b × DeepBuilt (length st) b
  unfolding plain_row
  plain_back p (parts q qs) f h = ((front rows st (plain i p) q qs).1 f, ((deep_front (plain i p) 0 (plain_deep i p) (length st) q qs).0 h).1)
  plain_back p misfit f h = absurd f

  loop_back : (form : Form) (test : Test) (last : Last) (b : Built) → FitBuilt rows st (loop_head i form test last b) → DeepBuilt (length st) (loop_head i form test last b)
      → (length st < 8) × FitBuilt rows (in_loop ∷ st) b × DeepBuilt (suc (length st)) b
  unfolding loop_head
  loop_back form test last (parts (to_end e body) (rest ∷ more)) f h =
      let (a, t) = (deep_front (loop i e form test (with_last last i body)) (suc (deepest body)) (loop_deep i e form test last body) (length st) rest more).0 h in
      (omega arith, (front rows st _ rest more).1 f, (omega arith, t))
  loop_back form test last (parts (to_end e body) []) f h = absurd f
  loop_back form test last (parts (to_else e body) more) f h = absurd f
  loop_back form test last misfit f h = absurd f

  pick_back : (b : Built) → FitBuilt rows st (pick_head i b) → DeepBuilt (length st) (pick_head i b) → (length st < 8) × FitBuilt rows (in_pick ∷ st) b × DeepBuilt (suc (length st)) b
  unfolding pick_head deepest
  pick_back (parts (to_end e a) (rest ∷ more)) f h =
      let (l, t) = (deep_front (pick i e a done) (suc (max (deepest a) 0)) (pick_deep i e a done) (length st) rest more).0 h in
      (omega arith, (front rows st _ rest more).1 f, (omega arith, t))
  pick_back (parts (to_end e a) []) f h = absurd f
  pick_back (parts (to_else j a) (to_end e b ∷ (rest ∷ more))) f h =
      let (l, t) = (deep_front (pick i e a b) (suc (max (deepest a) (deepest b))) (pick_deep i e a b) (length st) rest more).0 h in
      (omega arith, (front rows st _ rest more).1 f, (omega arith, (omega arith, t)))
  pick_back (parts (to_else j a) (to_end e b ∷ [])) f h = absurd f
  pick_back (parts (to_else j a) (to_else e b ∷ more)) f h = absurd f
  pick_back (parts (to_else j a) []) f h = absurd f
  pick_back misfit f h = absurd f

-- the rows after row i pass, from the blocks that are open there
abbrev Passes : ℕ → Built → (Nest → Nested) → ℕ → Type 0
Passes rows b rest more =
    (st : List Open) (n : ℕ) → FitBuilt rows st b → DeepBuilt (length st) b → n + more ≤ 16 → rest (record { open_blocks = st; loops = n }) ≡ nest [] (n + more)

module _ (rows i : ℕ) (rest : Nest → Nested) (more n : ℕ) (few : n + more ≤ 16) where
  else_passes : (st : List Open) (b : Built) → FitBuilt rows st (closes (to_else i done) b) → DeepBuilt (length st) (closes (to_else i done) b) → Passes rows b rest more
      → and_rows (elses st n) rest ≡ nest [] (n + more)
  unfolding and_rows elses closes
  else_passes st misfit f h k = absurd f
  else_passes [] (parts p ps) f h k = absurd f
  else_passes (in_loop ∷ st) (parts p ps) f h k = absurd f
  else_passes (in_else ∷ st) (parts p ps) f h k = absurd f
  else_passes (in_pick ∷ st) (parts (to_end e c) ps) f (_, h) k = k (in_else ∷ st) n f h few
  else_passes (in_pick ∷ st) (parts (to_else e c) ps) f h k = absurd f

  end_passes : (st : List Open) (b : Built) → FitBuilt rows st (closes (to_end i done) b) → DeepBuilt (length st) (closes (to_end i done) b) → Passes rows b rest more
      → and_rows (ends st n) rest ≡ nest [] (n + more)
  unfolding and_rows ends closes
  end_passes st misfit f h k = absurd f
  end_passes [] (parts p ps) f h k = absurd f
  end_passes (in_loop ∷ st) (parts p ps) f (_, h) k = k st n f h few
  end_passes (in_pick ∷ st) (parts p ps) f (_, h) k = k st n f h few
  end_passes (in_else ∷ st) (parts p ps) f (_, h) k = k st n f h few

row_passes : (rows i : ℕ) (w : View) (b : Built) (rest : Nest → Nested) (more : List ℕ) (st : List Open) (n : ℕ)
    → FitBuilt rows st (built_row w i b) → DeepBuilt (length st) (built_row w i b) → n + length (cond (is_loop_row w) (i ∷ more) more) ≤ 16 → Passes rows b rest (length more)
    → and_rows (nest_row w (record { open_blocks = st; loops = n })) rest ≡ nest [] (n + length (cond (is_loop_row w) (i ∷ more) more))
unfolding nest_row opens and_rows built_row is_loop_row
row_passes rows i (is_plain p) b rest more st n f h l k = let (g, d) = plain_back rows i st p b f h in k st n g d l
row_passes rows i is_pick b rest more st n f h l k =
    let (c, g, d) = pick_back rows i st b f h in
    ap (λ z. and_rows z rest) (cond_true (ltb (length st) 8) _ _ (lt→ltb (length st) 8 c)) ∙ k (in_pick ∷ st) n g d l
row_passes rows i is_else b rest more st n f h l k = else_passes rows i rest (length more) n l st b f h k
row_passes rows i is_end b rest more st n f h l k = end_passes rows i rest (length more) n l st b f h k
row_passes rows i (is_loop form test last) b rest more st n f h l k =
    let (c, g, d) = loop_back rows i st form test last b f h in
    let e : suc n + length more ≡ n + suc (length more) = omega arith in
    ap (λ z. and_rows z rest) (cond_true (ltb (length st) 8 && ltb n 16) _ _ (and_in (ltb (length st) 8) (ltb n 16) (lt→ltb (length st) 8 c) (lt→ltb n 16 (omega arith))))
    ∙ k (in_loop ∷ st) (suc n) g d (omega arith) ∙ ap (nest []) e

rows_pass : (rows : ℕ) (rs : List RowKind) (i : ℕ) → Passes rows (build i rs) (λ t. nest_rows rs t) (length (loop_rows i rs))
unfolding nest_rows build loop_rows
rows_pass rows [] i [] n f h l = let e : n ≡ n + 0 = omega arith in ap (nest []) e
rows_pass rows [] i (in_loop ∷ st) n f h l = some_part rows st f
rows_pass rows [] i (in_pick ∷ st) n f h l = some_part rows st f
rows_pass rows [] i (in_else ∷ st) n f h l = some_part rows st f
rows_pass rows (r ∷ rs) i st n f h l = row_passes rows i (view_of r) (build (suc i) rs) (λ t. nest_rows rs t) (loop_rows (suc i) rs) st n f h l (rows_pass rows rs (suc i))

-- ---- of all rows
pub tree_closed : (rs : List RowKind) (n : ℕ) → nest_rows rs (record { open_blocks = []; loops = 0 }) ≡ nest [] n → build 0 rs ≡ parts (to_end (length rs) (tree_of rs)) []
unfolding tree_of
tree_closed rs n e = let (tree, q) = tree_of_lem rs n e in q ∙ λ i. parts (to_end (length rs) (of_built (sym q i))) []

pub tree_deep : (rs : List RowKind) (n : ℕ) → nest_rows rs (record { open_blocks = []; loops = 0 }) ≡ nest [] n → deepest (tree_of rs) ≤ 8
tree_deep rs n e =
    let (h, _) = subst (DeepBuilt 0) (tree_closed rs n e) (rows_not_deep rs 0 _ n (omega arith) e) in omega arith

pub tree_passes : (rs : List RowKind) → build 0 rs ≡ parts (to_end (length rs) (tree_of rs)) [] → deepest (tree_of rs) ≤ 8 → length (loop_rows 0 rs) ≤ 16
    → nest_rows rs (record { open_blocks = []; loops = 0 }) ≡ nest [] (0 + length (loop_rows 0 rs))
tree_passes rs e d l =
    rows_pass (length rs) rs 0 [] 0 (subst (FitBuilt (length rs) []) (sym e) refl) (subst (DeepBuilt 0) (sym e) (omega arith, tt)) (omega arith)
