-- Rows whose blocks all close, by question 6, build a tree.
use mathlib.Core.Path.{◌≡◌, sym, ap, subst}
use mathlib.Core.Logic.Iff
use mathlib.Core.Logic.{◌↔◌}
use mathlib.Core.Bool.{Bool, true, false, cond, ◌&&◌}
use mathlib.Core.List.{List, [], ◌∷◌}
use Prim.Native.Nat.{ℕ, suc, ◌+◌}
use native.Mathlib.Omega.{arith}
use lib.Dec.{ltb}
use lib.ListN.{length}
use Rattle.rules.specs.Blocks.{Plain, Test, Form, Last, View, is_plain, is_pick, is_else, is_end, is_loop, view_of, Block, done, Part, to_end, to_else, Built, parts, misfit, in_front, loop_head, pick_head, plain_row, closes, built_row, build, RowKind}
use Rattle.rules.specs.Nesting.{Open, in_loop, in_pick, in_else, Nest, Nested, nested, wrong, nest, opens, elses, ends, nest_row, and_rows, nest_rows}

-- the parts from a row on fit the blocks that are open before it; the last part runs to row `rows`
abbrev pub Fit : ℕ → List Open → List Part → Type 0
Fit rows [] [] = ⊥
Fit rows [] (to_end e b ∷ []) = e ≡ rows
Fit rows [] (to_end e b ∷ (p ∷ ps)) = ⊥
Fit rows [] (to_else e b ∷ ps) = ⊥
Fit rows (in_loop ∷ st) [] = ⊥
Fit rows (in_loop ∷ st) (to_end e b ∷ ps) = Fit rows st ps
Fit rows (in_loop ∷ st) (to_else e b ∷ ps) = ⊥
Fit rows (in_pick ∷ st) [] = ⊥
Fit rows (in_pick ∷ st) (to_end e b ∷ ps) = Fit rows st ps
Fit rows (in_pick ∷ st) (to_else e b ∷ []) = ⊥
Fit rows (in_pick ∷ st) (to_else e b ∷ (to_end f c ∷ ps)) = Fit rows st ps
Fit rows (in_pick ∷ st) (to_else e b ∷ (to_else f c ∷ ps)) = ⊥
Fit rows (in_else ∷ st) [] = ⊥
Fit rows (in_else ∷ st) (to_end e b ∷ ps) = Fit rows st ps
Fit rows (in_else ∷ st) (to_else e b ∷ ps) = ⊥

abbrev pub FitBuilt : ℕ → List Open → Built → Type 0
FitBuilt rows st (parts p ps) = Fit rows st (p ∷ ps)
FitBuilt rows st misfit = ⊥

module _ (rows : ℕ) where
  -- a part keeps its kind
  pub front : (st : List Open) (f : Block → Block) (p : Part) (ps : List Part) → Fit rows st (p ∷ ps) ↔ Fit rows st (in_front f p ∷ ps)
  unfolding in_front
  front [] f (to_end e b) [] = Iff.rfl
  front [] f (to_end e b) (q ∷ qs) = Iff.rfl
  front [] f (to_else e b) ps = Iff.rfl
  front (in_loop ∷ st) f (to_end e b) ps = Iff.rfl
  front (in_loop ∷ st) f (to_else e b) ps = Iff.rfl
  front (in_pick ∷ st) f (to_end e b) ps = Iff.rfl
  front (in_pick ∷ st) f (to_else e b) [] = Iff.rfl
  front (in_pick ∷ st) f (to_else e b) (to_end g c ∷ ps) = Iff.rfl
  front (in_pick ∷ st) f (to_else e b) (to_else g c ∷ ps) = Iff.rfl
  front (in_else ∷ st) f (to_end e b) ps = Iff.rfl
  front (in_else ∷ st) f (to_else e b) ps = Iff.rfl

  -- no open block fits no part
  pub some_part : {A : Type 0} (st : List Open) → Fit rows st [] → A
  some_part [] h = absurd h
  some_part (in_loop ∷ st) h = absurd h
  some_part (in_pick ∷ st) h = absurd h
  some_part (in_else ∷ st) h = absurd h

  plain_fit : (st : List Open) (i : ℕ) (p : Plain) (b : Built) → FitBuilt rows st b → FitBuilt rows st (plain_row i p b)
  unfolding plain_row
  plain_fit st i p (parts q qs) h = (front st _ q qs).0 h
  plain_fit st i p misfit h = absurd h

  loop_fit : (st : List Open) (i : ℕ) (form : Form) (test : Test) (last : Last) (b : Built) → FitBuilt rows (in_loop ∷ st) b → FitBuilt rows st (loop_head i form test last b)
  unfolding loop_head
  loop_fit st i form test last (parts (to_end e body) (rest ∷ more)) h = (front st _ rest more).0 h
  loop_fit st i form test last (parts (to_end e body) []) h = some_part st h
  loop_fit st i form test last (parts (to_else e body) more) h = absurd h
  loop_fit st i form test last misfit h = absurd h

  pick_fit : (st : List Open) (i : ℕ) (b : Built) → FitBuilt rows (in_pick ∷ st) b → FitBuilt rows st (pick_head i b)
  unfolding pick_head
  pick_fit st i (parts (to_end e a) (rest ∷ more)) h = (front st _ rest more).0 h
  pick_fit st i (parts (to_end e a) []) h = some_part st h
  pick_fit st i (parts (to_else k a) (to_end e b ∷ (rest ∷ more))) h = (front st _ rest more).0 h
  pick_fit st i (parts (to_else k a) (to_end e b ∷ [])) h = some_part st h
  pick_fit st i (parts (to_else k a) (to_else e b ∷ more)) h = absurd h
  pick_fit st i (parts (to_else k a) []) h = absurd h
  pick_fit st i misfit h = absurd h

-- a row that is refused gives no nest
pub wrong_not : {A : Type 0} (n : ℕ) (s : Nest) → wrong n ≡ nested s → A
wrong_not n s e = absurd (let z : ◌≡◌ {A = ℕ} 0 1 = cc in omega arith)

-- a block opens, if the limits of question 7 allow it
opened_yes : (b : Bool) (t : Nest) (rest : Nest → Nested) (last : Nest) → and_rows (cond b (nested t) (wrong 7)) rest ≡ nested last → rest t ≡ nested last
unfolding and_rows
opened_yes true t rest last e = e
opened_yes false t rest last e = wrong_not 7 last e

else_fit : (rows : ℕ) (st : List Open) (i n : ℕ) (b : Built) (rest : Nest → Nested) (last : Nest) → and_rows (elses st n) rest ≡ nested last
    → ((t : Nest) → rest t ≡ nested last → FitBuilt rows t.open_blocks b) → FitBuilt rows st (closes (to_else i done) b)
unfolding and_rows elses closes
else_fit rows [] i n b rest last e ih = wrong_not 6 last e
else_fit rows (in_loop ∷ st) i n b rest last e ih = wrong_not 6 last e
else_fit rows (in_else ∷ st) i n b rest last e ih = wrong_not 6 last e
else_fit rows (in_pick ∷ st) i n b rest last e ih = by b (ih _ e)
  where
    by : (b : Built) → FitBuilt rows (in_else ∷ st) b → FitBuilt rows (in_pick ∷ st) (closes (to_else i done) b)
    by (parts (to_end f c) ps) h = h
    by (parts (to_else f c) ps) h = absurd h
    by misfit h = absurd h

end_fit : (rows : ℕ) (st : List Open) (i n : ℕ) (b : Built) (rest : Nest → Nested) (last : Nest) → and_rows (ends st n) rest ≡ nested last
    → ((t : Nest) → rest t ≡ nested last → FitBuilt rows t.open_blocks b) → FitBuilt rows st (closes (to_end i done) b)
unfolding and_rows ends closes
end_fit rows [] i n b rest last e ih = wrong_not 6 last e
end_fit rows (o ∷ st) i n b rest last e ih = by o b (ih _ e)
  where
    by : (o : Open) (b : Built) → FitBuilt rows st b → FitBuilt rows (o ∷ st) (closes (to_end i done) b)
    by in_loop (parts p ps) h = h
    by in_pick (parts p ps) h = h
    by in_else (parts p ps) h = h
    by in_loop misfit h = absurd h
    by in_pick misfit h = absurd h
    by in_else misfit h = absurd h

row_fit : (rows : ℕ) (w : View) (i : ℕ) (s : Nest) (b : Built) (rest : Nest → Nested) (last : Nest) → and_rows (nest_row w s) rest ≡ nested last
    → ((t : Nest) → rest t ≡ nested last → FitBuilt rows t.open_blocks b) → FitBuilt rows s.open_blocks (built_row w i b)
unfolding nest_row opens and_rows built_row
row_fit rows (is_plain p) i s b rest last e ih = plain_fit rows _ i p b (ih s e)
row_fit rows is_pick i s b rest last e ih = pick_fit rows _ i b (ih _ (opened_yes (ltb (length s.open_blocks) 8) _ rest last e))
row_fit rows is_else i s b rest last e ih = else_fit rows s.open_blocks i s.loops b rest last e ih
row_fit rows is_end i s b rest last e ih = end_fit rows s.open_blocks i s.loops b rest last e ih
row_fit rows (is_loop form test at_the_end) i s b rest last e ih = loop_fit rows _ i form test at_the_end b (ih _ (opened_yes (ltb (length s.open_blocks) 8 && ltb s.loops 16) _ rest last e))

nested_fits : (rs : List RowKind) (i : ℕ) (s : Nest) (n : ℕ) → nest_rows rs s ≡ nest [] n → FitBuilt (i + length rs) s.open_blocks (build i rs)
unfolding nest_rows build
nested_fits [] i s n e =
    let q : s ≡ record { open_blocks = []; loops = n } = cc in
    subst (λ st. Fit (i + 0) st (to_end i done ∷ [])) (sym (ap (λ (t : Nest). t.open_blocks) q)) (omega arith)
nested_fits (r ∷ rs) i s n e =
    let rows : suc i + length rs ≡ i + suc (length rs) = omega arith in
    row_fit (i + suc (length rs)) (view_of r) i s (build (suc i) rs) (λ t. nest_rows rs t) _ e
    (λ t f. subst (λ m. FitBuilt m t.open_blocks (build (suc i) rs)) rows (nested_fits rs (suc i) t n f))

whole : (rows : ℕ) (b : Built) → FitBuilt rows [] b → (tree : Block) × (b ≡ parts (to_end rows tree) [])
whole rows (parts (to_end e c) []) h = (c, ap (λ n. parts (to_end n c) []) h)
whole rows (parts (to_end e c) (p ∷ ps)) h = absurd h
whole rows (parts (to_else e c) ps) h = absurd h
whole rows misfit h = absurd h

-- rows that pass the questions 6 and 7, with no block left open, are a tree
pub tree_of_lem : (rs : List RowKind) (n : ℕ) → nest_rows rs (record { open_blocks = []; loops = 0 }) ≡ nest [] n
    → (tree : Block) × (build 0 rs ≡ parts (to_end (length rs) tree) [])
tree_of_lem rs n e =
    let zero-rows : 0 + length rs ≡ length rs = omega arith in
    whole (length rs) (build 0 rs) (subst (λ m. FitBuilt m [] (build 0 rs)) zero-rows (nested_fits rs 0 _ n e))
