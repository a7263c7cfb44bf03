-- The set of assigned variables as a fold from the first row.
use mathlib.Core.Path.{◌≡◌, refl, sym, ap, ◌∙◌}
use mathlib.Core.Bool.{Bool, true, false, cond, ◌||◌, ◌&&◌}
use mathlib.Core.List.{List, [], ◌∷◌}
use Prim.Native.Nat.{ℕ, zero, suc, ◌+◌, ◌≤◌, ◌<◌}
use native.Mathlib.Omega.{arith}
use lib.Dec.{eqb, ltb}
use lib.ListN.{length, get_or, set, get_or-eq_default}
use lib.Seq.{get_or-set_same, get_or-set_other}
use borrow.Author.Tests.{eqb-true, eqb-false, ltb-true, ltb-false, lt-ltb, le-ltb}
use Rattle.rules.specs.declared.Kind.{Kind}
use Rattle.rules.specs.declared.Kind.TheVariants.{Set, Move, Cue, Pick, Else, End, While, Do, For, Off, Hold}
use Rattle.rules.specs.Blocks.{Plain, Last, no_step, step_by, View, is_plain, is_pick, is_else, is_end, is_loop, view_of, kind_of, with_last, Block, done, plain, pick, loop, snoc}
use Rattle.rules.specs.Steps.{sets, starts, assigns}
use Rattle.rules.proofs.Laws.{no_true, put_set}
use Rattle.table.specs.declared.Shape.{Shape}
use Rattle.table.specs.Shapes.{shape_by, shape_of, last_row, plain_by, plain_of}
use Rattle.table.proofs.Laws.{shape_text}
use Rattle.analysis_steps.specs.declared.variable_set.VariableSet.{VariableSet}
use Rattle.analysis_steps.specs.Tree.{head_by, head_of, form_of, test_of}
use Rattle.analysis_steps.specs.Sets.{set_of, none, with_one, with_row, both_of, assigns_from}

or_assoc : (a b c : Bool) → a || (b || c) ≡ (a || b) || c
or_assoc true b c = refl
or_assoc false b c = refl

pub or_false : (x : Bool) → x || false ≡ x
or_false true = refl
or_false false = refl

-- a row at the end
pub assigns_snoc : (v : ℕ) (b : Block) (i : ℕ) (p : Plain) → assigns v (snoc b i p) ≡ assigns v b || sets v p
unfolding assigns snoc
assigns_snoc v done i p = or_false (sets v p)
assigns_snoc v (plain j q rest) i p = rw (assigns_snoc v rest i p) (or_assoc (sets v q) _ _)
assigns_snoc v (pick j e a b rest) i p = rw (assigns_snoc v rest i p) (or_assoc (assigns v a || assigns v b) _ _)
assigns_snoc v (loop j e form test body rest) i p = rw (assigns_snoc v rest i p) (or_assoc (starts v form test || assigns v body) _ _)

or_cond : (a t : Bool) → cond t true a ≡ a || t
or_cond true true = refl
or_cond true false = refl
or_cond false true = refl
or_cond false false = refl

-- one variable stored
pub set_one : (s : VariableSet) (v : ℕ) → v < length s.has → set_of (record { has = set s.has v true }) ≡ with_one (set_of s) v
unfolding set_of with_one
set_one s v h = put_set s.has v true false h ∙ (λ d w. or_cond (get_or s.has w false) (eqb w v) d)

-- the rows that assign v, and those that assign none
pub row_one : (x : ℕ → Bool) (v : ℕ) (p : Plain) → ((w : ℕ) → sets w p ≡ eqb w v) → with_one x v ≡ with_row x p
unfolding with_one with_row
row_one x v p h = λ d w. x w || sym (h w) d

pub row_none : (x : ℕ → Bool) (p : Plain) → ((w : ℕ) → sets w p ≡ false) → x ≡ with_row x p
unfolding with_row
row_none x p h = λ d w. (sym (or_false (x w)) ∙ ap (λ z. x w || z) (sym (h w))) d

module _ (x : ℕ → Bool) where
  -- what a pick adds to a set
  pub pick_adds : (a b : Block) → (λ w. x w || (assigns w a || assigns w b)) ≡ assigns_from (assigns_from x a) b
  unfolding assigns_from
  pick_adds a b = λ d w. or_assoc (x w) (assigns w a) (assigns w b) d

  pub from_none : assigns_from x done ≡ x
  unfolding assigns_from assigns
  from_none = λ d w. or_false (x w) d

  module _ (i : ℕ) where
    pub from_plain : (p : Plain) (rest : Block) → assigns_from x (plain i p rest) ≡ assigns_from (with_row x p) rest
    unfolding assigns_from assigns with_row
    from_plain p rest = λ d w. or_assoc (x w) (sets w p) (assigns w rest) d

    pub from_pick : (e : ℕ) (a b rest : Block) → assigns_from x (pick i e a b rest) ≡ assigns_from (assigns_from (assigns_from x a) b) rest
    unfolding assigns_from assigns
    from_pick e a b rest = λ d w. (or_assoc (x w) (assigns w a || assigns w b) (assigns w rest) ∙ ap (λ (y : ℕ → Bool). y w || assigns w rest) (pick_adds a b)) d

-- what a loop assigns, its start and its body: what its body assigns
pub body_assigns : (v : ℕ) (l : Last) (i : ℕ) (b : Block) → assigns v (with_last l i b) ≡ assigns v b || sets v (last_row l)
unfolding with_last sets
body_assigns v no_step i b = sym (or_false _)
body_assigns v (step_by p) i b = assigns_snoc v b i p

-- a loop's head stands for its body's last row
pub head_row : (text : List ℕ) (k : Kind) → shape_of k ≡ Shape.Loop → plain_of text k ≡ last_row (head_of text k).last
unfolding head_of
head_row text k h = by (view_of (kind_of text k)) (shape_text text k ∙ h)
  where
    by : (w : View) → shape_by w ≡ Shape.Loop → plain_by w ≡ last_row (head_by w).last
    by (is_plain p) h = absurd (let z : ◌≡◌ {A = ℕ} 0 1 = cc in omega arith)
    by is_pick h = refl
    by is_else h = refl
    by is_end h = refl
    by (is_loop form test last) h = refl

or_self : (a : Bool) → a || a ≡ a
or_self true = refl
or_self false = refl

-- what a for's start assigns, its step row assigns
start_row : (text : List ℕ) (k : Kind) (v : ℕ) → starts v (form_of text k) (test_of text k) || sets v (last_row (head_of text k).last) ≡ sets v (last_row (head_of text k).last)
unfolding head_of view_of kind_of sets
start_row text (Set w x) v = refl
start_row text (Move w c) v = refl
start_row text (Cue n) v = refl
start_row text Pick v = refl
start_row text Else v = refl
start_row text End v = refl
start_row text (While w c x) v = refl
start_row text (Do w c x) v = refl
start_row text (For w s c x d) v = or_self (eqb v w)
start_row text (Off w u c k) v = refl
start_row text (Hold w) v = refl

or_within : (a b c : Bool) → a || c ≡ c → a || (b || c) ≡ b || c
or_within true true c h = refl
or_within true false c h = h
or_within false b c h = refl

pub loop_assigns : (v : ℕ) (text : List ℕ) (k : Kind) (i : ℕ) (b : Block) → starts v (form_of text k) (test_of text k) || assigns v (with_last (head_of text k).last i b) ≡ assigns v (with_last (head_of text k).last i b)
loop_assigns v text k i b = rw (body_assigns v (head_of text k).last i b) (or_within (starts v (form_of text k) (test_of text k)) (assigns v b) _ (start_row text k v))

-- what a loop adds to a set
pub loop_adds : (x : ℕ → Bool) (i : ℕ) (text : List ℕ) (k : Kind) → shape_of k ≡ Shape.Loop → (b : Block)
    → (λ w. x w || (starts w (form_of text k) (test_of text k) || assigns w (with_last (head_of text k).last i b))) ≡ with_row (assigns_from x b) (plain_of text k)
unfolding assigns_from with_row
loop_adds x i text k h b = rw (head_row text k h) (λ d w. (ap (λ z. x w || z) (loop_assigns w text k i b ∙ body_assigns w (head_of text k).last i b) ∙ or_assoc (x w) (assigns w b) (sets w (last_row (head_of text k).last))) d)

pub from_loop : (x : ℕ → Bool) (i : ℕ) (text : List ℕ) (k : Kind) → shape_of k ≡ Shape.Loop → (e : ℕ) (b rest : Block)
    → assigns_from x (loop i e (form_of text k) (test_of text k) (with_last (head_of text k).last i b) rest) ≡ assigns_from (with_row (assigns_from x b) (plain_of text k)) rest
unfolding assigns_from assigns with_row
from_loop x i text k h e b rest = λ d w.
    (or_assoc (x w) (starts w (form_of text k) (test_of text k) || assigns w (with_last (head_of text k).last i b)) (assigns w rest) ∙ ap (λ (y : ℕ → Bool). y w || assigns w rest) (loop_adds x i text k h b)) d

-- no variable is in the set
unfoldable pub clear : List Bool → Bool
clear [] = true
clear (true ∷ l) = false
clear (false ∷ l) = clear l

none_in : (l : List Bool) → clear l ≡ true → (w : ℕ) → get_or l w false ≡ false
unfolding clear
none_in [] e w = refl
none_in (true ∷ l) e w = no_true e
none_in (false ∷ l) e zero = refl
none_in (false ∷ l) e (suc w) = none_in l e w

pub no_set : (s : VariableSet) → clear s.has ≡ true → set_of s ≡ none
unfolding set_of none
no_set s e = λ d w. none_in s.has e w d

-- a loop's set, joined to those before
pub both_loop : (x : ℕ → Bool) (b : Block) (p : Plain) → both_of x (with_row (assigns_from none b) p) ≡ with_row (assigns_from x b) p
unfolding both_of assigns_from none with_row
both_loop x b p = λ d w. or_assoc (x w) (assigns w b) (sets w p) d

-- the set of a loop's body
pub body_set : (v : ℕ) (text : List ℕ) (k : Kind) → shape_of k ≡ Shape.Loop → (i : ℕ) (b : Block) → with_row (assigns_from none b) (plain_of text k) v ≡ assigns v (with_last (head_of text k).last i b)
unfolding none with_row assigns_from
body_set v text k h i b = rw (head_row text k h) (sym (body_assigns v (head_of text k).last i b))

-- the union of two sets, up to variable i
module _ (a b : VariableSet) where
  pub record Joined (i : ℕ) (r : VariableSet) : Type 0 where
    pub some : i ≤ 16
    pub value : (w : ℕ) → set_of r w ≡ set_of a w || (ltb w i && set_of b w)

  pub joined_none : Joined 0 a
  joined_none = record { some = omega arith; value = λ w. rw (le-ltb w 0 (omega arith)) (sym (or_false (set_of a w))) }

  module _ (i : ℕ) (r : VariableSet) (n : length r.has ≡ 16) (h : i < 16) (j : Joined i r) where
    -- variable i is as it was
    as_before : set_of r i ≡ set_of a i
    as_before = j.value i ∙ rw (le-ltb i i (omega arith)) (or_false (set_of a i))

    one_at : (w : ℕ) (same : Bool) → eqb w i ≡ same → set_of (record { has = set r.has i (set_of r i || set_of b i) }) w ≡ set_of a w || (ltb w (i + 1) && set_of b w)
    unfolding set_of
    one_at w true e =
        let q = eqb-true w i e in
        rw (q, get_or-set_same r.has i (get_or r.has i false || get_or b.has i false) false (omega arith), lt-ltb i (i + 1) (omega arith), as_before)
    one_at w false e =
        let q = eqb-false w i e in
        rw (get_or-set_other r.has i w (get_or r.has i false || get_or b.has i false) false q) (j.value w ∙ ap (λ t. get_or a.has w false || (t && get_or b.has w false)) (later w (ltb w i) refl q))
      where
        later : (w : ℕ) (t : Bool) → ltb w i ≡ t → (w ≡ i → ⊥) → ltb w i ≡ ltb w (i + 1)
        later w true e q = let l = ltb-true w i e in e ∙ sym (lt-ltb w (i + 1) (omega arith))
        later w false e q = let l = ltb-false w i e in e ∙ sym (le-ltb w (i + 1) (omega arith))

    pub joined_next : Joined (i + 1) (record { has = set r.has i (set_of r i || set_of b i) })
    joined_next = record { some = omega arith; value = λ w. one_at w (eqb w i) refl }

  pub joined_all : (r : VariableSet) → length b.has ≡ 16 → Joined 16 r → set_of r ≡ both_of (set_of a) (set_of b)
  unfolding both_of set_of
  joined_all r l j = λ d w. (j.value w ∙ ap (λ t. set_of a w || t) (all w (ltb w 16) refl)) d
    where
      all : (w : ℕ) (t : Bool) → ltb w 16 ≡ t → ltb w 16 && set_of b w ≡ set_of b w
      all w true e = rw e
      all w false e = let h = ltb-false w 16 e in rw (e, get_or-eq_default b.has false {n = w} (omega arith))
