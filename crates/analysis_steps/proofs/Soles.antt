-- The walk that finds the only assignment of a variable.
use mathlib.Core.Path.{◌≡◌, refl, ap, ◌∙◌}
use mathlib.Core.Bool.{Bool, true, false, cond, ◌||◌}
use mathlib.Core.List.{List}
use Prim.Native.Nat.{ℕ}
use lib.Dec.{eqb}
use lib.IntN.{ℤ}
use Rattle.rules.specs.declared.Row.{Row}
use Rattle.rules.specs.declared.Operand.{Operand}
use Rattle.rules.specs.declared.Operand.TheVariants.{Constant, Variable, Expression}
use Rattle.rules.specs.declared.Kind.{Kind}
use Rattle.rules.specs.declared.Kind.TheVariants.{Set, Move, Cue, Pick, Else, End, While, Do, For, Off, Hold}
use Rattle.rules.specs.declared.Comparison.{Comparison}
use Rattle.rules.specs.Expressions.{Expr, constant, variable, group, apply}
use Rattle.rules.specs.Written.{Composed, Written}
use Rattle.rules.specs.Blocks.{Plain, Source, from, off, assign, view_of, expr_of, kind_of, with_last, Block, done, plain, pick, loop}
use Rattle.rules.specs.Steps.{sets, starts, assigns, other, sole, behind, sole_at, sole_row, sole_of}
use Rattle.rules.proofs.Sole.{behind_none, behind_twice}
use Rattle.table.specs.declared.Shape.{Shape}
use Rattle.table.specs.Shapes.{shape_of, plain_of}
use Rattle.analysis_steps.specs.declared.StepOver.{StepOver}
use Rattle.analysis_steps.specs.declared.variable_set.VariableSet.{VariableSet}
use Rattle.analysis_steps.specs.Tree.{block_at, head_of, form_of, test_of}
use Rattle.analysis_steps.specs.Sets.{set_of, none, with_row, assigns_from}
use Rattle.analysis_steps.specs.Body.{MovesOf}
use Rattle.analysis_steps.specs.Soles.{sole_from}
use Rattle.analysis_steps.proofs.Sets.{or_false, pick_adds, loop_adds}

-- what a block assigns, found from no set
pub rest_is : {text : List ℕ} {rows : List Row} {count at v : ℕ} {z n : VariableSet} {m : StepOver} → set_of z ≡ none → MovesOf text rows count at v z n m → (u : ℕ) → set_of n u ≡ assigns u (block_at text rows count at)
unfolding assigns_from none
rest_is {text} {rows} {count} {at} e k u = ap (λ (y : ℕ → Bool). y u) (k.sets.value ∙ ap (λ x. assigns_from x (block_at text rows count at)) e)

-- the rows `set v w` and `off v w > C`
pub copy_reads : (text : List ℕ) (v : ℕ) {k : Kind} {u w : ℕ} → k ≡ Set u (Variable w) → (rest : Block) → sole_row v (plain_of text k) rest ≡ sole_at v w (from (variable w)) rest
unfolding sole_row view_of kind_of expr_of
copy_reads text v e rest = rw e

pub off_reads : (text : List ℕ) (v : ℕ) {k : Kind} {u w : ℕ} {c : Comparison} {n : ℤ} → k ≡ Off u w c n → (rest : Block) → sole_row v (plain_of text k) rest ≡ sole_at v w (off w c n) rest
unfolding sole_row view_of kind_of
off_reads text v e rest = rw e

module _ (v : ℕ) where
  pub from_nothing : {x : ℕ → Bool} → x ≡ none → (b : Block) → sole_from v x b ≡ sole_of v b
  unfolding sole_from none
  from_nothing e b = ap (λ y. behind y v (sole_of v b)) e ∙ behind_none v (sole_of v b)

  module _ (x : ℕ → Bool) where
    pub sole_done : sole_from v x done ≡ other
    unfolding sole_from sole_of behind
    sole_done = refl

    -- a row that does not assign v, and one that does
    pub sole_past : (i : ℕ) (p : Plain) → sets v p ≡ false → (rest : Block) → sole_from v x (plain i p rest) ≡ sole_from v (with_row x p) rest
    unfolding sole_from sole_of with_row
    sole_past i p h rest = rw h (behind_twice x (λ w. sets w p) v (sole_of v rest))

    pub sole_here : (i : ℕ) (p : Plain) → sets v p ≡ true → (rest : Block) → sole_from v x (plain i p rest) ≡ behind x v (sole_row v p rest)
    unfolding sole_from sole_of
    sole_here i p h rest = rw h

    pub sole_pick : (i e : ℕ) (a b rest : Block) → sole_from v x (pick i e a b rest) ≡ sole_from v (assigns_from (assigns_from x a) b) rest
    unfolding sole_from sole_of
    sole_pick i e a b rest = behind_twice x (λ w. assigns w a || assigns w b) v (sole_of v rest) ∙ ap (λ y. behind y v (sole_of v rest)) (pick_adds x a b)

    pub sole_loop : (i : ℕ) (text : List ℕ) (k : Kind) → shape_of k ≡ Shape.Loop → (e : ℕ) (b rest : Block)
        → sole_from v x (loop i e (form_of text k) (test_of text k) (with_last (head_of text k).last i b) rest) ≡ sole_from v (with_row (assigns_from x b) (plain_of text k)) rest
    unfolding sole_from sole_of
    sole_loop i text k h e b rest =
        behind_twice x (λ w. starts w (form_of text k) (test_of text k) || assigns w (with_last (head_of text k).last i b)) v (sole_of v rest) ∙ ap (λ y. behind y v (sole_of v rest)) (loop_adds x i text k h b)

    -- a row that assigns v and reads w
    pub read_is : (p : Plain) (w : ℕ) (y : Source) (rest : Block) → sole_row v p rest ≡ sole_at v w y rest
        → behind x v (sole_row v p rest) ≡ cond (eqb w v) other (cond (assigns v rest) other (cond (x v) other (sole w y (x w) (assigns w rest))))
    unfolding behind
    read_is p w y rest e = ap (behind x v) e ∙ by (eqb w v) (assigns v rest)
      where
        by : (p q : Bool) → behind x v (cond (p || q) other (sole w y false (assigns w rest))) ≡ cond p other (cond q other (cond (x v) other (sole w y (x w) (assigns w rest))))
        by true q = refl
        by false true = refl
        by false false = ap (λ z. cond (x v) other (sole w y z (assigns w rest))) (or_false (x w))

    -- any other row
    constant_is : (text : List ℕ) {k : Kind} {u : ℕ} {n : ℤ} → k ≡ Set u (Constant n) → (rest : Block) → behind x v (sole_row v (plain_of text k) rest) ≡ other
    unfolding sole_row behind view_of kind_of expr_of
    constant_is text e rest = rw e

    -- an expression that is neither a constant nor a variable
    composed_by : (u : ℕ) (e : Expr) → Composed e → (rest : Block) → behind x v (sole_row v (assign u (from e)) rest) ≡ other
    unfolding sole_row behind Composed
    composed_by u (constant k) h rest = absurd h
    composed_by u (variable w) h rest = absurd h
    composed_by u (group e) h rest = refl
    composed_by u (apply o d e) h rest = refl

    composed_is : (text : List ℕ) {k : Kind} {u at n : ℕ} → k ≡ Set u (Expression at n) → Written text k → (rest : Block) → behind x v (sole_row v (plain_of text k) rest) ≡ other
    unfolding view_of kind_of expr_of
    composed_is text {u = u} e h rest = let w = rw e at h in rw e (composed_by u _ w.composed rest)

    -- a set of what is no variable
    pub set_is : (text : List ℕ) {k : Kind} {u : ℕ} (y : Operand) → ((w : ℕ) → y ≡ Variable w → ⊥) → k ≡ Set u y → Written text k → (rest : Block) → behind x v (sole_row v (plain_of text k) rest) ≡ other
    set_is text (Constant n) f e h rest = constant_is text e rest
    set_is text (Variable w) f e h rest = absurd (f w refl)
    set_is text (Expression at n) f e h rest = composed_is text e h rest

    -- neither a set nor an off
    pub change_is : (text : List ℕ) (k : Kind) → ((u : ℕ) (y : Operand) → k ≡ Set u y → ⊥) → ((u w : ℕ) (c : Comparison) (n : ℤ) → k ≡ Off u w c n → ⊥) → (rest : Block) → behind x v (sole_row v (plain_of text k) rest) ≡ other
    unfolding view_of kind_of sole_row behind
    change_is text End f g rest = refl
    change_is text Else f g rest = refl
    change_is text Pick f g rest = refl
    change_is text (Set u y) f g rest = absurd (f u y refl)
    change_is text (Move u c) f g rest = refl
    change_is text (Off u w c k) f g rest = absurd (g u w c k refl)
    change_is text (Cue n) f g rest = refl
    change_is text (While u c y) f g rest = refl
    change_is text (Do u c y) f g rest = refl
    change_is text (For u s c y d) f g rest = refl
    change_is text (Hold u) f g rest = refl
