-- Which way a loop goes, from what the code finds.
use mathlib.Core.Path.{◌≡◌, refl, sym, ap, ◌∙◌}
use mathlib.Core.Bool.{Bool, true, false, not, cond, ◌&&◌, false≢true}
use Prim.Native.Nat.{ℕ}
use lib.Dec.{T, eqb}
use lib.IntN.{ℤ}
use Rattle.rules.specs.Expressions.{Expr, constant, variable, group, apply}
use Rattle.rules.specs.Written.{Composed}
use Rattle.rules.specs.declared.Comparison.{Comparison}
use Rattle.rules_steps.specs.declared.Step.TheVariants.{Unknown}
use Rattle.rules.specs.Values.{opposite}
use Rattle.rules.specs.Blocks.{Test, Form, while, do_while, hold, for, from, off, Block}
use Rattle.rules.specs.Steps.{assigns, step, is_add, moving, other, sole, sole_of}
use Rattle.rules.specs.Ranges.{is_hold, sort, ordered}
use Rattle.rules.specs.Trips as trips
use Rattle.rules.specs.Trips.{keeps, own, broken, copied, chase, watched, limit_way, sole_way, hold_way, toward, way_of}
use Rattle.rules.specs.Questions.{known}
use Rattle.rules.proofs.Sole.{known_limit, known_own}
use Rattle.analysis_loops.specs.Heads.{is_for}

never : (a b c : Bool) (x y : trips.Way) → y ≡ cond (a && (b && (c && false))) x y
never true true true x y = refl
never true true false x y = refl
never true false c x y = refl
never false b c x y = refl

module _ (test : Test) (body : Block) where
  -- a tested variable that has no step of its own does not chase its limit
  unknown_limit : step test.tested body ≡ Unknown → (o : Expr) → own ≡ limit_way test body o
  unfolding limit_way is_add
  unknown_limit u (constant k) = refl
  unknown_limit u (group e) = refl
  unknown_limit u (apply o d e) = refl
  unknown_limit u (variable w) = rw u (never (not (eqb w test.tested)) (assigns w body) (is_add (step w body)) (chase w) own)

  -- a for goes its own way then
  pub for_way : step test.tested body ≡ Unknown → (f : Form) → is_for f ≡ true → own ≡ way_of f test body
  unfolding way_of
  for_way u while h = absurd (false≢true h)
  for_way u do_while h = absurd (false≢true h)
  for_way u hold h = absurd (false≢true h)
  for_way u (for x) h = unknown_limit u test.limit

  pub other_way : step test.tested body ≡ Unknown → own ≡ sole_way test body other
  unfolding sole_way
  other_way u = unknown_limit u test.limit

  pub off_way : (w u : ℕ) (c : Comparison) (k : ℤ) (before after : Bool) → own ≡ sole_way test body (sole w (off u c k) before after)
  unfolding sole_way
  off_way w u c k before after = refl

  pub copy_way : {c : Comparison} → c ≡ test.comparison → (w : ℕ) (x : Expr) (before after : Bool)
      → let st = step w body in cond (not (before && after) && (is_add st && (moving st && ordered (sort c)))) (copied w before) own ≡ sole_way test body (sole w (from x) before after)
  unfolding sole_way
  copy_way e w x before after = rw e

  -- a while or a do goes by its tested variable's only row
  pub by_sole : (f : Form) → is_for f ≡ false → is_hold f ≡ false → sole_way test body (sole_of test.tested body) ≡ way_of f test body
  unfolding way_of
  by_sole while h n = refl
  by_sole do_while h n = refl
  by_sole hold h n = absurd (false≢true (sym n))
  by_sole (for x) h n = absurd (false≢true (sym h))

  -- and a hold
  pub by_off : (f : Form) → is_hold f ≡ true → hold_way body (sole_of test.tested body) ≡ way_of f test body
  unfolding way_of
  by_off while h = absurd (false≢true h)
  by_off do_while h = absurd (false≢true h)
  by_off hold h = refl
  by_off (for x) h = absurd (false≢true h)

-- which way a hold goes
pub no_off : (body : Block) → broken ≡ hold_way body other
unfolding hold_way
no_off body = refl

pub copy_breaks : (body : Block) (w : ℕ) (x : Expr) (before after : Bool) → broken ≡ hold_way body (sole w (from x) before after)
unfolding hold_way
copy_breaks body w x before after = refl

pub watch_way : (body : Block) (w u : ℕ) (c : Comparison) (k : ℤ) (before after : Bool)
    → cond (not (before && after) && toward (step w body) (sort (opposite c))) (watched w c k before) broken ≡ hold_way body (sole w (off u c k) before after)
unfolding hold_way
watch_way body w u c k before after = refl

not_held : (b : Bool) → b ≡ false → T (not b)
not_held true h = absurd (false≢true (sym h))
not_held false h = tt

module _ (form : Form) (test : Test) (body : Block) (n : is_hold form ≡ false) where
  -- by a limit that is a constant, or a variable that the body assigns; p: it is the tested one, q: both steps and the comparison fit
  by_limit : known (step test.tested body) ≡ true → limit_way test body test.limit ≡ way_of form test body
  by_limit k = known_limit form test body (not_held (is_hold form) n) k

  pub kept_way : known (step test.tested body) ≡ true → keeps test.limit body ≡ true → own ≡ way_of form test body
  kept_way k h = known_own form test body (not_held (is_hold form) n) k h

  pub constant_way : known (step test.tested body) ≡ true → {k : ℤ} → test.limit ≡ constant k → own ≡ way_of form test body
  unfolding limit_way
  constant_way k e = ap (limit_way test body) (sym e) ∙ by_limit k

  -- an expression that is neither
  composed_limit : (e : Expr) → Composed e → own ≡ limit_way test body e
  unfolding limit_way Composed
  composed_limit (constant k) h = refl
  composed_limit (variable w) h = absurd h
  composed_limit (group e) h = refl
  composed_limit (apply o d e) h = refl

  pub composed_way : known (step test.tested body) ≡ true → {e : Expr} → e ≡ test.limit → Composed e → own ≡ way_of form test body
  composed_way k {e} q h = composed_limit e h ∙ ap (limit_way test body) q ∙ by_limit k

  pub chase_way : known (step test.tested body) ≡ true → {w : ℕ} → test.limit ≡ variable w → assigns w body ≡ true → {p q : Bool} → p ≡ eqb w test.tested
      → q ≡ (is_add (step w body) && (is_add (step test.tested body) && ordered (sort test.comparison))) → cond (not p && q) (chase w) own ≡ way_of form test body
  unfolding limit_way
  chase_way k {w} e a s d = (λ j. cond (not (s j) && (sym a j && d j)) (chase w) own) ∙ ap (limit_way test body) (sym e) ∙ by_limit k
