-- States part by part, what a row takes, and figures by others.
use mathlib.Core.Path.{◌≡◌, refl, subst}
use mathlib.Core.Bool.{Bool}
use mathlib.Core.List.{List}
use Prim.Native.Nat.{ℕ, ◌≤◌}
use native.Mathlib.Omega.{arith}
use Rattle.rules.specs.declared.Kind.{Kind}
use Rattle.rules.specs.declared.Kind.TheVariants.{Set, Move, Cue, Pick, Else, End, While, Do, For, Off, Hold}
use Rattle.rules.specs.declared.Change.{Change}
use Rattle.rules.specs.declared.Comparison.{Comparison}
use Rattle.rules.specs.declared.Operand.{Operand}
use Rattle.rules.specs.Blocks.{Plain, assign, cue, Last, no_step, step_by, view_of, kind_of}
use Rattle.rules.specs.Trips.{Trip}
use Rattle.rules.specs.Bounds.{FinePrices}
use Rattle.rules.specs.declared.Prices.{Prices}
use Rattle.rules.specs.Figures.{price}
use Rattle.analysis_steps.specs.Tree.{head_of}
use Rattle.analysis.specs.Tallies.{FoldState, LentTally, last_price, last_ticks, LineAdded, BlockClosed}

-- a state, part by part
pub state_is : {x y : FoldState} → x.env ≡ y.env → x.kept ≡ y.kept → x.verdict ≡ y.verdict → x.spent ≡ y.spent → x.over ≡ y.over → x.lines ≡ y.lines → x.loops ≡ y.loops → x.own ≡ y.own → x ≡ y
state_is a k b c d e f g = λ j. record { env = a j; kept = k j; verdict = b j; spent = c j; over = d j; lines = e j; loops = f j; own = g j }

-- what a row and a body's last row take is small
module _ {π : Prices} (fine : FinePrices π) where
  pub price_small : (p : Plain) → price π p ≤ 1_000
  unfolding price
  price_small (assign v x) = fine.arithmetic.small
  price_small (cue n) = fine.cue.small

  last_price_small : (l : Last) → last_price π l ≤ 1_000
  last_price_small no_step = omega arith
  last_price_small (step_by p) = price_small p

  pub last_small : (text : List ℕ) (k : Kind) → last_ticks text π k ≤ 1_000
  last_small text k = last_price_small (head_of text k).last

-- any row but a for
pub no_last : (text : List ℕ) (π : Prices) (k : Kind) → ((v : ℕ) (s : Operand) (c : Comparison) (x : Operand) (d : Change) → k ≡ For v s c x d → ⊥) → 0 ≡ last_ticks text π k
unfolding head_of view_of kind_of
no_last text π End o = refl
no_last text π Else o = refl
no_last text π Pick o = refl
no_last text π (Set v x) o = refl
no_last text π (Move v c) o = refl
no_last text π (Cue n) o = refl
no_last text π (While v c x) o = refl
no_last text π (Do v c x) o = refl
no_last text π (For v s c x d) o = absurd (o v s c x d refl)
no_last text π (Off v w c k) o = refl
no_last text π (Hold v) o = refl

-- a line of the same trip
pub lined_is : {t r : LentTally} {i n o m l a b : ℕ} {k : Bool} {τ υ : Trip} → τ ≡ υ → n ≡ o → m ≡ l → a ≡ b → LineAdded t i τ n m a k r → LineAdded t i υ o l b k r
lined_is {t} {r} {i} {n} {o} {m} {l} {a} {b} {k} {τ} {υ} p e f q h =
    subst (λ z. LineAdded t i υ o l z k r) q (subst (λ z. LineAdded t i υ o z a k r) f (subst (λ z. LineAdded t i υ z m a k r) e (subst (λ z. LineAdded t i z n m a k r) p h)))

-- a block's figures, by others
pub closed_is : {t u r : LentTally} {i e own own' all all' : ℕ} {keep keep' : Bool} → own ≡ own' → all ≡ all' → keep ≡ keep' → BlockClosed t u i e own all keep r → BlockClosed t u i e own' all' keep' r
closed_is {t} {u} {r} {i} {e} {own} {own'} {all} {all'} {keep} {keep'} p q k h = subst (λ z. BlockClosed t u i e own' all' z r) k (subst (λ z. BlockClosed t u i e own' z keep r) q (subst (λ z. BlockClosed t u i e z all keep r) p h))
