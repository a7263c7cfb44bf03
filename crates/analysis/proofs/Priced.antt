-- The price of a plain row, by its tag.
use mathlib.Core.Path.{◌≡◌, refl}
use mathlib.Core.List.{List}
use Prim.Native.Nat.{ℕ}
use native.Mathlib.Omega.{arith}
use Rattle.rules.specs.Blocks.{view_of, kind_of}
use Rattle.rules.specs.declared.Prices.{Prices}
use Rattle.rules.specs.Figures.{price}
use Rattle.table.specs.declared.Shape.{Shape}
use Rattle.table.specs.declared.Tag.{Tag}
use Rattle.table.specs.Code.{kind_by}
use Rattle.table.specs.Shapes.{shape_of, plain_of}

-- a plain row that is no cue is arithmetic
module _ (π : Prices) (text e : List ℕ) where
  pub price_other : (g : Tag) → (g ≡ Tag.Cue → ⊥) → shape_of (kind_by g e) ≡ Shape.Plain → π.arithmetic ≡ price π (plain_of text (kind_by g e))
  unfolding price kind_by view_of kind_of
  price_other Tag.End o h = absurd (let z : ◌≡◌ {A = ℕ} 0 1 = cc in omega arith)
  price_other Tag.Else o h = absurd (let z : ◌≡◌ {A = ℕ} 0 1 = cc in omega arith)
  price_other Tag.Pick o h = absurd (let z : ◌≡◌ {A = ℕ} 0 1 = cc in omega arith)
  price_other Tag.Set o h = refl
  price_other Tag.Move o h = refl
  price_other Tag.Cue o h = absurd (o refl)
  price_other Tag.While o h = absurd (let z : ◌≡◌ {A = ℕ} 0 1 = cc in omega arith)
  price_other Tag.Do o h = absurd (let z : ◌≡◌ {A = ℕ} 0 1 = cc in omega arith)
  price_other Tag.For o h = refl
  price_other Tag.Off o h = refl
  price_other Tag.Hold o h = absurd (let z : ◌≡◌ {A = ℕ} 0 1 = cc in omega arith)
