-- A table's rows, one by one. Assumes nothing.
use mathlib.Core.Path.{◌≡◌, refl, sym, ap, ◌∙◌}
use mathlib.Core.Bool.{false}
use mathlib.Core.List.{List, [], ◌∷◌}
use Prim.Native.Nat.{ℕ, zero, suc, ◌+◌, ◌*◌, ◌/◌, ◌<◌}
use types.Run.{OneOf, miss}
use denote.Enum.Declared.{tag_of}
use native.Mathlib.Omega.{arith}
use lib.ListN.{length, get_or, set, length-set}
use lib.Seq.{get_or-set_same, get_or-set_other}
use Rattle.rules.specs.declared.Kind.{Kind}
use Rattle.rules.specs.declared.Kind.TheVariants.{Set, Move, Cue, Pick, Else, End, While, Do, For, Off, Hold}
use Rattle.rules.specs.Blocks.{view_of, kind_of}
use Rattle.rules.specs.Steps.{sets}
use Rattle.table.specs.declared.Tag.{Tag}
use Rattle.table.specs.Code.{row_tag, kind_by, kind_in, numbers_at, entries, kind_at, rows_of}
use Rattle.table.specs.Shapes.{shape_by, shape_of, plain_of, past_by, past_else}
use Rattle.table.specs.Paired.{end_op}
use Rattle.table.specs.contracts.Tag.{the_type}

-- four numbers further on
four : (i k : ℕ) → 4 * suc i + k ≡ suc (suc (suc (suc (4 * i + k))))
four i k = omega arith

-- the kind of row i is that of its numbers
pub kind_in_lem : (t : List ℕ) (i : ℕ) → 4 * i + 3 < length t → kind_at (rows_of t) i ≡ kind_in (numbers_at t i)
unfolding entries
kind_in_lem [] i h = absurd (omega arith)
kind_in_lem (a ∷ []) i h = absurd (omega arith)
kind_in_lem (a ∷ b ∷ []) i h = absurd (omega arith)
kind_in_lem (a ∷ b ∷ c ∷ []) i h = absurd (omega arith)
kind_in_lem (a ∷ b ∷ c ∷ d ∷ t) zero h = refl
kind_in_lem (a ∷ b ∷ c ∷ d ∷ t) (suc i) h = rw (four i 0, four i 1, four i 2, four i 3) (kind_in_lem t i (omega arith))

-- the kind of a row by its tag
pub kind_is : (t : List ℕ) (i : ℕ) → 4 * i + 3 < length t → {g h : Tag} → g ≡ row_tag (numbers_at t i) → g ≡ h → kind_at (rows_of t) i ≡ kind_by h (numbers_at t i)
unfolding kind_in
kind_is t i l p q = kind_in_lem t i l ∙ ap (λ x. kind_by x (numbers_at t i)) (sym p ∙ q)

pub rows_length : (t : List ℕ) → length (rows_of t) ≡ length t / 4
unfolding entries
rows_length [] = refl
rows_length (a ∷ []) = refl
rows_length (a ∷ b ∷ []) = refl
rows_length (a ∷ b ∷ c ∷ []) = refl
rows_length (a ∷ b ∷ c ∷ d ∷ t) = omega (arith, rows_length t)

-- the numbers of a row are in the table
pub row_in : (t : List ℕ) (i : ℕ) → i < length (rows_of t) → 4 * i + 3 < length t
row_in t i h = omega (arith, rows_length t)

-- a row that is no else
abbrev no_else : List ℕ
no_else = 0 ∷ 2 ∷ 3 ∷ 4 ∷ 5 ∷ 6 ∷ 7 ∷ 8 ∷ 9 ∷ 10 ∷ []

pub not_else : (g : Tag) (e : List ℕ) → OneOf no_else (tag_of the_type g) → (i : ℕ) → past_else (kind_by g e) i ≡ i
unfolding kind_by view_of kind_of
not_else Tag.End e o i = refl
not_else Tag.Else e o i = absurd (miss no_else 1 tt o)
not_else Tag.Pick e o i = refl
not_else Tag.Set e o i = refl
not_else Tag.Move e o i = refl
not_else Tag.Cue e o i = refl
not_else Tag.While e o i = refl
not_else Tag.Do e o i = refl
not_else Tag.For e o i = refl
not_else Tag.Off e o i = refl
not_else Tag.Hold e o i = refl

-- a row that is no set, no change, no for and no off
pub not_assigned : (text : List ℕ) (g : Tag) (e : List ℕ) → (g ≡ Tag.Set → ⊥) → (g ≡ Tag.Move → ⊥) → (g ≡ Tag.For → ⊥) → (g ≡ Tag.Off → ⊥) → (w : ℕ) → sets w (plain_of text (kind_by g e)) ≡ false
unfolding kind_by view_of kind_of sets
not_assigned text Tag.End e a b c d w = refl
not_assigned text Tag.Else e a b c d w = refl
not_assigned text Tag.Pick e a b c d w = refl
not_assigned text Tag.Set e a b c d w = absurd (a refl)
not_assigned text Tag.Move e a b c d w = absurd (b refl)
not_assigned text Tag.Cue e a b c d w = refl
not_assigned text Tag.While e a b c d w = refl
not_assigned text Tag.Do e a b c d w = refl
not_assigned text Tag.For e a b c d w = absurd (c refl)
not_assigned text Tag.Off e a b c d w = absurd (d refl)
not_assigned text Tag.Hold e a b c d w = refl

-- a row that begins no loop
pub not_loop : (text : List ℕ) (g : Tag) (e : List ℕ) → (g ≡ Tag.While → ⊥) → (g ≡ Tag.Do → ⊥) → (g ≡ Tag.For → ⊥) → (g ≡ Tag.Hold → ⊥) → end_op (view_of (kind_of text (kind_by g e))) ≡ 0
unfolding kind_by view_of kind_of
not_loop text Tag.End e a b c d = refl
not_loop text Tag.Else e a b c d = refl
not_loop text Tag.Pick e a b c d = refl
not_loop text Tag.Set e a b c d = refl
not_loop text Tag.Move e a b c d = refl
not_loop text Tag.Cue e a b c d = refl
not_loop text Tag.While e a b c d = absurd (a refl)
not_loop text Tag.Do e a b c d = absurd (b refl)
not_loop text Tag.For e a b c d = absurd (c refl)
not_loop text Tag.Off e a b c d = refl
not_loop text Tag.Hold e a b c d = absurd (d refl)

-- ---- numbers that are put
-- a number of another row
other_row : (t : List ℕ) (i k m n x : ℕ) → (k ≡ i → ⊥) → m < 4 → n < 4 → get_or (set t (4 * i + m) x) (4 * k + n) 0 ≡ get_or t (4 * k + n) 0
other_row t i k m n x f g h = get_or-set_other t (4 * i + m) (4 * k + n) x 0 (λ e. let z : ⊥ = omega arith in z)

-- another number of the row
other_number : (t : List ℕ) (i m n x : ℕ) → (n ≡ m → ⊥) → get_or (set t (4 * i + m) x) (4 * i + n) 0 ≡ get_or t (4 * i + n) 0
other_number t i m n x f = get_or-set_other t (4 * i + m) (4 * i + n) x 0 (λ e. let z : ⊥ = omega arith in z)

-- the first number of row i alone
module _ (t : List ℕ) (i a : ℕ) (h : 4 * i + 3 < length t) where
  pub first_put : numbers_at (set t (4 * i + 0) a) i ≡ a ∷ get_or t (4 * i + 1) 0 ∷ get_or t (4 * i + 2) 0 ∷ get_or t (4 * i + 3) 0 ∷ []
  first_put =
      let p : get_or (set t (4 * i + 0) a) (4 * i + 0) 0 ≡ a = get_or-set_same t (4 * i + 0) a 0 (omega arith) in
      let q = other_number t i 0 1 a (λ e. let z : ⊥ = omega arith in z) in
      let r = other_number t i 0 2 a (λ e. let z : ⊥ = omega arith in z) in
      let s = other_number t i 0 3 a (λ e. let z : ⊥ = omega arith in z) in
      λ z. p z ∷ q z ∷ r z ∷ s z ∷ []

  pub first_others : (k : ℕ) → (k ≡ i → ⊥) → numbers_at (set t (4 * i + 0) a) k ≡ numbers_at t k
  first_others k f =
      let p = other_row t i k 0 0 a f (omega arith) (omega arith) in
      let q = other_row t i k 0 1 a f (omega arith) (omega arith) in
      let r = other_row t i k 0 2 a f (omega arith) (omega arith) in
      let s = other_row t i k 0 3 a f (omega arith) (omega arith) in
      λ z. p z ∷ q z ∷ r z ∷ s z ∷ []

-- all four
module _ (t : List ℕ) (i a b c d : ℕ) where
  abbrev put_four : List ℕ
  put_four = set (set (set (set t (4 * i + 0) a) (4 * i + 1) b) (4 * i + 2) c) (4 * i + 3) d

  other : (k n : ℕ) → (k ≡ i → ⊥) → n < 4 → get_or put_four (4 * k + n) 0 ≡ get_or t (4 * k + n) 0
  other k n f h =
      other_row (set (set (set t (4 * i + 0) a) (4 * i + 1) b) (4 * i + 2) c) i k 3 n d f (omega arith) h
      ∙ other_row (set (set t (4 * i + 0) a) (4 * i + 1) b) i k 2 n c f (omega arith) h
      ∙ other_row (set t (4 * i + 0) a) i k 1 n b f (omega arith) h
      ∙ other_row t i k 0 n a f (omega arith) h

  pub four_others : (k : ℕ) → (k ≡ i → ⊥) → numbers_at put_four k ≡ numbers_at t k
  four_others k f =
      let p = other k 0 f (omega arith) in
      let q = other k 1 f (omega arith) in
      let r = other k 2 f (omega arith) in
      let s = other k 3 f (omega arith) in
      λ z. p z ∷ q z ∷ r z ∷ s z ∷ []

  pub four_put : 4 * i + 3 < length t → numbers_at put_four i ≡ a ∷ b ∷ c ∷ d ∷ []
  four_put h =
      let t1 = set t (4 * i + 0) a in
      let t2 = set t1 (4 * i + 1) b in
      let t3 = set t2 (4 * i + 2) c in
      let p : get_or put_four (4 * i + 0) 0 ≡ a =
      other_number t3 i 3 0 d (λ e. let z : ⊥ = omega arith in z) ∙ other_number t2 i 2 0 c (λ e. let z : ⊥ = omega arith in z)
      ∙ other_number t1 i 1 0 b (λ e. let z : ⊥ = omega arith in z) ∙ get_or-set_same t (4 * i + 0) a 0 (omega arith) in
      let q : get_or put_four (4 * i + 1) 0 ≡ b =
      other_number t3 i 3 1 d (λ e. let z : ⊥ = omega arith in z) ∙ other_number t2 i 2 1 c (λ e. let z : ⊥ = omega arith in z)
      ∙ get_or-set_same t1 (4 * i + 1) b 0 (simp length-set (omega arith)) in
      let r : get_or put_four (4 * i + 2) 0 ≡ c =
      other_number t3 i 3 2 d (λ e. let z : ⊥ = omega arith in z) ∙ get_or-set_same t2 (4 * i + 2) c 0 (simp length-set (omega arith)) in
      let s : get_or put_four (4 * i + 3) 0 ≡ d = get_or-set_same t3 (4 * i + 3) d 0 (simp length-set (omega arith)) in
      λ z. p z ∷ q z ∷ r z ∷ s z ∷ []

-- an array of four
pub array_four : (e : List ℕ) → length e ≡ 4 → get_or e 0 0 ∷ get_or e 1 0 ∷ get_or e 2 0 ∷ get_or e 3 0 ∷ [] ≡ e
array_four [] h = absurd (omega arith)
array_four (a ∷ []) h = absurd (omega arith)
array_four (a ∷ b ∷ []) h = absurd (omega arith)
array_four (a ∷ b ∷ c ∷ []) h = absurd (omega arith)
array_four (a ∷ b ∷ c ∷ d ∷ []) h = refl
array_four (a ∷ b ∷ c ∷ d ∷ x ∷ e) h = absurd (omega arith)

-- a row's shape is the same beside any text
pub shape_text : (text : List ℕ) (k : Kind) → shape_by (view_of (kind_of text k)) ≡ shape_of k
unfolding view_of kind_of
shape_text text (Set v x) = refl
shape_text text (Move v c) = refl
shape_text text (Cue n) = refl
shape_text text Pick = refl
shape_text text Else = refl
shape_text text End = refl
shape_text text (While v c x) = refl
shape_text text (Do v c x) = refl
shape_text text (For v s c x d) = refl
shape_text text (Off v w c k) = refl
shape_text text (Hold v) = refl

-- and the row after it
pub past_text : (text : List ℕ) (k : Kind) (i : ℕ) → past_by (view_of (kind_of text k)) i ≡ past_else k i
unfolding view_of kind_of
past_text text (Set v x) i = refl
past_text text (Move v c) i = refl
past_text text (Cue n) i = refl
past_text text Pick i = refl
past_text text Else i = refl
past_text text End i = refl
past_text text (While v c x) i = refl
past_text text (Do v c x) i = refl
past_text text (For v s c x d) i = refl
past_text text (Off v w c k) i = refl
past_text text (Hold v) i = refl
