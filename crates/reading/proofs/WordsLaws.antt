-- Laws of the questions on one word. Assumes nothing.
use mathlib.Core.Path.{◌≡◌, refl, sym}
use mathlib.Core.Bool.{true}
use mathlib.Core.List.{List, [], ◌∷◌}
use Prim.Native.Nat.{ℕ, ◌+◌, ◌-◌, ◌≤◌, ◌<◌}
use native.Mathlib.Omega.{arith}
use lib.IntN.{ℤ, pos}
use lib.Signed.{le_z, ◌≤ℤ◌}
use types.Run.{OneOf, miss}
use denote.Enum.Declared.{tag_of}
use Rattle.ints.proofs.Parts.{ints}
use Rattle.rules.specs.declared.Change.{Change}
use Rattle.rules.specs.declared.Name.{Name}
use Rattle.rules.specs.declared.Word.{Word}
use Rattle.rules.specs.declared.Word.TheVariants.{Missing, Number, Variable, Compares, Keyword, Other}
use Rattle.rules.specs.Parse.{Parsed, shapeless, then_parse, factor_of, expression, read_expression, parse}
use Rattle.rules.specs.File.{Wrong, asks_number, asks_variable, asks_expr, asks_change, asks_step, asks_one, variable_of, number_of, change_of, step_of, first_word}
use Rattle.rules.specs.contracts.Name.{the_type}
use Rattle.rules.specs.contracts.Word as word
use Rattle.rules.proofs.ReadLegal.{variable_yes, number_yes}
use Rattle.reading.specs.Words.{text_in}

-- a variable that passes question 5 is small
pub small_variable : (vars v : ℕ) → vars ≤ 16 → asks_variable vars (Variable v) ≡ 0 → v < 256
small_variable vars v h e = omega (arith, variable_yes vars (Variable v) e)

-- a number inside limits is inside wider ones
pub number_wider : (lo hi low high : ℤ) (w : Word) → low ≤ℤ lo → hi ≤ℤ high → asks_number lo hi w ≡ 0 → asks_number low high w ≡ 0
number_wider lo hi low high Missing a b e = e
number_wider lo hi low high (Number z) a b e =
    let (c, d) = number_yes lo hi (Number z) e in
    let f : le_z low z ≡ true = omega ints in
    let g : le_z z high ≡ true = omega ints in
    rw (f, g)
number_wider lo hi low high (Variable v) a b e = e
number_wider lo hi low high (Compares c) a b e = e
number_wider lo hi low high (Keyword n) a b e = e
number_wider lo hi low high Other a b e = e

-- the names that are no arithmetic row's, by their places in `Name`
abbrev others : List ℕ
others = 0 ∷ 5 ∷ 6 ∷ 7 ∷ 8 ∷ 9 ∷ 10 ∷ 11 ∷ 12 ∷ 13 ∷ []

pub no_change : (n : Name) (w : Word) → OneOf others (tag_of the_type n) → (3 ≡ asks_change n w) × (Change.Add 0 ≡ change_of n w)
no_change Name.Set w o = (refl, refl)
no_change Name.Add w o = absurd (miss others 1 tt o)
no_change Name.Sub w o = absurd (miss others 2 tt o)
no_change Name.Mul w o = absurd (miss others 3 tt o)
no_change Name.Div w o = absurd (miss others 4 tt o)
no_change Name.Off w o = (refl, refl)
no_change Name.Cue w o = (refl, refl)
no_change Name.Pick w o = (refl, refl)
no_change Name.Else w o = (refl, refl)
no_change Name.End w o = (refl, refl)
no_change Name.While w o = (refl, refl)
no_change Name.Do w o = (refl, refl)
no_change Name.For w o = (refl, refl)
no_change Name.Hold w o = (refl, refl)

-- words of other kinds than the one that is asked for, by their places in `Word`
abbrev no_numbers : List ℕ
no_numbers = 0 ∷ 2 ∷ 3 ∷ 4 ∷ 5 ∷ []

pub no_number : (w : Word) → OneOf no_numbers (tag_of word.the_type w) → ((lo hi : ℤ) → 3 ≡ asks_number lo hi w) × (3 ≡ asks_one w) × (pos 0 ≡ number_of w)
no_number Missing o = (λ _ _. refl, refl, refl)
no_number (Number z) o = absurd (miss no_numbers 1 tt o)
no_number (Variable v) o = (λ _ _. refl, refl, refl)
no_number (Compares c) o = (λ _ _. refl, refl, refl)
no_number (Keyword n) o = (λ _ _. refl, refl, refl)
no_number Other o = (λ _ _. refl, refl, refl)

abbrev no_variables : List ℕ
no_variables = 0 ∷ 1 ∷ 3 ∷ 4 ∷ 5 ∷ []

pub no_variable : (w : Word) → OneOf no_variables (tag_of word.the_type w) → ((vars : ℕ) → 3 ≡ asks_variable vars w) × (0 ≡ variable_of w)
no_variable Missing o = (λ _. refl, refl)
no_variable (Number z) o = (λ _. refl, refl)
no_variable (Variable v) o = absurd (miss no_variables 2 tt o)
no_variable (Compares c) o = (λ _. refl, refl)
no_variable (Keyword n) o = (λ _. refl, refl)
no_variable Other o = (λ _. refl, refl)

abbrev pub no_keywords : List ℕ
no_keywords = 0 ∷ 1 ∷ 2 ∷ 3 ∷ 5 ∷ []

pub no_keyword : (w : Word) → OneOf no_keywords (tag_of word.the_type w) → ((x : Word) → (3 ≡ asks_step w x) × (Change.Add 0 ≡ step_of w x)) × ((vars : ℕ) (ws : ℕ → Word) (xs : ℕ → Parsed) → Wrong 3 ≡ first_word vars ws xs w)
no_keyword Missing o = (λ _. (refl, refl), λ _ _ _. refl)
no_keyword (Number z) o = (λ _. (refl, refl), λ _ _ _. refl)
no_keyword (Variable v) o = (λ _. (refl, refl), λ _ _ _. refl)
no_keyword (Compares c) o = (λ _. (refl, refl), λ _ _ _. refl)
no_keyword (Keyword n) o = absurd (miss no_keywords 4 tt o)
no_keyword Other o = (λ _. (refl, refl), λ _ _ _. refl)

-- an empty text is no expression
pub parse_none : parse [] ≡ shapeless
unfolding parse then_parse read_expression expression factor_of
parse_none = refl

-- an empty text passes no question
pub none_asks : (s : List ℕ) (at end vars : ℕ) → end ≤ at → asks_expr vars (parse (text_in s at end)) ≡ 3
none_asks s at end vars h = let e : end - (at + 1) ≡ 0 = omega arith in rw (e, parse_none)

pub no_text : (s : List ℕ) (at end vars : ℕ) → end ≤ at → 3 ≡ asks_expr vars (parse (text_in s at end))
no_text s at end vars h = sym (none_asks s at end vars h)
