-- Where an expression breaks: the byte up to which it may still be the beginning of one.
use Rattle.std.specs.Prelude.{Option, None, Some, Bool, cond, ◌||◌, List, [], ◌∷◌, ℕ, suc, ◌-◌, eqb, get_or, take, drop}
use Rattle.rules.specs.Parse.{is_mark}
use Rattle.program_words.specs.Words.{is_number}
use Rattle.line_causes.specs.Shapes.{is_variable}
use Rattle.line_causes.specs.declared.breaks.Mode.{Mode}
use Rattle.line_causes.specs.declared.breaks.Mode.TheVariants.{Due, Inside, Shut}
use Rattle.line_causes.specs.declared.breaks.Turn.{Turn}

-- how many bytes stand before the first of ( ) * + -
unfoldable pub to_mark : List ℕ → ℕ
to_mark [] = 0
to_mark (b ∷ s) = cond (is_mark b) 0 (suc (to_mark s))

-- the number or variable that is due: a first byte, and on to the next mark
abbrev pub leaf_text : List ℕ → List ℕ
leaf_text s = take (suc (to_mark (drop 1 s))) s

-- whether it is one
unfoldable pub is_leaf : List ℕ → Bool
is_leaf t = is_number t || is_variable t

-- the expression goes on, so many parentheses open
abbrev pub on : Mode → ℕ → Option Turn
on m d = Some (record { mode = m; depth = d })

-- * + -
unfoldable pub operates : ℕ → Bool
operates b = eqb b 42 || (eqb b 43 || eqb b 45)

-- after a number, a variable or a parenthesis: an operator, or `)` where one is open
unfoldable pub mark_turn : ℕ → ℕ → Option Turn
mark_turn d b = cond (operates b) (on Due d) (cond (eqb b 41) (cond (eqb d 0) None (on Shut (d - 1))) None)

-- what the first byte of the rest does, where a number, a variable or `(` is due; inside a number or a variable; after `)`
unfoldable pub turn_of : Mode → ℕ → List ℕ → Option Turn
turn_of Due d s = cond (eqb (get_or s 0 0) 40) (on Due (suc d)) (cond (is_leaf (leaf_text s)) (on Inside d) None)
turn_of Inside d s = cond (is_mark (get_or s 0 0)) (mark_turn d (get_or s 0 0)) (on Inside d)
turn_of Shut d s = mark_turn d (get_or s 0 0)

-- the byte that breaks it, or one byte and what stands after it
abbrev pub counted : Option Turn → (Turn → ℕ) → ℕ
counted None after = 0
counted (Some turn) after = suc (after turn)

-- how many bytes of the rest stand before the break; all of them if it only ends too early
unfoldable pub broken_from : Mode → ℕ → List ℕ → ℕ
broken_from m d [] = 0
broken_from m d (b ∷ s) = counted (turn_of m d (b ∷ s)) (λ (turn : Turn). broken_from turn.mode turn.depth s)

-- of a word
abbrev pub broken_at : List ℕ → ℕ
broken_at t = broken_from Due 0 t
