-- Where a line or a word ends, and words whose numbers are cut off past every limit: code keeps 32 bits of a number of any length.
use Rattle.std.specs.Prelude.{Bool, true, cond, List, [], ◌∷◌, ◌≡◌, ℕ, suc, min, ◌+◌, ◌-◌, ◌<◌, ◌≤◌, eqb, length, get_or, take, drop, ℤ, pos, negsuc, Option, None, Some}
use Rattle.rules.specs.declared.Comparison.TheVariants.{Less, AtMost, Greater, AtLeast, Equal, Different}
use Rattle.rules.specs.declared.Name.{Name}
use Rattle.rules.specs.declared.Word.{Word}
use Rattle.rules.specs.declared.Word.TheVariants.{Missing, Number, Variable, Compares, Keyword, Other}
use Rattle.rules.specs.Text.{split, value_from, is_natural, word_of, words_of}
use Rattle.expressions.specs.Leaves.{ceiling, cut_z}
use Rattle.expressions.specs.declared.leaves.Digits.{Digits}
use Rattle.reading.specs.declared.text.Tag.{Tag}
use Rattle.reading.specs.declared.text.WordFound.{WordFound}
use Rattle.reading.specs.declared.text.LineWords.{LineWords}

-- how many bytes stand before the first b, or all
unfoldable pub before : ℕ → List ℕ → ℕ
before b [] = 0
before b (x ∷ s) = cond (eqb x b) 0 (suc (before b s))

-- v and - stand before digits
unfoldable pub marks : ℕ → Bool
marks b = cond (eqb b 118) true (eqb b 45)

-- a space or an LF ends a word
unfoldable pub stops : ℕ → Bool
stops b = cond (eqb b 32) true (eqb b 10)

-- how many bytes stand before the first space or LF, or all; and those bytes
unfoldable pub stop : List ℕ → ℕ
stop [] = 0
stop (x ∷ s) = cond (stops x) 0 (suc (stop s))

-- the bytes before the first space or LF
unfoldable pub front : List ℕ → List ℕ
front s = take (stop s) s

-- a word with its number cut off
unfoldable pub cut_word : Word → Word
cut_word Missing = Missing
cut_word (Number z) = Number (cut_z z)
cut_word (Variable v) = Variable (min v ceiling)
cut_word (Compares c) = Compares c
cut_word (Keyword n) = Keyword n
cut_word Other = Other

-- a text as a number not below 0, and its digits
unfoldable pub natural_of : List ℕ → Option Digits
natural_of s = cond (is_natural s) (Some (record { value = min (value_from 0 s) ceiling; next = length s })) None

-- a variable is never below 0
abbrev pub variable_word : ℤ → Word
variable_word (pos v) = Variable v
variable_word (negsuc v) = Other

-- the word that a tag and a value say
abbrev pub word_in : Tag → ℤ → Word
word_in Tag.Set z = Keyword Name.Set
word_in Tag.Add z = Keyword Name.Add
word_in Tag.Sub z = Keyword Name.Sub
word_in Tag.Mul z = Keyword Name.Mul
word_in Tag.Div z = Keyword Name.Div
word_in Tag.Cue z = Keyword Name.Cue
word_in Tag.Off z = Keyword Name.Off
word_in Tag.For z = Keyword Name.For
word_in Tag.While z = Keyword Name.While
word_in Tag.Do z = Keyword Name.Do
word_in Tag.End z = Keyword Name.End
word_in Tag.Else z = Keyword Name.Else
word_in Tag.Pick z = Keyword Name.Pick
word_in Tag.Hold z = Keyword Name.Hold
word_in Tag.Less z = Compares Less
word_in Tag.AtMost z = Compares AtMost
word_in Tag.Greater z = Compares Greater
word_in Tag.AtLeast z = Compares AtLeast
word_in Tag.Equal z = Compares Equal
word_in Tag.Different z = Compares Different
word_in Tag.Missing z = Missing
word_in Tag.Number z = Number z
word_in Tag.Variable z = variable_word z
word_in Tag.Other z = Other

-- the word at the front of a text is read, its number cut off
pub record Reads (s : List ℕ) (r : WordFound) : Type 0 where
  pub word : word_in r.tag r.value ≡ cut_word (word_of (front s))
  pub end : r.end ≡ stop s

-- an LF stands in a text
unfoldable pub HasEnd : List ℕ → Type 0
HasEnd s = before 10 s < length s

-- the words after a text's first byte, up to the line's LF; none if the first byte is that
unfoldable pub parts : List ℕ → List (List ℕ)
parts [] = []
parts (b ∷ s) = cond (eqb b 10) [] (split 32 (take (before 10 s) s))

-- word k after the first byte
unfoldable pub following : List ℕ → ℕ → Word
following s = words_of (parts s)

-- the text of each; past the last one, an empty text
unfoldable pub spelling : List ℕ → ℕ → List ℕ
spelling s k = get_or (parts s) k []

-- the bytes of a word that begins after the byte `at`
abbrev pub text_in : List ℕ → ℕ → ℕ → List ℕ
text_in s at end = take (end - (at + 1)) (drop (at + 1) s)

-- word k of a line's words
abbrev pub line_word : LineWords → ℕ → Word
line_word l k = word_in (get_or l.tags k Tag.Missing) (get_or l.values k (pos 0))

-- its text
abbrev pub line_text : List ℕ → LineWords → ℕ → List ℕ
line_text s l k = text_in s (get_or l.ends k 0) (get_or l.ends (k + 1) 0)

-- these are the first eight words after the byte `at`, their numbers cut off, and the line's end
pub record LineRead (s : List ℕ) (at : ℕ) (l : LineWords) : Type 0 where
  pub word : (k : ℕ) → k < 8 → line_word l k ≡ cut_word (following (drop at s) k)
  pub text : (k : ℕ) → k < 8 → line_text s l k ≡ spelling (drop at s) k
  pub long : (k : ℕ) → k < 8 → get_or l.ends (k + 1) 0 ≤ length s
  pub end : l.end ≡ at + before 10 (drop at s)
