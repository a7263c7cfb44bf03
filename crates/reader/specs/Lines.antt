-- What a line before the rows reads.
use Rattle.std.specs.Prelude.{◌≡◌, Bool, false, not, cond, List, [], ◌∷◌, ℕ, ◌≤◌, eqb, ltb, length, drop, Result, Ok, Err}
use Rattle.rules.specs.Ranges.{Range}
use Rattle.rules.specs.Text.{split, starts_with, next_words, next_lines}
use Rattle.rules.specs.File
use Rattle.rules.specs.File.{Reading, read, refused, unless, count_line, script_line, asks_range, range_key}
use Rattle.reading.specs.Words.{before}
use Rattle.rules.specs.declared.Refusal.{Refusal}
use Rattle.reading.specs.declared.order.LineQuestion.{LineQuestion}
use Rattle.reading.specs.Answers.{question_number}
use Rattle.reader.specs.declared.lines.Count.{Count}
use Rattle.reader.specs.declared.lines.RangeLine.{RangeLine}

-- there is a next line, and it has the key
unfoldable pub keyed : List ℕ → List ℕ → Bool
keyed key s = cond (ltb (before 10 s) (length s)) (starts_with key s) false

-- a key has bytes, and no LF among them
unfoldable pub clean : List ℕ → Bool
clean [] = false
clean (k ∷ []) = not (eqb k 10)
clean (k ∷ (l ∷ key)) = cond (eqb k 10) false (clean (l ∷ key))

-- the lines of a text
abbrev pub file_lines : List ℕ → List (List ℕ)
file_lines s = split 10 s

-- a line's question that has no, with the line
abbrev pub refusal_of : LineQuestion → ℕ → Refusal
refusal_of q p = record { number = question_number q; place = p }

-- what a count line of the text `rest` reads; p its line's number
unfoldable pub count_of : List ℕ → ℕ → Result Count LineQuestion → Reading ℕ
count_of rest p (Ok c) = read c.count (file_lines (drop c.length rest))
count_of rest p (Err q) = refused (question_number q) p

-- a count lies within its limit, and its line within the text
abbrev pub Within : List ℕ → ℕ → Result Count LineQuestion → Type 0
Within rest most (Ok c) = (c.count ≤ most) × (c.length ≤ length rest)
Within rest most (Err q) = Unit {0}

-- r is what the count line at the front of `rest` says
pub record CountRead (key rest : List ℕ) (most : ℕ) (r : Result Count LineQuestion) : Type 0 where
  pub line : (p : ℕ) → count_line key most p (file_lines rest) ≡ count_of rest p r
  pub within : Within rest most r

-- r is what the line `script=1` says
abbrev pub ScriptRead : List ℕ → Result Count LineQuestion → Type 0
ScriptRead rest r = (script_line (file_lines rest) ≡ count_of rest 1 r) × Within rest 1 r

-- what a range line reads, and then f
unfoldable pub range_read : List ℕ → ℕ → (Range → List (List ℕ) → Reading (List Range)) → Result RangeLine LineQuestion → Reading (List Range)
range_read rest p f (Ok r) = f (record { lo = r.lo; hi = r.hi }) (file_lines (drop r.length rest))
range_read rest p f (Err q) = refused (question_number q) p

-- a range line lies within the text
abbrev pub RangeWithin : List ℕ → Result RangeLine LineQuestion → Type 0
RangeWithin rest (Ok r) = r.length ≤ length rest
RangeWithin rest (Err q) = Unit {0}

-- r is what the range line at the front of `rest` says
pub record RangeRead (rest : List ℕ) (r : Result RangeLine LineQuestion) : Type 0 where
  pub line : (p : ℕ) (f : Range → List (List ℕ) → Reading (List Range))
      → unless (asks_range (next_words range_key (file_lines rest))) p (f (File.range_words (next_words range_key (file_lines rest))) (next_lines (file_lines rest))) ≡ range_read rest p f r
  pub within : RangeWithin rest r
