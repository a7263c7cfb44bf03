-- What a row's line reads.
use Rattle.std.specs.Prelude.{◌≡◌, List, ℕ, ◌+◌, drop, Result, Ok, Err}
use Rattle.rules.specs.declared.Word.{Word}
use Rattle.rules.specs.declared.Kind.{Kind}
use Rattle.rules.specs.Blocks.{kind_of}
use Rattle.rules.specs.Parse.{Parsed}
use Rattle.rules.specs.Written.{Written}
use Rattle.rules.specs.File.{RowRead, Read, Wrong, row_of}
use Rattle.reading.specs.declared.text.LineWords.{LineWords}
use Rattle.reading.specs.Words.{before, parts, line_word}
use Rattle.reading.specs.Meaning.{line_expr}
use Rattle.reading.specs.declared.order.LineQuestion.{LineQuestion}
use Rattle.reading.specs.Answers.{question_number}
use Rattle.reader.specs.declared.rows.RowLine.{RowLine}

-- a row without words after its name
abbrev pub Bare : Kind → Type 0
Bare Kind.End = Unit {0}
Bare Kind.Else = Unit {0}
Bare Kind.Pick = Unit {0}
Bare (Kind.Set v x) = ⊥
Bare (Kind.Move v c) = ⊥
Bare (Kind.Off v w c k) = ⊥
Bare (Kind.Cue n) = ⊥
Bare (Kind.While v c x) = ⊥
Bare (Kind.Do v c x) = ⊥
Bare (Kind.For v s c x d) = ⊥
Bare (Kind.Hold v) = ⊥

-- what a line stands for, beside the file's text
abbrev pub read_of : List ℕ → Result RowLine LineQuestion → RowRead
read_of file (Ok l) = Read (kind_of file l.kind)
read_of file (Err q) = Wrong (question_number q)

-- its row's expressions stand in the file
abbrev pub WrittenLine : List ℕ → Result RowLine LineQuestion → Type 0
WrittenLine file (Ok l) = Written file l.kind
WrittenLine file (Err q) = Unit {0}

-- a row that is read has `end`, the byte of its line's LF
abbrev pub LineEndsAt : ℕ → Result RowLine LineQuestion → Type 0
LineEndsAt n (Ok l) = l.end ≡ n
LineEndsAt n (Err q) = Unit {0}

-- what is read of a line of the text s, which begins at a file's byte `base`: this row, and the line's end
pub record Rowed (s : List ℕ) (base : ℕ) (row : RowRead) (end : ℕ) (r : Result RowLine LineQuestion) : Type 0 where
  pub line : (file : List ℕ) → drop base file ≡ s → read_of file r ≡ row
  pub written : (file : List ℕ) → drop base file ≡ s → WrittenLine file r
  pub ends : LineEndsAt end r

-- the words of a line are read as f says, and the line ends at its LF
abbrev pub TextRow : List ℕ → ℕ → LineWords → ((ℕ → Word) → (ℕ → Parsed) → RowRead) → Result RowLine LineQuestion → Type 0
TextRow s base l f r = Rowed s base (f (line_word l) (line_expr s l)) l.end r

-- the same of a row without expressions, wherever its line stands
abbrev pub LineRow : LineWords → ((ℕ → Word) → (ℕ → Parsed) → RowRead) → Result RowLine LineQuestion → Type 0
LineRow l f r = (s : List ℕ) (base : ℕ) → TextRow s base l f r

-- the row whose words stand after the byte `at`
abbrev pub RowAt : List ℕ → ℕ → ℕ → ℕ → Result RowLine LineQuestion → Type 0
RowAt s at base vars r = Rowed s base (row_of vars (parts (drop at s))) (at + before 10 (drop at s)) r
