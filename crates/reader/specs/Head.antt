-- What the lines before the rows read, one after the other.
use Rattle.std.specs.Prelude.{◌≡◌, List, [], ℕ, ◌+◌, ◌≤◌, ◌<◌, ℤ, Result, Ok, Err, length, take, drop}
use Rattle.rules.specs.Ranges.{Range}
use Rattle.rules.specs.Scripts.{Script, pair_ranges, BlankFrom}
use Rattle.rules.specs.declared.Refusal.{Refusal}
use Rattle.rules.specs.Verdicts.{Verdict}
use Rattle.rules.specs.Verdicts.{passed as Passed, refused as Refused}
use Rattle.rules.specs.File.{Reading, read, refused, range_lines, row_lines, no_rows, then_lines, last_line, row_part}
use Rattle.reader.specs.declared.head.Head.{Head}
use Rattle.reader.specs.Lines.{file_lines}

-- all range lines of a file, n of them: the first n pairs of the array
unfoldable pub ranges_of : List ℕ → ℕ → Result ℕ Refusal → List (List ℤ) → Reading (List Range)
ranges_of file n (Ok next) ranges = read (take n (pair_ranges ranges)) (file_lines (drop next file))
ranges_of file n (Err r) ranges = refused r.number r.place

-- an array of 16 pairs, [0, 0] from variable n on
pub record RangeArray (n : ℕ) (ranges : List (List ℤ)) : Type 0 where
  pub long : length ranges ≡ 16
  pub blank : BlankFrom n ranges

-- the range lines lie within the file, and the array is filled
abbrev pub RangesWithin : List ℕ → ℕ → Result ℕ Refusal → List (List ℤ) → Type 0
RangesWithin file n (Ok next) ranges = (next ≤ length file) × RangeArray n ranges
RangesWithin file n (Err r) ranges = Unit {0}

-- r is what the n range lines from byte `at` on say
pub record RangesRead (file : List ℕ) (at n : ℕ) (r : Result ℕ Refusal) (ranges : List (List ℤ)) : Type 0 where
  pub all : range_lines n 3 (file_lines (drop at file)) [] ≡ ranges_of file n r ranges
  pub within : RangesWithin file n r ranges

-- what lines read, if the questions before them have yes
unfoldable pub passing : {A : Type 0} → Verdict → Reading A → Reading A
passing Passed r = r
passing (Refused q p) r = refused q p

-- what the lines before the rows answer: a verdict, how many variables and rows there are, and where the rows begin; 0 where they are refused
pub record HeadAnswer : Type 0 where
  pub verdict : Verdict
  pub vars : ℕ
  pub count : ℕ
  pub at : ℕ

-- what the rest of a file gives after its head
unfoldable pub head_read : List ℕ → List (List ℤ) → HeadAnswer → Reading Script
head_read file ranges h =
    passing h.verdict
    (then_lines (row_lines h.vars h.count (4 + h.vars) (file_lines (drop h.at file)) no_rows) (last_line (4 + h.vars + h.count) (take h.vars (pair_ranges ranges))))

-- a refused one
abbrev pub no_head : ℕ → ℕ → HeadAnswer
no_head q p = record { verdict = Refused q p; vars = 0; count = 0; at = 0 }

-- the answer as code holds it
abbrev pub head_answer : Result Head Refusal → HeadAnswer
head_answer (Ok h) = record { verdict = Passed; vars = h.vars; count = h.count; at = h.at }
head_answer (Err r) = no_head r.number r.place

-- a head is within its limits
pub record HeadWithin (file : List ℕ) (h : HeadAnswer) : Type 0 where
  pub start : h.at ≤ length file
  pub vars : h.vars ≤ 16
  pub count : h.count ≤ 256

-- what the line `rows=R` and the rest give, whatever the ranges are
pub record CountPart (file : List ℕ) (at vars : ℕ) (h : HeadAnswer) : Type 0 where
  pub script : (ranges : List (List ℤ)) → head_read file ranges h ≡ row_part vars (take vars (pair_ranges ranges)) (file_lines (drop at file))
  pub same : h.verdict ≡ Passed → h.vars ≡ vars
  pub within : HeadWithin file h

-- a head whose file gives this reading
pub record HeadRead (file : List ℕ) (reading : Reading Script) (h : HeadAnswer) (ranges : List (List ℤ)) : Type 0 where
  pub script : head_read file ranges h ≡ reading
  pub pairs : h.verdict ≡ Passed → RangeArray h.vars ranges
  pub within : HeadWithin file h

-- a file with rows is not too long
abbrev pub NotTooLong : List ℕ → HeadAnswer → Type 0
NotTooLong file h = 0 < h.count → length file ≤ 16_384
