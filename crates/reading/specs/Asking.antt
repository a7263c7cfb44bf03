-- A word asked in one walk from its first byte to its last, without recursion: what may follow what, and a count of open parentheses.
use Rattle.std.specs.Prelude.{◌≡◌, Bool, true, cond, ◌&&◌, List, [], ◌∷◌, ℕ, zero, suc, max, ◌+◌, ◌*◌, ◌-◌, ◌≤◌, ◌<◌, leb, eqb, length, drop, Result, Ok, Err}
use Rattle.rules.specs.Expressions.{Expr, constant, variable, group, apply}
use Rattle.rules.specs.Parse.{Parsed, parsed, shapeless, is_mark, atom}
use Rattle.rules.specs.File.{first_refusal, asks_leaves}
use Rattle.expressions.specs.Operators.{is_sum}
use Rattle.reading.specs.declared.order.LineQuestion.{LineQuestion}
use Rattle.reading.specs.declared.questions.Scan.{Scan}
use Rattle.reading.specs.Answers.{question_number, answer_number}

-- what is counted on the way: the most parentheses open at a leaf, the operators, and the leaves' first no
pub record Sizes : Type 0 where
  pub deep : ℕ
  pub ops : ℕ
  pub asks : ℕ

-- before the first byte
abbrev pub no_sizes : Sizes
no_sizes = record { deep = 0; ops = 0; asks = 0 }

-- a leaf at a depth
unfoldable pub noted : ℕ → ℕ → Expr → Sizes → Sizes
noted vars d x a = record { deep = max a.deep d; ops = a.ops; asks = first_refusal a.asks (asks_leaves vars x) }

-- an operator
unfoldable pub one_more : Sizes → Sizes
one_more a = record { deep = a.deep; ops = suc a.ops; asks = a.asks }

-- a whole tree at a depth
unfoldable pub sizes_from : ℕ → ℕ → Expr → Sizes → Sizes
sizes_from vars d (constant k) a = noted vars d (constant k) a
sizes_from vars d (variable w) a = noted vars d (variable w) a
sizes_from vars d (group x) a = sizes_from vars (suc d) x a
sizes_from vars d (apply o x y) a = sizes_from vars d y (one_more (sizes_from vars d x a))

-- 17, 4 and 5 of what was counted
unfoldable pub decided : Sizes → ℕ
decided a = first_refusal (cond (leb a.deep 8 && leb a.ops 15) 0 17) a.asks

-- a factor is due; inside a leaf; after a leaf or a parenthesis
pub data Mode : Type 0 where
  due inside shut : Mode

-- what a byte does: a wrong shape, or on in a mode at a depth
pub data Act : Type 0 where
  stop : Act
  on : Mode → ℕ → Sizes → Act

-- a wrong shape is 3; else what is to come
unfoldable pub goes : Act → (Mode → ℕ → Sizes → ℕ) → ℕ
goes stop k = 3
goes (on m d a) k = k m d a

-- the leaf that begins here
unfoldable pub leaf_act : ℕ → ℕ → Sizes → Parsed → Act
leaf_act vars d a (parsed x r) = on inside d (noted vars d x a)
leaf_act vars d a shapeless = stop

-- `)`
unfoldable pub close_act : ℕ → Sizes → Act
close_act zero a = stop
close_act (suc d) a = on shut d a

-- after a factor
unfoldable pub mark_act : ℕ → Sizes → ℕ → Act
mark_act d a b = cond (eqb b 42) (on due d (one_more a)) (cond (eqb b 43) (on due d (one_more a)) (cond (eqb b 45) (on due d (one_more a)) (cond (eqb b 41) (close_act d a) stop)))

-- what byte b does, before the text s
unfoldable pub act : ℕ → Mode → ℕ → Sizes → ℕ → List ℕ → Act
act vars due d a b s = cond (eqb b 40) (on due (suc d) a) (leaf_act vars d a (atom (b ∷ s)))
act vars inside d a b s = cond (is_mark b) (mark_act d a b) (on inside d a)
act vars shut d a b s = mark_act d a b

-- after the last byte
unfoldable pub finished : ℕ → Sizes → ℕ
finished zero a = decided a
finished (suc d) a = 3

-- what the end of the word says in a mode
unfoldable pub end_question : Mode → ℕ → Sizes → ℕ
end_question due d a = 3
end_question inside d a = finished d a
end_question shut d a = finished d a

-- the word's question, byte by byte
unfoldable pub word_question : ℕ → Mode → ℕ → Sizes → List ℕ → ℕ
word_question vars m d a [] = end_question m d a
word_question vars m d a (b ∷ s) = goes (act vars m d a b s) (λ m d a. word_question vars m d a s)

-- what is to come of a scan
abbrev pub sizes_of : Scan → Sizes
sizes_of c = record { deep = c.deep; ops = c.ops; asks = answer_number c.asks }

-- the question of a word that a scan has read so far
unfoldable pub scan_question : ℕ → List ℕ → Scan → ℕ
scan_question vars word c = word_question vars (cond c.due due shut) c.depth (sizes_of c) (drop c.at word)

-- how much of a word a scan has before it
unfoldable pub bytes_ahead : List ℕ → Scan → ℕ
bytes_ahead word c = 2 * (length word - c.at) + cond c.due 1 0

-- a scan that goes on: no count is past the place
pub record MayScan (word : List ℕ) (c : Scan) : Type 0 where
  pub within : c.at < length word
  pub depth : c.depth ≤ c.at
  pub ops : c.ops ≤ c.at

-- one step of a scan
pub record ScanOn (vars : ℕ) (word : List ℕ) (c r : Scan) : Type 0 where
  pub same : scan_question vars word r ≡ scan_question vars word c
  pub depth : r.depth ≤ r.at
  pub ops : r.ops ≤ r.at
  pub less : bytes_ahead word r < bytes_ahead word c

-- or the word's question, if its shape is wrong there
abbrev pub ScanStep : ℕ → List ℕ → Scan → Result Scan LineQuestion → Type 0
ScanStep vars word c (Ok r) = ScanOn vars word c r
ScanStep vars word c (Err q) = question_number q ≡ scan_question vars word c

-- * + -
unfoldable pub operates : ℕ → Bool
operates b = cond (eqb b 42) true (is_sum b)
