-- The blocks of the rows in the table: a row that begins a block has as its partner the row that closes it, an `end` the row that begins its
-- block. The `end` of a loop has the variable, the test and the change of its head, an op that says whether there is a step row, and the
-- number of the loop.
use Rattle.std.specs.Prelude.{◌≡◌, true, List, [], ◌∷◌, ℕ, zero, suc, ◌+◌, ◌-◌, ◌*◌, ◌/◌, ◌%◌, ◌≤◌, ◌<◌, length, get_or, set, take}
use Rattle.rules.specs.declared.Row.{Row}
use Rattle.rules.specs.declared.Kind.{Kind}
use Rattle.rules.specs.Bounds.{Fine}
use Rattle.rules.specs.Blocks.{no_step, step_by, View, is_plain, is_pick, is_else, is_end, is_loop, RowKind, End, view_of, view_at, kind_of, kinds_of, end_at}
use Rattle.rules.specs.Nesting.{nest, nest_rows}
use Rattle.rules.specs.Calls.{is_loop_row, loop_rows}
use Rattle.rules_machine.specs.RowMachine.{Opens, Partners, Pairs, pairs}
use Rattle.table.specs.declared.Open.{Open}
use Rattle.table.specs.declared.Role.{Role}
use Rattle.table.specs.Code.{number, op_in, partner_in, kind_in, numbers_at, kind_at, Packed}
use Rattle.table.specs.Packing.{TestOf, Only}

-- the fields between the op and the partner: variable, comparison, the kinds of limit and change
abbrev pub columns_in : List ℕ → ℕ
columns_in e = number e 0 / 256 % 65_536

-- two rows of one variable, comparison, limit and change
pub record SameTest (e e' : List ℕ) : Type 0 where
  pub columns : columns_in e' ≡ columns_in e
  pub limit : number e' 2 ≡ number e 2
  pub change : number e' 3 ≡ number e 3

-- two rows that are the same but for the partner
pub record Kept (e e' : List ℕ) : Type 0 where
  pub op : op_in e' ≡ op_in e
  pub start : number e' 1 ≡ number e 1
  pub test : SameTest e e'

-- row h has got the partner i
pub record PartnerPut (h i : ℕ) (t t' : List ℕ) : Type 0 where
  pub kept : Kept (numbers_at t h) (numbers_at t' h)
  pub partner : partner_in (numbers_at t' h) ≡ i
  pub only : Only h t t'

-- the op of the `end` of a block, by its head: 1 of a loop with no step row, 2 of a for, 0 of a pick
abbrev pub end_op : View → ℕ
end_op (is_plain p) = 0
end_op is_pick = 0
end_op is_else = 0
end_op is_end = 0
end_op (is_loop form test no_step) = 1
end_op (is_loop form test (step_by p)) = 2

-- the same by the numbers of the head, beside any text
abbrev pub EndsWith : List ℕ → ℕ → Type 0
EndsWith e op = (text : List ℕ) → op ≡ end_op (view_of (kind_of text (kind_in e)))

-- row i has become the `end` of the block that row h begins, with the number n
pub record EndPut (h i n : ℕ) (t t' : List ℕ) : Type 0 where
  pub op : EndsWith (numbers_at t h) (op_in (numbers_at t' i))
  pub partner : partner_in (numbers_at t' i) ≡ h
  pub loop : number (numbers_at t' i) 1 ≡ n
  pub test : SameTest (numbers_at t h) (numbers_at t' i)
  pub only : Only i t t'

-- what a row does to the blocks, by its view
abbrev pub role_by : View → Role
role_by (is_plain p) = Role.Plain
role_by is_pick = Role.Pick
role_by is_else = Role.Else
role_by is_end = Role.End
role_by (is_loop form test last) = Role.Loop

-- it does not hang on the text
abbrev pub role_of : Kind → Role
role_of k = role_by (view_of (kind_of [] k))

-- the head row of the innermost open block
abbrev pub head_of : Open → ℕ
head_of o = get_or o.heads (o.depth - 1) 0

-- how many loops began before it
abbrev pub number_of : Open → ℕ
number_of o = get_or o.numbers (o.depth - 1) 0

-- a block begins at row i, and n loops have begun with it
abbrev pub pushed_on : ℕ → ℕ → Open → Open
pushed_on i n o = record { heads = set o.heads o.depth i; numbers = set o.numbers o.depth o.loops; depth = o.depth + 1; loops = n }

-- the innermost block is closed
abbrev pub popped_off : Open → Open
popped_off o = record { heads = o.heads; numbers = o.numbers; depth = o.depth - 1; loops = o.loops }

-- the open blocks after row i
abbrev pub open_after : Role → ℕ → Open → Open
open_after Role.Plain i o = o
open_after Role.Pick i o = pushed_on i o.loops o
open_after Role.Else i o = pushed_on i o.loops (popped_off o)
open_after Role.End i o = popped_off o
open_after Role.Loop i o = pushed_on i (o.loops + 1) o

-- what the questions 6 and 7 ask of the row
abbrev pub Room : Role → Open → Type 0
Room Role.Plain o = Unit {0}
Room Role.Pick o = o.depth < 8
Room Role.Else o = 1 ≤ o.depth
Room Role.End o = 1 ≤ o.depth
Room Role.Loop o = (o.depth < 8) × (o.loops < 16)

-- the first n numbers of an array, the last one first
unfoldable pub stack_of : List ℕ → ℕ → List ℕ
stack_of l zero = []
stack_of l (suc n) = get_or l n 0 ∷ stack_of l n

-- how many loops begin in the first n rows
abbrev pub loops_before : List RowKind → ℕ → ℕ
loops_before script n = length (loop_rows 0 (take n script))

-- row h, above row j, begins a block, and n loops begin before it
pub record Waiting (script : List RowKind) (j h n : ℕ) : Type 0 where
  pub below : h < j
  pub opens : Opens (view_at script h)
  pub loops : n ≡ loops_before script h

-- row e is the `end` of the block that row h begins
pub record EndRow (script : List RowKind) (t : List ℕ) (h e : ℕ) : Type 0 where
  pub below : h < e
  pub partner : partner_in (numbers_at t e) ≡ h
  pub op : op_in (numbers_at t e) ≡ end_op (view_at script h)
  pub test : SameTest (numbers_at t h) (numbers_at t e)
  pub loop : number (numbers_at t e) 1 ≡ loops_before script h

-- the first j rows of a script in a table, beside the one-pass pairing of the rules' machine
pub record PairedBy (text : List ℕ) (script : List RowKind) (j : ℕ) (p : Pairs) (t : List ℕ) (o : Open) : Type 0 where
  -- each row is in the table, with its test if it has one
  pub kinds : (i : ℕ) → i < j → kind_of text (kind_in (numbers_at t i)) ≡ get_or script i End
  pub tests : (i : ℕ) → i < j → TestOf (kind_in (numbers_at t i)) (numbers_at t i)
  -- the open blocks
  pub stack : stack_of o.heads o.depth ≡ p.stack
  pub waits : (d : ℕ) → d < o.depth → Waiting script j (get_or o.heads d 0) (get_or o.numbers d 0)
  pub loops : o.loops ≡ loops_before script j
  -- the partners; no row from j on has one
  pub partners : (i : ℕ) → i < j → Opens (view_at script i) → partner_in (numbers_at t i) ≡ p.end i
  pub later : (i : ℕ) → j ≤ i → p.end i ≡ 0
  pub ends : (e : ℕ) → e < j → view_at script e ≡ is_end → EndRow script t (p.head e) e

-- what holds before row j
abbrev pub PairedTo : List ℕ → List RowKind → ℕ → List ℕ → Open → Type 0
PairedTo text script j t o = PairedBy text script j (pairs script j) t o

-- row i may be put
pub record Ready (i : ℕ) (kind : Kind) (o : Open) (t : List ℕ) : Type 0 where
  pub small : i < 256
  pub size : 4 * i + 3 < length t
  pub fine : Fine kind
  pub room : Room (role_of kind) o
  pub deep : o.depth ≤ 8
  pub below : (d : ℕ) → d < o.depth → get_or o.heads d 0 < i

-- row i has been put
pub record NextPut (i : ℕ) (kind : Kind) (o o' : Open) (t t' : List ℕ) : Type 0 where
  pub size : length t' ≡ length t
  pub here : kind_in (numbers_at t' i) ≡ kind
  pub others : (k : ℕ) → k < i → kind_in (numbers_at t' k) ≡ kind_in (numbers_at t k)
  pub blocks : o' ≡ open_after (role_of kind) i o
  pub paired : (text : List ℕ) (script : List RowKind) → i < length script → get_or script i End ≡ kind_of text kind → PairedTo text script i t o → PairedTo text script (suc i) t' o'

-- the rows of a script, as code holds them beside a text
abbrev pub script_rows : List ℕ → List Row → ℕ → List RowKind
script_rows text rows count = take count (kinds_of text rows)

-- the questions 6 and 7: every block closes
abbrev pub Closing : List RowKind → Type 0
Closing script = (n : ℕ) × (nest_rows script (record { open_blocks = []; loops = 0 }) ≡ nest [] n)

-- rows that a table of 1,024 numbers can hold
pub record Packable (rows : List Row) (count : ℕ) (t : List ℕ) : Type 0 where
  pub size : length t ≡ 1_024
  pub few : count ≤ 256
  pub fine : (i : ℕ) → i < count → Fine (kind_at rows i)
  pub closing : (text : List ℕ) × Closing (script_rows text rows count)

-- row e is the `end` of the loop at row h: it tells the loop's test and step, and its number is the loop's place among all loops
pub record LoopEnd (script : List RowKind) (t : List ℕ) (h e : ℕ) : Type 0 where
  pub end_row : EndRow script t h e
  pub tells : TestOf (kind_in (numbers_at t h)) (numbers_at t e)
  pub place : get_or (loop_rows 0 script) (number (numbers_at t e) 1) 0 ≡ h
  pub few : number (numbers_at t e) 1 < length (loop_rows 0 script)

-- a whole script in a table: its rows, their tests, their partners, each `end` and each loop; at most 16 loops
pub record Table (text : List ℕ) (rows : List Row) (count : ℕ) (t : List ℕ) : Type 0 where
  pub size : length t ≡ 1_024
  pub packed : Packed count rows t
  pub tests : (i : ℕ) → i < count → TestOf (kind_in (numbers_at t i)) (numbers_at t i)
  pub partners : Partners (script_rows text rows count) (λ i. partner_in (numbers_at t i)) (pairs (script_rows text rows count) count).head
  pub ends : (e : ℕ) → e < count → view_at (script_rows text rows count) e ≡ is_end → EndRow (script_rows text rows count) t ((pairs (script_rows text rows count) count).head e) e
  pub loops : (h : ℕ) → h < count → is_loop_row (view_at (script_rows text rows count) h) ≡ true → LoopEnd (script_rows text rows count) t h (end_at (script_rows text rows count) (suc h))
  pub few : length (loop_rows 0 (script_rows text rows count)) ≤ 16
