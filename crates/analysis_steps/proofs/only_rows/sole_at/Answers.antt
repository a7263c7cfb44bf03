-- `analysis_steps::only_rows::sole_at` meets its contract.
use borrow.Author.Rules.{rules}
use mathlib.Core.Path.{◌≡◌, sym, ◌∙◌}
use mathlib.Core.List.{List}
use lib.IntN.{ℤ}
use Prim.Native.Nat.{ℕ}
use mir.Syntax.{w32}
use mir.Val.{SFits}
use mir.Facts.{to_z-of_z}
use Rattle.rules.specs.declared.Row.{Row}
use Rattle.rules.specs.declared.Comparison.{Comparison}
use Rattle.rules.specs.declared.Kind.TheVariants.{Off, Set}
use Rattle.rules.specs.declared.Operand.TheVariants.{Variable}
use Rattle.table.specs.Code.{kind_at}
use Rattle.table.proofs.Laws.{row_in}
use Rattle.analysis_steps.specs.declared.only_rows.Read.{Read}
use Rattle.analysis_steps.specs.Soles.{AtRow, AtRead}
use Rattle.analysis_steps.proofs.Soles.{copy_reads, off_reads, set_is, change_is}
use Rattle.analysis_steps.proofs.only_rows.sole_at.Goals as goal

-- the row copies w, or is an off that compares it
copies : {text : List ℕ} {rows : List Row} {count i v u w : ℕ} → kind_at rows i ≡ Set u (Variable w) → AtRow text rows count i v → AtRead text rows count i v w Read.Copy
copies {text} {v = v} e k = let f = rw e at (k.ready.fine _ k.inside) in record { ready = k.ready; inside = k.inside; small = k.small; other = f.1; reads = copy_reads text v e }

compares : {text : List ℕ} {rows : List Row} {count i v u w : ℕ} {d : Comparison} {k : ℤ} → kind_at rows i ≡ Off u w d k → AtRow text rows count i v → AtRead text rows count i v w (Read.Off d k)
compares {text} {v = v} e k = let f = rw e at (k.ready.fine _ k.inside) in record { ready = k.ready; inside = k.inside; small = k.small; other = f.1; reads = off_reads text v e }

pub kind_at-requires : goal.kind_at-requires
kind_at-requires c = let (text, k) = c.requires in row_in c.args.rows.now _ (search rules)

pub read_at-requires : goal.read_at-requires
read_at-requires c = let (text, k) = c.requires in (text, copies (sym c.kind_at.ensures ∙ (rw c.in-Variable.is at c.in-Set.is)) k)

pub returns-in-Variable : goal.returns-in-Variable
returns-in-Variable c = λ text k. c.read_at.ensures text (copies (sym c.kind_at.ensures ∙ (rw c.in-Variable.is at c.in-Set.is)) k)

pub returns-in_default-x : goal.returns-in_default-x
returns-in_default-x c = λ text k. record { value = sym (set_is c.args.v _ text c.in-Set.x c.in_default-x.not-Variable (sym c.kind_at.ensures ∙ c.in-Set.is) (k.ready.written _ k.inside) _); small = tt }

pub read_at-requires-in-Off : goal.read_at-requires-in-Off
read_at-requires-in-Off c =
    let (text, k) = c.requires in
    let z : SFits w32 c.in-Off.k = search rules in
    rw (to_z-of_z z) (text, compares (sym c.kind_at.ensures ∙ c.in-Off.is) k)

pub returns-in-Off : goal.returns-in-Off
returns-in-Off c = λ text k.
    let z : SFits w32 c.in-Off.k = search rules in
    c.read_at-in-Off.ensures text (rw (to_z-of_z z) (compares (sym c.kind_at.ensures ∙ c.in-Off.is) k))

pub returns-in_default : goal.returns-in_default
returns-in_default c = λ text k. record { value = sym (rw (sym c.kind_at.ensures) (change_is c.args.v _ text _ c.in_default.not-Set c.in_default.not-Off _)); small = tt }
