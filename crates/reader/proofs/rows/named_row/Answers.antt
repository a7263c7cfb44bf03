use Rattle.std.proofs.Common.{◌≡◌, ℕ, inl, inr}
use mathlib.Core.Logic.{◌⊎◌}
use Rattle.rules.specs.declared.Name.{Name}
use Rattle.rules.specs.declared.Word.{Word}
use Rattle.rules.specs.Parse.{Parsed}
use Rattle.rules.specs.File.{move_row, named_row}
use Rattle.reading.specs.Words.{line_word}
use Rattle.reading.specs.Meaning.{line_expr}
use Rattle.rules.specs.Blocks.{kind_of}
use Rattle.reader.proofs.rows.named_row.Goals as goal

-- the four arithmetic rows
moved : (vars : ℕ) (w : ℕ → Word) (x : ℕ → Parsed) (n : Name) → ((n ≡ Name.Add) ⊎ ((n ≡ Name.Sub) ⊎ ((n ≡ Name.Mul) ⊎ (n ≡ Name.Div)))) → move_row vars w x n ≡ named_row vars w x n
moved vars w x n (inl e) = rw e
moved vars w x n (inr (inl e)) = rw e
moved vars w x n (inr (inr (inl e))) = rw e
moved vars w x n (inr (inr (inr e))) = rw e

pub returns-in-Add : goal.returns-in-Add
returns-in-Add c = rw (← moved c.args.vars (line_word c.args.line) (line_expr c.args.s.now c.args.line) c.args.name c.in-Add.is) (c.move_row.ensures c.args.s.now c.args.base)

pub returns-in-Cue : goal.returns-in-Cue
returns-in-Cue c = rw c.in-Cue.is (c.cue_row.ensures _ _ _)

pub returns-in-Pick : goal.returns-in-Pick
unfolding kind_of
returns-in-Pick c = rw c.in-Pick.is (c.bare_row.ensures _ _ _)

pub returns-in-Else : goal.returns-in-Else
unfolding kind_of
returns-in-Else c = rw c.in-Else.is (c.bare_row-in-Else.ensures _ _ _)

pub returns-in-End : goal.returns-in-End
unfolding kind_of
returns-in-End c = rw c.in-End.is (c.bare_row-in-End.ensures _ _ _)

pub returns-in-Off : goal.returns-in-Off
returns-in-Off c = rw c.in-Off.is (c.off_row.ensures _ _)

pub returns-in-Hold : goal.returns-in-Hold
returns-in-Hold c = rw c.in-Hold.is (c.hold_row.ensures _ _)
