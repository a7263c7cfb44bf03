use lib.ListN.{get_or}
use Rattle.season_sheet.proofs.Texts.{Numbering}
use Rattle.season_sheet.proofs.sheet.put_numbers.Given as goal

-- the numbers before q are written
abbrev pub invariant-loop-q : goal.invariant-loop-q
invariant-loop-q l = Numbering (λ k. get_or l.counts k 0) l.initial.out l.out l.at l.q
