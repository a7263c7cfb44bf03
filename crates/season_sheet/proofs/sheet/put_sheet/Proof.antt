-- `season_sheet::sheet::put_sheet` meets its contract. Assumes nothing.
use borrow.Author.Rules.{rules}
use native.Mathlib.Omega.{arith}
use mathlib.Core.List.{[], ◌∷◌}
use Prim.Native.Nat.{◌≤◌}
use lib.ListN.{length}
use Rattle.rules.specs.Report.{joined}
use Rattle.report.proofs.PiecesLaws.{third_written, writing_all}
use Rattle.season_sheet.specs.Figures.{figures_of, front_text, numbers_text, tail_text}
use Rattle.season_sheet.proofs.Texts.{sheet_room, told}
use Rattle.season_sheet.proofs.sheet.put_sheet.Statement.{statement}
use Rattle.season_sheet.proofs.sheet.put_sheet.Tie as tie

-- room for the three parts
room : (c : tie.Start) → let f = figures_of c.args.sheet c.args.counts.now in
    length (joined (front_text f.accepted f.refused ∷ (numbers_text f.counts ∷ (tail_text f.ticks f.greatest f.groups ∷ [])))) ≤ length c.args.out.now
room c = omega (arith, sheet_room (figures_of c.args.sheet c.args.counts.now), c.requires)

returns : tie.Need-returns
returns c = told _ _ _ _ _ (writing_all _ _ _ _ _ (third_written _ _ _ _ (room c.before.before.before.before.before.before.before.before.before.before.before.before.before) _ _ _ _ _ _ c.put_front-a.ensures.0 c.put_numbers.ensures.0 c.put_tail.ensures.0) (omega arith))

pub put_sheet_spec : {M : Type 1} → statement M
put_sheet_spec = tie.close (tie.spec
    (λ c κs. search rules) (λ c. search rules) (λ c. search rules) (λ c. search rules)
    (λ c κs. search rules) (λ c. search rules) (λ c. search rules) (λ c. search rules)
    (λ c. search rules) (λ c κs. search rules) (λ c. search rules) (λ c. search rules)
    returns)
