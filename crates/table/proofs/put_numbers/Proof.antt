use mathlib.Core.Path.{◌≡◌, ◌∙◌}
use lib.ListN.{length, get_or, length-set}
use native.Mathlib.Omega.{arith}
use borrow.Author.Rules.{rules}
use Rattle.table.proofs.Laws.{four_put, four_others, array_four}
use Rattle.table.proofs.put_numbers.Statement.{statement}
use Rattle.table.proofs.put_numbers.Tie as tie

returns : tie.Need-returns
returns c =
    let t = c.args.rows.now in
    let e = c.args.e in
    let n : length e ≡ 4 = search rules in
    record {
      row = four_put t c.args.i (get_or e 0 0) (get_or e 1 0) (get_or e 2 0) (get_or e 3 0) c.requires ∙ array_four e n;
      only = record { size = simp length-set; others = four_others t c.args.i (get_or e 0 0) (get_or e 1 0) (get_or e 2 0) (get_or e 3 0) };
    }

pub put_numbers_spec : {M : Type 1} → statement M
put_numbers_spec =
    tie.close
    (tie.spec
    (λ c. search rules) (λ c. search rules) (λ c. search rules) (λ c. search rules) (λ c. search rules) (λ c. search rules) (λ c. search rules) (λ c. search rules)
    (λ c. simp length-set (omega arith))
    (λ c. search rules) (λ c. search rules) (λ c. search rules)
    (λ c. simp length-set (omega arith))
    (λ c. search rules) (λ c. search rules) (λ c. search rules) (λ c. search rules) (λ c. search rules)
    returns)
