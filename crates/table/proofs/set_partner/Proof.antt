use borrow.Author.Rules.{rules}
use Rattle.table.proofs.Same.{partner_put}
use Rattle.table.proofs.set_partner.Statement.{statement}
use Rattle.table.proofs.set_partner.Tie as tie

returns : tie.Need-returns
returns c = let s = c in partner_put s.args.rows.now s.args.h s.args.i s.requires.0

pub set_partner_spec : {M : Type 1} → statement M
set_partner_spec =
    tie.close
    (tie.spec
    (λ c. search rules) (λ c. search rules) (λ c. search rules) (λ c. search rules) (λ c. search rules)
    (λ c. search rules) (λ c. search rules) (λ c. search rules) (λ c. search rules) (λ c. search rules)
    returns)
