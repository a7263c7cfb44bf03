-- `season_sheet::names::push` meets its contract. Assumes nothing.
use native.Mathlib.Omega.{arith}
use borrow.Author.Rules.{rules}
use borrow.Author.Tests.{ne_eqb}
use Rattle.season_sheet.proofs.NamesLaws.{kept_full, kept_lf, kept_past, kept_byte}
use Rattle.season_sheet.proofs.names.push.Statement.{statement}
use Rattle.season_sheet.proofs.names.push.Tie as tie

returns_3 : tie.Need-returns-then-n-lt-LINE
returns_3 c = λ input h.
    kept_byte input _ _ _ h c.if-at-ge-LINES.false _ (ne_eqb _ _ c.if-b-eq10.false) c.if-n-lt-LINE.true _ (omega arith)

pub push_spec : {M : Type 1} → statement M
push_spec =
    tie.close
    (tie.spec
    (λ c. λ input h. kept_full input _ _ _ h _ c.if-at-ge-LINES.true)
    (λ c. search rules) (λ c. search rules) (λ c. search rules) (λ c. search rules)
    (λ c. λ input h. rw c.if-b-eq10.true (kept_lf input _ _ _ h c.if-at-ge-LINES.false))
    (λ c. search rules) (λ c. search rules) (λ c. search rules) (λ c. search rules) (λ c. search rules) (λ c. search rules) (λ c. search rules)
    (λ c. search rules)
    returns_3
    (λ c. λ input h. kept_past input _ _ _ h c.if-at-ge-LINES.false _ (ne_eqb _ _ c.if-b-eq10.false) c.if-n-lt-LINE.false))
