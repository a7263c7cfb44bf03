-- `season_sheet::names::opened` meets its contract. Assumes nothing.
use mathlib.Core.Path.{refl, sym, ap, ◌∙◌}
use native.Mathlib.Omega.{arith}
use borrow.Author.Rules.{rules}
use Rattle.rules_season.specs.Season.{good_name}
use Rattle.season_sheet.proofs.NamesLaws.{opened_none, opened_all, name_size, name_long, name_kept, name_room, bytes_are}
use Rattle.season_sheet.proofs.names.opened.Statement.{statement}
use Rattle.season_sheet.proofs.names.opened.Tie as tie

returns-4 : tie.Need-returns-then-opens
returns-4 c = (
  λ input at h l m.
      let short = c.if-n-gt-LONGEST.false in
      let size = name_size input at _ _ h _ l m in
      opened_all _ (ap good_name (sym (bytes_are input at _ _ h _ l m short)) ∙ sym c.opens.ensures ∙ c.if-opens.true) (name_kept input at _ _ h _ l m short) (omega (arith, size, short)),
  c.if-n-gt-LONGEST.false,
)

returns-5 : tie.Need-returns
returns-5 c = (
  λ input at h l m. opened_none (ap good_name (sym (bytes_are input at _ _ h _ l m c.if-n-gt-LONGEST.false)) ∙ sym c.opens.ensures ∙ c.if-opens.false) refl,
  omega arith,
)

pub opened_spec : {M : Type 1} → statement M
opened_spec =
    tie.close
    (tie.spec
    (λ c. (λ input at h l m. absurd (omega (arith, c.if-k-ge-LINES.true)), omega arith))
    (λ c. search rules) (λ c. search rules)
    (λ c. (λ input at h l m. opened_none (name_long input at _ _ h _ l m c.if-n-gt-LONGEST.true) refl, omega arith))
    (λ c. search rules) (λ c. search rules)
    (λ c. (λ input at h l m. absurd (omega (arith, name_room input at _ _ h _ l m c.if-n-gt-LONGEST.false, c.if-e-names.true)), omega arith))
    (λ c. search rules) (λ c. search rules) (λ c. search rules) (λ c κs. search rules)
    returns-4
    returns-5)
