-- `season_sheet::groups::same_group` meets its contract.
use mathlib.Core.Path.{refl, sym, ap, ◌∙◌}
use mathlib.Core.Bool.{◌&&◌}
use Rattle.rules.specs.Text.{equals}
use Rattle.rules_season.specs.Season.{cues_of, same_report, same_group}
use Rattle.program_words.proofs.Slices.{word_is}
use Rattle.season_sheet.proofs.groups.same_group.Goals as goal

pub returns-then-eq : goal.returns-then-eq
unfolding same_group same_report
returns-then-eq c = λ a b e f g h.
    let w = word_is _ _ _ _ refl c.eq.ensures in
    let same = (λ i. equals (sym e i) (sym f i)) ∙ sym w ∙ c.if-eq.true in
    c.same_cues.ensures ∙ (λ i. equals (g i) (h i)) ∙ sym (ap (λ z. z && equals (cues_of a.rows) (cues_of b.rows)) same)

pub returns-else-eq : goal.returns-else-eq
unfolding same_group same_report
returns-else-eq c = λ a b e f g h.
    let w = word_is _ _ _ _ refl c.eq.ensures in
    let other = (λ i. equals (sym e i) (sym f i)) ∙ sym w ∙ c.if-eq.false in
    c.if-eq.false ∙ sym (ap (λ z. z && equals (cues_of a.rows) (cues_of b.rows)) other)
