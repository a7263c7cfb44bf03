-- `season_sheet::cues::cue_in` meets its contract. Assumes nothing.
use borrow.Author.Rules.{rules}
use Rattle.rules.specs.Blocks.{view_of, kind_of}
use Rattle.rules_season.specs.Season.{cue_of}
use Rattle.season_sheet.proofs.cues.cue_in.Statement.{statement}
use Rattle.season_sheet.proofs.cues.cue_in.Tie as tie

pub cue_in_spec : {M : Type 1} → statement M
unfolding cue_of view_of kind_of
cue_in_spec = tie.close (tie.spec
    (λ c. search rules) (λ c. search rules) (λ c. search rules) (λ c. search rules)
    (λ c. search rules) (λ c. search rules) (λ c. search rules) (λ c. search rules)
    (λ c. search rules) (λ c. search rules) (λ c. search rules)
    (λ c text. search rules)
    (λ c text. search rules)
    (λ c text. search rules)
    (λ c text. search rules)
    (λ c text. search rules)
    (λ c text. rw c.in-Cue.is)
    (λ c text. search rules)
    (λ c text. search rules)
    (λ c text. search rules)
    (λ c text. search rules)
    (λ c text. search rules))
