-- `calls_turns::turn` meets its contract. Assumes nothing.
use mathlib.Core.Path.{refl, ◌∙◌}
use Rattle.calls_scripts.proofs.Tables.{slice_length}
use borrow.Author.Rules.{rules}
use Rattle.calls_turns.proofs.turn.Statement.{statement}
use Rattle.calls_turns.proofs.turn.Tie as tie

returns : tie.Need-returns
returns c =
    let s = c in
    let e = c.resume in
    record {
      store = e.new.store;
      wrote = record { size = e.auto.store ∙ slice_length s.args.stores.now s.args.script.places.store s.requires.store; all = refl };
      went = e.ensures;
    }

pub turn_spec : {M : Type 1} → statement M
turn_spec =
    tie.close
    (tie.spec
    (λ c. search rules) (λ c. search rules) (λ c. search rules)
    (λ c. search rules) (λ c. search rules) (λ c. search rules) (λ c. search rules)
    (λ c. search rules) (λ c. search rules) (λ c. search rules) (λ c. search rules)
    (λ c. search rules) (λ c. search rules) (λ c. search rules)
    (λ c κs. search rules)
    (λ c. search rules)
    returns)
