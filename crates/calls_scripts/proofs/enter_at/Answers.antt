-- `calls_scripts::enter_at` meets its contract. Assumes nothing.
use mathlib.Core.Path.{refl, ◌∙◌}
use Rattle.calls_scripts.proofs.Tables.{slice_length}
use Rattle.calls_scripts.proofs.enter_at.Goals as goal

pub returns : goal.returns
returns c =
    let e = c.enter in
    record {
      table = e.new.table;
      wrote = record { size = e.auto.table ∙ slice_length c.args.tables.now c.args.places.table c.requires.table; all = refl };
      entered = e.ensures;
    }
