-- `loader::step_file` meets its contract. Assumes nothing.
use mathlib.Core.Path.{refl}
use Rattle.std.specs.Prelude.{Ok}
use Rattle.rules.proofs.PassedOn.{passed_on}
use Rattle.reader.specs.Read.{load_answer}
use Rattle.calls.proofs.Loaded.{file_refused, file_read, file_given}
use Rattle.calls.proofs.Tables.{four, fine}
use Rattle.loader.proofs.Laws.{stepped_no, stepped_same}
use Rattle.loader.proofs.step_file.Goals as goal

pub prices_of-by_kind-requires : goal.prices_of-by_kind-requires
prices_of-by_kind-requires c = four _ c.requires.0

pub step_script-requires : goal.step_script-requires
step_script-requires c = (file_given c.args.prices.now c.args.file.now (load_answer (Ok c.in_ok-script.script)) _ _ c.in_ok-script.ensures refl, fine c.args.prices.now c.requires.0 c.prices_of-by_kind.ensures)

pub returns-in_err-script : goal.returns-in_err-script
returns-in_err-script c =
    let e = c.in_err-script in
    rw (passed_on c.from_residual.result e.field-0.0 c.from_residual.ensures) (stepped_no c.args.prices.now _ _ _ (file_refused c.args.prices.now c.args.file.now _ _ _ e.ensures refl))

pub returns : goal.returns
returns c = stepped_same c.args.prices.now _ _ _ (file_read c.args.prices.now c.args.file.now (load_answer (Ok c.in_ok-script.script)) _ _ c.in_ok-script.ensures refl) (c.step_script.ensures c.args.prices.now c.prices_of-by_kind.ensures)
