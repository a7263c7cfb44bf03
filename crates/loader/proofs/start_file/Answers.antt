-- `loader::start_file` meets its contract. Assumes nothing.
use mathlib.Core.Path.{refl}
use Rattle.std.specs.Prelude.{Ok}
use Rattle.rules.proofs.PassedOn.{passed_on}
use Rattle.reader.specs.Read.{load_answer}
use Rattle.calls.proofs.Loaded.{file_refused, file_read, file_given}
use Rattle.loader.proofs.Laws.{started_no, started_same}
use Rattle.loader.proofs.start_file.Goals as goal

pub start_script-requires : goal.start_script-requires
start_script-requires c = (file_given c.args.prices.now c.args.file.now (load_answer (Ok c.in_ok-script.script)) _ _ c.in_ok-script.ensures refl, c.requires.0)

pub returns-in_err-script : goal.returns-in_err-script
returns-in_err-script c =
    let e = c.in_err-script in
    rw (passed_on c.from_residual.result e.field-0.0 c.from_residual.ensures) (started_no c.args.prices.now _ _ (file_refused c.args.prices.now c.args.file.now _ _ _ e.ensures refl))

pub returns : goal.returns
returns c = started_same _ _ _ (file_read c.args.prices.now c.args.file.now (load_answer (Ok c.in_ok-script.script)) _ _ c.in_ok-script.ensures refl) c.start_script.ensures
