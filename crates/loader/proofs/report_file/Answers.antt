-- `loader::report_file` meets its contract. Assumes nothing.
use mathlib.Core.Path.{refl}
use Rattle.std.specs.Prelude.{Ok}
use Rattle.rules.proofs.PassedOn.{passed_on}
use Rattle.reader.specs.Read.{load_answer}
use Rattle.calls.proofs.Loaded.{file_refused, file_read, file_given}
use Rattle.loader.proofs.Laws.{reported_no, reported_as}
use Rattle.loader.proofs.report_file.Goals as goal

pub measure_script-measured-requires : goal.measure_script-measured-requires
measure_script-measured-requires c = (file_given c.args.prices.now c.args.file.now (load_answer (Ok c.in_ok-script.script)) _ _ c.in_ok-script.ensures refl, c.requires.0)

pub returns-in_err-script : goal.returns-in_err-script
returns-in_err-script c =
    let e = c.in_err-script in
    rw (passed_on c.from_residual.result e.field-0.0 c.from_residual.ensures) (reported_no (file_refused c.args.prices.now c.args.file.now _ _ _ e.ensures refl))

pub returns : goal.returns
returns c = reported_as (file_read c.args.prices.now c.args.file.now (load_answer (Ok c.in_ok-script.script)) _ _ c.in_ok-script.ensures refl) c.measure_script-measured.ensures
