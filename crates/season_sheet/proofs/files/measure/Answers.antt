-- `season_sheet::files::measure` meets its contract.
use mathlib.Core.Path.{refl, ◌∙◌}
use native.Mathlib.Omega.{arith}
use Rattle.std.specs.Prelude.{Ok, Err}
use Rattle.rules.specs.Calls.{four_ones}
use Rattle.reader.specs.Read.{load_answer}
use Rattle.calls.proofs.Loaded.{file_refused, file_given}
use Rattle.loader.proofs.Laws.{lent_yes}
use Rattle.season_sheet.proofs.FilesLaws.{ones_priced, found_read, found_no}
use Rattle.season_sheet.proofs.files.measure.Goals as goal

pub put_cues-fired-requires : goal.put_cues-fired-requires
put_cues-fired-requires c =
    let g = file_given four_ones c.args.file.now (load_answer (Ok c.in-Ok.script)) _ _ c.in-Ok.ensures refl in
    (g.size, omega (arith, g.size, c.requires), g.table.size)

pub measure_script-measured-requires : goal.measure_script-measured-requires
measure_script-measured-requires c = (file_given four_ones c.args.file.now (load_answer (Ok c.in-Ok.script)) _ _ c.in-Ok.ensures refl, ones_priced)

pub returns-in-Ok : goal.returns-in-Ok
returns-in-Ok c =
    let file = c.args.file.now in
    let p = c.put_cues-fired in
    found_read file _ _ _ c.in-Ok.ensures c.measure_script-measured.ensures (p.ensures.0 file) p.ensures.1 c.requires

pub returns-in-Err : goal.returns-in-Err
returns-in-Err c =
    let file = c.args.file.now in
    found_no (lent_yes four_ones 1_024 ones_priced file ∙ file_refused four_ones file (load_answer (Err c.in-Err.refusal)) _ _ c.in-Err.ensures refl)
