-- A file that was loaded is given to the analysis.
use mathlib.Core.Path.{refl}
use Rattle.std.specs.Prelude.{Ok}
use Rattle.reader.specs.Read.{load_answer}
use Rattle.calls.proofs.Loaded.{file_given}
use Rattle.explain.proofs.explain_priced.Goals as goal

pub explain_script-requires : goal.explain_script-requires
explain_script-requires g c =
    (file_given c.args.prices.now c.args.file.now (load_answer (Ok c.in-Ok.script)) _ _ c.in-Ok.ensures refl, c.requires)
