-- `diftanew::diftanew_figures` meets its contract. Assumes nothing.
use Rattle.diftanew.proofs.Figured.{few, sevens, figured, figured_no}
use Rattle.diftanew.proofs.diftanew_figures.Goals as goal

pub figures_numbers-requires : goal.figures_numbers-requires
figures_numbers-requires c = let h = c.in-Ok.ensures.answer in (few c.args.prices.now _ c.in-Ok.figures _ h, sevens c.args.prices.now _ c.in-Ok.figures _ h)

pub returns-in-Ok : goal.returns-in-Ok
returns-in-Ok c = record { answer = figured c.args.prices.now _ c.in-Ok.figures _ c.in-Ok.ensures.answer c.figures_numbers.ensures; scratch = c.figures.ensures.scratch }

pub returns-in-Err : goal.returns-in-Err
returns-in-Err c = record { answer = figured_no c.args.prices.now _ c.in-Err.refusal _ c.in-Err.ensures.answer c.refuse.ensures.number c.refuse.ensures.numbers; scratch = c.figures.ensures.scratch }
