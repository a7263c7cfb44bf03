-- `reports::put_report` meets its contract.
use Rattle.rules.specs.Replies.{reply_by}
use Rattle.answer_text.proofs.ReportsLaws.{accepted_printed, refused_printed, refusal_printed}
use Rattle.answer_text.proofs.reports.put_report.Goals as goal

pub returns-in-Ok : goal.returns-in-Ok
returns-in-Ok c = accepted_printed c.args.prices.now c.args.file.now c.args.out.now _ c.requires _ c.in-Ok.ensures.answer

pub returns-in-Err : goal.returns-in-Err
returns-in-Err c =
    let e = refused_printed c.args.prices.now c.args.file.now c.args.out.now _ c.requires _ _ c.in-Err.ensures.answer in
    refusal_printed _ _ _ _ _ _ _ e.0 e.1 c.put_refusal.ensures
