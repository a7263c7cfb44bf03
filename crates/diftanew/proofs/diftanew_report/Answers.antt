-- `diftanew::diftanew_report` meets its contract. Assumes nothing.
use mathlib.Core.Path.{sym, ap}
use Rattle.rules.specs.Replies.{reply_by}
use Rattle.loader.specs.Kept.{reply_number, reply_place}
use Rattle.diftanew.proofs.diftanew_report.Goals as goal

pub returns-in-Ok : goal.returns-in-Ok
returns-in-Ok c =
    let e = c.report.ensures in
    let z = ap reply_by c.in-Ok.is in
    record { answer = record { reply = reply_by c.report.result; reported = e.answer; number = ap reply_number (sym z); place = ap reply_place (sym z) }; scratch = e.scratch }

pub returns-in-Err : goal.returns-in-Err
returns-in-Err c =
    let e = c.report.ensures in
    let z = ap reply_by c.in-Err.is in
    record { answer = record { reply = reply_by c.report.result; reported = e.answer; number = ap reply_number (sym z); place = ap reply_place (sym z) }; scratch = e.scratch }
