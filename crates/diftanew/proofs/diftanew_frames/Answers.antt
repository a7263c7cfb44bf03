-- `diftanew::diftanew_frames` meets its contract. Assumes nothing.
use mathlib.Core.Path.{sym, ◌∙◌, ap}
use lib.ListN.{set}
use Rattle.calls_frames.specs.Answers.{frames_answer}
use Rattle.loader.specs.Kept.{verdict_number}
use Rattle.diftanew.specs.Numbers.{frames_numbers}
use Rattle.diftanew.proofs.Laid.{refused_frames}
use Rattle.diftanew.proofs.diftanew_frames.Goals as goal

pub returns-in-Err-clause-answer : goal.returns-in-Err-clause-answer
returns-in-Err-clause-answer c =
    let r = c.in-Err.refused in
    let n = r.refusal.number in
    let p = r.refusal.place in
    record {
      frames = frames_answer c.frames.result;
      framed = c.frames.ensures.answer;
      number = c.refuse-number.ensures.number ∙ sym (ap (λ x. verdict_number (frames_answer x).verdict) c.in-Err.is);
      numbers = ap (λ l. set l 1 r.script) c.refuse-number.ensures.numbers ∙ sym (refused_frames n p r.script) ∙ sym (ap (λ x. frames_numbers (frames_answer x)) c.in-Err.is);
    }
