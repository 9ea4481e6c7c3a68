use Rattle.rh_http.proofs.Answered.{fault_answered}
use Rattle.rh_http.proofs.reading.answer.Goals as goal

pub returns-in-Err : goal.returns-in-Err
returns-in-Err g c =
    fault_answered
    (g.J.Judge.judges c.args.judge.now) c.args.bytes.now c.split_at.result.0.now c.in-Ends.len
    c.in-Err.fault c.in-Err.ensures.ends c.split_at.ensures.front c.in-Ends.ensures.0
    c.in-Err.ensures.verdict
