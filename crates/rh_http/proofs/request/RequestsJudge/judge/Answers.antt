use Rattle.rh_http.proofs.Judged.{request_judged}
use Rattle.rh_http.proofs.request.RequestsJudge.judge.Goals as goal

pub returns-in-Ok-Complete-clause-verdict : goal.returns-in-Ok-Complete-clause-verdict
returns-in-Ok-Complete-clause-verdict c =
    request_judged c.args.self.now.inbound c.args.text.now c.parse_request.new.headers
    c.split_at.result.0.now
    c.in-Ok-Complete.spans c.judge_parts.result c.parse_request.auto.headers c.if-spans-text.true
    c.split_at.ensures.front
    (rw c.in-Ok-Complete.field-0-is at c.in-Ok-Complete.ensures.complete) c.judge_parts.ensures
