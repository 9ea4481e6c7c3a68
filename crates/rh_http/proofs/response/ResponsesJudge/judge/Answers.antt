use Rattle.std.proofs.Common.{ℕ}
use Rattle.rh_http.specs.Lengths.{Fields, TellsLength}
use Rattle.rh_http.proofs.Judged.{response_judged}
use Rattle.rh_http.proofs.response.ResponsesJudge.judge.Goals as goal

pub returns-in-Some-clause-verdict : goal.returns-in-Some-clause-verdict
returns-in-Some-clause-verdict c =
    let P : ℕ → Fields → Type 0 = λ status fields. TellsLength status fields c.in-Some.length in
    let judged =
    response_judged c.args.text.now c.parse_response.new.headers c.split_at.result.0.now
    c.in-Ok-Complete.spans P c.parse_response.auto.headers c.if-spans-text.true
    c.split_at.ensures.front
    (rw c.in-Ok-Complete.field-0-is at c.in-Ok-Complete.ensures.complete) c.in-Some.ensures in
    (judged.0, judged.1, (judged.2, judged.3))

pub returns-in-None-clause-verdict : goal.returns-in-None-clause-verdict
returns-in-None-clause-verdict c =
    let P : ℕ → Fields → Type 0 = λ status fields. (n : ℕ) → ¬ TellsLength status fields n in
    let judged =
    response_judged c.args.text.now c.parse_response.new.headers c.split_at.result.0.now
    c.in-Ok-Complete.spans P c.parse_response.auto.headers c.if-spans-text.true
    c.split_at.ensures.front
    (rw c.in-Ok-Complete.field-0-is at c.in-Ok-Complete.ensures.complete) c.in-None.ensures in
    (judged.0, judged.1, judged.3)
