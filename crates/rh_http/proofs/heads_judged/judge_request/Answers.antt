use Rattle.std.proofs.Common.{ap, ◌∙◌}
use Rattle.rh_http.specs.Heads.Verdicts.{asked_of}
use Rattle.rh_http.proofs.Heads.Judged.{request_answered}
use Rattle.rh_http.proofs.heads_judged.judge_request.Goals as goal

pub returns : goal.returns
returns c =
    ap asked_of c.whole.ensures
    ∙ request_answered c.args.inbound c.args.text.now c.read_request.result c.requires
    c.read_request.ensures.answer
