use Rattle.std.proofs.Common.{◌∙◌}
use Rattle.rh_http.proofs.Heads.Judged.{response_answered}
use Rattle.rh_http.proofs.heads_judged.judge_response.Goals as goal

pub returns : goal.returns
returns c =
    c.whole.ensures
    ∙ response_answered c.args.text.now c.read_response.result c.requires
    c.read_response.ensures.answer
