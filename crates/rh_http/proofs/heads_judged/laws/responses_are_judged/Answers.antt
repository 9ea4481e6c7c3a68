use Rattle.rh_http.proofs.Heads.Judged.{whole_response, other_response}
use Rattle.rh_http.proofs.heads_judged.laws.responses_are_judged.Goals as goal

pub returns-clause-whole : goal.returns-clause-whole
returns-clause-whole c = whole_response

pub returns-clause-other : goal.returns-clause-other
returns-clause-other c = other_response
