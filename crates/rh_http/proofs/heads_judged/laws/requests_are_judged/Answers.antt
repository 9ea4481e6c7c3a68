use Rattle.rh_http.proofs.Heads.Judged.{whole_request, other_request}
use Rattle.rh_http.proofs.heads_judged.laws.requests_are_judged.Goals as goal

pub returns-clause-whole : goal.returns-clause-whole
returns-clause-whole c = whole_request

pub returns-clause-other : goal.returns-clause-other
returns-clause-other c = other_request
