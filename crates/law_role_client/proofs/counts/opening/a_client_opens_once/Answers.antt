use Rattle.law_role_client.proofs.Counted.Opens.{opens_once}
use Rattle.law_role_client.proofs.counts.opening.a_client_opens_once.Goals as goal

pub returns : goal.returns
returns c = opens_once
