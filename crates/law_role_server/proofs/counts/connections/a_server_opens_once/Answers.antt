use Rattle.law_role_server.proofs.Counted.Steps.{opens_once}
use Rattle.law_role_server.proofs.counts.connections.a_server_opens_once.Goals as goal

pub returns : goal.returns
returns c = opens_once
