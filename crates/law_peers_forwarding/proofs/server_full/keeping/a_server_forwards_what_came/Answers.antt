use Rattle.law_peers_forwarding.proofs.ServerFull.Kept.{what_came}
use Rattle.law_peers_forwarding.proofs.server_full.keeping.a_server_forwards_what_came.Goals as goal

pub returns : goal.returns
returns c = what_came
