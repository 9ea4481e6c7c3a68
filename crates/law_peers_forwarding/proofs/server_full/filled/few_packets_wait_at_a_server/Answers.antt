use Rattle.law_peers_forwarding.proofs.ServerFull.Lengths.{few_wait}
use Rattle.law_peers_forwarding.proofs.server_full.filled.few_packets_wait_at_a_server.Goals as goal

pub returns : goal.returns
returns c = few_wait
