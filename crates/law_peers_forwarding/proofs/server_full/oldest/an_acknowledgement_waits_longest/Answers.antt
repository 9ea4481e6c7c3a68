use Rattle.law_peers_forwarding.proofs.ServerFull.Longest.{oldest}
use Rattle.law_peers_forwarding.proofs.server_full.oldest.an_acknowledgement_waits_longest.Goals as goal

pub returns : goal.returns
returns c window moves = oldest window moves (c.what_a_server_forwards.ensures window)
