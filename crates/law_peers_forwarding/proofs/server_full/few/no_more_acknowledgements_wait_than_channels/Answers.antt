use Rattle.law_peers_forwarding.proofs.ServerFull.Counting.{few_wait}
use Rattle.law_peers_forwarding.proofs.server_full.few.no_more_acknowledgements_wait_than_channels.Goals as goal

pub returns : goal.returns
returns c numbers reader moves joined =
    few_wait numbers reader moves
    (c.acknowledgements_are_of_late_channels.ensures numbers reader moves joined)
    (c.a_client_names_its_in_channels.ensures numbers.client moves.client joined.made.client)
    (c.what_a_server_forwards.ensures numbers.window moves.server)
