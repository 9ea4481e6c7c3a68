use Rattle.law_peers_forwarding.proofs.Answering.Since.{asks_one_behind}
use Rattle.law_peers_forwarding.proofs.answers.wishes.a_client_asks_for_one_in_channel_behind_a_wish.Goals as goal

pub returns : goal.returns
returns c = asks_one_behind
