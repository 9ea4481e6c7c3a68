use Rattle.law_peers_forwarding.proofs.ServerFull.Answers.{few_taken}
use Rattle.law_peers_forwarding.proofs.server_full.taken.few_channels_are_answered_before_an_acknowledgement.Goals as goal

pub returns : goal.returns
returns c window moves =
    few_taken window moves (c.few_answers_overtake_an_acknowledgement.ensures window)
