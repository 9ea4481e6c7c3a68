use Rattle.law_peers_forwarding.proofs.Answering.Before.{proxy_keeps}
use Rattle.law_peers_forwarding.proofs.answers.passing.an_out_proxy_keeps_answers_before_a_wish.Goals as goal

pub returns : goal.returns
returns c = proxy_keeps
