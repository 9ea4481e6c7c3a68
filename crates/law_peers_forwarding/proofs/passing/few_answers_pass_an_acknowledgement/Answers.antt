use Rattle.law_peers_forwarding.proofs.Passed.{few_pass}
use Rattle.law_peers_forwarding.proofs.passing.few_answers_pass_an_acknowledgement.Goals as goal

pub returns : goal.returns
returns c = few_pass
