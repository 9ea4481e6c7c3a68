use Rattle.law_audit.proofs.Chains.InOrder.{chained}
use Rattle.law_audit.proofs.laws_of_chains.chained.successors_stand_in_a_chain.Goals as goal

pub returns : goal.returns
returns c kind seen tags tag most tagged follows = chained kind seen tags tag most tagged follows
