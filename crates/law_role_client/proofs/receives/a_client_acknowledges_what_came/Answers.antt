use Rattle.law_role_client.proofs.Receiving.Receives.{to_out_proxies, acks_are_true}
use Rattle.law_role_client.proofs.receives.a_client_acknowledges_what_came.Goals as goal

pub returns-clause-destinations : goal.returns-clause-destinations
returns-clause-destinations c = to_out_proxies

pub returns-clause-acks : goal.returns-clause-acks
returns-clause-acks c = acks_are_true
