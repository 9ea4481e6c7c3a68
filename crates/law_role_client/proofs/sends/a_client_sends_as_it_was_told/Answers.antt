use Rattle.law_role_client.proofs.Sending.Laws.{client_sends}
use Rattle.law_role_client.proofs.sends.a_client_sends_as_it_was_told.Goals as goal

pub returns : goal.returns
returns c = client_sends
