use Rattle.law_role_client.proofs.Sending.Laws.{client_begins}
use Rattle.law_role_client.proofs.sends.a_client_begins_each_channel_once.Goals as goal

pub returns : goal.returns
returns c = client_begins
