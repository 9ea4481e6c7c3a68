use Rattle.law_node_begins.proofs.EndsBegin.ClientAsks.{client_asks}
use Rattle.law_node_begins.proofs.ends_begin.client.a_client_asks_by_its_requests.Goals as goal

pub returns : goal.returns
returns c config moves leg allowed = client_asks config moves leg allowed
