use Rattle.law_role_client_edges.proofs.EndsLast.{client_ends}
use Rattle.law_role_client_edges.proofs.ends.a_client_ends_last.Goals as goal

pub returns : goal.returns
returns c = client_ends
