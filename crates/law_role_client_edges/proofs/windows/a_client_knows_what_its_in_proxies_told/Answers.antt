use Rattle.law_role_client_edges.proofs.Laws.{client_knows}
use Rattle.law_role_client_edges.proofs.windows.a_client_knows_what_its_in_proxies_told.Goals as goal

pub returns : goal.returns
returns c = client_knows
