use Rattle.law_role_edges.proofs.InEdges.{in_knows}
use Rattle.law_role_edges.proofs.edges.an_in_proxy_knows_what_the_server_told.Goals as goal

pub returns : goal.returns
returns c = in_knows
