use Rattle.law_role_edges.proofs.InPasses.{in_passes}
use Rattle.law_role_edges.proofs.edges.an_in_proxy_passes_edges_on.Goals as goal

pub returns : goal.returns
returns c = in_passes c.edges_never_fall.ensures
