use Rattle.law_role_edges.proofs.OutPasses.{out_passes}
use Rattle.law_role_edges.proofs.forwarding.an_out_proxy_passes_edges_on.Goals as goal

pub returns : goal.returns
returns c = out_passes c.edges_never_fall.ensures
