use Rattle.law_role_edges.proofs.OutForwards.{out_forwards}
use Rattle.law_role_edges.proofs.forwarding.an_out_proxy_forwards_all_that_came.Goals as goal

pub returns : goal.returns
returns c = out_forwards
