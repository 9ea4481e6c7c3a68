use Rattle.law_role_edges.proofs.OutTells.{out_tells}
use Rattle.law_role_edges.proofs.out_proxies.an_out_proxy_told_what_its_window_told.Goals as goal

pub returns : goal.returns
returns c = out_tells
