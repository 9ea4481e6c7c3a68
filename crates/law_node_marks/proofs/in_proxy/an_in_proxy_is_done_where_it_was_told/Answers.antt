use Rattle.law_node_marks.proofs.InProxyOver.{done_behind_b1}
use Rattle.law_node_marks.proofs.in_proxy.an_in_proxy_is_done_where_it_was_told.Goals as goal

pub returns : goal.returns
returns c = done_behind_b1
