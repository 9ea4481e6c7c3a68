use Rattle.law_node_marks.proofs.OutProxyKept.{kept_over}
use Rattle.law_node_marks.proofs.out_proxy.an_out_proxy_that_kept_its_server_is_over_behind_its_mark.Goals as goal

pub returns : goal.returns
returns c = λ config pipe events stream heads keeps.
    kept_over config pipe events stream heads keeps
    (c.an_out_proxy_keeps_order.ensures config stream.leads.moves stream.leads.allowed)
    c.roles_move_by_their_rules.ensures.event
