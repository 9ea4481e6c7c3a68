use Rattle.law_node_lasting.proofs.InProxyLasts.{unused_came}
use Rattle.law_node_lasting.proofs.in_proxy.an_in_proxy_is_done_with_what_was_handed_over.Goals as goal

pub returns : goal.returns
returns c = λ config pipe events stream heads agree n from.
    unused_came config pipe events stream
    (c.an_in_proxy_keeps_order.ensures config stream.leads.moves stream.leads.allowed)
    (c.an_in_proxy_that_lost_what_was_handed_over_is_over_once_told.ensures config pipe events
    stream heads agree) n from
