use Rattle.law_node_kept.proofs.InProxyMay.{may_lose_unused}
use Rattle.law_node_kept.proofs.in_proxy.an_in_proxy_may_lose_what_it_has_no_use_for.Goals as goal

pub returns : goal.returns
returns c = λ config pipe events stream heads agree n from unused.
    may_lose_unused config pipe events stream
    (c.an_in_proxy_keeps_order.ensures config stream.leads.moves stream.leads.allowed)
    (c.an_in_proxy_may_lose_what_was_handed_over.ensures config stream.leads.moves
    stream.leads.allowed)
    (λ stopped. (c.an_in_proxy_that_lost_what_was_handed_over_is_over_once_told.ensures config pipe
    events stream heads agree stopped).0)
    n unused
    (c.an_in_proxy_is_done_with_what_was_handed_over.ensures config pipe events stream heads agree
    n from unused)
