use Rattle.law_role_bytes.proofs.InKnown.{in_proxy_known}
use Rattle.law_role_bytes.proofs.InReceives.{in_proxy_received}
use Rattle.law_role_bytes.proofs.proxies.an_in_proxy_counts_what_it_receives.Goals as goal

pub returns : goal.returns
returns c = λ config moves is.
    in_proxy_received config moves
    (λ front may. in_proxy_known config front is may
    (c.an_in_proxy_keeps_order.ensures config front may))
