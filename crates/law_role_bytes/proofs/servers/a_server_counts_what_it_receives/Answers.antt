use Rattle.law_role_bytes.proofs.ServerKnown.{server_known}
use Rattle.law_role_bytes.proofs.ServerReceives.{server_received}
use Rattle.law_role_bytes.proofs.servers.a_server_counts_what_it_receives.Goals as goal

pub returns : goal.returns
returns c = λ window moves is.
    server_received window moves
    (λ front may. server_known window is front may
    (c.a_server_takes_in_order.ensures window front may))
