use Rattle.rh_server.specs.Servers.{acts, first, rules}
use Rattle.law_moves.proofs.Vocabulary.{InServer, all_end_moved, end_started}
use Rattle.law_role_windows.proofs.Acknowledging.ServerPasses.{server_from}
use Rattle.law_role_windows.proofs.Acknowledging.Sources.{all_passed}
use Rattle.law_role_windows.proofs.acks.forwarders.a_server_passes_acknowledgements_on.Goals as goal

pub returns : goal.returns
returns c = λ window moves to.
    let p = (all_end_moved rules acts (end_started (first window)) moves).passage in
    all_passed InServer to 0 p.came p.put (server_from window moves to)
