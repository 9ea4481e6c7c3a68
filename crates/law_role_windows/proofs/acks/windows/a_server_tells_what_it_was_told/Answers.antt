use Rattle.rh_server.specs.Servers.{acts, first, rules}
use Rattle.law_moves.proofs.Vocabulary.{InServer, all_end_moved, end_started}
use Rattle.law_role_windows.proofs.Acknowledging.ServerPasses.{server_from}
use Rattle.law_role_windows.proofs.Acknowledging.Sources.{from_b2, from_a2}
use Rattle.law_role_windows.proofs.acks.windows.a_server_tells_what_it_was_told.Goals as goal

pub returns : goal.returns
returns c = record {
  connected = λ window moves.
      let p = (all_end_moved rules acts (end_started (first window)) moves).passage in
      from_b2 InServer 0 0 p.came p.put (server_from window moves 0);
  replaced = λ window moves.
      let p = (all_end_moved rules acts (end_started (first window)) moves).passage in
      from_a2 InServer 0 0 p.came p.put (server_from window moves 0);
}
