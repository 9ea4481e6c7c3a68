use Rattle.rh_outproxy.specs.Machine.{rules}
use Rattle.rh_outproxy.specs.OutProxy.{new_proxy}
use Rattle.law_moves.proofs.Vocabulary.{OutServer, all_moved, started}
use Rattle.law_role_windows.proofs.Acknowledging.OutProxyPasses.{out_proxy_from}
use Rattle.law_role_windows.proofs.Acknowledging.Sources.{from_c1, from_a3}
use Rattle.law_role_windows.proofs.acks.windows.an_out_proxy_tells_what_it_was_told.Goals as goal

pub returns : goal.returns
returns c = record {
  connected = λ config moves.
      let p = all_moved rules (started (new_proxy config)) moves in
      from_c1 OutServer 0 0 p.came p.put (out_proxy_from config moves 0);
  replaced = λ config moves.
      let p = all_moved rules (started (new_proxy config)) moves in
      from_a3 OutServer 0 0 p.came p.put (out_proxy_from config moves 0);
}
