use Rattle.rh_inproxy.specs.Machine.{rules}
use Rattle.rh_inproxy.specs.State.{first}
use Rattle.law_moves.proofs.Vocabulary.{ClientIn, all_moved, started}
use Rattle.law_role_windows.proofs.Acknowledging.InProxyPasses.{in_proxy_from}
use Rattle.law_role_windows.proofs.Acknowledging.Sources.{own_b2, own_a2}
use Rattle.law_role_windows.proofs.acks.windows.an_in_proxy_tells_its_window.Goals as goal

pub returns : goal.returns
returns c = record {
  connected = λ config moves.
      let p = all_moved rules (started (first config)) moves in
      own_b2 ClientIn 3 config.window p.came p.put (in_proxy_from config moves);
  replaced = λ config moves.
      let p = all_moved rules (started (first config)) moves in
      own_a2 ClientIn 3 config.window p.came p.put (in_proxy_from config moves);
}
