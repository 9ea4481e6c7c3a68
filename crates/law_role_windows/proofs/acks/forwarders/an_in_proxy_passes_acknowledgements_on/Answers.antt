use Rattle.rh_inproxy.specs.Machine.{rules}
use Rattle.rh_inproxy.specs.State.{first}
use Rattle.law_moves.proofs.Vocabulary.{ClientIn, all_moved, started}
use Rattle.law_role_windows.proofs.Acknowledging.InProxyPasses.{in_proxy_from}
use Rattle.law_role_windows.proofs.Acknowledging.Sources.{all_passed}
use Rattle.law_role_windows.proofs.acks.forwarders.an_in_proxy_passes_acknowledgements_on.Goals as goal

pub returns : goal.returns
returns c = λ config moves.
    let p = all_moved rules (started (first config)) moves in
    all_passed ClientIn 3 config.window p.came p.put (in_proxy_from config moves)
