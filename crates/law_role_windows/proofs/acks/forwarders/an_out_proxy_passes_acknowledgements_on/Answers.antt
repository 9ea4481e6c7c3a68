use Rattle.rh_outproxy.specs.Machine.{rules}
use Rattle.rh_outproxy.specs.OutProxy.{new_proxy}
use Rattle.law_moves.proofs.Vocabulary.{OutServer, all_moved, started}
use Rattle.law_role_windows.proofs.Acknowledging.OutProxyPasses.{out_proxy_from}
use Rattle.law_role_windows.proofs.Acknowledging.Sources.{all_passed}
use Rattle.law_role_windows.proofs.acks.forwarders.an_out_proxy_passes_acknowledgements_on.Goals as goal

pub returns : goal.returns
returns c = λ config moves to.
    let p = all_moved rules (started (new_proxy config)) moves in
    all_passed OutServer to 0 p.came p.put (out_proxy_from config moves to)
