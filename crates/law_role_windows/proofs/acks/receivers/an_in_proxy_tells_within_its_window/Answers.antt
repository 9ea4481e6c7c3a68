use Rattle.rh_inproxy.specs.Machine.{rules}
use Rattle.rh_inproxy.specs.State.{InProxy, first}
use Rattle.law_moves.proofs.Vocabulary.{Passage, all_moved, started}
use Rattle.law_role_windows.proofs.Acknowledging.InProxyRoom.{in_proxy_room}
use Rattle.law_role_windows.proofs.Acknowledging.InProxyTells.{holds}
use Rattle.law_role_windows.proofs.acks.receivers.an_in_proxy_tells_within_its_window.Goals as goal

pub returns : goal.returns
returns c = λ config moves n is allowed.
    let p : Passage InProxy = all_moved rules (started (first config)) moves in
    in_proxy_room config.window p.role p.came p.put (holds config moves is)
    (c.what_an_in_proxy_holds.ensures.moves config moves is allowed) n
