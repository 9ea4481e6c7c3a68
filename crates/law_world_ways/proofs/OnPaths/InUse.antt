-- no leg stops the way where each is in use, or its mark or END passed
use Rattle.law_order.proofs.Vocabulary.{◌≡◌, ◌⊎◌, inl, inr, true, false, List, Some, Option, Item, reader, stops_at, Route}
use Rattle.rh_inproxy.specs.Machine as in_proxy
use Rattle.rh_outproxy.specs.Machine as out_proxy
use Rattle.rh_client.specs.Client as client
use Rattle.rh_server.specs.Servers as server
use Rattle.law_moves.proofs.Vocabulary.{Dir, U, D, Pipe, CiU, IsU, CoD, OsD, Leg, Rules, Shell}
use Rattle.law_role_inproxy.proofs.Vocabulary.{InProxy}
use Rattle.law_role_client.proofs.Vocabulary.{ClientRole}
use Rattle.law_role_server.proofs.Vocabulary.{Server}
use Rattle.law_node_history.proofs.Vocabulary.{reader_of, World, History}
use Rattle.law_role_outproxy.proofs.Vocabulary.{OutProxy}
use Rattle.law_node_begins.specs.ProxiesBegin.Pipes.{ci, co, is, os}
use Rattle.law_world_order.proofs.Vocabulary.{Numbers}
use Rattle.law_world_ways.proofs.OnPaths.Used.{passed_goes, used_goes}
use Rattle.law_world_ways.specs.OnPaths.Laws.{NoneStops}
use Rattle.law_world_ways.specs.OnPaths.Legs.{IsInUse, has_passed, on_leg}
use Rattle.law_world_ways.specs.OnPaths.OnWay.{is_lost}
use Rattle.law_world_ways.specs.OnPaths.Ways.{AreInUseDown, AreInUseUp, client_node, down_lost, in_node, out_node, server_node, up_lost}

goes_on : {K C S I O P T : Type 0} (v : World K C S I O) (h : History) (leg : Leg) (dir : Dir)
    (pipe : Option Pipe) (puts : Shell P) (rules : Rules T) (takes : Shell T) (came : List Item)
    → IsInUse v h leg dir puts rules takes ⊎ (has_passed came ≡ true)
    → stops_at (is_lost (on_leg v h leg dir pipe puts rules takes)) came ≡ false
goes_on v h leg dir pipe puts rules takes came (inl used) =
    used_goes v h leg dir pipe puts rules takes used came
goes_on v h leg dir pipe puts rules takes came (inr passed) =
    passed_goes (is_lost (on_leg v h leg dir pipe puts rules takes)) came passed

module _ {K : Type 0} (numbers : Numbers) (v : World K ClientRole Server InProxy OutProxy)
    (h : History) (r : Route) where
  pub none_stops_down : AreInUseDown numbers v h r → NoneStops r (down_lost numbers v h)
  none_stops_down used = record {
    near = λ n from within.
        goes_on v h (os n) D (Some OsD) (server_node numbers h) out_proxy.rules
        (out_node numbers h n) (r.came (reader r.legs n) n) (used.near n from within);
    far = λ n from within leg.
        goes_on v h (co n) D (Some CoD) (out_node numbers h n) client.rules
        (client_node numbers h) (r.got n) (used.far n from within);
  }

  pub none_stops_up : AreInUseUp numbers v h r → NoneStops r (up_lost numbers v h)
  none_stops_up used = record {
    near = λ n from within.
        goes_on v h (ci n) U (Some CiU) (client_node numbers h) in_proxy.rules
        (in_node numbers h (reader_of v.readers n)) (r.came (reader r.legs n) n)
        (used.near n from within);
    far = λ n from within leg.
        goes_on v h (is n) U (Some IsU) (in_node numbers h n) server.rules
        (server_node numbers h) (r.got n) (used.far n from within leg);
  }
