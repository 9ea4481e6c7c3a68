-- the RPC PDUs that in proxies put in a world of roles (MS-RPCH 3.2.1, 3.2.3; successors are this
-- profile's)
use Rattle.std.specs.Prelude.{ℕ}
use Rattle.rh_inproxy.specs.State.{InProxy}
use Rattle.rh_outproxy.specs.OutProxy.{OutProxy}
use Rattle.rh_client.specs.declared.state.ClientRole.{ClientRole}
use Rattle.rh_server.specs.States.{Server}
use Rattle.rh_nodes.specs.Opening.{Makers}
use Rattle.rh_nodes.specs.World.{World}
use Rattle.law_peers_moments.specs.Moments.{in_behind}
use Rattle.law_node_traces.specs.Traced.Cookies.{ByChanges}
use Rattle.law_node_traces.specs.Traced.Ours.{AreOurs, deeds, rules}
use Rattle.law_node_traces.specs.Traced.Recordings.{history_at}
use Rattle.law_peers_in_channels.specs.PdusInTurn.Passing.{HoldsBack}
use Rattle.law_peers_in_channels.specs.PdusInTurn.Turns.{ComeBehindHandovers}
use Rattle.law_world_order.specs.Flows.{IsFlowing, numbers_of}
use Rattle.law_world_order.specs.Pasts.{moves_of, numbers}

-- by the stream of each node
pub record PassInTurn {K : Type 0} (m : Makers K InProxy OutProxy)
    (w : World K ClientRole Server InProxy OutProxy) (ours : AreOurs m w.company w.cast)
    (v : World K ClientRole Server InProxy OutProxy) (by : ByChanges rules m deeds w v) : Type 0
  where
    pub flowing : IsFlowing (numbers_of ours) w v (history_at m w v by.leads)
    -- each in proxy holds back those of later ci legs until IN_R1/A5 came
    pub held : (n : ℕ) → HoldsBack n (in_behind (numbers ours) (moves_of flowing) n)
    -- and those of its is leg until IN_R1/A6 came at the server for the channels before
    pub turns : ComeBehindHandovers (numbers ours) (moves_of flowing)
