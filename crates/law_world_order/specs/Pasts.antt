-- the moment of a virtual connection at which a world of roles is (MS-RPCH 3.2; profile)
use Rattle.rh_inproxy.specs.State.{InProxy}
use Rattle.rh_outproxy.specs.OutProxy.{OutProxy}
use Rattle.rh_client.specs.declared.state.ClientRole.{ClientRole}
use Rattle.rh_server.specs.States.{Server}
use Rattle.rh_wires.specs.Readers.{reader_of}
use Rattle.rh_company.specs.Company.{Company}
use Rattle.rh_nodes.specs.Opening.{Makers}
use Rattle.rh_nodes.specs.World.{World}
use Rattle.law_node_history.specs.Carried.{happened}
use Rattle.law_node_history.specs.Histories.{History}
use Rattle.law_peers_moments.specs.Moments.{AreJoined, AreMade, IsMoment, Moves, Numbers, passages}
use Rattle.law_node_traces.specs.Traced.Cookies.{ByChanges}
use Rattle.law_node_traces.specs.Traced.Ours.{AreOurs, deeds, rules}
use Rattle.law_node_traces.specs.Traced.Recordings.{history_at}
use Rattle.law_world_order.specs.Flows as fifo
use Rattle.law_world_order.specs.Flows.{IsFlowing, numbers_of}
use Rattle.law_world_order.specs.Premises.{AreDistinct}

-- the numbers with which the roles of a world were made
abbrev pub numbers : {K : Type 0} {m : Makers K InProxy OutProxy}
    {first : Company ClientRole Server InProxy OutProxy} {cast : K} → AreOurs m first cast → Numbers
numbers ours = record {
  client = ours.config;
  window = ours.window;
  ins = ours.in_config;
  outs = ours.out_config;
}

-- the moves by which its streams lead
abbrev pub moves_of : {K : Type 0} {all : fifo.Numbers}
    {w v : World K ClientRole Server InProxy OutProxy} {h : History} → IsFlowing all w v h → Moves
moves_of flowing = record {
  client = flowing.flows.client.leads.moves;
  server = flowing.flows.server.leads.moves;
  ins = λ m. (flowing.flows.ins m).leads.moves;
  outs = λ n. (flowing.flows.outs n).leads.moves;
}

-- each node has its stream, whose moves are made as they may be and are joined by legs; by them the
-- world is at a moment where no two legs of one kind came up at the client under one cookie
pub record HasMoment {K : Type 0} (m : Makers K InProxy OutProxy)
    (w : World K ClientRole Server InProxy OutProxy) (ours : AreOurs m w.company w.cast)
    (v : World K ClientRole Server InProxy OutProxy) (by : ByChanges rules m deeds w v) : Type 0
  where
    pub flowing : IsFlowing (numbers_of ours) w v (history_at m w v by.leads)
    pub made : AreMade (numbers ours) (moves_of flowing)
    pub joined : AreJoined (reader_of v.readers) (passages (numbers ours) (moves_of flowing))
    pub moment : AreDistinct (happened (history_at m w v by.leads).client)
        → IsMoment (numbers ours) (reader_of v.readers) (moves_of flowing)
