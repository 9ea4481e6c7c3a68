-- both directions of a world of roles at a moment (profile)
use Rattle.std.specs.Prelude.{◌≡◌, ℕ, true}
use Rattle.law_order.specs.Items.{IsChannel}
use Rattle.law_order.specs.Routes.{Route}
use Rattle.rh_inproxy.specs.State.{InProxy}
use Rattle.rh_outproxy.specs.OutProxy.{OutProxy}
use Rattle.rh_client.specs.declared.state.ClientRole.{ClientRole}
use Rattle.rh_server.specs.States.{Server}
use Rattle.rh_wires.specs.Readers.{reader_of}
use Rattle.rh_nodes.specs.World.{World}
use Rattle.law_node_history.specs.Histories.{History}
use Rattle.law_node_traces.specs.Traced.Numbers.{is_made}
use Rattle.law_peers_routes.specs.Downwards.{GoesDown, route_of}
use Rattle.law_peers_routes.specs.Upwards.{GoesUp, up_route}
use Rattle.law_world_order.specs.Flows.{Numbers}

-- the streams of the nodes, joined by what the legs carried
pub record Directions {K : Type 0} (numbers : Numbers)
    (v : World K ClientRole Server InProxy OutProxy) (h : History) : Type 0 where
  pub down : GoesDown numbers.client numbers.window numbers.outs h.client h.server h.outs
  pub up : GoesUp numbers.client numbers.window numbers.ins h.client h.server h.ins
      (is_made v.company) (reader_of v.readers)

abbrev pub down_route_of : {K : Type 0} {numbers : Numbers}
    {v : World K ClientRole Server InProxy OutProxy} {h : History} → Directions numbers v h
    → Route
down_route_of directions = route_of directions.down

abbrev pub up_route_of : {K : Type 0} {numbers : Numbers}
    {v : World K ClientRole Server InProxy OutProxy} {h : History} → Directions numbers v h
    → Route
up_route_of {v} directions =
    let up = directions.up in
    up_route (reader_of v.readers) up.giver.passage (λ n. (up.proxies n).passage)
    up.taker.leads.moves up.taker.passage

-- on no leg of a direction stands anything behind a handover mark, nor a PDU or END behind END: of
-- what the giver put on a channel and the proxy that reads it took, and of what a proxy put on its
-- far leg and the taker took
pub record MarksAreLast (r : Route) : Type 0 where
  pub near : (m n : ℕ) → r.legs m ≡ true → IsChannel (r.sent n) × IsChannel (r.came m n)
  pub far : (m : ℕ) → IsChannel (r.put m) × IsChannel (r.got m)

pub record BothMark {K : Type 0} (numbers : Numbers)
    (v : World K ClientRole Server InProxy OutProxy) (h : History) : Type 0 where
  pub directions : Directions numbers v h
  pub down : MarksAreLast (down_route_of directions)
  pub up : MarksAreLast (up_route_of directions)
