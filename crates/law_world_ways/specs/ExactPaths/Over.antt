-- legs that the end nearer the client has finished (profile)
use Rattle.std.specs.Prelude.{◌≡◌, ◌⊎◌, ◌<◌, ℕ, true, false}
use Rattle.rh_text.specs.declared.ends.Side.{Side}
use Rattle.rh_text.specs.declared.ends.Dir.TheVariants.{U}
use Rattle.rh_line.specs.declared.leg.Leg.{Leg}
use Rattle.rh_inproxy.specs.Machine as in_proxy
use Rattle.rh_inproxy.specs.State.{InProxy}
use Rattle.rh_outproxy.specs.Machine as out_proxy
use Rattle.rh_outproxy.specs.OutProxy.{OutProxy}
use Rattle.rh_client.specs.declared.state.ClientRole.{ClientRole}
use Rattle.rh_server.specs.States.{Server}
use Rattle.rh_wires.specs.Legs as legs
use Rattle.rh_wires.specs.Readers.{reader_of}
use Rattle.rh_company.specs.Company.{Rulebook}
use Rattle.rh_nodes.specs.Settling.{is_finished}
use Rattle.rh_nodes.specs.World.{World}
use Rattle.law_moves.specs.Moves.{is_in_use}
use Rattle.law_role_inproxy.specs.Order as in_order
use Rattle.law_role_client.specs.Order as client_order
use Rattle.law_role_server.specs.Order.{got}
use Rattle.law_node_history.specs.Histories.{History}
use Rattle.law_role_outproxy.specs.Order as out_order
use Rattle.law_node_begins.specs.ProxiesBegin.Pipes.{ci, co, is, os}
use Rattle.law_node_traces.specs.Traced.Ours.{rules}
use Rattle.law_world_order.specs.Directions.{Directions}
use Rattle.law_world_order.specs.Flows.{Numbers}
use Rattle.law_world_ways.specs.OnPaths.Legs.{has_passed, was_told}
use Rattle.law_world_ways.specs.OnPaths.Ways.{AreOnTheirWay, in_node, out_node}

-- the leg is up for both its ends, of which neither was told that it is lost; the end nearer the
-- client has finished it, and all that was put there on the way up came
pub record IsOverUpwards {K C S I O : Type 0} (r : Rulebook C S I O) (v : World K C S I O)
    (h : History) (leg : Leg) : Type 0 where
  pub up : (end : Side) → legs.is_up leg end v.legs ≡ true
  pub untold : (end : Side) → was_told v h leg end ≡ false
  pub done : is_finished r leg U v ≡ true

-- then its handover mark or END came to the node that takes PDUs there, or that has no use for it
-- any more; an out proxy has none for any leg
pub record HavePassed {K : Type 0} (numbers : Numbers)
    (v : World K ClientRole Server InProxy OutProxy) (h : History) (d : Directions numbers v h)
    : Type 0 where
  pub outs : (n : ℕ) → 0 < n → IsOverUpwards rules v h (co n)
      → has_passed (client_order.came_log d.down.taker.passage.passage.came n) ≡ true
  pub out_servers : (n : ℕ) → IsOverUpwards rules v h (os n)
      → has_passed (out_order.came_log (d.down.proxies n).passage.came n) ≡ true
  pub out_done : (n : ℕ) → IsOverUpwards rules v h (os n)
      → is_in_use out_proxy.rules (out_node numbers h n).role (os n) ≡ false
  pub ins : (n : ℕ) → 0 < n → IsOverUpwards rules v h (ci n)
      → (let number = reader_of v.readers n in
      (has_passed (in_order.came_log (d.up.proxies number).passage.came n) ≡ true)
      ⊎ (is_in_use in_proxy.rules (in_node numbers h number).role (ci n) ≡ false))
  pub in_servers : (n : ℕ) → IsOverUpwards rules v h (is n)
      → has_passed (got d.up.taker.passage n) ≡ true

-- what is on its way in such a world
pub record PassesWhereOver {K : Type 0} (numbers : Numbers)
    (v : World K ClientRole Server InProxy OutProxy) (h : History) : Type 0 where
  pub ways : AreOnTheirWay numbers v h
  pub passed : HavePassed numbers v h ways.directions
