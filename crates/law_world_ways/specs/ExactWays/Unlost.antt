-- a world of roles in which no leg was lost (profile)
use Rattle.std.specs.Prelude.{◌≡◌, ℕ, true, false}
use Rattle.rh_text.specs.declared.ends.Side.{Side}
use Rattle.rh_line.specs.declared.leg.Leg.{Leg}
use Rattle.rh_record.specs.declared.answer.Who.{Who}
use Rattle.rh_shell.specs.declared.course.Course.TheVariants.{Going}
use Rattle.rh_inproxy.specs.State.{InProxy}
use Rattle.rh_outproxy.specs.OutProxy.{OutProxy}
use Rattle.rh_client.specs.declared.state.ClientRole.{ClientRole}
use Rattle.rh_server.specs.States.{Server}
use Rattle.rh_wires.specs.Wires.{is_up}
use Rattle.rh_nodes.specs.World.{World}
use Rattle.law_node_history.specs.Carried.{events_of, wire_at}
use Rattle.law_node_history.specs.Histories.{History}
use Rattle.law_world_order.specs.Flows.{Numbers}
use Rattle.law_world_ways.specs.OnPaths.Legs.{was_up}
use Rattle.law_world_ways.specs.OnPaths.Lost.{was_lost}
use Rattle.law_world_ways.specs.OnPaths.Ways.{client_node, in_node, out_node, server_node}

-- all nodes go on, none was told that a leg ended or broke, and each leg that came up for a node is
-- up for it
pub record NoneIsLost {K : Type 0} (numbers : Numbers)
    (v : World K ClientRole Server InProxy OutProxy) (h : History) : Type 0 where
  pub client : (client_node numbers h).course ≡ Going
  pub server : (server_node numbers h).course ≡ Going
  pub ins : (n : ℕ) → (in_node numbers h n).course ≡ Going
  pub outs : (n : ℕ) → (out_node numbers h n).course ≡ Going
  pub told : (node : Who) (leg : Leg) → was_lost leg (events_of h node) ≡ false
  pub up : (leg : Leg) (end : Side) → was_up v h leg end ≡ true
      → is_up end (wire_at v.legs leg) ≡ true
