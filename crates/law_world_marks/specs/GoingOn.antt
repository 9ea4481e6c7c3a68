-- nodes that go on though a leg ends that the end nearer the client has finished (profile)
use Rattle.std.specs.Prelude.{◌≡◌, ◌<◌, ℕ, true}
use Rattle.rh_line.specs.declared.leg.Leg.{Leg}
use Rattle.rh_shell.specs.declared.course.Course.TheVariants.{Going}
use Rattle.rh_shell.specs.Shells.{ended}
use Rattle.rh_inproxy.specs.Machine as in_proxy
use Rattle.rh_inproxy.specs.State.{InProxy}
use Rattle.rh_outproxy.specs.Machine as out_proxy
use Rattle.rh_outproxy.specs.OutProxy.{OutProxy}
use Rattle.rh_client.specs.declared.state.ClientRole.{ClientRole}
use Rattle.rh_server.specs.Servers as server
use Rattle.rh_server.specs.States.{Server, is_put}
use Rattle.rh_wires.specs.Readers.{reader_of}
use Rattle.rh_nodes.specs.World.{World}
use Rattle.law_node_history.specs.Histories.{History}
use Rattle.law_node_begins.specs.ProxiesBegin.Pipes.{ci, co, is, os}
use Rattle.law_node_traces.specs.Traced.Ours.{rules}
use Rattle.law_node_marks.specs.Losing.{DrewAll}
use Rattle.law_world_order.specs.Flows.{Numbers}
use Rattle.law_world_ways.specs.OnPaths.Ways.{in_node, out_node, server_node}
use Rattle.law_world_ways.specs.ExactPaths.Over.{IsOverUpwards}

pub record GoOnWhereOver {K : Type 0} (numbers : Numbers)
    (v : World K ClientRole Server InProxy OutProxy) (h : History) : Type 0 where
  -- the out proxy of an OUT channel, whichever of its legs ends then
  pub outs : (n : ℕ) → 0 < n → IsOverUpwards rules v h (co n) → (leg : Leg)
      → (ended out_proxy.rules (out_node numbers h n) leg).0.course ≡ Going
  -- the in proxy that reads an IN channel
  pub ins : (n : ℕ) → 0 < n → IsOverUpwards rules v h (ci n)
      → (ended in_proxy.rules (in_node numbers h (reader_of v.readers n)) (ci n)).0.course
      ≡ Going
  -- the server, where an os leg ends
  pub out_servers : (n : ℕ) → 0 < n → IsOverUpwards rules v h (os n)
      → (ended server.rules (server_node numbers h) (os n)).0.course ≡ Going
  -- and where an is leg does, once it put END/B1, and drew all of a leg that it is done with
  pub in_servers : (n : ℕ) → IsOverUpwards rules v h (is n)
      → (let node = server_node numbers h in is_put node.role.end_mark ≡ true
      → (server.rules.is_done node.role (is n) ≡ true → DrewAll node (is n))
      → (ended server.rules node (is n)).0.course ≡ Going)
