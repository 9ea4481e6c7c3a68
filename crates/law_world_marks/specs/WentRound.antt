-- a clean end that went round: the client's work is done last (profile)
use Rattle.std.specs.Prelude.{◌≡◌, ◌<◌, ℕ, true}
use Rattle.rh_line.specs.declared.leg.Leg.{Leg}
use Rattle.rh_shell.specs.Shells.{ended}
use Rattle.rh_outproxy.specs.Machine as out_proxy
use Rattle.rh_client.specs.Client as client
use Rattle.rh_server.specs.States.{is_put}
use Rattle.law_node_history.specs.Carried.{came_up, happened}
use Rattle.law_node_history.specs.Histories.{History}
use Rattle.law_node_begins.specs.ProxiesBegin.Pipes.{co}
use Rattle.law_world_order.specs.Flows.{Numbers}
use Rattle.law_world_ways.specs.OnPaths.Ways.{client_node, out_node, server_node}

pub record WentRound (numbers : Numbers) (h : History) : Type 0 where
  -- the server writes on the client's current channel, and put END/B1 there
  pub writing : (server_node numbers h).role.writing
      ≡ (client_node numbers h).role.current.number
  pub end_put : is_put (server_node numbers h).role.end_mark ≡ true
  -- no end of a leg closes the client
  pub client : (leg : Leg)
      → (let node = client_node numbers h in
      (ended client.rules node leg).0.course ≡ node.course)
  -- nor the out proxy of a channel that came up there
  pub outs : (n : ℕ) → 0 < n → came_up (co n) (happened h.client) ≡ true → (leg : Leg)
      → (let node = out_node numbers h n in
      (ended out_proxy.rules node leg).0.course ≡ node.course)
