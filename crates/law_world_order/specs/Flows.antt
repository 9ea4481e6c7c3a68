-- what passed the nodes of a recording by its history (profile)
use Rattle.std.specs.Prelude.{◌≡◌, ℕ, Some, None}
use Rattle.std.specs.declared.option.Option.{Option}
use Rattle.rh_text.specs.declared.ends.Dir.{Dir}
use Rattle.rh_text.specs.declared.ends.Dir.TheVariants.{U, D}
use Rattle.rh_sig.specs.declared.name.Pipe.{Pipe}
use Rattle.rh_sig.specs.declared.name.Pipe.TheVariants.{CiU, IsU, IsD, CoU, CoD, OsU, OsD}
use Rattle.rh_http.specs.declared.config.ClientConfig.{ClientConfig}
use Rattle.rh_line.specs.declared.leg.LegKind.{LegKind}
use Rattle.rh_line.specs.declared.leg.LegKind.TheVariants.{ClientOut, OutServer, ClientIn, InServer}
use Rattle.rh_shell.specs.Shells.{begun}
use Rattle.rh_inproxy.specs.declared.state.InProxyConfig.{InProxyConfig}
use Rattle.rh_inproxy.specs.Machine as in_proxy
use Rattle.rh_inproxy.specs.State.{InProxy}
use Rattle.rh_inproxy.specs.State as in_state
use Rattle.rh_outproxy.specs.declared.out_proxy.TheConstants.{ROOMS}
use Rattle.rh_outproxy.specs.declared.state.OutProxyConfig.{OutProxyConfig}
use Rattle.rh_outproxy.specs.Machine as out_proxy
use Rattle.rh_outproxy.specs.OutProxy.{OutProxy, new_proxy}
use Rattle.rh_client.specs.declared.state.ClientRole.{ClientRole}
use Rattle.rh_client.specs.Client as client
use Rattle.rh_client.specs.State as client_state
use Rattle.rh_server.specs.Servers as server
use Rattle.rh_server.specs.States.{Server}
use Rattle.rh_company.specs.Company.{Company}
use Rattle.rh_nodes.specs.Settling.{leg_at}
use Rattle.rh_nodes.specs.Opening.{Makers}
use Rattle.rh_nodes.specs.World.{World}
use Rattle.law_moves.specs.Wires.{of_leg}
use Rattle.law_moves.specs.Legible.Legible.{AreFine, AreLegible}
use Rattle.law_moves.specs.ReadBack.Reading.{Begins}
use Rattle.law_role_inproxy.specs.Legible as in_legible
use Rattle.law_role_client.specs.Legible as client_legible
use Rattle.law_role_server.specs.Legible as server_legible
use Rattle.law_node_history.specs.Carried.{drawn_on}
use Rattle.law_node_history.specs.Histories.{History}
use Rattle.law_role_outproxy.specs.Legible as out_legible
use Rattle.law_node_streams.specs.Streams.{Stream, EndStream, IsDrawn}
use Rattle.law_node_begins.specs.ProxiesBegin.Pipes as pipes
use Rattle.law_node_traces.specs.Traced.Ours.{AreOurs}
use Rattle.law_peers_routes.specs.Downwards as down

-- the numbers with which the roles were made
pub record Numbers : Type 0 where
  pub client : ClientConfig
  pub window : ℕ
  pub ins : ℕ → InProxyConfig
  pub outs : ℕ → OutProxyConfig

-- those of a world of roles
abbrev pub numbers_of : {K : Type 0} {m : Makers K InProxy OutProxy}
    {first : Company ClientRole Server InProxy OutProxy} {cast : K} → AreOurs m first cast → Numbers
numbers_of ours = record {
  client = ours.config;
  window = ours.window;
  ins = ours.in_config;
  outs = ours.out_config;
}

-- the pipe that is read where a direction of a leg goes; to a client no packet comes on a ci leg
-- (MS-RPCH 2.2.4)
abbrev pub read_on : LegKind → Dir → Option Pipe
read_on ClientOut U = Some CoU
read_on ClientOut D = Some CoD
read_on OutServer U = Some OsU
read_on OutServer D = Some OsD
read_on ClientIn U = Some CiU
read_on ClientIn D = None
read_on InServer U = Some IsU
read_on InServer D = Some IsD

-- each node's stream
pub record Flows (numbers : Numbers) (h : History) : Type 0 where
  pub client : EndStream client.rules client.acts (client_state.first numbers.client) client.rooms
      down.client_reads h.client
  pub server : EndStream server.rules server.acts (server.first numbers.window) server.rooms
      down.server_reads h.server
  pub ins : (n : ℕ) → Stream in_proxy.rules (in_state.first (numbers.ins n)) in_proxy.rooms
      (pipes.in_pipe (numbers.ins n)) (h.ins n)
  pub outs : (n : ℕ) → Stream out_proxy.rules (new_proxy (numbers.outs n)) ROOMS
      (down.proxy_reads (numbers.outs n)) (h.outs n)

-- what was put on each leg begins as it is read at the other end, and spells what was drawn there
pub record AreBegun (numbers : Numbers) (h : History) (f : Flows numbers h) : Type 0 where
  pub client_in : (n : ℕ)
      → Begins (Some CiU) (of_leg (leg_at ClientIn n) f.client.passage.passage.put)
  pub client_out : (n : ℕ)
      → Begins (Some CoU) (of_leg (leg_at ClientOut n) f.client.passage.passage.put)
  pub server_in : (n : ℕ)
      → Begins (Some IsD) (of_leg (leg_at InServer n) f.server.passage.passage.put)
  pub server_out : (n : ℕ)
      → Begins (Some OsD) (of_leg (leg_at OutServer n) f.server.passage.passage.put)
  pub in_client : (m n : ℕ) → Begins None (of_leg (leg_at ClientIn n) (f.ins m).passage.put)
  pub in_server : (m : ℕ)
      → Begins (Some IsU) (of_leg (leg_at InServer m) (f.ins m).passage.put)
  pub out_client : (m : ℕ)
      → Begins (Some CoD) (of_leg (leg_at ClientOut m) (f.outs m).passage.put)
  pub out_server : (m : ℕ)
      → Begins (Some OsU) (of_leg (leg_at OutServer m) (f.outs m).passage.put)
  pub in_client_drew : (m n : ℕ) → IsDrawn (of_leg (leg_at ClientIn n) (f.ins m).passage.put)
      (drawn_on in_proxy.rules (in_proxy.first_node (numbers.ins m)) (leg_at ClientIn n) (h.ins m))
  pub in_server_drew : (m : ℕ) → IsDrawn (of_leg (leg_at InServer m) (f.ins m).passage.put)
      (drawn_on in_proxy.rules (in_proxy.first_node (numbers.ins m)) (leg_at InServer m) (h.ins m))
  pub out_client_drew : (m : ℕ) → IsDrawn (of_leg (leg_at ClientOut m) (f.outs m).passage.put)
      (drawn_on out_proxy.rules (begun (new_proxy (numbers.outs m)) ROOMS) (leg_at ClientOut m)
      (h.outs m))
  pub out_server_drew : (m : ℕ) → IsDrawn (of_leg (leg_at OutServer m) (f.outs m).passage.put)
      (drawn_on out_proxy.rules (begun (new_proxy (numbers.outs m)) ROOMS) (leg_at OutServer m)
      (h.outs m))

-- what came to each node has its sizes and ranges
pub record AllFine (numbers : Numbers) (h : History) (f : Flows numbers h) : Type 0 where
  pub client : AreFine f.client.passage.passage.came
  pub server : AreFine f.server.passage.passage.came
  pub ins : (n : ℕ) → AreFine (f.ins n).passage.came
  pub outs : (n : ℕ) → AreFine (f.outs n).passage.came

-- what was put on each leg may go on its pipe
pub record AllLegible (numbers : Numbers) (h : History) (f : Flows numbers h) : Type 0 where
  pub client : AreLegible client_legible.pipe_put f.client.passage.passage.put
  pub server : AreLegible server_legible.pipe_put f.server.passage.passage.put
  pub ins : (n : ℕ) → AreLegible in_legible.pipe_put (f.ins n).passage.put
  pub outs : (n : ℕ) → AreLegible out_legible.pipe_put (f.outs n).passage.put

-- each node of a world that came from another one has its stream, by which what was put on a leg
-- begins as it is read at the other end, and may go on its pipe
pub record IsFlowing {K : Type 0} (numbers : Numbers)
    (w v : World K ClientRole Server InProxy OutProxy) (h : History) : Type 0 where
  pub cast : v.cast ≡ w.cast
  pub flows : Flows numbers h
  pub begun : AreBegun numbers h flows
  pub legible : AllLegible numbers h flows
