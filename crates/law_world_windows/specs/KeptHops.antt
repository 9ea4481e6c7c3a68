-- what holds of the hops that lie on one leg at each moment (MS-RPCH 3.2)
use Rattle.std.specs.Prelude.{◌≡◌, ℕ, ◌≤◌}
use Rattle.std.specs.List.{AllByRecursion}
use Rattle.rh_line.specs.declared.leg.Leg.{Leg}
use Rattle.rh_inproxy.specs.State.{InProxy}
use Rattle.rh_outproxy.specs.OutProxy.{OutProxy}
use Rattle.rh_client.specs.declared.state.ClientRole.{ClientRole}
use Rattle.rh_server.specs.States.{Server}
use Rattle.rh_nodes.specs.Opening.{Makers}
use Rattle.rh_nodes.specs.World.{World}
use Rattle.law_moves.specs.Moves.{Passage}
use Rattle.law_moves.specs.Wires.{of_leg}
use Rattle.law_node_history.specs.Carried.{happened}
use Rattle.rh_world.specs.declared.any_world.AnyWorld.{AnyWorld}
use Rattle.rh_world.specs.declared.any_world.AnyWorld.TheVariants.{Before, Direct, Settings, Roles}
use Rattle.rh_world.specs.declared.config.WorldConfig.{WorldConfig}
use Rattle.rh_world.specs.Roles as roles
use Rattle.law_node_traces.specs.Traced.Cookies.{ByChanges}
use Rattle.law_node_traces.specs.Traced.Ours.{AreOurs, deeds, rules}
use Rattle.law_node_traces.specs.Traced.Recordings.{history_at}
use Rattle.law_world_order.specs.Flows.{IsFlowing, numbers_of}
use Rattle.law_world_order.specs.Premises.{AreDistinct}
use Rattle.law_world_windows.specs.KeptAfar.{ClientHopsAreKept}
use Rattle.law_world_windows.specs.Holding.{held_by_out_proxy, held_by_server}
use Rattle.law_world_windows.specs.Hops.{HasRoomOn, IsTrueAck, greatest_edge, is_leg, os_leg, pdu_bytes}

-- what came is at most what was sent, that is at most the edge that the sender knows, that at most
-- what the receiver told, and that at most what it passed on and its window of this size; and each
-- acknowledgement that it put, so each on its way, is of what came
pub record IsKept {S T : Type 0} (leg : Leg) (size : ℕ) (held : T → ℕ) (sender : Passage S)
    (receiver : Passage T) : Type 0 where
  pub received : pdu_bytes (of_leg leg receiver.came) ≤ pdu_bytes (of_leg leg sender.put)
  pub sent : pdu_bytes (of_leg leg sender.put) ≤ greatest_edge (of_leg leg sender.came)
  pub edge : greatest_edge (of_leg leg sender.came) ≤ greatest_edge (of_leg leg receiver.put)
  pub room : HasRoomOn size held leg receiver
  pub acks : AllByRecursion (IsTrueAck (pdu_bytes (of_leg leg receiver.came)))
      (of_leg leg receiver.put)

-- of each in proxy to the server, and of the server to each out proxy
pub record HopsAreKept {K : Type 0} (m : Makers K InProxy OutProxy)
    (w : World K ClientRole Server InProxy OutProxy) (ours : AreOurs m w.company w.cast)
    (v : World K ClientRole Server InProxy OutProxy) (by : ByChanges rules m deeds w v) : Type 0
  where
    pub flowing : IsFlowing (numbers_of ours) w v (history_at m w v by.leads)
    pub up : (n : ℕ) → IsKept (is_leg n) ours.window (held_by_server n)
        (flowing.flows.ins n).passage flowing.flows.server.passage.passage
    pub down : (n : ℕ) → IsKept (os_leg n) (ours.out_config n).window held_by_out_proxy
        flowing.flows.server.passage.passage (flowing.flows.outs n).passage

-- ---- recordings

-- changes, as lines and half steps make them, lead to a world of roles from the one that settings
-- begin
abbrev pub IsBehind : WorldConfig → roles.World → Type 0
IsBehind config world =
    ByChanges roles.rules roles.makers roles.deeds (roles.begun config) world

-- the legs of the client of one kind came up under cookies that differ
abbrev pub IsApart : (config : WorldConfig) (world : roles.World) → IsBehind config world → Type 0
IsApart config world by =
    AreDistinct (happened (history_at roles.makers (roles.begun config) world by.leads).client)

-- such changes lead to the world from its settings. Whichever they were, these hops are kept; and
-- those of the client, where its legs came up apart, as they do
pub record RolesKeepHops (world : roles.World) : Type 0 where
  pub config : WorldConfig
  pub settings : world.cast ≡ config
  pub ours : AreOurs roles.makers (roles.begun config).company config
  pub by : IsBehind config world
  pub hops : (any : IsBehind config world)
      → HopsAreKept roles.makers (roles.begun config) ours world any
  pub apart : IsApart config world by
  pub client_hops : (any : IsBehind config world) → IsApart config world any
      → ClientHopsAreKept roles.makers (roles.begun config) ours world
      (history_at roles.makers (roles.begun config) world any.leads) (hops any).flowing

-- only a world of roles has hops
abbrev pub KeepsHops : AnyWorld → Type 0
KeepsHops Before = Unit {0}
KeepsHops (Direct world) = Unit {0}
KeepsHops (Settings config) = Unit {0}
KeepsHops (Roles world) = RolesKeepHops world
