-- what was given is exactly what was taken and what is on its way (profile)
use Rattle.std.specs.Prelude.{◌≡◌, ◌++◌}
use Rattle.law_order.specs.Paths.{path}
use Rattle.rh_inproxy.specs.State.{InProxy}
use Rattle.rh_outproxy.specs.OutProxy.{OutProxy}
use Rattle.rh_client.specs.declared.state.ClientRole.{ClientRole}
use Rattle.rh_client.specs.Client as client
use Rattle.rh_server.specs.Servers as server
use Rattle.rh_server.specs.States.{Server}
use Rattle.rh_nodes.specs.World.{World}
use Rattle.law_node_history.specs.Histories.{History, all_noted, nothing}
use Rattle.rh_world.specs.declared.any_world.AnyWorld.{AnyWorld}
use Rattle.rh_world.specs.declared.any_world.AnyWorld.TheVariants.{Before, Direct, Settings, Roles}
use Rattle.rh_world.specs.declared.config.WorldConfig.{WorldConfig}
use Rattle.rh_world.specs.Roles as roles
use Rattle.law_node_streams.specs.Streams.{all_given, all_taken}
use Rattle.law_node_traces.specs.Traced.Ours.{AreOurs}
use Rattle.law_world_order.specs.Directions.{down_route_of, up_route_of}
use Rattle.law_world_order.specs.Flows.{Numbers, numbers_of}
use Rattle.law_world_ways.specs.EndsInTime.InTime.{EndsInTime}
use Rattle.law_world_ways.specs.OnPaths.Ways.{AreOnTheirWay, down_on, up_on}
use Rattle.law_world_ways.specs.ExactPaths.GoingOn.{AllGoOn}

-- what happened at the nodes meanwhile
abbrev pub history_until : (config : WorldConfig) (world : roles.World)
    → EndsInTime roles.rules roles.makers roles.deeds (roles.begun config) world → History
history_until config world ends =
    all_noted roles.rules roles.makers roles.deeds (roles.begun config) nothing
    ends.lines.leads.changes

-- in both directions
pub record IsExact {K : Type 0} (numbers : Numbers)
    (v : World K ClientRole Server InProxy OutProxy) (h : History)
    (ways : AreOnTheirWay numbers v h) : Type 0 where
  pub down : all_given server.rules server.acts (server.new_server numbers.window) h.server
      ≡ all_taken client.rules client.acts (client.first_client numbers.client) h.client
      ++ path (down_route_of ways.directions) (down_on numbers v h)
  pub up : all_given client.rules client.acts (client.first_client numbers.client) h.client
      ≡ all_taken server.rules server.acts (server.new_server numbers.window) h.server
      ++ path (up_route_of ways.directions) (up_on numbers v h)

-- changes that end a leg only where it is over lead to a world of roles from its settings. What
-- was given is what was taken and what is on its way; exactly, while all nodes go on
pub record RolesKeepAll (world : roles.World) : Type 0 where
  pub config : WorldConfig
  pub settings : world.cast ≡ config
  pub ours : AreOurs roles.makers (roles.begun config).company config
  pub ends : EndsInTime roles.rules roles.makers roles.deeds (roles.begun config) world
  pub ways : AreOnTheirWay (numbers_of ours) world (history_until config world ends)
  pub exact : AllGoOn (numbers_of ours) (history_until config world ends)
      → IsExact (numbers_of ours) world (history_until config world ends) ways

-- only a world of roles has ways
abbrev pub KeepsAll : AnyWorld → Type 0
KeepsAll Before = Unit {0}
KeepsAll (Direct world) = Unit {0}
KeepsAll (Settings config) = Unit {0}
KeepsAll (Roles world) = RolesKeepAll world
