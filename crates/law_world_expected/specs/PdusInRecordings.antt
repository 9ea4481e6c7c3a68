-- the RPC PDUs that in proxies put in a recording (MS-RPCH 3.2.1, 3.2.3; successors are this
-- profile's)
use Rattle.std.specs.Prelude.{◌≡◌}
use Rattle.rh_world.specs.declared.any_world.AnyWorld.{AnyWorld}
use Rattle.rh_world.specs.declared.any_world.AnyWorld.TheVariants.{Before, Direct, Settings, Roles}
use Rattle.rh_world.specs.declared.config.WorldConfig.{WorldConfig}
use Rattle.rh_world.specs.Roles as roles
use Rattle.law_node_traces.specs.Traced.Cookies.{ByChanges}
use Rattle.law_node_traces.specs.Traced.Ours.{AreOurs}
use Rattle.law_world_expected.specs.PdusInWorlds.{PassInTurn}

-- changes, as lines and half steps make them, lead to a world of roles from the one that settings
-- begin
abbrev pub IsBehind : WorldConfig → roles.World → Type 0
IsBehind config world =
    ByChanges roles.rules roles.makers roles.deeds (roles.begun config) world

-- such changes lead to the world from its settings. Whichever they were, no RPC PDU of a successor
-- passed its in proxy early, and none came so at the server
pub record RolesPassInTurn (world : roles.World) : Type 0 where
  pub config : WorldConfig
  pub settings : world.cast ≡ config
  pub ours : AreOurs roles.makers (roles.begun config).company config
  pub by : IsBehind config world
  pub turns : (any : IsBehind config world)
      → PassInTurn roles.makers (roles.begun config) ours world any

-- only a world of roles has in proxies
abbrev pub PassesInTurn : AnyWorld → Type 0
PassesInTurn Before = Unit {0}
PassesInTurn (Direct world) = Unit {0}
PassesInTurn (Settings config) = Unit {0}
PassesInTurn (Roles world) = RolesPassInTurn world
