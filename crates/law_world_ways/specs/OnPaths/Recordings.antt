-- what is on its way at each moment of a recording (profile)
use Rattle.std.specs.Prelude.{◌≡◌}
use Rattle.law_node_history.specs.Histories.{History}
use Rattle.rh_world.specs.declared.any_world.AnyWorld.{AnyWorld}
use Rattle.rh_world.specs.declared.any_world.AnyWorld.TheVariants.{Before, Direct, Settings, Roles}
use Rattle.rh_world.specs.declared.config.WorldConfig.{WorldConfig}
use Rattle.rh_world.specs.Roles as roles
use Rattle.law_node_traces.specs.Traced.Cookies.{ByChanges}
use Rattle.law_node_traces.specs.Traced.Ours.{AreOurs}
use Rattle.law_node_traces.specs.Traced.Recordings.{history_at}
use Rattle.law_world_order.specs.Directions.{BothMark}
use Rattle.law_world_order.specs.Flows.{numbers_of}
use Rattle.law_world_ways.specs.OnPaths.Ways.{AreOnTheirWay}

-- changes, as lines and half steps make them, lead to a world of roles from the one that settings
-- begin
abbrev pub IsBehind : WorldConfig → roles.World → Type 0
IsBehind config world =
    ByChanges roles.rules roles.makers roles.deeds (roles.begun config) world

-- what happened at its nodes meanwhile
abbrev pub history_behind : (config : WorldConfig) (world : roles.World)
    → IsBehind config world → History
history_behind config world by = history_at roles.makers (roles.begun config) world by.leads

-- such changes lead to the world from its settings. Whichever they were, on each leg nothing stands
-- behind a handover mark, and what was given is what was taken and what is on its way
pub record RolesKeepWays (world : roles.World) : Type 0 where
  pub config : WorldConfig
  pub settings : world.cast ≡ config
  pub ours : AreOurs roles.makers (roles.begun config).company config
  pub by : IsBehind config world
  pub marks : (any : IsBehind config world)
      → BothMark (numbers_of ours) world (history_behind config world any)
  pub ways : (any : IsBehind config world)
      → AreOnTheirWay (numbers_of ours) world (history_behind config world any)

-- only a world of roles has legs on which nodes hand over
abbrev pub KeepsWays : AnyWorld → Type 0
KeepsWays Before = Unit {0}
KeepsWays (Direct world) = Unit {0}
KeepsWays (Settings config) = Unit {0}
KeepsWays (Roles world) = RolesKeepWays world
