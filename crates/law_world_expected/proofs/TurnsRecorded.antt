-- RPC PDUs pass in turn in each world that a recording comes to
use Rattle.std.proofs.Common.{◌≡◌, List}
use Rattle.rh_record.specs.declared.line.Line.{Line}
use Rattle.law_node_history.specs.Changes.{Leads}
use Rattle.rh_world.specs.declared.any_world.AnyWorld.{AnyWorld}
use Rattle.rh_world.specs.declared.any_world.AnyWorld.TheVariants.{Before, Direct, Settings, Roles}
use Rattle.rh_world.specs.declared.config.WorldConfig.{WorldConfig}
use Rattle.rh_world.specs.Any.{after}
use Rattle.rh_world.specs.Config.{AreInRange}
use Rattle.rh_world.specs.Roles as roles
use Rattle.law_node_traces.proofs.Traced.ByChanges.{lines_by_changes}
use Rattle.law_world_reports.proofs.Bounded.Reached.{IsReached, IsRecorded, behind_lines}
use Rattle.law_world_order.proofs.Recorded.{ours}
use Rattle.law_world_expected.specs.PdusInRecordings.{IsBehind, PassesInTurn, RolesPassInTurn}
use Rattle.law_world_expected.specs.PdusInWorlds.{PassInTurn}

-- what holds of each world of roles that changes of lines lead to
pub record TurnLaws : Type 0 where
  pub settings : (config : WorldConfig) (world : roles.World)
      → Leads roles.rules roles.makers roles.deeds (roles.begun config) world
      → world.cast ≡ config
  pub turns : (config : WorldConfig) → AreInRange config → (world : roles.World)
      (by : IsBehind config world)
      → PassInTurn roles.makers (roles.begun config) (ours config) world by

module _ (law : TurnLaws) where
  reached_passes : (world : roles.World) → IsReached world → RolesPassInTurn world
  reached_passes world reached = record {
    config = reached.config;
    settings = law.settings reached.config world reached.lines.leads;
    ours = ours reached.config;
    by =
        lines_by_changes roles.rules roles.makers roles.deeds (roles.begun reached.config) world
        reached.lines;
    turns = law.turns reached.config reached.ranges world;
  }

  recorded_passes : (world : AnyWorld) → IsRecorded world → PassesInTurn world
  recorded_passes Before h = tt
  recorded_passes (Direct world) h = tt
  recorded_passes (Settings config) h = tt
  recorded_passes (Roles world) h = reached_passes world h

  pub lines_pass : (before : List Line) → PassesInTurn (after Before before)
  lines_pass before =
      recorded_passes (after Before before) (behind_lines Before before tt)
