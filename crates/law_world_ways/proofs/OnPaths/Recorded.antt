-- what is on its way in each world that a recording comes to
use Rattle.law_order.proofs.Vocabulary.{◌≡◌, List}
use Rattle.law_node_history.proofs.Vocabulary.{Line, Leads}
use Rattle.rh_world.specs.Roles as roles
use Rattle.law_node_traces.proofs.Traced.ByChanges.{lines_by_changes}
use Rattle.law_world_reports.proofs.Vocabulary.{AnyWorld, Before, Direct, Settings, Roles, WorldConfig, after, AreInRange}
use Rattle.law_world_reports.proofs.Bounded.Reached.{IsReached, IsRecorded, behind_lines}
use Rattle.law_world_order.proofs.Recorded.{ours}
use Rattle.law_world_order.proofs.Vocabulary.{BothMark, numbers_of}
use Rattle.law_world_ways.specs.OnPaths.Recordings.{IsBehind, KeepsWays, RolesKeepWays, history_behind}
use Rattle.law_world_ways.specs.OnPaths.Ways.{AreOnTheirWay}

-- what holds of each world of roles that changes of lines lead to
pub record WayLaws : Type 0 where
  pub settings : (config : WorldConfig) (world : roles.World)
      → Leads roles.rules roles.makers roles.deeds (roles.begun config) world
      → world.cast ≡ config
  pub marks : (config : WorldConfig) → AreInRange config → (world : roles.World)
      (by : IsBehind config world)
      → BothMark (numbers_of (ours config)) world (history_behind config world by)
  pub ways : (config : WorldConfig) → AreInRange config → (world : roles.World)
      (by : IsBehind config world)
      → AreOnTheirWay (numbers_of (ours config)) world (history_behind config world by)

module _ (law : WayLaws) where
  reached_keeps : (world : roles.World) → IsReached world → RolesKeepWays world
  reached_keeps world reached = record {
    config = reached.config;
    settings = law.settings reached.config world reached.lines.leads;
    ours = ours reached.config;
    by =
        lines_by_changes roles.rules roles.makers roles.deeds (roles.begun reached.config) world
        reached.lines;
    marks = law.marks reached.config reached.ranges world;
    ways = law.ways reached.config reached.ranges world;
  }

  recorded_keeps : (world : AnyWorld) → IsRecorded world → KeepsWays world
  recorded_keeps Before h = tt
  recorded_keeps (Direct world) h = tt
  recorded_keeps (Settings config) h = tt
  recorded_keeps (Roles world) h = reached_keeps world h

  pub lines_keep : (before : List Line) → KeepsWays (after Before before)
  lines_keep before =
      recorded_keeps (after Before before) (behind_lines Before before tt)
