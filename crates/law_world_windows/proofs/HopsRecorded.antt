-- the hops are kept in each world that a recording comes to
use Rattle.std.proofs.Common.{◌≡◌, List, [], sym}
use Rattle.law_order.proofs.Vocabulary.{append-nil}
use Rattle.rh_record.specs.declared.line.Line.{Line}
use Rattle.law_node_history.proofs.Lemmas.{own_cookies}
use Rattle.law_node_history.specs.Carried.{happened}
use Rattle.law_node_history.specs.Changes.{Leads}
use Rattle.law_node_history.specs.Drawn.{AreLeft, DrawnByLines}
use Rattle.rh_world.specs.declared.any_world.AnyWorld.{AnyWorld}
use Rattle.rh_world.specs.declared.any_world.AnyWorld.TheVariants.{Before, Direct, Settings, Roles}
use Rattle.rh_world.specs.declared.config.WorldConfig.{WorldConfig}
use Rattle.rh_world.specs.Any.{after}
use Rattle.rh_world.specs.Config.{AreInRange}
use Rattle.rh_world.specs.Roles as roles
use Rattle.law_node_traces.proofs.Traced.ByChanges.{lines_by_changes}
use Rattle.law_node_traces.specs.Traced.Recordings.{history_at}
use Rattle.law_world_reports.proofs.Bounded.Reached.{IsReached, IsRecorded, behind_lines, reached_draws}
use Rattle.law_world_order.proofs.Distinct.{own_distinct}
use Rattle.law_world_order.proofs.Recorded.{ours}
use Rattle.law_world_order.specs.Flows.{IsFlowing, numbers_of}
use Rattle.law_world_windows.specs.KeptAfar.{ClientHopsAreKept}
use Rattle.law_world_windows.specs.KeptHops.{HopsAreKept, IsApart, IsBehind, KeepsHops, RolesKeepHops}

-- what holds of each world of roles that changes of lines lead to
pub record RecordedLaws : Type 0 where
  pub settings : (config : WorldConfig) (world : roles.World)
      → Leads roles.rules roles.makers roles.deeds (roles.begun config) world
      → world.cast ≡ config
  pub hops : (config : WorldConfig) → AreInRange config → (world : roles.World)
      (by : IsBehind config world)
      → HopsAreKept roles.makers (roles.begun config) (ours config) world by
  pub left : (config : WorldConfig) (world : roles.World)
      → DrawnByLines roles.rules roles.makers roles.deeds (roles.begun config) world
      → AreLeft world.cookies
  pub client_hops : (config : WorldConfig) → AreInRange config → (world : roles.World)
      (by : IsBehind config world) → IsApart config world by
      → (flowing : IsFlowing (numbers_of (ours config)) (roles.begun config) world
      (history_at roles.makers (roles.begun config) world by.leads))
      → ClientHopsAreKept roles.makers (roles.begun config) (ours config) world
      (history_at roles.makers (roles.begun config) world by.leads) flowing

module _ (law : RecordedLaws) where
  reached_keeps : (world : roles.World) → IsReached world → RolesKeepHops world
  reached_keeps world reached = record {
    config = reached.config;
    settings = law.settings reached.config world reached.lines.leads;
    ours = ours reached.config;
    by = by;
    hops = law.hops reached.config reached.ranges world;
    apart = apart;
    client_hops = λ any distinct.
        law.client_hops reached.config reached.ranges world any distinct
        (law.hops reached.config reached.ranges world any).flowing;
  }
    where
      first : roles.World
      first = roles.begun reached.config

      by : IsBehind reached.config world
      by = lines_by_changes roles.rules roles.makers roles.deeds first world reached.lines

      apart : IsApart reached.config world by
      apart =
          own_distinct (happened (history_at roles.makers first world by.leads).client)
          (own_cookies roles.rules roles.makers roles.deeds first world
          (reached_draws world reached)
          (law.left reached.config world (reached_draws world reached))
          reached.lines.leads.changes [] (sym (append-nil reached.lines.leads.changes)))

  recorded_keeps : (world : AnyWorld) → IsRecorded world → KeepsHops world
  recorded_keeps Before h = tt
  recorded_keeps (Direct world) h = tt
  recorded_keeps (Settings config) h = tt
  recorded_keeps (Roles world) h = reached_keeps world h

  pub lines_keep : (before : List Line) → KeepsHops (after Before before)
  lines_keep before =
      recorded_keeps (after Before before) (behind_lines Before before tt)
