-- windows hold in each world that changes lead to from that of a recording
use Rattle.std.proofs.Common.{List}
use Rattle.rh_record.specs.declared.line.Line.{Line}
use Rattle.law_node_history.specs.Changes.{Leads}
use Rattle.law_node_history.proofs.Leading.{leads_then}
use Rattle.rh_world.specs.declared.any_world.AnyWorld.{AnyWorld}
use Rattle.rh_world.specs.declared.any_world.AnyWorld.TheVariants.{Before, Direct, Settings, Roles}
use Rattle.rh_world.specs.declared.config.WorldConfig.{WorldConfig}
use Rattle.rh_world.specs.Any.{after}
use Rattle.rh_world.specs.Config.{AreInRange}
use Rattle.rh_world.specs.Roles as roles
use Rattle.law_world_reports.specs.Bounded.{HoldWindows}
use Rattle.law_world_reports.specs.Throughout.{WindowsHoldOnwards}
use Rattle.law_world_reports.proofs.Bounded.Reached.{IsRecorded, behind_lines}

module _ (law : (config : WorldConfig) (world : roles.World) → AreInRange config
    → Leads roles.rules roles.makers roles.deeds (roles.begun config) world
    → HoldWindows world) where
  recorded_holds : (world : AnyWorld) → IsRecorded world → WindowsHoldOnwards world
  recorded_holds Before h = tt
  recorded_holds (Direct world) h = tt
  recorded_holds (Settings config) h = λ v leads. law config v h leads
  recorded_holds (Roles world) h = λ v leads.
      law h.config v h.ranges (leads_then roles.rules roles.makers roles.deeds
      (roles.begun h.config) world v h.lines.leads leads)

  pub windows_hold_onwards : (before : List Line) → WindowsHoldOnwards (after Before before)
  windows_hold_onwards before =
      recorded_holds (after Before before) (behind_lines Before before tt)
