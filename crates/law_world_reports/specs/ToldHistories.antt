-- the history of a recording that its answers tell (profile)
use Rattle.std.specs.Prelude.{List}
use Rattle.rh_record.specs.declared.answer.Answer.{Answer}
use Rattle.rh_record.specs.declared.line.Line.{Line}
use Rattle.rh_record.specs.Events.Events.{events, offered}
use Rattle.law_node_history.specs.Changes.{ByLines}
use Rattle.law_node_history.specs.Histories.{History, all_noted, nothing}
use Rattle.rh_world.specs.declared.any_world.AnyWorld.{AnyWorld}
use Rattle.rh_world.specs.declared.any_world.AnyWorld.TheVariants.{Before, Direct, Settings, Roles}
use Rattle.rh_world.specs.declared.config.WorldConfig.{WorldConfig}
use Rattle.rh_world.specs.Any.{after, answers}
use Rattle.rh_world.specs.Config.{AreInRange}
use Rattle.rh_world.specs.Roles as roles
use Rattle.law_world_reports.specs.Telling.{Agrees}

-- changes, as lines make them, from the world of roles that settings begin
abbrev pub IsLedTo : WorldConfig → roles.World → Type 0
IsLedTo config world =
    ByLines roles.rules roles.makers roles.deeds (roles.begun config) world

-- what happened at its nodes meanwhile
abbrev pub history_of : (config : WorldConfig) (world : roles.World) → IsLedTo config world
    → History
history_of config world by =
    all_noted roles.rules roles.makers roles.deeds (roles.begun config) nothing by.leads.changes

-- lines led to the world so that each end gave and took just what these answers to them tell
pub record HasTold (lines : List Line) (answered : List Answer) (world : roles.World)
    : Type 0 where
  pub config : WorldConfig
  pub ranges : AreInRange config
  pub by : IsLedTo config world
  pub agrees : Agrees roles.rules roles.deeds (roles.begun config).company
      (history_of config world by) (offered lines) (events answered)

-- only a world of roles has nodes
abbrev pub HasToldIn : List Line → List Answer → AnyWorld → Type 0
HasToldIn lines answered Before = Unit {0}
HasToldIn lines answered (Direct world) = Unit {0}
HasToldIn lines answered (Settings config) = Unit {0}
HasToldIn lines answered (Roles world) = HasTold lines answered world

-- behind the lines, with what they are answered
abbrev pub TellsHistory : List Line → Type 0
TellsHistory lines = HasToldIn lines (answers Before lines) (after Before lines)
