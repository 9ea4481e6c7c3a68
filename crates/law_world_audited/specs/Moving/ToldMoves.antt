-- the bytes that a recording of roles tells moved are those that its nodes were fed (profile)
use Rattle.std.specs.Prelude.{◌≡◌, List}
use Rattle.rh_text.specs.declared.ends.Dir.{Dir}
use Rattle.rh_line.specs.declared.leg.Leg.{Leg}
use Rattle.rh_record.specs.declared.answer.Answer.{Answer}
use Rattle.rh_record.specs.declared.line.Line.{Line}
use Rattle.rh_wires.specs.Wires.{receiver}
use Rattle.rh_world.specs.declared.any_world.AnyWorld.{AnyWorld}
use Rattle.rh_world.specs.declared.any_world.AnyWorld.TheVariants.{Before, Direct, Settings, Roles}
use Rattle.rh_world.specs.declared.config.WorldConfig.{WorldConfig}
use Rattle.rh_world.specs.Any.{after, answers}
use Rattle.rh_world.specs.Config.{AreInRange}
use Rattle.rh_world.specs.Roles as roles
use Rattle.law_node_history.specs.Carried.{end_node}
use Rattle.law_node_history.specs.Drawn.{AreDrawnFor, all_risen}
use Rattle.law_world_reports.specs.ToldHistories.{IsLedTo, history_of}
use Rattle.law_world_audited.specs.Moving.Moved.{moved_on}

-- lines led to the world so that what these answers to them tell moved on a leg is what the node
-- that reads there was fed
pub record TellsMoves (answered : List Answer) (world : roles.World) : Type 0 where
  pub config : WorldConfig
  pub ranges : AreInRange config
  pub by : IsLedTo config world
  -- each leg of the client came up with a cookie that was drawn for it
  pub drawn : AreDrawnFor (all_risen by.leads.changes) (roles.begun config).cookies
      world.cookies
  pub moved : (leg : Leg) (dir : Dir)
      → moved_on leg dir answered
      ≡ (history_of config world by).fed (end_node world.readers leg (receiver dir)) leg

-- only a world of roles has nodes
abbrev pub TellsMovesIn : List Answer → AnyWorld → Type 0
TellsMovesIn answered Before = Unit {0}
TellsMovesIn answered (Direct world) = Unit {0}
TellsMovesIn answered (Settings config) = Unit {0}
TellsMovesIn answered (Roles world) = TellsMoves answered world

-- behind the lines, with what they are answered
abbrev pub TellsMovesOf : List Line → Type 0
TellsMovesOf lines = TellsMovesIn (answers Before lines) (after Before lines)
