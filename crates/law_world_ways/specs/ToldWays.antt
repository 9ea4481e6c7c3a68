-- what a report tells of what is on its way (MS-RPCH 3.2; profile)
use Rattle.std.specs.Prelude.{◌≡◌, ◌++◌, ℕ, List}
use mathlib.Core.List.{IsPrefix}
use Rattle.rh_text.specs.declared.ends.Side.TheVariants.{Client, Server}
use Rattle.law_order.specs.Paths.{Losses, OnLegs, path, reach}
use Rattle.law_order.specs.Routes.{Route}
use Rattle.rh_record.specs.declared.answer.Answer.{Answer}
use Rattle.rh_record.specs.declared.line.Line.{Line}
use Rattle.rh_record.specs.Events.Events.{events, given, offered, taken}
use Rattle.rh_world.specs.declared.any_world.AnyWorld.{AnyWorld}
use Rattle.rh_world.specs.declared.any_world.AnyWorld.TheVariants.{Before, Direct, Settings, Roles}
use Rattle.rh_world.specs.Any.{after, answers}
use Rattle.rh_world.specs.Roles as roles
use Rattle.law_node_traces.specs.Traced.Ours.{AreOurs}
use Rattle.law_world_reports.specs.ToldHistories.{HasTold, history_of}
use Rattle.law_world_order.specs.Directions.{down_route_of, up_route_of}
use Rattle.law_world_order.specs.Flows.{numbers_of}
use Rattle.law_world_ways.specs.OnPaths.Laws.{NoneStops}
use Rattle.law_world_ways.specs.OnPaths.Ways.{AreOnTheirWay, down_lost, down_on, up_lost, up_on}

-- what one end gave is what the other took and what is on its way, as long as no leg stops the way;
-- and it begins with what was taken and what can still be taken, whatever was lost
pub record IsTold (r : Route) (on : OnLegs) (lost : Losses) (gave took : List (List ℕ))
    : Type 0 where
  pub all : NoneStops r lost → gave ≡ took ++ path r on
  pub front : IsPrefix (took ++ reach r on lost) gave

-- in a history of lines whose gives and takes are those that the answers tell, what is on its way
-- lies between these
pub record TellsBoth (lines : List Line) (answered : List Answer) (world : roles.World)
    : Type 0 where
  pub told : HasTold lines answered world
  pub ours : AreOurs roles.makers (roles.begun told.config).company told.config
  pub ways : AreOnTheirWay (numbers_of ours) world (history_of told.config world told.by)
  pub down : IsTold (down_route_of ways.directions)
      (down_on (numbers_of ours) world (history_of told.config world told.by))
      (down_lost (numbers_of ours) world (history_of told.config world told.by))
      (given Server (offered lines) (events answered)) (taken Client (events answered))
  pub up : IsTold (up_route_of ways.directions)
      (up_on (numbers_of ours) world (history_of told.config world told.by))
      (up_lost (numbers_of ours) world (history_of told.config world told.by))
      (given Client (offered lines) (events answered)) (taken Server (events answered))

-- only a world of roles has legs
abbrev pub TellsIn : List Line → List Answer → AnyWorld → Type 0
TellsIn lines answered Before = Unit {0}
TellsIn lines answered (Direct world) = Unit {0}
TellsIn lines answered (Settings config) = Unit {0}
TellsIn lines answered (Roles world) = TellsBoth lines answered world

-- behind the lines, with what they are answered
abbrev pub TellsWays : List Line → Type 0
TellsWays lines = TellsIn lines (answers Before lines) (after Before lines)
