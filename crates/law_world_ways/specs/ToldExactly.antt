-- what the report of a recording tells that loses nothing (MS-RPCH 3.2; profile)
use Rattle.std.specs.Prelude.{◌≡◌, ◌++◌, List}
use Rattle.rh_text.specs.declared.ends.Side.TheVariants.{Client, Server}
use Rattle.law_order.specs.Paths.{path}
use Rattle.rh_record.specs.declared.answer.Answer.{Answer}
use Rattle.rh_record.specs.declared.line.Line.{Line}
use Rattle.rh_record.specs.Events.Events.{events, given, offered, taken}
use Rattle.rh_world.specs.declared.any_world.AnyWorld.{AnyWorld}
use Rattle.rh_world.specs.declared.any_world.AnyWorld.TheVariants.{Before, Direct, Settings, Roles}
use Rattle.rh_world.specs.Any.{after, answers}
use Rattle.rh_world.specs.Roles as roles
use Rattle.law_node_history.specs.Histories.{History}
use Rattle.law_node_traces.specs.Traced.Ours.{AreOurs}
use Rattle.law_world_reports.specs.ToldHistories.{HasTold, history_of}
use Rattle.law_world_order.specs.Directions.{down_route_of, up_route_of}
use Rattle.law_world_order.specs.Flows.{Numbers, numbers_of}
use Rattle.law_world_ways.specs.EndsInTime.InTime.{AllEndInTime}
use Rattle.law_world_ways.specs.ExactPaths.GoingOn.{AllGoOn}
use Rattle.law_world_ways.specs.OnPaths.Ways.{AreOnTheirWay, down_on, up_on}

-- in both directions what the answers tell as given is what they tell as taken and what is on its
-- way
pub record IsToldExactly (lines : List Line) (answered : List Answer) (numbers : Numbers)
    (world : roles.World) (h : History) (ways : AreOnTheirWay numbers world h) : Type 0 where
  pub down : given Server (offered lines) (events answered)
      ≡ taken Client (events answered)
      ++ path (down_route_of ways.directions) (down_on numbers world h)
  pub up : given Client (offered lines) (events answered)
      ≡ taken Server (events answered)
      ++ path (up_route_of ways.directions) (up_on numbers world h)

-- so it is while all nodes go on, in a history of lines whose gives and takes the answers tell, and
-- which ends a leg only where that is over
pub record TellsAll (lines : List Line) (answered : List Answer) (world : roles.World)
    : Type 0 where
  pub told : HasTold lines answered world
  pub in_time : AllEndInTime roles.rules roles.makers roles.deeds (roles.begun told.config)
      told.by.leads.changes
  pub ours : AreOurs roles.makers (roles.begun told.config).company told.config
  pub ways : AreOnTheirWay (numbers_of ours) world (history_of told.config world told.by)
  pub exact : AllGoOn (numbers_of ours) (history_of told.config world told.by)
      → IsToldExactly lines answered (numbers_of ours) world
      (history_of told.config world told.by) ways

-- only a world of roles has legs
abbrev pub TellsAllIn : List Line → List Answer → AnyWorld → Type 0
TellsAllIn lines answered Before = Unit {0}
TellsAllIn lines answered (Direct world) = Unit {0}
TellsAllIn lines answered (Settings config) = Unit {0}
TellsAllIn lines answered (Roles world) = TellsAll lines answered world

-- behind the lines, with what they are answered
abbrev pub TellsAllOf : List Line → Type 0
TellsAllOf lines = TellsAllIn lines (answers Before lines) (after Before lines)
