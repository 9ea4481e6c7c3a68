-- what waits where a settling was quiet, as the report tells it (MS-RPCH 3.2; profile)
use Rattle.std.specs.Prelude.{◌≡◌, ◌++◌, ℕ, List, [], ◌∷◌, true}
use Rattle.rh_text.specs.declared.ends.Side.TheVariants.{Client, Server}
use Rattle.rh_line.specs.declared.leg.Leg.{Leg}
use Rattle.rh_record.specs.declared.answer.Answer.{Answer}
use Rattle.rh_record.specs.declared.answer.Answer.TheVariants.{Quiet}
use Rattle.rh_record.specs.declared.line.Line.{Line}
use Rattle.rh_record.specs.declared.line.Line.TheVariants.{First, Settle}
use Rattle.rh_record.specs.Events.Events.{events, given, offered, taken}
use Rattle.rh_nodes.specs.Breaking.{is_up}
use Rattle.law_node_history.specs.Closes.{IsOneOf}
use Rattle.rh_world.specs.declared.any_world.AnyWorld.{AnyWorld}
use Rattle.rh_world.specs.declared.any_world.AnyWorld.TheVariants.{Before, Direct, Settings, Roles}
use Rattle.rh_world.specs.Any.{after, answers, step}
use Rattle.rh_world.specs.Roles as roles
use Rattle.law_node_traces.specs.Traced.Ours.{AreOurs}
use Rattle.law_world_reports.specs.ToldHistories.{HasTold, history_of}
use Rattle.law_world_order.specs.Directions.{down_route_of, up_route_of}
use Rattle.law_world_order.specs.Flows.{numbers_of}
use Rattle.law_world_ways.specs.EndsInTime.Losses.{AllLoseInTime}
use Rattle.law_world_ways.specs.ExactPaths.GoingOn.{AllGoOn}
use Rattle.law_world_ways.specs.OnPaths.Ways.{AreOnTheirWay}
use Rattle.law_world_waits.specs.HeldUpWorlds.{AreHeldUp}
use Rattle.law_world_waits.specs.Puts.{PutNothing}
use Rattle.law_world_waits.specs.Waits.{WaitsAtNodes}

-- in a history of lines whose gives and takes the answers tell: while all nodes go on, what they
-- tell as given and not as taken waits at nodes, in both directions. On a leg that is up no node
-- that goes on has anything to put; so what it holds is held up
pub record TellsWaits (lines : List Line) (answered : List Answer) (world : roles.World)
    : Type 0 where
  pub told : HasTold lines answered world
  pub ours : AreOurs roles.makers (roles.begun told.config).company told.config
  pub ways : AreOnTheirWay (numbers_of ours) world (history_of told.config world told.by)
  pub down : AllGoOn (numbers_of ours) (history_of told.config world told.by)
      → WaitsAtNodes (down_route_of ways.directions)
      (given Server (offered lines) (events answered))
      (taken Client (events answered))
  pub up : AllGoOn (numbers_of ours) (history_of told.config world told.by)
      → WaitsAtNodes (up_route_of ways.directions) (given Client (offered lines) (events answered))
      (taken Server (events answered))
  pub puts : (leg : Leg) → is_up world leg ≡ true → PutNothing roles.rules world leg
  pub held_up : AreHeldUp world

-- only a world of roles has legs
abbrev pub TellsWaitsIn : List Line → List Answer → AnyWorld → Type 0
TellsWaitsIn lines answered Before = Unit {0}
TellsWaitsIn lines answered (Direct world) = Unit {0}
TellsWaitsIn lines answered (Settings config) = Unit {0}
TellsWaitsIn lines answered (Roles world) = TellsWaits lines answered world

-- behind the lines, with what they are answered
abbrev pub TellsWaitsOf : List Line → Type 0
TellsWaitsOf lines = TellsWaitsIn lines (answers Before lines) (after Before lines)

-- behind a `settle` line that answers quiet, where legs were lost only that were over
abbrev pub WaitsWhereQuiet : List Line → ℕ → Type 0
WaitsWhereQuiet before rounds =
    AllLoseInTime Before (First true ∷ (before ++ Settle rounds ∷ []))
    → (count : ℕ)
    → IsOneOf (Quiet count) (step (after Before (First true ∷ before)) (Settle rounds)).1
    → TellsWaitsOf (First true ∷ (before ++ Settle rounds ∷ []))
