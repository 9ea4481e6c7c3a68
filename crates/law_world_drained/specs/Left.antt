-- where nothing is left of what was given (profile)
use Rattle.std.specs.Prelude.{◌≡◌, ◌++◌, ℕ, List, [], ◌∷◌, true}
use Rattle.rh_text.specs.declared.ends.Side.TheVariants.{Client, Server}
use Rattle.rh_record.specs.declared.answer.Answer.{Answer}
use Rattle.rh_record.specs.declared.answer.Answer.TheVariants.{Quiet}
use Rattle.rh_record.specs.declared.line.Line.{Line}
use Rattle.rh_record.specs.declared.line.Line.TheVariants.{First, Settle}
use Rattle.rh_record.specs.Events.Events.{events, given, offered, taken}
use Rattle.law_node_history.specs.Closes.{IsOneOf}
use Rattle.rh_world.specs.declared.any_world.AnyWorld.{AnyWorld}
use Rattle.rh_world.specs.declared.any_world.AnyWorld.TheVariants.{Before, Direct, Settings, Roles}
use Rattle.rh_world.specs.Any.{after, answers, step}
use Rattle.rh_world.specs.Roles as roles
use Rattle.law_node_traces.specs.Traced.Ours.{AreOurs}
use Rattle.law_world_reports.specs.ToldHistories.{HasTold, history_of}
use Rattle.law_world_order.specs.Flows.{numbers_of}
use Rattle.law_world_ways.specs.EndsInTime.Losses.{AllLoseInTime}
use Rattle.law_world_ways.specs.ExactPaths.GoingOn.{AllGoOn}
use Rattle.law_world_free.specs.Free.{IsFree}
use Rattle.law_world_drained.specs.Drained.{IsKnownDown, IsKnownUp}

-- in a history of lines whose gives and takes the answers tell: while all nodes go on, no lifetime
-- stands in the way, and the hops of a direction are known, what the answers tell as given there is
-- exactly what they tell as taken
pub record LeavesNone (lines : List Line) (answered : List Answer) (world : roles.World)
    : Type 0 where
  pub told : HasTold lines answered world
  pub ours : AreOurs roles.makers (roles.begun told.config).company told.config
  pub down : AllGoOn (numbers_of ours) (history_of told.config world told.by) → IsFree world
      → IsKnownDown world
      → given Server (offered lines) (events answered) ≡ taken Client (events answered)
  pub up : AllGoOn (numbers_of ours) (history_of told.config world told.by) → IsFree world
      → IsKnownUp world
      → given Client (offered lines) (events answered) ≡ taken Server (events answered)

-- only a world of roles has nodes
abbrev pub LeavesNoneIn : List Line → List Answer → AnyWorld → Type 0
LeavesNoneIn lines answered Before = Unit {0}
LeavesNoneIn lines answered (Direct world) = Unit {0}
LeavesNoneIn lines answered (Settings config) = Unit {0}
LeavesNoneIn lines answered (Roles world) = LeavesNone lines answered world

-- behind the lines, with what they are answered
abbrev pub LeavesNoneOf : List Line → Type 0
LeavesNoneOf lines = LeavesNoneIn lines (answers Before lines) (after Before lines)

-- behind a `settle` line that answers quiet, where legs were lost only that were over
abbrev pub LeavesNoneWhereQuiet : List Line → ℕ → Type 0
LeavesNoneWhereQuiet before rounds =
    AllLoseInTime Before (First true ∷ (before ++ Settle rounds ∷ []))
    → (count : ℕ)
    → IsOneOf (Quiet count) (step (after Before (First true ∷ before)) (Settle rounds)).1
    → LeavesNoneOf (First true ∷ (before ++ Settle rounds ∷ []))
