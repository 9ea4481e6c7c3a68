-- what the capture of a recording of roles has on each pipe is of what was put there (MS-RPCH 2.1.2,
-- 3.2; profile)
use Rattle.std.specs.Prelude.{◌≡◌, ℕ, List, Some}
use Rattle.std.specs.List.{AllByRecursion}
use mathlib.Core.List.{IsPrefix}
use Rattle.rh_text.specs.declared.ends.Dir.{Dir}
use Rattle.rh_sig.specs.declared.name.Pipe.{Pipe}
use Rattle.rh_sig.specs.declared.name.Pipe.TheVariants.{CiU, IsU, IsD, CoU, CoD, OsU, OsD}
use Rattle.rh_line.specs.declared.leg.Leg.{Leg}
use Rattle.rh_record.specs.declared.answer.Answer.{Answer}
use Rattle.rh_record.specs.declared.line.Line.{Line}
use Rattle.rh_shell.specs.Rules.{Message}
use Rattle.rh_wires.specs.Readers.{reader_of}
use Rattle.rh_wires.specs.Wires.{sender}
use Rattle.rh_capture.specs.Moves.{pipe_of}
use Rattle.law_moves.specs.Carrying.{spelled}
use Rattle.law_moves.specs.Legible.Legible.{MayGoOn}
use Rattle.law_moves.specs.ReadBack.Reading.{Begins}
use Rattle.law_moves.specs.Wires.{of_leg}
use Rattle.law_node_history.specs.Carried.{end_node, happened}
use Rattle.rh_world.specs.declared.any_world.AnyWorld.{AnyWorld}
use Rattle.rh_world.specs.declared.any_world.AnyWorld.TheVariants.{Before, Direct, Settings, Roles}
use Rattle.rh_world.specs.Any.{after, answers}
use Rattle.rh_world.specs.Roles as roles
use Rattle.law_node_streams.specs.Streams.{IsDrawn}
use Rattle.law_peers_moments.specs.Moments.{AreJoined, AreMade, IsMoment, Passages, passages, put_by}
use Rattle.law_node_traces.specs.Traced.Ours.{AreOurs}
use Rattle.law_world_reports.specs.ToldHistories.{history_of}
use Rattle.law_world_order.specs.FirstTexts.{IsPort}
use Rattle.law_world_order.specs.Flows.{IsFlowing, numbers_of}
use Rattle.law_world_order.specs.Pasts.{moves_of, numbers}
use Rattle.law_world_order.specs.Premises.{AreDistinct, AreInRange}
use Rattle.law_world_audited.specs.Moving.Moved.{moved_on}
use Rattle.law_world_audited.specs.Moving.ToldMoves.{TellsMoves}

-- ---- a pipe

-- bytes on a pipe are a front of those of what was put; towards the client of an OUT channel also
-- of a refusal, where nothing was put
abbrev pub IsOf : Pipe → List Message → List ℕ → Type 0
IsOf CoD put bytes = IsDrawn put bytes
IsOf CiU put bytes = IsPrefix bytes (spelled put)
IsOf IsU put bytes = IsPrefix bytes (spelled put)
IsOf IsD put bytes = IsPrefix bytes (spelled put)
IsOf CoU put bytes = IsPrefix bytes (spelled put)
IsOf OsU put bytes = IsPrefix bytes (spelled put)
IsOf OsD put bytes = IsPrefix bytes (spelled put)

-- what was put begins as it is read there, and may go on the pipe
pub record IsSent (pipe : Pipe) (put : List Message) (bytes : List ℕ) : Type 0 where
  pub begins : Begins (Some pipe) put
  pub may_go : AllByRecursion (MayGoOn (Some pipe)) put
  pub of_put : IsOf pipe put bytes

-- ---- recordings

-- the messages that were put on a leg in a direction, where these in proxies read the IN channels
abbrev pub sent_on : Passages → List ℕ → Leg → Dir → List Message
sent_on all readers leg dir = of_leg leg (put_by all (end_node readers leg (sender dir)))

-- what these answers tell moved on a pipe is of what was put there, by moves of the roles that are
-- joined by their legs, and at a moment where no two legs came up under one cookie
pub record TellsSent (answered : List Answer) (world : roles.World) : Type 0 where
  pub told : TellsMoves answered world
  pub ours : AreOurs roles.makers (roles.begun told.config).company told.config
  pub ranges : AreInRange (numbers_of ours)
  pub port : IsPort ours.config.port
  pub flowing : IsFlowing (numbers_of ours) (roles.begun told.config) world
      (history_of told.config world told.by)
  pub made : AreMade (numbers ours) (moves_of flowing)
  pub joined : AreJoined (reader_of world.readers) (passages (numbers ours) (moves_of flowing))
  pub moment : AreDistinct (happened (history_of told.config world told.by).client)
      → IsMoment (numbers ours) (reader_of world.readers) (moves_of flowing)
  pub sent : (leg : Leg) (dir : Dir) (pipe : Pipe) → pipe_of leg.kind dir ≡ Some pipe
      → IsSent pipe (sent_on (passages (numbers ours) (moves_of flowing)) world.readers leg dir)
      (moved_on leg dir answered)

-- only a world of roles has nodes
abbrev pub TellsSentIn : List Answer → AnyWorld → Type 0
TellsSentIn answered Before = Unit {0}
TellsSentIn answered (Direct world) = Unit {0}
TellsSentIn answered (Settings config) = Unit {0}
TellsSentIn answered (Roles world) = TellsSent answered world

-- behind the lines, with what they are answered
abbrev pub TellsSentOf : List Line → Type 0
TellsSentOf lines = TellsSentIn (answers Before lines) (after Before lines)
