-- what the capture of a recording of roles has on each pipe is a stream of what was put there
-- (MS-RPCH 2.2.4; profile)
use Rattle.std.specs.Prelude.{◌≡◌, ◌⊎◌, List, [], Some}
use Rattle.rh_text.specs.declared.ends.Dir.{Dir}
use Rattle.rh_sig.specs.declared.name.Pipe.{Pipe}
use Rattle.rh_line.specs.declared.leg.Leg.{Leg}
use Rattle.rh_record.specs.declared.answer.Answer.{Answer}
use Rattle.rh_record.specs.declared.line.Line.{Line}
use Rattle.rh_shell.specs.Rules.{Message}
use Rattle.rh_capture.specs.Moves.{pipe_of}
use Rattle.rh_world.specs.declared.any_world.AnyWorld.{AnyWorld}
use Rattle.rh_world.specs.declared.any_world.AnyWorld.TheVariants.{Before, Direct, Settings, Roles}
use Rattle.rh_world.specs.Any.{after, answers}
use Rattle.rh_world.specs.Roles as roles
use Rattle.law_audit.specs.Streams.Put.{BeginsFrames, IsStreamOf, behind_text, text_of}
use Rattle.law_audit.specs.Streams.Texts.{IsFineText}
use Rattle.law_peers_moments.specs.Moments.{passages}
use Rattle.law_world_order.specs.Pasts.{moves_of, numbers}
use Rattle.law_world_audited.specs.Moving.Moved.{moved_on}
use Rattle.law_world_audited.specs.Moving.Sent.{TellsSent, sent_on}

-- nothing was put; or a fine text goes first where any does, and behind it, on a pipe towards the
-- server, a packet with which a leg begins
pub record BeginsFine (pipe : Pipe) (put : List Message) : Type 0 where
  pub text : IsFineText pipe (text_of put)
  pub first : BeginsFrames pipe (behind_text put)

abbrev pub MayBegin : Pipe → List Message → Type 0
MayBegin pipe put = (put ≡ []) ⊎ BeginsFine pipe put

-- what these answers tell moved on a pipe is a stream that is not broken, of the first messages that
-- were put there behind a text
pub record TellsStreams (answered : List Answer) (world : roles.World) : Type 0 where
  pub told : TellsSent answered world
  pub begins : (leg : Leg) (dir : Dir) (pipe : Pipe) → pipe_of leg.kind dir ≡ Some pipe
      → MayBegin pipe
      (sent_on (passages (numbers told.ours) (moves_of told.flowing)) world.readers leg dir)
  pub streams : (leg : Leg) (dir : Dir) (pipe : Pipe) → pipe_of leg.kind dir ≡ Some pipe
      → IsStreamOf pipe
      (behind_text (sent_on (passages (numbers told.ours) (moves_of told.flowing)) world.readers leg
      dir))
      (moved_on leg dir answered)

-- only a world of roles has nodes
abbrev pub TellsStreamsIn : List Answer → AnyWorld → Type 0
TellsStreamsIn answered Before = Unit {0}
TellsStreamsIn answered (Direct world) = Unit {0}
TellsStreamsIn answered (Settings config) = Unit {0}
TellsStreamsIn answered (Roles world) = TellsStreams answered world

-- behind the lines, with what they are answered
abbrev pub TellsStreamsOf : List Line → Type 0
TellsStreamsOf lines = TellsStreamsIn (answers Before lines) (after Before lines)
