-- what a leg carries: the bytes that are drawn spell the messages that were put, and the frames
-- that are taken are cut from the bytes that come (C706 12.6.3.1)
use Rattle.std.specs.Prelude.{ℕ, ◌≡◌, ◌==◌, ◌||◌, ◌++◌, List, [], ◌∷◌, Bool, true, false, if◌then◌else◌, slice_index, map, Some, None, Ok, Err}
use Rattle.std.specs.List.{concat, flat_map, AllByRecursion}
use Rattle.std.specs.declared.option.Option.{Option}
use Rattle.std.specs.declared.result.Result.{Result}
use Rattle.rh_pdu.specs.Frames.{IsFrame}
use Rattle.rh_pdu.specs.declared.header.TheConstants.{PTYPE_AT}
use Rattle.rh_pdu.specs.Header.{rts}
use Rattle.rh_sig.specs.declared.name.Pipe.{Pipe}
use Rattle.rh_sig.specs.declared.named.Named.{Named}
use Rattle.rh_line.specs.declared.cause.Cause.{Cause}
use Rattle.rh_line.specs.declared.give_fault.GiveFault.{GiveFault}
use Rattle.rh_line.specs.declared.leg.Leg.{Leg}
use Rattle.rh_shell.specs.declared.course.Course.{Course}
use Rattle.rh_shell.specs.declared.course.Course.TheVariants.{Going, Closed, Refusing}
use Rattle.rh_shell.specs.declared.reading.PacketFault.{PacketFault}
use Rattle.rh_shell.specs.declared.stage.Stage.TheVariants as stage
use Rattle.rh_shell.specs.Rules.{Rules, Acts, Message, Pdu, Packet, spell}
use Rattle.rh_shell.specs.Readings.{packet_of}
use Rattle.rh_shell.specs.NearEnds.{NearEnd, is_over, is_marked}
use Rattle.rh_shell.specs.Hearing.{Turn, goes, hear, is_ping, is_stopped}
use Rattle.rh_shell.specs.Drawing.{Drawn, draw}
use Rattle.rh_shell.specs.Shells.{Shell, end_at}
use Rattle.rh_shell.specs.Ends.{cause_of, give}
use Rattle.law_moves.specs.Moves.{Passage, EndPassage, OnLeg}
use Rattle.law_moves.specs.Moving.{Event, ComesUp, Hears, Ends, Breaks, Draws, Ticks, after_event, Leads, Follows, IsHeld}
use Rattle.law_moves.specs.Moving.{EndEvent, Happens, IsGiven, IsTaken, IsClosed, IsRecycled, after_end_event, EndFollows}

abbrev pub on_leg : Leg → List Message → List OnLeg
on_leg leg messages = map (λ message. (leg, message)) messages

-- ---- what is drawn

abbrev pub spelled : List Message → List ℕ
spelled messages = flat_map spell messages

-- moves put these messages on the leg, and took none; what is left of the last message and what
-- these spell is what was drawn and what is left then
pub record Puts {S : Type 0} (rules : Rules S) (p : Passage S) (end : NearEnd) (d : Drawn S)
    : Type 0 where
  pub passage : Passage S
  pub leads : Leads rules p passage
  pub role : passage.role ≡ d.role
  pub messages : List Message
  pub put : passage.put ≡ p.put ++ on_leg end.leg messages
  pub came : passage.came ≡ p.came
  pub spells : end.begun ++ spelled messages ≡ d.bytes ++ d.end.begun
  pub leg : d.end.leg ≡ end.leg
  pub intake : d.end.intake ≡ end.intake

-- ---- what comes

abbrev pub named_messages : Result Named PacketFault → List Message
named_messages (Ok named) = if is_ping named then [] else Packet named ∷ []
named_messages (Err fault) = []

-- the message that a frame is; a Ping is none
abbrev pub message_in : Option Pipe → List ℕ → List Message
message_in pipe frame =
    if slice_index frame PTYPE_AT == rts then named_messages (packet_of frame pipe)
    else Pdu frame ∷ []

abbrev pub messages_in : Option Pipe → List (List ℕ) → List Message
messages_in pipe frames = flat_map (message_in pipe) frames

-- the node stopped, or nothing is taken there any more
abbrev pub is_deaf : {S : Type 0} → Rules S → Turn S → Bool
is_deaf rules t = is_stopped t.stop || is_over rules t.end t.role

-- the bytes that were held and came are frames that were taken, and then a rest; on a leg that is
-- still heard that rest is what is held
pub record Cut {S : Type 0} (rules : Rules S) (end : NearEnd) (u : Turn S) (piece : List ℕ)
    (frames : List (List ℕ)) : Type 0 where
  pub rest : List ℕ
  pub joined : end.intake.held ++ piece ≡ concat frames ++ rest
  pub left : is_deaf rules u ≡ false → rest ≡ u.end.intake.held
  pub stage : is_deaf rules u ≡ false → u.end.intake.stage ≡ stage.Frames

-- moves took the messages of these frames on the leg, and put none
pub record Takes {S : Type 0} (rules : Rules S) (p : Passage S) (end : NearEnd) (u : Turn S)
    (piece : List ℕ) : Type 0 where
  pub passage : Passage S
  pub leads : Leads rules p passage
  pub role : passage.role ≡ u.role
  pub frames : List (List ℕ)
  pub each : AllByRecursion IsFrame frames
  pub came : passage.came ≡ p.came ++ on_leg end.leg (messages_in end.pipe frames)
  pub put : passage.put ≡ p.put
  pub cut : end.intake.stage ≡ stage.Frames → Cut rules end u piece frames
  pub leg : u.end.leg ≡ end.leg
  pub pipe : u.end.pipe ≡ end.pipe
  pub held : IsHeld u.end

-- ---- what passes in an event

-- nothing is logged
abbrev pub IsQuiet : {S : Type 0} → Passage S → Passage S → Type 0
IsQuiet p q = (q.put ≡ p.put) × (q.came ≡ p.came)

pub record PutsTo {S : Type 0} (rules : Rules S) (p : Passage S) (end : NearEnd) (d : Drawn S)
    (q : Passage S) : Type 0 where
  pub puts : Puts rules p end d
  pub is : puts.passage ≡ q

pub record TakesTo {S : Type 0} (rules : Rules S) (p : Passage S) (end : NearEnd) (u : Turn S)
    (piece : List ℕ) (q : Passage S) : Type 0 where
  pub takes : Takes rules p end u piece
  pub is : takes.passage ≡ q

-- of a marked leg nothing is drawn
abbrev pub LogsUnmarked : {S : Type 0} → Rules S → Passage S → Shell S → NearEnd → ℕ → Passage S
    → Bool → Type 0
LogsUnmarked rules p s end room q true = IsQuiet p q
LogsUnmarked rules p s end room q false =
    PutsTo rules p end (draw rules s.now room end s.role) q

abbrev pub LogsDrawn : {S : Type 0} → Rules S → Passage S → Shell S → ℕ → Passage S → Course
    → Option NearEnd → Type 0
LogsDrawn rules p s room q Going (Some end) =
    LogsUnmarked rules p s end room q (is_marked end.standing)
LogsDrawn rules p s room q Going None = IsQuiet p q
LogsDrawn rules p s room q (Closed why) o = IsQuiet p q
LogsDrawn rules p s room q (Refusing why client rest) o = IsQuiet p q

abbrev pub LogsHeard : {S : Type 0} → Rules S → Passage S → Shell S → List ℕ → Passage S → Course
    → Option NearEnd → Type 0
LogsHeard rules p s piece q Going (Some end) =
    TakesTo rules p end (hear rules s.now (goes end s.role) piece) piece q
LogsHeard rules p s piece q Going None = IsQuiet p q
LogsHeard rules p s piece q (Closed why) o = IsQuiet p q
LogsHeard rules p s piece q (Refusing why client rest) o = IsQuiet p q

-- messages are put where bytes are drawn, and frames are taken where bytes come; nothing is logged
-- in any other event
abbrev pub Logs : {S : Type 0} → Rules S → Passage S → Shell S → Passage S → Event → Type 0
Logs rules p s q (ComesUp leg cookie) = IsQuiet p q
Logs rules p s q (Hears leg piece) = LogsHeard rules p s piece q s.course (end_at s leg)
Logs rules p s q (Ends leg) = IsQuiet p q
Logs rules p s q (Breaks leg) = IsQuiet p q
Logs rules p s q (Draws leg room) = LogsDrawn rules p s room q s.course (end_at s leg)
Logs rules p s q (Ticks now) = IsQuiet p q

-- the role goes on by moves, and they log just that
pub record Passes {S : Type 0} (rules : Rules S) (p : Passage S) (s : Shell S) (event : Event)
    : Type 0 where
  pub follows : Follows rules p (after_event rules s event)
  pub logs : Logs rules p s follows.passage event

-- ---- and at an end

-- a PDU is logged where the caller was told that it was accepted
abbrev pub accepted : List ℕ → Result (Unit {0}) GiveFault → List (List ℕ)
accepted pdu (Ok given) = pdu ∷ []
accepted pdu (Err fault) = []

-- the PDU that is put into the caller's room, where one is there
abbrev pub first_in : List (List ℕ) → List (List ℕ)
first_in [] = []
first_in (pdu ∷ pdus) = pdu ∷ []

abbrev pub handed_by : {S : Type 0} → Acts S → Shell S → Option Cause → List (List ℕ)
handed_by acts s (Some why) = []
handed_by acts s None = first_in (acts.line s.role).current.pdus

abbrev pub handed : {S : Type 0} → Acts S → Shell S → List (List ℕ)
handed acts s = handed_by acts s (cause_of s.course)

-- these were given and taken besides
pub record EndLogs {S : Type 0} (p q : EndPassage S) (more out : List (List ℕ)) : Type 0 where
  pub given : q.given ≡ p.given ++ more
  pub taken : q.taken ≡ p.taken ++ out

abbrev pub LogsAtEnd : {S : Type 0} → Rules S → Acts S → EndPassage S → Shell S → EndPassage S
    → EndEvent → Type 0
LogsAtEnd rules acts p s q (Happens event) =
    Logs rules p.passage s q.passage event × EndLogs p q [] []
LogsAtEnd rules acts p s q (IsGiven pdu) =
    IsQuiet p.passage q.passage × EndLogs p q (accepted pdu (give acts s pdu).1) []
LogsAtEnd rules acts p s q IsTaken =
    IsQuiet p.passage q.passage × EndLogs p q [] (handed acts s)
LogsAtEnd rules acts p s q IsClosed = IsQuiet p.passage q.passage × EndLogs p q [] []
LogsAtEnd rules acts p s q IsRecycled = IsQuiet p.passage q.passage × EndLogs p q [] []

pub record EndPasses {S : Type 0} (rules : Rules S) (acts : Acts S) (p : EndPassage S)
    (s : Shell S) (event : EndEvent) : Type 0 where
  pub follows : EndFollows rules acts p (after_end_event rules acts s event)
  pub logs : LogsAtEnd rules acts p s follows.passage event
