-- the direct world: one leg between client and server, which carries each end's PDUs to the other
use Rattle.std.specs.Prelude.{ℕ, ◌+◌, ◌-◌, List, [], ◌∷◌, ◌++◌, length, take, drop, min}
use Rattle.std.specs.Prelude.{if◌then◌else◌, nat_lt, Some, None, Ok, Err}
use Rattle.std.specs.declared.option.Option.{Option}
use Rattle.std.specs.declared.result.Result.{Result}
use Rattle.rh_text.specs.declared.ends.Side.{Side}
use Rattle.rh_text.specs.declared.ends.Side.TheVariants.{Client, Server}
use Rattle.rh_text.specs.declared.ends.Dir.{Dir}
use Rattle.rh_text.specs.declared.ends.Dir.TheVariants.{U, D}
use Rattle.rh_pdu.specs.declared.fault.PduFault.{PduFault}
use Rattle.rh_pdu.specs.Checking.{pdu_fault}
use Rattle.rh_pdu.specs.Cut.{frames_of, rest_of}
use Rattle.rh_line.specs.declared.give_fault.GiveFault.{GiveFault}
use Rattle.rh_line.specs.declared.give_fault.GiveFault.TheVariants.{Full, BadPdu}
use Rattle.rh_line.specs.Queue.{queue_bytes, total, untouched}
use Rattle.rh_record.specs.declared.line.Line.{Line}
use Rattle.rh_record.specs.declared.line.Line.TheVariants as line
use Rattle.rh_record.specs.declared.answer.TakeAnswer.{TakeAnswer}
use Rattle.rh_record.specs.declared.answer.TakeAnswer.TheVariants.{Pdu, Empty}
use Rattle.rh_record.specs.declared.answer.Answer.{Answer}
use Rattle.rh_record.specs.declared.answer.Answer.TheVariants as answer

-- one direction of the leg, from the end that gives to the end that takes
pub record Way : Type 0 where
  -- the PDUs of which no byte was drawn, first given first
  pub queue : List (List ℕ)
  -- the bytes given and not drawn: of the PDU that was begun, and then of the queue
  pub undrawn : List ℕ
  -- the bytes drawn and not fed
  pub flight : List ℕ
  -- the bytes fed that are no whole frame yet
  pub fed : List ℕ
  -- the PDUs fed whole and not taken
  pub untaken : List (List ℕ)
  -- how many PDUs were given and taken
  pub given : ℕ
  pub taken : ℕ

pub record World : Type 0 where
  pub up : Way
  pub down : Way

abbrev pub empty_way : Way
empty_way =
    record { queue = []; undrawn = []; flight = []; fed = []; untaken = []; given = 0; taken = 0 }

abbrev pub empty : World
empty = record { up = empty_way; down = empty_way }

-- ---- one direction: what it is afterwards, and what is answered

-- why a PDU is refused where the queue holds so many bytes: it is none, or there is no room
abbrev pub refusal_by : Option PduFault → ℕ → ℕ → Option GiveFault
refusal_by (Some fault) held len = Some (BadPdu fault)
refusal_by None held len = if nat_lt queue_bytes (held + len) then Some (Full held len) else None

abbrev pub refusal : Way → List ℕ → Option GiveFault
refusal way pdu = refusal_by (pdu_fault pdu) (total way.queue) (length pdu)

-- a PDU that isn't refused stands behind those given before
abbrev pub give_by : Option GiveFault → Way → List ℕ → Way × Result ℕ GiveFault
give_by (Some refused) way pdu = (way, Err refused)
give_by None way pdu = (
  record way { queue = way.queue ++ pdu ∷ []; undrawn = way.undrawn ++ pdu; given = way.given + 1 },
  Ok (length pdu),
)

abbrev pub give : Way → List ℕ → Way × Result ℕ GiveFault
give way pdu = give_by (refusal way pdu) way pdu

-- so many bytes are drawn; a PDU leaves the queue when its first byte is drawn
abbrev pub drawn : Way → ℕ → Way
drawn way n = record way {
  queue = untouched (n - (length way.undrawn - total way.queue)) way.queue;
  undrawn = drop n way.undrawn;
  flight = way.flight ++ take n way.undrawn;
}

-- so many bytes are drawn, or all where there are fewer
abbrev pub send : Way → ℕ → Way × ℕ
send way n = (drawn way (min n (length way.undrawn)), min n (length way.undrawn))

-- the first bytes in flight are fed, and the frames that they make whole can be taken
abbrev pub move : Way → ℕ → Way × List ℕ
move way n = (
  record way {
    flight = drop n way.flight;
    fed = rest_of (way.fed ++ take n way.flight);
    untaken = way.untaken ++ frames_of (way.fed ++ take n way.flight);
  },
  take n way.flight,
)

-- the first of these PDUs is taken
abbrev pub take_from : List (List ℕ) → Way → Way × TakeAnswer
take_from [] way = (way, Empty)
take_from (pdu ∷ pdus) way = (record way { untaken = pdus; taken = way.taken + 1 }, Pdu pdu)

abbrev pub take_pdu : Way → Way × TakeAnswer
take_pdu way = take_from way.untaken way

-- ---- lines: the world afterwards, and what is answered

-- the direction in which an end gives
abbrev pub giving : Side → Dir
giving Client = U
giving Server = D

-- the direction from which an end takes
abbrev pub taking : Side → Dir
taking Client = D
taking Server = U

abbrev pub way_of : World → Dir → Way
way_of world U = world.up
way_of world D = world.down

abbrev pub with_way : World → Dir → Way → World
with_way world U way = record world { up = way }
with_way world D way = record world { down = way }

-- one direction is other than before, and one line is answered
abbrev pub done_on : {A : Type 0} → World → Dir → (A → Answer) → Way × A → World × List Answer
done_on world dir told did = (with_way world dir did.0, told did.1 ∷ [])

-- the answers to a send and a move of the one leg
abbrev pub sent : Dir → ℕ → Answer
sent dir count = answer.Send None dir (Some count)

abbrev pub moved : Dir → List ℕ → Answer
moved dir bytes = answer.Move None dir (Some bytes)

-- what a line does
pub data Deed : Type 0 where
  -- a PDU is offered at an end; the next is asked for at an end
  Offers : Side → List ℕ → Deed
  Asks : Side → Deed
  -- so many bytes are drawn, and are fed
  Draws : Dir → ℕ → Deed
  Feeds : Dir → ℕ → Deed
  -- the first line, and one of another world
  Nothing : Deed

abbrev pub deed : Line → Deed
deed (line.Give side pdu) = Offers side pdu
deed (line.Take side) = Asks side
deed (line.Send None dir count) = Draws dir count
deed (line.Move None dir count) = Feeds dir count
deed _ = Nothing

abbrev pub act : World → Deed → World × List Answer
act world (Offers side pdu) =
    done_on world (giving side) (answer.Give side) (give (way_of world (giving side)) pdu)
act world (Asks side) =
    done_on world (taking side) (answer.Take side) (take_pdu (way_of world (taking side)))
act world (Draws dir count) = done_on world dir (sent dir) (send (way_of world dir) count)
act world (Feeds dir count) = done_on world dir (moved dir) (move (way_of world dir) count)
act world Nothing = (world, [])

abbrev pub step : World → Line → World × List Answer
step world line = act world (deed line)

-- the last lines of a report
abbrev pub last : World → List Answer
last world =
    answer.Up world.up.given world.up.taken ∷ answer.Down world.down.given world.down.taken ∷ []

-- ---- recordings

-- the world after lines
abbrev pub after : World → List Line → World
after world [] = world
after world (line ∷ lines) = after (step world line).0 lines

-- what lines are answered, one after the other, and the last lines of the report
abbrev pub told : World → List Line → List Answer
told world [] = last world
told world (line ∷ lines) = (step world line).1 ++ told (step world line).0 lines

-- the report of a recording
abbrev pub run : List Line → List Answer
run lines = told empty lines
