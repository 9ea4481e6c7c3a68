-- what the answers of a report say of PDUs and ends (profile)
use Rattle.std.specs.Prelude.{◌≡◌, ◌⊎◌, ℕ, List, [], ◌∷◌, ◌++◌, map, Ok, Err}
use Rattle.rh_text.specs.declared.ends.Side.{Side}
use Rattle.rh_text.specs.declared.ends.Side.TheVariants.{Client, Server}
use Rattle.rh_record.specs.declared.line.Line.{Line}
use Rattle.rh_record.specs.declared.line.Line.TheVariants as line
use Rattle.rh_record.specs.declared.answer.TakeAnswer.TheVariants as takes
use Rattle.rh_record.specs.declared.answer.Answer.{Answer}
use Rattle.rh_record.specs.declared.answer.Answer.TheVariants.{Give, Take, Close, NodeClosed}
use Rattle.rh_record.specs.declared.answer.Who.TheVariants as nodes

-- what an answer says of PDUs and ends
pub data Event : Type 0 where
  -- the end gave what was offered, or it was refused
  Gives : Side → Event
  Refuses : Side → Event
  -- the end took this PDU
  Takes : Side → List ℕ → Event
  -- the end reports that all was taken and no more comes
  Ends : Side → Event
  -- the end closed
  Closes : Side → Event
  -- the end was told to give no more
  Stops : Side → Event
  -- none of these
  Silent : Event

-- an answer's event. No answer of a direct world closes, stops or ends.
abbrev pub event : Answer → Event
event (Give side (Ok len)) = Gives side
event (Give side (Err fault)) = Refuses side
event (Take side (takes.Pdu pdu)) = Takes side pdu
event (Take side takes.Empty) = Silent
event (Take side takes.Ended) = Ends side
event (Take side (takes.Closed cause)) = Closes side
event (Close side) = Stops side
event (NodeClosed nodes.Client cause) = Closes Client
event (NodeClosed nodes.Server cause) = Closes Server
event _ = Silent

abbrev pub events : List Answer → List Event
events report = map event report

-- the other end
abbrev pub other : Side → Side
other Client = Server
other Server = Client

-- the PDU, where it is of the end asked for
abbrev pub of_end : Side → Side → List ℕ → List (List ℕ)
of_end Client Client pdu = pdu ∷ []
of_end Client Server pdu = []
of_end Server Client pdu = []
of_end Server Server pdu = pdu ∷ []

-- what a line offers
abbrev pub offer : Line → List (List ℕ)
offer (line.Give side pdu) = pdu ∷ []
offer _ = []

-- what the lines of a recording offer, in order
abbrev pub offered : List Line → List (List ℕ)
offered [] = []
offered (line ∷ lines) = offer line ++ offered lines

-- of what was offered, what an end gave: the jth answer to an offer is that to the jth
abbrev pub given : Side → List (List ℕ) → List Event → List (List ℕ)
given end pdus [] = []
given end [] (event ∷ events) = []
given end (pdu ∷ pdus) (Gives side ∷ events) = of_end end side pdu ++ given end pdus events
given end (pdu ∷ pdus) (Refuses side ∷ events) = given end pdus events
given end (pdu ∷ pdus) (Takes side taken ∷ events) = given end (pdu ∷ pdus) events
given end (pdu ∷ pdus) (Ends side ∷ events) = given end (pdu ∷ pdus) events
given end (pdu ∷ pdus) (Closes side ∷ events) = given end (pdu ∷ pdus) events
given end (pdu ∷ pdus) (Stops side ∷ events) = given end (pdu ∷ pdus) events
given end (pdu ∷ pdus) (Silent ∷ events) = given end (pdu ∷ pdus) events

-- the PDUs that an end took
abbrev pub taken : Side → List Event → List (List ℕ)
taken end [] = []
taken end (Takes side pdu ∷ events) = of_end end side pdu ++ taken end events
taken end (Gives side ∷ events) = taken end events
taken end (Refuses side ∷ events) = taken end events
taken end (Ends side ∷ events) = taken end events
taken end (Closes side ∷ events) = taken end events
taken end (Stops side ∷ events) = taken end events
taken end (Silent ∷ events) = taken end events

-- the end takes no more: it closed, or reported that no more comes
abbrev pub StopsTaking : Side → Event → Type 0
StopsTaking end stop = (stop ≡ Closes end) ⊎ (stop ≡ Ends end)

-- the end gives no more: it closed, or was told so
abbrev pub StopsGiving : Side → Event → Type 0
StopsGiving end stop = (stop ≡ Closes end) ⊎ (stop ≡ Stops end)
