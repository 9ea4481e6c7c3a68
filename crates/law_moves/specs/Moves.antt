-- the moves of a role, and what passed it: what came and was taken by its rows, and what it put
-- (profile)
use Rattle.std.specs.Prelude.{ℕ, ◌≡◌, ◌++◌, List, [], ◌∷◌, Bool, not, ◌&&◌, IsTrue}
use Rattle.std.specs.Prelude.{Some, None, Ok, Err}
use Rattle.std.specs.declared.option.Option.{Option}
use Rattle.std.specs.declared.result.Result.{Result}
use Rattle.rh_pdu.specs.Frames.{IsPdu}
use Rattle.rh_rts.specs.declared.command.Cookie.{Cookie}
use Rattle.rh_sig.specs.declared.named.Named.{Named}
use Rattle.rh_line.specs.declared.leg.Leg.{Leg}
use Rattle.rh_shell.specs.declared.answers.Count.{Count}
use Rattle.rh_shell.specs.declared.answers.Phase.TheVariants as phase
use Rattle.rh_shell.specs.declared.end_role.GiveRefused.{GiveRefused}
use Rattle.rh_shell.specs.NearEnds.{is_ended}
use Rattle.rh_shell.specs.Rules.{Rules, Acts, Row, Message, Pdu, Packet}

-- what may happen to a role
pub data Move : Type 0 where
  Up : Leg → Cookie → Move
  HeadCame : Leg → List ℕ → Move
  PduCame : Leg → Count → List ℕ → Move
  PacketCame : Leg → Count → Named → Move
  Puts : Leg → Move
  IsDrawn : Leg → Move
  Marks : Leg → Move
  Pings : Leg → Move

-- a message on a leg
abbrev pub OnLeg : Type 0
OnLeg = Leg × Message

-- a role, and what passed it so far
pub record Passage (S : Type 0) : Type 0 where
  pub role : S
  -- the PDUs and packets that its rows took, in order
  pub came : List OnLeg
  -- the messages that it put, in order
  pub put : List OnLeg

abbrev pub started : {S : Type 0} → S → Passage S
started role = record { role = role; came = []; put = [] }

abbrev pub now_at : {S : Type 0} → Passage S → S → Passage S
now_at p role = record p { role = role }

-- a row took it, or refused it
abbrev pub taken_by : {S : Type 0} → Passage S → Leg → Message → S × Row → Passage S
taken_by p leg message (role, Ok taken) =
    record p { role = role; came = p.came ++ (leg, message) ∷ [] }
taken_by p leg message (role, Err refused) = record p { role = role }

-- a message was put, or none
abbrev pub put_by : {S : Type 0} → Passage S → Leg → Option (S × Message) → Passage S
put_by p leg None = p
put_by p leg (Some put) = record p { role = put.0; put = p.put ++ (leg, put.1) ∷ [] }

abbrev pub moved : {S : Type 0} → Rules S → Passage S → Move → Passage S
moved rules p (Up leg cookie) = now_at p (rules.up p.role leg cookie)
moved rules p (HeadCame leg text) = now_at p (rules.head p.role leg text).0
moved rules p (PduCame leg count pdu) =
    taken_by p leg (Pdu pdu) (rules.pdu p.role leg count pdu)
moved rules p (PacketCame leg count named) =
    taken_by p leg (Packet named) (rules.packet p.role leg count named)
moved rules p (Puts leg) = put_by p leg (rules.put p.role leg)
moved rules p (IsDrawn leg) = now_at p (rules.drawn p.role leg)
moved rules p (Marks leg) = now_at p (rules.mark p.role leg)
moved rules p (Pings leg) = now_at p (rules.ping p.role leg)

-- ---- which moves a node makes

-- the work is not done
abbrev pub is_at_work : {S : Type 0} → Rules S → S → Bool
is_at_work rules role = not (is_ended (rules.phase role))

-- nor is the leg
abbrev pub is_in_use : {S : Type 0} → Rules S → S → Leg → Bool
is_in_use rules role leg = is_at_work rules role && not (rules.is_done role leg)

abbrev pub MayMove : {S : Type 0} → Rules S → S → Move → Type 0
MayMove rules s (Up leg cookie) = IsTrue (is_at_work rules s) × IsTrue (rules.may_up s leg)
MayMove rules s (HeadCame leg text) = IsTrue (is_in_use rules s leg)
MayMove rules s (PduCame leg count pdu) = IsTrue (is_in_use rules s leg) × IsPdu pdu
MayMove rules s (PacketCame leg count named) = IsTrue (is_in_use rules s leg)
MayMove rules s (Puts leg) = IsTrue (is_in_use rules s leg)
MayMove rules s (IsDrawn leg) = Unit {0}
MayMove rules s (Marks leg) = IsTrue (is_at_work rules s) × IsTrue (rules.only_marks s leg)
MayMove rules s (Pings leg) = Unit {0}

-- ---- the moves of an end

pub data EndMove : Type 0 where
  Moves : Move → EndMove
  Gives : List ℕ → EndMove
  Takes : EndMove
  Closes : EndMove
  Recycles : EndMove

-- an end's role, with what was given to it and taken from it besides
pub record EndPassage (S : Type 0) : Type 0 where
  pub passage : Passage S
  -- the PDUs that it accepted, and those that were taken, in order
  pub given : List (List ℕ)
  pub taken : List (List ℕ)

abbrev pub end_started : {S : Type 0} → S → EndPassage S
end_started role = record { passage = started role; given = []; taken = [] }

abbrev pub end_now_at : {S : Type 0} → EndPassage S → S → EndPassage S
end_now_at p role = record p { passage = now_at p.passage role }

-- what the caller is told of a PDU that it gives: it was accepted, or not
abbrev pub given_by : {S : Type 0} → EndPassage S → List ℕ → S × Result (Unit {0}) GiveRefused
    → EndPassage S
given_by p pdu (role, Ok accepted) = record (end_now_at p role) { given = p.given ++ pdu ∷ [] }
given_by p pdu (role, Err refused) = end_now_at p role

-- the first of the PDUs that are there was taken
abbrev pub with_first : {S : Type 0} → EndPassage S → List (List ℕ) → EndPassage S
with_first p [] = p
with_first p (pdu ∷ pdus) = record p { taken = p.taken ++ pdu ∷ [] }

abbrev pub end_moved : {S : Type 0} → Rules S → Acts S → EndPassage S → EndMove → EndPassage S
end_moved rules acts p (Moves move) = record p { passage = moved rules p.passage move }
end_moved rules acts p (Gives pdu) = given_by p pdu (acts.give p.passage.role pdu)
end_moved rules acts p Takes =
    with_first (end_now_at p (acts.take p.passage.role))
    (acts.line p.passage.role).current.pdus
end_moved rules acts p Closes = end_now_at p (acts.close p.passage.role)
end_moved rules acts p Recycles = end_now_at p (acts.recycle p.passage.role).0

-- a channel is replaced while the end is open; the other calls may come at any time
abbrev pub MayEndMove : {S : Type 0} → Rules S → S → EndMove → Type 0
MayEndMove rules s (Moves move) = MayMove rules s move
MayEndMove rules s (Gives pdu) = Unit {0}
MayEndMove rules s Takes = Unit {0}
MayEndMove rules s Closes = Unit {0}
MayEndMove rules s Recycles = rules.phase s ≡ phase.Open

-- ---- lists of moves, from the first to the last

abbrev pub all_moved : {S : Type 0} → Rules S → Passage S → List Move → Passage S
all_moved rules p [] = p
all_moved rules p (move ∷ moves) = all_moved rules (moved rules p move) moves

-- each may be made where it is made
abbrev pub AreAllowed : {S : Type 0} → Rules S → Passage S → List Move → Type 0
AreAllowed rules p [] = Unit {0}
AreAllowed rules p (move ∷ moves) =
    MayMove rules p.role move × AreAllowed rules (moved rules p move) moves

abbrev pub all_end_moved : {S : Type 0} → Rules S → Acts S → EndPassage S → List EndMove
    → EndPassage S
all_end_moved rules acts p [] = p
all_end_moved rules acts p (move ∷ moves) =
    all_end_moved rules acts (end_moved rules acts p move) moves

abbrev pub AreAllowedAtEnd : {S : Type 0} → Rules S → Acts S → EndPassage S → List EndMove
    → Type 0
AreAllowedAtEnd rules acts p [] = Unit {0}
AreAllowedAtEnd rules acts p (move ∷ moves) =
    MayEndMove rules p.passage.role move
    × AreAllowedAtEnd rules acts (end_moved rules acts p move) moves
