-- what is so where an out proxy refuses what comes, said by what came to it (MS-RPCH 2.2.4;
-- replacement and the end are this profile's)
use Rattle.std.specs.Prelude.{ℕ, ◌≡◌, ◌⊎◌, ◌≤◌, List, [], ◌∷◌, false, true, nat_le, if◌then◌else◌, Some, None, Ok, Err}
use Rattle.std.specs.declared.option.Option.{Option}
use Rattle.std.specs.declared.result.Result.{Result}
use Rattle.rh_rts.specs.declared.command.Cookie.{Cookie}
use Rattle.rh_rts.specs.declared.command.TheConstants.{TO_CLIENT, TO_OUT_PROXY}
use Rattle.rh_sig.specs.declared.named.Named.{Named}
use Rattle.rh_sig.specs.declared.named.Named.TheVariants.{ConnA1, ConnC1, OutR1A3, OutR2C1, InR1A3, InR2A3, OutR1A1, OutR1A5, OutR1A9, EndB1, AckTo}
use Rattle.rh_http.specs.declared.fault.HttpFault.{HttpFault}
use Rattle.rh_http.specs.Lengths.{greatest_echo}
use Rattle.rh_http.specs.Heads.Verdicts.{Asked, request_verdict}
use Rattle.rh_line.specs.declared.leg.Leg.{Leg}
use Rattle.rh_line.specs.declared.leg.LegKind.{LegKind}
use Rattle.rh_line.specs.declared.leg.LegKind.TheVariants.{ClientOut, OutServer, ClientIn, InServer}
use Rattle.rh_shell.specs.declared.answers.Count.{Count}
use Rattle.rh_shell.specs.declared.answers.Refused.TheVariants as refused
use Rattle.rh_shell.specs.Rules.{Message}
use Rattle.rh_outproxy.specs.OutProxy.{OutProxy}
use Rattle.rh_outproxy.specs.Opening.{told_length, new_length, successor_length}
use Rattle.rh_outproxy.specs.Machine.{rules}
use Rattle.law_moves.specs.Moves.{Move, HeadCame, Passage}
use Rattle.law_moves.specs.Wires.{of_leg}
use Rattle.law_moves.specs.Passages.Passing.{count_of, HasBegunOut}
use Rattle.law_moves.specs.Passages.Counted.{packets, Tells}
use Rattle.law_moves.specs.PacketKinds.{is_conn_a1, is_conn_c1, is_out_r1_a3, is_out_r1_a9, is_end_b1}
use Rattle.law_role_outproxy.specs.Counted.{co_leg, os_leg}

-- ---- requests (MS-RPCH 2.1.2)

-- a request with more bytes than those of an echo is for a channel
abbrev pub asked_by : Option Asked → Result Asked HttpFault → Option Asked
asked_by before (Ok request) =
    if nat_le request.length greatest_echo then before else Some request
asked_by before (Err fault) = before

abbrev pub asked_after : Option Asked → Move → Option Asked
asked_after before (HeadCame leg text) = asked_by before (request_verdict false text)
asked_after before move = before

-- the last request for a channel, of the heads that came
abbrev pub last_asked : Option Asked → List Move → Option Asked
last_asked before [] = before
last_asked before (move ∷ moves) = last_asked (asked_after before move) moves

-- it doesn't tell this length, or there is none
abbrev pub IsNotAsked : ℕ → List Move → Type 0
IsNotAsked length moves = told_length (last_asked None moves) length ≡ false

-- ---- what came to the proxy with this number

abbrev pub from_client : ℕ → Passage OutProxy → List Message
from_client n p = of_leg (co_leg n) p.came

abbrev pub from_server : ℕ → Passage OutProxy → List Message
from_server n p = of_leg (os_leg n) p.came

-- neither OUT_R1/A3 came from the client nor CONN/C1 from the server
abbrev pub IsUnjoined : ℕ → Passage OutProxy → Type 0
IsUnjoined n p =
    (count_of is_out_r1_a3 (from_client n p) ≡ 0) × (count_of is_conn_c1 (from_server n p) ≡ 0)

-- or OUT_R1/A9 came
abbrev pub CarriesNone : ℕ → Passage OutProxy → Type 0
CarriesNone n p = IsUnjoined n p ⊎ (1 ≤ count_of is_out_r1_a9 (from_server n p))

-- or END/B1 came
abbrev pub TakesNone : ℕ → Passage OutProxy → Type 0
TakesNone n p = CarriesNone n p ⊎ (1 ≤ count_of is_end_b1 (from_server n p))

-- a packet with this destination isn't the client's, or none is carried
abbrev pub PassesNone : ℕ → Passage OutProxy → ℕ → Type 0
PassesNone n p to = (to ≡ TO_CLIENT → ⊥) ⊎ CarriesNone n p

-- ---- RPC PDUs

-- none is taken from the client
abbrev pub UnexpectedPduBy : ℕ → Passage OutProxy → LegKind → Type 0
UnexpectedPduBy n p ClientOut = Unit {0}
UnexpectedPduBy n p OutServer = TakesNone n p
UnexpectedPduBy n p ClientIn = ⊥
UnexpectedPduBy n p InServer = ⊥

abbrev pub UnexpectedPdu : ℕ → Passage OutProxy → Leg → Type 0
UnexpectedPdu n p leg = UnexpectedPduBy n p leg.kind

-- ---- packets

-- CONN/A1 and OUT_R1/A3 come first, behind a request of their length, and OUT_R2/C1 second, behind
-- OUT_R1/A3. No other packet has a name on this pipe
abbrev pub UnexpectedFromClient : ℕ → Passage OutProxy → List Move → Named → Type 0
UnexpectedFromClient n p moves (ConnA1 version connection channel window) =
    (1 ≤ packets (from_client n p)) ⊎ IsNotAsked new_length moves
UnexpectedFromClient n p moves (OutR1A3 version connection predecessor channel window) =
    (1 ≤ packets (from_client n p)) ⊎ IsNotAsked successor_length moves
UnexpectedFromClient n p moves OutR2C1 =
    (packets (from_client n p) ≡ 1 → ⊥) ⊎ (count_of is_out_r1_a3 (from_client n p) ≡ 0)
UnexpectedFromClient n p moves packet = Unit {0}

-- CONN/C1 comes once, behind CONN/A1; the others where OUT_R1/A3 or CONN/C1 came. No other packet
-- but Ping has a name on this pipe, and Pings come to no row
abbrev pub UnexpectedFromServer : ℕ → Passage OutProxy → Named → Type 0
UnexpectedFromServer n p (ConnC1 version window timeout) =
    (count_of is_conn_a1 (from_client n p) ≡ 0) ⊎ (1 ≤ count_of is_conn_c1 (from_server n p))
UnexpectedFromServer n p (AckTo to received available of) =
    ((to ≡ TO_OUT_PROXY) × IsUnjoined n p) ⊎ ((to ≡ TO_OUT_PROXY → ⊥) × PassesNone n p to)
UnexpectedFromServer n p (InR1A3 to version window timeout) = PassesNone n p to
UnexpectedFromServer n p (InR2A3 to) = PassesNone n p to
UnexpectedFromServer n p (OutR1A1 to) = PassesNone n p to
UnexpectedFromServer n p (OutR1A5 to version timeout) = PassesNone n p to
UnexpectedFromServer n p OutR1A9 = CarriesNone n p
UnexpectedFromServer n p EndB1 = TakesNone n p
UnexpectedFromServer n p packet = Unit {0}

abbrev pub UnexpectedBy : ℕ → Passage OutProxy → List Move → Named → LegKind → Type 0
UnexpectedBy n p moves packet ClientOut = UnexpectedFromClient n p moves packet
UnexpectedBy n p moves packet OutServer = UnexpectedFromServer n p packet
UnexpectedBy n p moves packet ClientIn = ⊥
UnexpectedBy n p moves packet InServer = ⊥

abbrev pub Unexpected : ℕ → Passage OutProxy → List Move → Leg → Named → Type 0
Unexpected n p moves leg packet = UnexpectedBy n p moves packet leg.kind

-- ---- cookies

-- an acknowledgement for this proxy; its client began with the expected cookie, and with no packet
-- of the other
abbrev pub MismatchFromServer : ℕ → Passage OutProxy → Cookie → Cookie → Named → Type 0
MismatchFromServer n p expected got (AckTo to received available of) =
    (to ≡ TO_OUT_PROXY) × (got ≡ of) × HasBegunOut expected (from_client n p)
    × (HasBegunOut got (from_client n p) → ⊥)
MismatchFromServer n p expected got packet = ⊥

abbrev pub MismatchBy : ℕ → Passage OutProxy → Cookie → Cookie → Named → LegKind → Type 0
MismatchBy n p expected got packet OutServer = MismatchFromServer n p expected got packet
MismatchBy n p expected got packet kind = ⊥

abbrev pub Mismatch : ℕ → Passage OutProxy → Leg → Named → Cookie → Cookie → Type 0
Mismatch n p leg packet expected got = MismatchBy n p expected got packet leg.kind

-- ---- what it refuses

-- behind these moves, on a leg that came up
pub record RefusesFor (n : ℕ) (moves : List Move) (p : Passage OutProxy) : Type 0 where
  pub pdu : (leg : Leg) (count : Count) (bytes : List ℕ) → rules.was_up p.role leg ≡ true
      → (rules.pdu p.role leg count bytes).1 ≡ Err refused.Unexpected → UnexpectedPdu n p leg
  pub packet : (leg : Leg) (count : Count) (named : Named) → rules.was_up p.role leg ≡ true
      → Tells count (packets (of_leg leg p.came))
      → (rules.packet p.role leg count named).1 ≡ Err refused.Unexpected
      → Unexpected n p moves leg named
  pub cookie : (leg : Leg) (count : Count) (named : Named) (expected got : Cookie)
      → (rules.packet p.role leg count named).1 ≡ Err (refused.Cookie expected got)
      → Mismatch n p leg named expected got
  pub pdu_cookie : (leg : Leg) (count : Count) (bytes : List ℕ) (expected got : Cookie)
      → (rules.pdu p.role leg count bytes).1 ≡ Err (refused.Cookie expected got) → ⊥
