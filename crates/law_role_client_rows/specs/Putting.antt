-- what a client puts on its legs: what each channel begins with, in order and with which cookies,
-- and the cookies to which it switches (MS-RPCH 2.2.4, 3.2.2; successors are this profile's)
use Rattle.std.specs.Prelude.{ℕ, zero, suc, ◌≡◌, ◌⊎◌, ◌++◌, List, [], ◌∷◌}
use Rattle.std.specs.List.{AllByRecursion}
use Rattle.rh_rts.specs.declared.command.Cookie.{Cookie}
use Rattle.rh_rts.specs.declared.command.TheConstants.{TO_OUT_PROXY, TO_SERVER}
use Rattle.rh_sig.specs.declared.named.Named.{Named}
use Rattle.rh_sig.specs.declared.named.Named.TheVariants.{ConnA1, ConnB1, ConnC2, InR1A1, InR1A5, OutR1A3, OutR1A7, OutR2C1, EndA1, AckTo, Ping}
use Rattle.rh_sig.specs.declared.ranges.TheConstants.{PROTOCOL_VERSION}
use Rattle.rh_http.specs.declared.config.ClientConfig.{ClientConfig}
use Rattle.rh_http.specs.Texts.{in_request, out_request}
use Rattle.rh_line.specs.declared.leg.Leg.{Leg}
use Rattle.rh_line.specs.declared.leg.LegKind.{LegKind}
use Rattle.rh_line.specs.declared.leg.LegKind.TheVariants.{ClientIn, ClientOut}
use Rattle.rh_shell.specs.Rules.{Message, Text, Pdu, Packet}
use Rattle.rh_client.specs.declared.lengths.TheConstants.{CONN_A1_LEN, OUT_R1_A3_C1_LEN}
use Rattle.rh_client.specs.State.{ci, co}
use Rattle.law_moves.specs.Moves.{OnLeg, EndMove}
use Rattle.law_moves.specs.Wires.{of_leg}
use Rattle.law_moves.specs.Passages.Passing.{Has, of_kind}
use Rattle.law_moves.specs.Passages.Rising.{HasComeUp}
use Rattle.law_role_client.specs.Order.{client_moved}

-- ---- a channel

-- what stands on the legs of a direction's channels, of each by the number of the one below it
pub record Direction : Type 1 where
  pub kind : LegKind
  pub request : ℕ → List ℕ
  -- the packet of the first channel, by its cookie, and of another, by the cookie of the one below
  -- it and its own
  pub first : Cookie → Named
  pub next : Cookie → Cookie → Named
  -- what may stand behind that
  pub Rest : ℕ → List Message → Type 0

abbrev pub leg_of : Direction → ℕ → Leg
leg_of way n = record { kind = way.kind; number = n }

-- below, Comes says of a leg and a cookie that the leg came up with it, and Early of a leg that the
-- client was opened before anything was put there

-- the first channel's packet names the cookie with which its leg came up
pub record Opens (way : Direction) (Comes : Leg → Cookie → Type 0) (packet : Named) : Type 0 where
  pub own : Cookie
  pub is : packet ≡ way.first own
  pub names : Comes (leg_of way 1) own

-- that of another names its own, and the cookie of the channel below it, where that isn't the first
-- of a client that was opened early
pub record Succeeds (way : Direction) (Comes : Leg → Cookie → Type 0) (Early : Leg → Type 0)
    (m : ℕ) (packet : Named) : Type 0 where
  pub before : Cookie
  pub own : Cookie
  pub is : packet ≡ way.next before own
  pub names : Comes (leg_of way (suc (suc m))) own
  pub follows : Comes (leg_of way (suc m)) before ⊎ ((m ≡ 0) × Early (leg_of way 1))

abbrev pub Begins : Direction → (Leg → Cookie → Type 0) → (Leg → Type 0) → ℕ → Named → Type 0
Begins way Comes Early zero packet = Opens way Comes packet
Begins way Comes Early (suc m) packet = Succeeds way Comes Early m packet

abbrev pub IsPacket : (Named → Type 0) → Message → Type 0
IsPacket Is (Text bytes) = ⊥
IsPacket Is (Pdu pdu) = ⊥
IsPacket Is (Packet packet) = Is packet

-- a request, then the packet that begins the channel, and then the rest, as far as they were put
-- (MS-RPCH 2.1.2, 2.2.4)
abbrev pub IsBegun : List ℕ → (Named → Type 0) → (List Message → Type 0) → List Message → Type 0
IsBegun request Begin Rest [] = Unit {0}
IsBegun request Begin Rest (text ∷ []) = text ≡ Text request
IsBegun request Begin Rest (text ∷ first ∷ rest) =
    (text ≡ Text request) × IsPacket Begin first × Rest rest

-- nothing stands on a leg of number 0
abbrev pub IsChannel : Direction → (Leg → Cookie → Type 0) → (Leg → Type 0) → ℕ → List Message
    → Type 0
IsChannel way Comes Early zero messages = messages ≡ []
IsChannel way Comes Early (suc n) messages =
    IsBegun (way.request n) (Begins way Comes Early n) (way.Rest n) messages

-- ---- IN channels

-- the packets behind CONN/B1 or IN_R1/A1: acknowledgements to the out proxy, OUT_R1/A7 to the
-- server, END/A1, IN_R1/A5 with the successor's cookie, and Pings (MS-RPCH 3.2.1, 3.2.2)
abbrev pub IsBehindPacket : (Cookie → Type 0) → Named → Type 0
IsBehindPacket IsNext (AckTo to received available cookie) = to ≡ TO_OUT_PROXY
IsBehindPacket IsNext (OutR1A7 to successor) = to ≡ TO_SERVER
IsBehindPacket IsNext EndA1 = Unit {0}
IsBehindPacket IsNext (InR1A5 successor) = IsNext successor
IsBehindPacket IsNext Ping = Unit {0}
IsBehindPacket IsNext packet = ⊥

-- and RPC PDUs
abbrev pub IsBehind : (Cookie → Type 0) → Message → Type 0
IsBehind IsNext (Text bytes) = ⊥
IsBehind IsNext (Pdu pdu) = Unit {0}
IsBehind IsNext (Packet packet) = IsBehindPacket IsNext packet

abbrev pub in_way : ClientConfig → (Leg → Cookie → Type 0) → Direction
in_way config Comes = record {
  kind = ClientIn;
  request = λ n. in_request config;
  first = λ own.
      ConnB1 PROTOCOL_VERSION config.connection own config.lifetime config.keepalive config.group;
  next = λ before own. InR1A1 PROTOCOL_VERSION config.connection before own;
  Rest = λ n messages. AllByRecursion (IsBehind (Comes (ci (suc (suc n))))) messages;
}

-- ---- OUT channels

abbrev pub out_length : ℕ → ℕ
out_length zero = CONN_A1_LEN
out_length (suc n) = OUT_R1_A3_C1_LEN

-- nothing behind CONN/A1; OUT_R2/C1 behind OUT_R1/A3
abbrev pub OutRest : ℕ → List Message → Type 0
OutRest zero messages = messages ≡ []
OutRest (suc n) messages = (messages ≡ []) ⊎ (messages ≡ Packet OutR2C1 ∷ [])

abbrev pub out_way : ClientConfig → Direction
out_way config = record {
  kind = ClientOut;
  request = λ n. out_request config (out_length n);
  first = λ own. ConnA1 PROTOCOL_VERSION config.connection own config.window;
  next = λ before own. OutR1A3 PROTOCOL_VERSION config.connection before own config.window;
  Rest = OutRest;
}

-- ---- a client that was opened early

-- CONN/C2 came on the first OUT channel (MS-RPCH 3.2.2.5)
pub record HasOpened (came : List OnLeg) : Type 0 where
  pub version : ℕ
  pub window : ℕ
  pub timeout : ℕ
  pub has : Has (ConnC2 version window timeout) (of_leg (co 1) came)

-- it had come behind the first of the moves, when nothing was put on the leg yet
pub record OpenedBefore (config : ClientConfig) (moves : List EndMove) (leg : Leg)
    : Type 0 where
  pub past : List EndMove
  pub later : List EndMove
  pub front : moves ≡ past ++ later
  pub opened : HasOpened (client_moved config past).passage.came
  pub none : of_leg leg (client_moved config past).passage.put ≡ []

-- ---- what it switches to

-- each OUT_R1/A7 names the cookie with which the next OUT channel came up; the current channel is
-- of this number before them
abbrev pub SwitchesFrom : (Leg → Cookie → Type 0) → ℕ → List Message → Type 0
SwitchesFrom Comes current [] = Unit {0}
SwitchesFrom Comes current (Packet (OutR1A7 to successor) ∷ messages) =
    Comes (co (suc current)) successor × SwitchesFrom Comes (suc current) messages
SwitchesFrom Comes current (message ∷ messages) = SwitchesFrom Comes current messages

-- ---- the laws

abbrev pub OpensInChannels : ClientConfig → List EndMove → Type 0
OpensInChannels config moves =
    (n : ℕ) → IsChannel (in_way config (HasComeUp moves)) (HasComeUp moves)
    (OpenedBefore config moves) n (of_leg (ci n) (client_moved config moves).passage.put)

abbrev pub OpensOutChannels : ClientConfig → List EndMove → Type 0
OpensOutChannels config moves =
    (n : ℕ) → IsChannel (out_way config) (HasComeUp moves) (OpenedBefore config moves) n
    (of_leg (co n) (client_moved config moves).passage.put)

abbrev pub SwitchesInOrder : ClientConfig → List EndMove → Type 0
SwitchesInOrder config moves =
    SwitchesFrom (HasComeUp moves) 1
    (of_kind ClientIn (client_moved config moves).passage.put)
