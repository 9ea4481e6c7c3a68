-- what an in proxy puts on its is leg, in order and for what came on its ci legs (MS-RPCH 2.2.4,
-- 3.2.3; several ci legs over one is leg are this profile's)
use Rattle.std.specs.Prelude.{ℕ, suc, ◌≡◌, ◌≤◌, ◌⊎◌, List, [], ◌∷◌, true}
use Rattle.std.specs.List.{AllByRecursion}
use Rattle.rh_rts.specs.declared.command.Cookie.{Cookie}
use Rattle.rh_rts.specs.declared.command.TheConstants.{TO_CLIENT, TO_OUT_PROXY, TO_SERVER}
use Rattle.rh_rts.specs.declared.command.Address4or16.TheVariants.{V4}
use Rattle.rh_sig.specs.declared.ranges.TheConstants.{PROTOCOL_VERSION}
use Rattle.rh_sig.specs.declared.named.Named.{Named}
use Rattle.rh_sig.specs.declared.named.Named.TheVariants.{ConnB1, ConnB2, InR1A1, InR1A2, InR1A5, InR1A6, InR2A2, OutR1A7, OutR1A8, EndA2, AckTo, Ping}
use Rattle.rh_line.specs.declared.leg.Leg.{Leg}
use Rattle.rh_line.specs.declared.leg.LegKind.TheVariants.{ClientIn, InServer}
use Rattle.rh_shell.specs.Rules.{Rules, Message, Text, Pdu, Packet}
use Rattle.rh_inproxy.specs.declared.state.InProxyConfig.{InProxyConfig}
use Rattle.rh_inproxy.specs.State.{InProxy}
use Rattle.law_moves.specs.Moves.{OnLeg, Move, Puts, Passage, moved}
use Rattle.law_moves.specs.Wires.{of_leg}
use Rattle.law_moves.specs.Passages.Passing.{BeginsIn, HasOne}

-- ---- what came

abbrev pub ci : ℕ → Leg
ci n = record { kind = ClientIn; number = n }

abbrev pub is_leg : ℕ → Leg
is_leg n = record { kind = InServer; number = n }

-- CONN/B1 of this connection, channel and association group
abbrev pub Connects : Cookie → Cookie → Cookie → Named → Type 0
Connects connection channel group (ConnB1 version of own lifetime keepalive in_group) =
    (of ≡ connection) × (own ≡ channel) × (in_group ≡ group)
Connects connection channel group packet = ⊥

-- IN_R1/A1 of this connection, predecessor and successor
abbrev pub Replaces : Cookie → Cookie → Cookie → Named → Type 0
Replaces connection predecessor successor (InR1A1 version of before own) =
    (of ≡ connection) × (before ≡ predecessor) × (own ≡ successor)
Replaces connection predecessor successor packet = ⊥

-- IN_R1/A1 of this successor
abbrev pub Joins : Cookie → Named → Type 0
Joins successor (InR1A1 version of before own) = own ≡ successor
Joins successor packet = ⊥

-- IN_R1/A5 with this successor
abbrev pub Leaves : Cookie → Named → Type 0
Leaves successor (InR1A5 other) = other ≡ successor
Leaves successor packet = ⊥

-- OUT_R1/A7 to the server, with this successor
abbrev pub Switches : Cookie → Named → Type 0
Switches successor (OutR1A7 to other) = (to ≡ TO_SERVER) × (other ≡ successor)
Switches successor packet = ⊥

-- an acknowledgement to the out proxy
abbrev pub Acknowledges : ℕ → ℕ → Cookie → Named → Type 0
Acknowledges received available channel (AckTo to bytes window of) =
    (to ≡ TO_OUT_PROXY) × (bytes ≡ received) × (window ≡ available) × (of ≡ channel)
Acknowledges received available channel packet = ⊥

-- such a packet came on the ci leg of this number
abbrev pub CameOn : ℕ → (Named → Type 0) → List OnLeg → Type 0
CameOn n Is came = HasOne Is (of_leg (ci n) came)

-- on some ci leg
abbrev pub Came : (Named → Type 0) → List OnLeg → Type 0
Came Is came = (n : ℕ) × CameOn n Is came

abbrev pub IsPacket : (Named → Type 0) → Message → Type 0
IsPacket Is (Text bytes) = ⊥
IsPacket Is (Pdu pdu) = ⊥
IsPacket Is (Packet packet) = Is packet

abbrev pub IsFront : (Named → Type 0) → List Message → Type 0
IsFront Is [] = ⊥
IsFront Is (message ∷ messages) = IsPacket Is message

-- it was the first that came there
abbrev pub CameFirst : ℕ → (Named → Type 0) → List OnLeg → Type 0
CameFirst n Is came = IsFront Is (of_leg (ci n) came)

-- an RPC PDU is among them
abbrev pub HasPdu : List ℕ → List Message → Type 0
HasPdu pdu [] = ⊥
HasPdu pdu (message ∷ messages) = (message ≡ Pdu pdu) ⊎ HasPdu pdu messages

-- ---- what is put

-- CONN/B2 with what CONN/B1 told, which came first on the lowest ci leg, or IN_R1/A2 with what
-- IN_R1/A1 told there; and the own window and timeout
abbrev pub IsFirst : InProxyConfig → List OnLeg → Named → Type 0
IsFirst config came (ConnB2 version connection channel window timeout group address padding) =
    (version ≡ PROTOCOL_VERSION) × (window ≡ config.window) × (timeout ≡ config.timeout)
    × (address ≡ V4 config.address)
    × CameFirst config.number (Connects connection channel group) came
IsFirst config came (InR1A2 version connection predecessor successor window timeout) =
    (version ≡ PROTOCOL_VERSION) × (window ≡ config.window) × (timeout ≡ config.timeout)
    × CameFirst config.number (Replaces connection predecessor successor) came
IsFirst config came packet = ⊥

-- an acknowledgement of a channel that began on a ci leg, or one that came for the out proxy;
-- OUT_R1/A8 for OUT_R1/A7; END/A2; a Ping
abbrev pub IsPlainPacket : List OnLeg → Named → Type 0
IsPlainPacket came (AckTo to received available channel) =
    ((to ≡ TO_CLIENT) × Came (BeginsIn channel) came)
    ⊎ ((to ≡ TO_OUT_PROXY) × Came (Acknowledges received available channel) came)
IsPlainPacket came (OutR1A8 to successor) = (to ≡ TO_SERVER) × Came (Switches successor) came
IsPlainPacket came EndA2 = Unit {0}
IsPlainPacket came Ping = Unit {0}
IsPlainPacket came packet = ⊥

-- or an RPC PDU that came on ci leg n or one before it
abbrev pub IsPlain : List OnLeg → ℕ → Message → Type 0
IsPlain came n (Text bytes) = ⊥
IsPlain came n (Pdu pdu) = (k : ℕ) × (k ≤ n) × HasPdu pdu (of_leg (ci k) came)
IsPlain came n (Packet packet) = IsPlainPacket came packet

abbrev pub IsPing : Message → Type 0
IsPing message = message ≡ Packet Ping

-- behind the first packet: the channel of ci leg n was the last that the server was told. IN_R2/A2
-- tells it that of the next ci leg, with the successor of the IN_R1/A1 that came there. IN_R1/A6
-- has the successor of an IN_R1/A5 that came on the last one, and only Pings stand behind it
abbrev pub IsRest : List OnLeg → ℕ → List Message → Type 0
IsRest came n [] = Unit {0}
IsRest came n (Packet (InR2A2 successor) ∷ messages) =
    CameOn (suc n) (Joins successor) came × IsRest came (suc n) messages
IsRest came n (Packet (InR1A6 successor) ∷ messages) =
    CameOn n (Leaves successor) came × AllByRecursion IsPing messages
IsRest came n (message ∷ messages) = IsPlain came n message × IsRest came n messages

-- what is put on the is leg, as far as it was put
abbrev pub IsStream : InProxyConfig → List OnLeg → List Message → Type 0
IsStream config came [] = Unit {0}
IsStream config came (first ∷ rest) =
    IsPacket (IsFirst config came) first × IsRest came config.number rest

-- ---- moves

-- a message is put only on a leg that is up
abbrev pub IsPutUp : {S : Type 0} → Rules S → S → Move → Type 0
IsPutUp rules s (Puts leg) = rules.was_up s leg ≡ true
IsPutUp rules s move = Unit {0}

abbrev pub ArePutUp : {S : Type 0} → Rules S → Passage S → List Move → Type 0
ArePutUp rules p [] = Unit {0}
ArePutUp rules p (move ∷ moves) =
    IsPutUp rules p.role move × ArePutUp rules (moved rules p move) moves

-- ---- the law

abbrev pub PutsInOrder : InProxyConfig → Passage InProxy → Type 0
PutsInOrder config p =
    IsStream config p.came (of_leg (is_leg config.number) p.put)
