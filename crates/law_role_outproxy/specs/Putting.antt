-- what an out proxy puts on its legs, in order and with which contents (MS-RPCH 2.2.4, 3.2;
-- successors are this profile's)
use Rattle.std.specs.Prelude.{◌≡◌, ◌⊎◌, ◌+◌, List, [], ◌∷◌}
use Rattle.std.specs.List.{AllByRecursion}
use Rattle.rh_rts.specs.declared.command.Cookie.{Cookie}
use Rattle.rh_rts.specs.declared.command.TheConstants.{TO_CLIENT}
use Rattle.rh_sig.specs.declared.named.Named.{Named}
use Rattle.rh_sig.specs.declared.named.Named.TheVariants.{ConnA1, ConnA2, ConnA3, ConnC1, ConnC2, InR1A3, InR1A4, InR2A3, InR2A4, OutR1A1, OutR1A2, OutR1A3, OutR1A4, OutR1A5, OutR1A6, OutR1A10, EndB2, Ack, AckTo, Ping}
use Rattle.rh_sig.specs.declared.ranges.TheConstants.{PROTOCOL_VERSION}
use Rattle.rh_http.specs.Texts.{response_text}
use Rattle.rh_shell.specs.Rules.{Message, Text, Pdu, Packet}
use Rattle.rh_outproxy.specs.declared.state.OutProxyConfig.{OutProxyConfig}
use Rattle.rh_outproxy.specs.OutProxy.{OutProxy}
use Rattle.rh_outproxy.specs.Putting.{echo_text, ping_room}
use Rattle.law_moves.specs.Moves.{Passage}
use Rattle.law_moves.specs.Wires.{of_leg}
use Rattle.law_moves.specs.Passages.Passing.{Has, HasOne}
use Rattle.law_role_outproxy.specs.Counted.{co_leg, os_leg, NamesNew, NamesSuccessor}

-- ---- to the server

-- CONN/A2 or OUT_R1/A4 with the proxy's own numbers, for the channel of this cookie, which CONN/A1
-- or OUT_R1/A3 named (MS-RPCH 2.2.4)
abbrev pub OpensServer : OutProxyConfig → List Message → Cookie → Named → Type 0
OpensServer config came cookie (ConnA2 version connection channel lifetime window) =
    (version ≡ PROTOCOL_VERSION) × (channel ≡ cookie) × (lifetime ≡ config.lifetime)
    × (window ≡ config.window) × HasOne (NamesNew connection channel) came
OpensServer config came cookie
    (OutR1A4 version connection predecessor successor lifetime window timeout) =
    (version ≡ PROTOCOL_VERSION) × (successor ≡ cookie) × (lifetime ≡ config.lifetime)
    × (window ≡ config.window) × (timeout ≡ config.timeout)
    × HasOne (NamesSuccessor connection predecessor successor) came
OpensServer config came cookie packet = ⊥

-- an acknowledgement for the channel (MS-RPCH 3.2.1)
abbrev pub AcksPacket : Cookie → Named → Type 0
AcksPacket cookie (Ack received available channel) = channel ≡ cookie
AcksPacket cookie packet = ⊥

abbrev pub IsAck : Cookie → Message → Type 0
IsAck cookie (Text bytes) = ⊥
IsAck cookie (Pdu pdu) = ⊥
IsAck cookie (Packet packet) = AcksPacket cookie packet

-- the packet that opens the channel, and behind it acknowledgements alone
pub record BeginsServer (config : OutProxyConfig) (came : List Message) (first : Message)
    (rest : List Message) : Type 0 where
  pub packet : Named
  pub is : first ≡ Packet packet
  pub cookie : Cookie
  pub opens : OpensServer config came cookie packet
  pub acks : AllByRecursion (IsAck cookie) rest

-- as far as they were put
abbrev pub IsToServer : OutProxyConfig → List Message → List Message → Type 0
IsToServer config came [] = Unit {0}
IsToServer config came (first ∷ rest) = BeginsServer config came first rest

abbrev pub PutsToServer : OutProxyConfig → Passage OutProxy → Type 0
PutsToServer config p =
    IsToServer config (of_leg (co_leg config.number) p.came)
    (of_leg (os_leg config.number) p.put)

-- ---- to the client: what goes first

-- the OUT response (MS-RPCH 2.1.2)
abbrev pub response : OutProxyConfig → Message
response config = Text (response_text (config.lifetime + ping_room))

-- which packet came first from the client
abbrev pub OpensNew : Named → Type 0
OpensNew (ConnA1 version connection channel window) = Unit {0}
OpensNew packet = ⊥

abbrev pub OpensSuccessor : Named → Type 0
OpensSuccessor (OutR1A3 version connection predecessor successor window) = Unit {0}
OpensSuccessor packet = ⊥

-- the answer to an echo request, and nothing else (MS-RPCH 2.1.2)
abbrev pub IsEcho : List Message → Type 0
IsEcho [] = Unit {0}
IsEcho (text ∷ []) = text ≡ Text echo_text
IsEcho (text ∷ other ∷ rest) = ⊥

-- ---- to the client: what passes the channel once it is open

-- what came for the client from the server, with destination 0, is passed on; END/B2, OUT_R1/A10
-- and Pings are the proxy's (MS-RPCH 2.2.4; replacement and the end are this profile's)
abbrev pub PassesPacket : List Message → Named → Type 0
PassesPacket came (InR1A4 to version window timeout) =
    (to ≡ TO_CLIENT) × Has (InR1A3 to version window timeout) came
PassesPacket came (InR2A4 to) = (to ≡ TO_CLIENT) × Has (InR2A3 to) came
PassesPacket came (OutR1A2 to) = (to ≡ TO_CLIENT) × Has (OutR1A1 to) came
PassesPacket came (OutR1A6 to version timeout) =
    (to ≡ TO_CLIENT) × Has (OutR1A5 to version timeout) came
PassesPacket came (AckTo to received available channel) =
    (to ≡ TO_CLIENT) × Has (AckTo to received available channel) came
PassesPacket came EndB2 = Unit {0}
PassesPacket came OutR1A10 = Unit {0}
PassesPacket came Ping = Unit {0}
PassesPacket came packet = ⊥

-- and RPC PDUs
abbrev pub IsPassed : List Message → Message → Type 0
IsPassed came (Text bytes) = ⊥
IsPassed came (Pdu pdu) = Unit {0}
IsPassed came (Packet packet) = PassesPacket came packet

-- ---- to the client: a new channel

-- CONN/C2 is the CONN/C1 that came (MS-RPCH 2.2.4)
abbrev pub OpensClient : List Message → Named → Type 0
OpensClient came (ConnC2 version window timeout) = Has (ConnC1 version window timeout) came
OpensClient came packet = ⊥

-- Pings, then CONN/C2, and then what passes
abbrev pub IsOpening : List Message → List Message → Type 0
IsOpening came [] = Unit {0}
IsOpening came (Text bytes ∷ rest) = ⊥
IsOpening came (Pdu pdu ∷ rest) = ⊥
IsOpening came (Packet packet ∷ rest) =
    ((packet ≡ Ping) × IsOpening came rest)
    ⊎ (OpensClient came packet × AllByRecursion (IsPassed came) rest)

-- the response, CONN/A3 with the timeout, and that, as far as they were put
abbrev pub IsNew : OutProxyConfig → List Message → List Message → Type 0
IsNew config came [] = Unit {0}
IsNew config came (text ∷ []) = text ≡ response config
IsNew config came (text ∷ first ∷ rest) =
    (text ≡ response config) × (first ≡ Packet (ConnA3 config.timeout)) × IsOpening came rest

-- ---- to the client: a successor

-- the response, and then what passes
abbrev pub IsSuccessor : OutProxyConfig → List Message → List Message → Type 0
IsSuccessor config came [] = Unit {0}
IsSuccessor config came (text ∷ rest) =
    (text ≡ response config) × AllByRecursion (IsPassed came) rest

-- by what came first from the client
abbrev pub IsToClient : OutProxyConfig → List Message → List Message → List Message → Type 0
IsToClient config asked came put =
    IsEcho put ⊎ ((HasOne OpensNew asked × IsNew config came put)
    ⊎ (HasOne OpensSuccessor asked × IsSuccessor config came put))

abbrev pub PutsToClient : OutProxyConfig → Passage OutProxy → Type 0
PutsToClient config p =
    IsToClient config (of_leg (co_leg config.number) p.came)
    (of_leg (os_leg config.number) p.came) (of_leg (co_leg config.number) p.put)
