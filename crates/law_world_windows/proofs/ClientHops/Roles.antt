-- what each role sees to on the hops between a client and its proxies (MS-RPCH 3.2.1)
use Rattle.law_order.proofs.Vocabulary.{◌≡◌, ◌⊎◌, ℕ, ◌+◌, ◌<◌, ◌≤◌, List, length, Err}
use Rattle.rh_shell.specs.declared.answers.Refused.TheVariants as refused
use Rattle.rh_inproxy.specs.Machine as in_proxy
use Rattle.rh_outproxy.specs.Machine as out_proxy
use Rattle.rh_client.specs.Client as client
use Rattle.law_moves.proofs.Vocabulary.{WindowExceeded, GREATEST_WINDOW, Cookie, Named, AckTo, ConnB2, ConnC1, InR1A2, InR1A3, Leg, ClientIn, InServer, OutServer, Count, Message, EndMove, OnLeg, Passage, of_leg, pdu_bytes, Has, HasOn, HasOne, HasBegunIn, HasBegunOut, HasComeUp}
use Rattle.law_role_inproxy.proofs.Vocabulary.{InProxy}
use Rattle.law_role_client.proofs.Vocabulary.{ClientRole, ci, co}
use Rattle.law_role_server.proofs.Vocabulary.{Server}
use Rattle.law_role_outproxy.proofs.Vocabulary.{OutProxy, TellsWindow}
use Rattle.law_world_windows.specs.Hops.{is_leg, os_leg}
use Rattle.law_world_windows.specs.KeptAfar.{TellsClient}

-- ---- packets that tell a window

-- an in proxy's window: as it puts it, and as the server passes it on
abbrev pub TellsServer : ℕ → Named → Type 0
TellsServer edge (ConnB2 version connection channel window timeout group address padding) =
    window ≡ edge
TellsServer edge (InR1A2 version connection predecessor channel window timeout) = window ≡ edge
TellsServer edge packet = ⊥

abbrev pub TellsOutProxy : ℕ → Named → Type 0
TellsOutProxy edge (ConnC1 version window timeout) = window ≡ edge
TellsOutProxy edge (InR1A3 to version window timeout) = window ≡ edge
TellsOutProxy edge packet = ⊥

-- and the client's window, which opens an OUT channel
abbrev pub TellsProxy : ℕ → Named → Type 0
TellsProxy edge packet = TellsWindow packet edge

-- ---- acknowledgements with a destination

-- the leg that it is on, and what it says
pub record Acks (to : ℕ) (leg_of : ℕ → Leg) (log : List OnLeg) : Type 0 where
  pub number : ℕ
  pub received : ℕ
  pub available : ℕ
  pub cookie : Cookie
  pub has : Has (AckTo to received available cookie) (of_leg (leg_of number) log)

-- the client was told so much room for an IN channel of which this was put: by the window of an in
-- proxy, or by an acknowledgement for the channel
pub record AcksRoom (to : ℕ) (leg_of : ℕ → Leg) (Begun : Cookie → Type 0) (log : List OnLeg)
    (edge : ℕ) : Type 0 where
  pub ack : Acks to leg_of log
  pub begun : Begun ack.cookie
  pub is : ack.received + ack.available ≡ edge

abbrev pub IsToldIn : List Message → List OnLeg → ℕ → Type 0
IsToldIn put came edge =
    ((k : ℕ) × HasOne (TellsClient edge) (of_leg (co k) came))
    ⊎ AcksRoom 0 co (λ cookie. HasBegunIn cookie put) came edge

-- the same of an out proxy, by the client's window or its acknowledgement
abbrev pub IsToldOut : ℕ → List OnLeg → ℕ → Type 0
IsToldOut n came edge =
    HasOne (TellsProxy edge) (of_leg (co n) came)
    ⊎ ((ack : Acks 3 os_leg came) × HasBegunOut ack.cookie (of_leg (co n) came)
    × (ack.received + ack.available ≡ edge))

-- so many bytes are none, or within what was told
abbrev pub SendsWithin : (ℕ → Type 0) → ℕ → Type 0
SendsWithin Told sent = (sent ≡ 0) ⊎ ((edge : ℕ) × (sent ≤ edge) × Told edge)

-- of more than was sent, or of too great a window
abbrev pub IsFalse : ℕ → ℕ → ℕ → Type 0
IsFalse sent received available = (sent < received) ⊎ (GREATEST_WINDOW < available)

-- of what came on a leg where the channel began
pub record IsTrue (leg_of : ℕ → Leg) (Begun : ℕ → Type 0) (log : List OnLeg)
    (received available : ℕ) : Type 0 where
  pub number : ℕ
  pub begun : Begun number
  pub came : received ≤ pdu_bytes (of_leg (leg_of number) log)
  pub window : available ≤ GREATEST_WINDOW

-- ---- the client

-- it sends on an IN channel as it was told, and refuses only false acknowledgements of one that
-- came up under their cookie
pub record ClientSends (moves : List EndMove) (p : Passage ClientRole) : Type 0 where
  pub sends : (n : ℕ)
      → SendsWithin (IsToldIn (of_leg (ci n) p.put) p.came) (pdu_bytes (of_leg (ci n) p.put))
  pub refuses : (k : ℕ) (count : Count) (named : Named) (command value : ℕ)
      → (client.rules.packet p.role (co k) count named).1
      ≡ Err (refused.OutOfRange command value)
      → (received : ℕ) × (available : ℕ) × (cookie : Cookie) × (n : ℕ)
      × (named ≡ AckTo 0 received available cookie) × HasComeUp moves (ci n) cookie
      × IsFalse (pdu_bytes (of_leg (ci n) p.put)) received available
  pub refuses_none : (k : ℕ) (count : Count) (pdu : List ℕ) (command value : ℕ)
      → (client.rules.pdu p.role (co k) count pdu).1 ≡ Err (refused.OutOfRange command value) → ⊥

-- it refuses a PDU of an OUT channel only where that ends behind all that it told, and acknowledges
-- what came
pub record ClientReceives (moves : List EndMove) (p : Passage ClientRole) : Type 0 where
  pub exceeded : (k : ℕ) (count : Count) (pdu : List ℕ) (exceeded : WindowExceeded)
      → (client.rules.pdu p.role (co k) count pdu).1 ≡ Err (refused.Window exceeded)
      → (edge : ℕ) → HasOne (TellsProxy edge) (of_leg (co k) p.put)
      → edge < pdu_bytes (of_leg (co k) p.came) + length pdu
  pub exceeded_ack : (k : ℕ) (count : Count) (pdu : List ℕ) (exceeded : WindowExceeded)
      → (client.rules.pdu p.role (co k) count pdu).1 ≡ Err (refused.Window exceeded)
      → (l received available : ℕ) (cookie : Cookie)
      → Has (AckTo 3 received available cookie) (of_leg (ci l) p.put)
      → HasComeUp moves (co k) cookie → ((j : ℕ) → HasComeUp moves (co j) cookie → j ≡ k)
      → received + available < pdu_bytes (of_leg (co k) p.came) + length pdu
  pub exceeded_none : (k : ℕ) (count : Count) (named : Named) (exceeded : WindowExceeded)
      → (client.rules.packet p.role (co k) count named).1 ≡ Err (refused.Window exceeded) → ⊥
  pub acks : (ack : Acks 3 ci p.put)
      → IsTrue co (λ k. HasComeUp moves (co k) ack.cookie) p.came ack.received
      ack.available

-- what begins on a leg has the cookie with which that came up
pub record ClientBegins (moves : List EndMove) (p : Passage ClientRole) : Type 0 where
  pub ins : (n : ℕ) (cookie : Cookie) → HasBegunIn cookie (of_leg (ci n) p.put)
      → HasComeUp moves (ci n) cookie
  pub outs : (n : ℕ) (cookie : Cookie) → HasBegunOut cookie (of_leg (co n) p.put)
      → HasComeUp moves (co n) cookie

-- no two legs of one direction came up under one cookie
pub record AreApart (moves : List EndMove) : Type 0 where
  pub ins : (cookie : Cookie) (l n : ℕ) → HasComeUp moves (ci l) cookie
      → HasComeUp moves (ci n) cookie → l ≡ n
  pub outs : (cookie : Cookie) (l n : ℕ) → HasComeUp moves (co l) cookie
      → HasComeUp moves (co n) cookie → l ≡ n

-- ---- an in proxy of this window and number

pub record InProxySees (window m : ℕ) (p : Passage InProxy) : Type 0 where
  -- it refuses a PDU of the client only where that ends behind all that it told
  pub exceeded : (n : ℕ) (count : Count) (pdu : List ℕ) (exceeded : WindowExceeded)
      → (in_proxy.rules.pdu p.role (ci n) count pdu).1 ≡ Err (refused.Window exceeded)
      → window < pdu_bytes (of_leg (ci n) p.came) + length pdu
  pub exceeded_ack : (n : ℕ) (count : Count) (pdu : List ℕ) (exceeded : WindowExceeded)
      → (in_proxy.rules.pdu p.role (ci n) count pdu).1 ≡ Err (refused.Window exceeded)
      → (received available : ℕ) (cookie : Cookie)
      → Has (AckTo 0 received available cookie) (of_leg (is_leg m) p.put)
      → HasBegunIn cookie (of_leg (ci n) p.came)
      → ((l : ℕ) → HasBegunIn cookie (of_leg (ci l) p.came) → l ≡ n)
      → received + available < pdu_bytes (of_leg (ci n) p.came) + length pdu
  pub exceeded_none : (n : ℕ) (count : Count) (named : Named) (exceeded : WindowExceeded)
      → (in_proxy.rules.packet p.role (ci n) count named).1 ≡ Err (refused.Window exceeded) → ⊥
  -- and no packet or PDU of it for its range
  pub ranges : (n : ℕ) (count : Count) (named : Named) (command value : ℕ)
      → (in_proxy.rules.packet p.role (ci n) count named).1
      ≡ Err (refused.OutOfRange command value) → ⊥
  pub ranges_none : (n : ℕ) (count : Count) (pdu : List ℕ) (command value : ℕ)
      → (in_proxy.rules.pdu p.role (ci n) count pdu).1 ≡ Err (refused.OutOfRange command value)
      → ⊥
  -- it acknowledges what came, passes the client's acknowledgements on, and tells its own window
  pub acks : (ack : Acks 0 is_leg p.put)
      → IsTrue ci (λ n. HasBegunIn ack.cookie (of_leg (ci n) p.came)) p.came ack.received
      ack.available
  pub passes : (n received available : ℕ) (cookie : Cookie)
      → Has (AckTo 3 received available cookie) (of_leg (is_leg n) p.put)
      → HasOn ClientIn (AckTo 3 received available cookie) p.came
  pub tells : (edge n : ℕ) → HasOne (TellsServer edge) (of_leg (is_leg n) p.put) → window ≡ edge

-- ---- a server, and an out proxy of this number

pub record ServerSees (p : Passage Server) : Type 0 where
  pub passes : (to n received available : ℕ) (cookie : Cookie)
      → Has (AckTo to received available cookie) (of_leg (os_leg n) p.put)
      → HasOn InServer (AckTo to received available cookie) p.came
  pub tells : (edge n : ℕ) → HasOne (TellsOutProxy edge) (of_leg (os_leg n) p.put)
      → (m : ℕ) × HasOne (TellsServer edge) (of_leg (is_leg m) p.came)

pub record OutProxySees (n : ℕ) (p : Passage OutProxy) : Type 0 where
  -- it sends to the client as it was told, and refuses only false acknowledgements
  pub sends : SendsWithin (IsToldOut n p.came) (pdu_bytes (of_leg (co n) p.put))
  pub refuses : (leg : Leg) (count : Count) (named : Named) (command value : ℕ)
      → (out_proxy.rules.packet p.role leg count named).1
      ≡ Err (refused.OutOfRange command value)
      → (leg ≡ os_leg n) × (received : ℕ) × (available : ℕ) × (cookie : Cookie)
      × (named ≡ AckTo 3 received available cookie)
      × HasBegunOut cookie (of_leg (co n) p.came)
      × IsFalse (pdu_bytes (of_leg (co n) p.put)) received available
  pub refuses_none : (leg : Leg) (count : Count) (pdu : List ℕ) (command value : ℕ)
      → (out_proxy.rules.pdu p.role leg count pdu).1 ≡ Err (refused.OutOfRange command value)
      → ⊥
  pub exceeded_none : (count : Count) (pdu : List ℕ) (exceeded : WindowExceeded)
      → (out_proxy.rules.pdu p.role (co n) count pdu).1 ≡ Err (refused.Window exceeded) → ⊥
  pub exceeded_no_packet : (count : Count) (named : Named) (exceeded : WindowExceeded)
      → (out_proxy.rules.packet p.role (co n) count named).1 ≡ Err (refused.Window exceeded) → ⊥
  -- it passes acknowledgements and windows on
  pub passes : (to k received available : ℕ) (cookie : Cookie)
      → Has (AckTo to received available cookie) (of_leg (co k) p.put)
      → HasOn OutServer (AckTo to received available cookie) p.came
  pub tells : (edge k : ℕ) → HasOne (TellsClient edge) (of_leg (co k) p.put)
      → (j : ℕ) × HasOne (TellsOutProxy edge) (of_leg (os_leg j) p.came)
