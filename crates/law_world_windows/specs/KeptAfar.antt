-- what holds of the hops of a client at each moment: of its leg of each IN channel, to the in proxy
-- that reads it, and of each out proxy, to the client. What a receiver tells there passes other
-- nodes (MS-RPCH 3.2, 3.2.1)
use Rattle.std.specs.Prelude.{◌≡◌, ◌⊎◌, ℕ, ◌+◌, ◌-◌, ◌≤◌}
use Rattle.rh_rts.specs.declared.command.Cookie.{Cookie}
use Rattle.rh_rts.specs.declared.command.TheConstants.{TO_CLIENT, TO_OUT_PROXY}
use Rattle.rh_sig.specs.declared.named.Named.{Named}
use Rattle.rh_sig.specs.declared.named.Named.TheVariants.{ConnC2, InR1A4, AckTo}
use Rattle.rh_line.specs.declared.leg.LegKind.TheVariants.{ClientIn, ClientOut, OutServer}
use Rattle.rh_inproxy.specs.State.{InProxy}
use Rattle.rh_outproxy.specs.OutProxy.{OutProxy}
use Rattle.rh_client.specs.State.{ci, co}
use Rattle.rh_client.specs.declared.state.ClientRole.{ClientRole}
use Rattle.rh_server.specs.States.{Server}
use Rattle.rh_wires.specs.Readers.{reader_of}
use Rattle.rh_nodes.specs.Opening.{Makers}
use Rattle.rh_nodes.specs.World.{World}
use Rattle.law_moves.specs.Moves.{Passage}
use Rattle.law_moves.specs.Passages.Passing.{pdu_bytes, Has, HasOn, HasOne, HasBegunIn, HasBegunOut}
use Rattle.law_moves.specs.Wires.{of_leg}
use Rattle.law_node_history.specs.Histories.{History}
use Rattle.law_role_outproxy.specs.Sending.{TellsWindow}
use Rattle.law_role_windows.specs.Room.{held_by_client, held_by_in_proxy}
use Rattle.law_node_traces.specs.Traced.Ours.{AreOurs}
use Rattle.law_world_order.specs.Flows.{IsFlowing, numbers_of}
use Rattle.law_world_windows.specs.Hops.{is_leg}

-- ---- such a hop

-- so many bytes are none, or within an edge that is so
abbrev pub IsUpTo : (ℕ → Type 0) → ℕ → Type 0
IsUpTo Is bytes = (bytes ≡ 0) ⊎ ((edge : ℕ) × (bytes ≤ edge) × Is edge)

-- up to where the receiver told that may be sent: by the window with which the channel opens, or by
-- the end of the room of an acknowledgement
abbrev pub IsTold : (ℕ → Type 0) → (ℕ → ℕ → Type 0) → ℕ → Type 0
IsTold Opens Acks edge =
    Opens edge ⊎ ((received : ℕ) × (available : ℕ) × Acks received available
    × (edge ≡ received + available))

-- what arrived is at most what was put, that is none or at most an edge that the sender knows, each
-- of those was told by the receiver, and each that this told is at most what it passed on and its
-- window of this size; and each acknowledgement that it put, so each on its way, is of what arrived
pub record IsKeptAfar (size holds arrived put : ℕ) (Knows Opens : ℕ → Type 0)
    (Acks : ℕ → ℕ → Type 0) : Type 0 where
  pub came : arrived ≤ put
  pub within : IsUpTo Knows put
  pub known : (edge : ℕ) → Knows edge → IsTold Opens Acks edge
  pub held : holds ≤ arrived
  pub opened : (edge : ℕ) → Opens edge → edge ≤ (arrived - holds) + size
  pub acked : (received available : ℕ) → Acks received available
      → (received ≤ arrived) × (received + available ≤ (arrived - holds) + size)

-- ---- an IN channel, by the number of its leg

-- an in proxy's window, as it comes to the client
abbrev pub TellsClient : ℕ → Named → Type 0
TellsClient edge (ConnC2 version window timeout) = window ≡ edge
TellsClient edge (InR1A4 to version window timeout) = window ≡ edge
TellsClient edge packet = ⊥

-- what came to the client tells this edge, by an in proxy's window or by an acknowledgement whose
-- cookie is of a channel that it began on the leg
abbrev pub KnowsIn : ℕ → Passage ClientRole → ℕ → Type 0
KnowsIn n client edge =
    ((k : ℕ) × HasOne (TellsClient edge) (of_leg (co k) client.came))
    ⊎ ((received : ℕ) × (available : ℕ) × (cookie : Cookie)
    × HasOn ClientOut (AckTo TO_CLIENT received available cookie) client.came
    × HasBegunIn cookie (of_leg (ci n) client.put) × (edge ≡ received + available))

-- in proxy m put an acknowledgement for the channel that began on the leg
abbrev pub AcksIn : ℕ → ℕ → Passage InProxy → ℕ → ℕ → Type 0
AcksIn m n proxy received available =
    (cookie : Cookie)
    × Has (AckTo TO_CLIENT received available cookie) (of_leg (is_leg m) proxy.put)
    × HasBegunIn cookie (of_leg (ci n) proxy.came)

abbrev pub InIsKept : ℕ → ℕ → ℕ → Passage ClientRole → Passage InProxy → Type 0
InIsKept size m n client proxy =
    IsKeptAfar size (held_by_in_proxy n proxy.role) (pdu_bytes (of_leg (ci n) proxy.came))
    (pdu_bytes (of_leg (ci n) client.put)) (KnowsIn n client) (λ edge. edge ≡ size)
    (AcksIn m n proxy)

-- ---- an OUT channel, by the number of its leg and out proxy

-- what came to the out proxy tells this edge, by the client's window that opens the channel or by
-- an acknowledgement whose cookie is of a channel that began there
abbrev pub KnowsOut : ℕ → Passage OutProxy → ℕ → Type 0
KnowsOut n proxy edge =
    HasOne (λ packet. TellsWindow packet edge) (of_leg (co n) proxy.came)
    ⊎ ((received : ℕ) × (available : ℕ) × (cookie : Cookie)
    × HasOn OutServer (AckTo TO_OUT_PROXY received available cookie) proxy.came
    × HasBegunOut cookie (of_leg (co n) proxy.came) × (edge ≡ received + available))

-- the client put the window that opens the channel, and an acknowledgement for it
abbrev pub OpensOut : ℕ → Passage ClientRole → ℕ → Type 0
OpensOut n client edge = HasOne (λ packet. TellsWindow packet edge) (of_leg (co n) client.put)

abbrev pub AcksOut : ℕ → Passage ClientRole → ℕ → ℕ → Type 0
AcksOut n client received available =
    (cookie : Cookie) × HasOn ClientIn (AckTo TO_OUT_PROXY received available cookie) client.put
    × HasBegunOut cookie (of_leg (co n) client.put)

abbrev pub OutIsKept : ℕ → ℕ → Passage OutProxy → Passage ClientRole → Type 0
OutIsKept size n proxy client =
    IsKeptAfar size (held_by_client n client.role) (pdu_bytes (of_leg (co n) client.came))
    (pdu_bytes (of_leg (co n) proxy.put)) (KnowsOut n proxy) (OpensOut n client)
    (AcksOut n client)

-- ---- all of them

pub record ClientHopsAreKept {K : Type 0} (m : Makers K InProxy OutProxy)
    (w : World K ClientRole Server InProxy OutProxy) (ours : AreOurs m w.company w.cast)
    (v : World K ClientRole Server InProxy OutProxy) (h : History)
    (flowing : IsFlowing (numbers_of ours) w v h) : Type 0 where
  pub up : (n : ℕ)
      → InIsKept (ours.in_config (reader_of v.readers n)).window (reader_of v.readers n) n
      flowing.flows.client.passage.passage (flowing.flows.ins (reader_of v.readers n)).passage
  pub down : (n : ℕ) → OutIsKept ours.config.window n (flowing.flows.outs n).passage
      flowing.flows.client.passage.passage
