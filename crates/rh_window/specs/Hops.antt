-- one hop of a channel: the side that sends, the side that receives, and the acknowledgements
-- between them (MS-RPCH 3.2)
use Rattle.std.specs.Prelude.{ℕ, ◌≡◌, ◌+◌, ◌^◌, ◌<◌, ◌≤◌, ◌++◌, List, [], ◌∷◌, IsTrue, Some}
use Rattle.std.specs.List.{Contains}
use Rattle.rh_window.specs.Sides.{Sender, Receiver, IsSender, IsReceiver}
use Rattle.rh_window.specs.Sending.{unsent, may_send, after_sent, after_acked}
use Rattle.rh_window.specs.Receiving.{after_tell, after_admit, after_release, edge_of, due, after_told}
use Rattle.rh_window.specs.declared.recv_window.Ack.{Ack}

-- the two sides, and the acknowledgements that are on their way
pub record Hop : Type 0 where
  pub sender : Sender
  pub receiver : Receiver
  pub acks : List Ack

-- it acknowledges what was sent, and tells no more than was told
pub record IsOnItsWay (h : Hop) (ack : Ack) : Type 0 where
  pub sent : ack.received ≤ h.sender.sent
  pub told : ack.received + ack.available ≤ h.receiver.told
  pub within : ack.available ≤ h.receiver.size

-- received ≤ sent ≤ edge ≤ told ≤ released + size, and released ≤ received
pub record IsHop (h : Hop) : Type 0 where
  pub sender : IsSender h.sender
  pub receiver : IsReceiver h.receiver
  pub received : h.receiver.received ≤ h.sender.sent
  pub edge : h.sender.edge ≤ h.receiver.told
  pub acks : (ack : Ack) → Contains h.acks ack → IsOnItsWay h ack

-- a channel begins: the sender knows of no window
abbrev pub begun : Receiver → Hop
begun receiver = record { sender = unsent 0; receiver = receiver; acks = [] }

-- ---- what happens on a hop

pub data Event : Type 0 where
  -- the sender is told the size of the window
  Learns : Event
  -- it sends a PDU of so many bytes
  Sends : ℕ → Event
  -- an acknowledgement comes, which may be older than others that came
  Hears : Ack → Event
  -- a window that was shut is told
  Opens : Event
  -- a PDU of so many bytes comes
  Admits : ℕ → Event
  -- a PDU of so many bytes is passed on
  Releases : ℕ → Event
  -- the acknowledgement that is due is told, and is on its way
  Tells : Ack → Event
  -- these alone are still on their way: others came, were merged or were lost
  Leaves : List Ack → Event

-- when it can happen: each side keeps its own rule, and nothing comes that was not sent
abbrev pub CanHappen : Hop → Event → Type 0
CanHappen h Learns = (h.sender.sent ≡ 0) × (0 < h.receiver.told)
CanHappen h (Sends len) = IsTrue (may_send h.sender len)
CanHappen h (Hears ack) = Contains h.acks ack
CanHappen h Opens = h.receiver.told ≡ 0
CanHappen h (Admits len) = h.receiver.received + len ≤ h.sender.sent
CanHappen h (Releases len) = h.receiver.released + len ≤ h.receiver.received
CanHappen h (Tells ack) = due h.receiver ≡ Some ack
CanHappen h (Leaves acks) = (ack : Ack) → Contains acks ack → Contains h.acks ack

abbrev pub after : Hop → Event → Hop
after h Learns = record h { sender = unsent h.receiver.size }
after h (Sends len) = record h { sender = after_sent h.sender len }
after h (Hears ack) = record h { sender = after_acked h.sender ack.received ack.available }
after h Opens = record h { receiver = after_tell h.receiver }
after h (Admits len) = record h { receiver = after_admit h.receiver len }
after h (Releases len) = record h { receiver = after_release h.receiver len }
after h (Tells ack) = record h { receiver = after_told h.receiver ack; acks = h.acks ++ ack ∷ [] }
after h (Leaves acks) = record h { acks = acks }

abbrev pub CanRun : Hop → List Event → Type 0
CanRun h [] = Unit {0}
CanRun h (event ∷ events) = CanHappen h event × CanRun (after h event) events

abbrev pub run : Hop → List Event → Hop
run h [] = h
run h (event ∷ events) = run (after h event) events

-- nothing that was counted or told is taken back
pub record Rises (old new : Hop) : Type 0 where
  pub sent : old.sender.sent ≤ new.sender.sent
  pub edge : old.sender.edge ≤ new.sender.edge
  pub received : old.receiver.received ≤ new.receiver.received
  pub released : old.receiver.released ≤ new.receiver.released
  pub told : old.receiver.told ≤ new.receiver.told

-- ---- what the sender is to know

-- an acknowledgement among these tells at least this edge
abbrev pub IsToldBy : List Ack → ℕ → Type 0
IsToldBy acks edge = (ack : Ack) × Contains acks ack × (edge ≤ ack.received + ack.available)

-- something was told, and where the sender knows of less than all of it, an acknowledgement that
-- tells all is on its way
pub record IsAnnounced (h : Hop) : Type 0 where
  pub opened : 0 < h.receiver.told
  pub coming : h.sender.edge < h.receiver.told → IsToldBy h.acks h.receiver.told

-- an acknowledgement that would tell the sender more is lost only where another that tells as much
-- is left
abbrev pub LosesNone : Hop → Event → Type 0
LosesNone h (Leaves acks) =
    (ack : Ack) → Contains h.acks ack → h.sender.edge < ack.received + ack.available
    → IsToldBy acks (ack.received + ack.available)
LosesNone h event = Unit {0}

-- all that was sent came and was passed on, the sender knows all that was told, and the edge of the
-- window is in 32 bits
pub record IsDrained (h : Hop) : Type 0 where
  pub opened : 0 < h.receiver.told
  pub received : h.receiver.received ≡ h.sender.sent
  pub released : h.receiver.released ≡ h.sender.sent
  pub known : h.sender.edge ≡ h.receiver.told
  pub fits : edge_of h.receiver < 2 ^ 32

-- nothing was sent, so nothing came, and the sender knows of no room
pub record IsUnused (h : Hop) : Type 0 where
  pub sent : h.sender.sent ≡ 0
  pub edge : h.sender.edge ≡ 0
  pub received : h.receiver.received ≡ 0
