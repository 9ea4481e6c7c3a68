-- hops over which all went that was sent, and whose senders know what was told (MS-RPCH 3.2)
use Rattle.std.specs.Prelude.{◌≡◌, ◌^◌, ◌<◌, ◌≤◌, [], List, ℕ, IfSome, None, false}
use Rattle.rh_window.specs.declared.range.TheConstants.{LEAST_WINDOW}
use Rattle.rh_window.specs.Receiving.{due, edge_of}
use Rattle.rh_window.specs.Sending.{may_send}
use Rattle.rh_window.specs.Sides.{Receiver, Sender}
use Rattle.rh_line.specs.Lines.{Incoming, IsIncoming}
use Rattle.rh_line.specs.Queue.{front_length}

-- all that was sent came, and the sender may send up to where the receiver told; the window was
-- told, and its edge is in 32 bits
pub record IsKnown (s : Sender) (r : Receiver) : Type 0 where
  pub opened : 0 < r.told
  pub came : r.received ≡ s.sent
  pub told : r.told ≤ s.edge
  pub fits : edge_of r < 2 ^ 32

-- the receiver holds nothing of the channel besides, and no acknowledgement is due
pub record IsDrained (s : Sender) (c : Incoming) : Type 0 where
  pub sound : IsIncoming c
  pub empty : c.pdus ≡ []
  pub known : IsKnown s c.window
  pub none : due c.window ≡ None

-- the first of some PDUs would end behind the edge
abbrev pub WaitsForWindow : Sender → List (List ℕ) → Type 0
WaitsForWindow s pdus = IfSome (front_length pdus) (λ len. may_send s len ≡ false)

-- an RPC PDU has 8,192 bytes at most (profile): the first of some
abbrev pub IsShort : List (List ℕ) → Type 0
IsShort pdus = IfSome (front_length pdus) (λ len. len ≤ LEAST_WINDOW)
