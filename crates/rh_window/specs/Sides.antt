-- the numbers of the two sides of a hop (MS-RPCH 3.2): bytes of RPC PDUs, counted from the
-- channel's beginning
use Rattle.std.specs.Prelude.{ℕ, ◌+◌, ◌<◌, ◌≤◌}
use Rattle.rh_window.specs.declared.range.TheConstants.{LEAST_WINDOW, GREATEST_WINDOW}

-- the size of a receive window (profile)
pub record IsWindow (size : ℕ) : Type 0 where
  pub least : LEAST_WINDOW ≤ size
  pub greatest : size ≤ GREATEST_WINDOW

-- ---- the side that sends

-- what was sent, and up to where it may send
pub record Sender : Type 0 where
  pub sent : ℕ
  pub edge : ℕ

-- it sent nothing behind its edge
pub record IsSender (s : Sender) : Type 0 where
  pub within : s.sent ≤ s.edge

-- ---- the side that receives

-- what came, what of it was passed on, and up to where the peer was told that it may send
pub record Receiver : Type 0 where
  pub received : ℕ
  pub released : ℕ
  pub told : ℕ
  pub size : ℕ

-- what it holds, received and not released, is within what it told; that is within the window,
-- which begins where it has released. Told is 0 as long as the window is shut, and then at least
-- its size
pub record IsReceiver (r : Receiver) : Type 0 where
  pub window : IsWindow r.size
  pub held : r.released ≤ r.received
  pub within : r.received ≤ r.told
  pub advertised : r.told ≤ r.released + r.size
  pub whole : 0 < r.told → r.size ≤ r.told
