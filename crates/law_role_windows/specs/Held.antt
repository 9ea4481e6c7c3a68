-- the bytes of RPC PDUs that a receiver holds, within the receive window that it advertised
-- (MS-RPCH 3.2)
use Rattle.std.specs.Prelude.{ℕ, ◌≡◌, ◌≤◌, true}
use Rattle.rh_line.specs.Lines.{Incoming, Line}
use Rattle.rh_line.specs.Histories.{IsWithin}
use Rattle.rh_line.specs.Queue.{total}

-- what is held of a channel came and was not released; it is within what the sender was told, and
-- that is within the window: so it is at most the window
pub record HoldsAtMost (window : ℕ) (c : Incoming) : Type 0 where
  pub within : IsWithin c window
  pub bytes : total c.pdus ≤ window

-- the windows of the line have this size, and so much is held at most of the current channel, and
-- of the next one where it is there
pub record Holds (window : ℕ) (line : Line) : Type 0 where
  pub size : line.size ≡ window
  pub current : HoldsAtMost window line.current
  pub next : line.has_next ≡ true → HoldsAtMost window line.next
