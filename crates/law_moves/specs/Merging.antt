-- laws of the packets that wait
use Rattle.std.specs.Prelude.{◌≡◌, ◌≤◌, ◌&&◌, ℕ, max, List, [], ◌∷◌, Bool, true, Some, if◌then◌else◌}
use Rattle.std.specs.Prelude.{count_by}
use Rattle.rh_sig.specs.declared.named.Named.{Named}
use Rattle.rh_shell.specs.declared.due.Due.{Due}
use Rattle.rh_shell.specs.declared.due.Origin.TheVariants.{Forwarded}
use Rattle.rh_shell.specs.Waiting.{Waiting, Key, is_of, key_of, are_one, edge_of}
use Rattle.rh_shell.specs.Waiting.{with_due, added, forwarded, taken}

-- ---- events

-- what becomes of the packets that wait
pub data Event : Type 0 where
  Adds : Named → Event
  Forwards : Named → Event
  -- the first that the test lets go
  Takes : (Due → Bool) → Event
  Clears : Event

abbrev pub after : Event → Waiting → Waiting
after (Adds packet) w = added w packet
after (Forwards packet) w = (forwarded w packet).0
after (Takes may_go) w = (taken may_go w).0
after Clears w = with_due w []

abbrev pub after_all : List Event → Waiting → Waiting
after_all [] w = w
after_all (event ∷ events) w = after_all events (after event w)

-- ---- merging

-- it acknowledges that channel to that destination
abbrev pub acknowledges : Key → Named → Bool
acknowledges key packet = are_one (key_of packet) (Some key)

-- it is to be forwarded as well
abbrev pub forwards : Key → Due → Bool
forwards key due = is_of Forwarded due && acknowledges key due.packet

-- of those to be forwarded at most one waits for each destination and channel
abbrev pub IsMerged : Waiting → Type 0
IsMerged w = (key : Key) → count_by (forwards key) w.due ≤ 1

-- ---- edges

-- the edge that it tells of the channel to the destination, in bytes
abbrev pub told : Key → Named → ℕ
told key packet = if acknowledges key packet then edge_of packet else 0

-- the greatest that waits
abbrev pub greatest : Key → List Due → ℕ
greatest key [] = 0
greatest key (due ∷ dues) = max (told key due.packet) (greatest key dues)

-- no edge that waits falls, and where the packet waits, by itself or merged, no less than its own
-- edge waits
pub record Raises (w : Waiting) (packet : Named) (key : Key) : Type 0 where
  pub kept : greatest key w.due ≤ greatest key (forwarded w packet).0.due
  pub reached : (forwarded w packet).1 ≡ true
      → told key packet ≤ greatest key (forwarded w packet).0.due
