-- the packets that wait for a leg: those due and those to forward, in the order in which they
-- became due (profile)
use Rattle.std.specs.Prelude.{ℕ, ◌+◌, ◌≤◌, ◌==◌, ◌&&◌, ◌++◌, List, [], ◌∷◌, Bool, true, false}
use Rattle.std.specs.Prelude.{if◌then◌else◌, nat_lt, Some, None, All, count_by, find}
use Rattle.std.specs.List.{list_any}
use Rattle.std.specs.Str.{bytes_eq}
use Rattle.std.specs.declared.option.Option.{Option}
use Rattle.rh_rts.specs.declared.command.Cookie.{Cookie}
use Rattle.rh_sig.specs.declared.named.Named.{Named}
use Rattle.rh_sig.specs.declared.named.Named.TheVariants.{AckTo}
use Rattle.rh_sig.specs.Values.{MayBeWritten}
use Rattle.rh_shell.specs.declared.due.Due.{Due}
use Rattle.rh_shell.specs.declared.due.Origin.{Origin}
use Rattle.rh_shell.specs.declared.due.Origin.TheVariants.{Own, Forwarded}
use Rattle.rh_shell.specs.declared.waiting.TheConstants.{OWN_ROOM}

pub record Waiting : Type 0 where
  -- how many may wait that are to be forwarded
  pub room : ℕ
  -- the first is the one that became due first
  pub due : List Due

-- none waits
abbrev pub empty : ℕ → Waiting
empty room = record { room = room; due = [] }

-- ---- origins

-- a packet of the role's own
abbrev pub own : Named → Due
own packet = record { packet = packet; origin = Own }

-- a packet that came on another leg
abbrev pub to_forward : Named → Due
to_forward packet = record { packet = packet; origin = Forwarded }

abbrev pub are_same : Origin → Origin → Bool
are_same Own Own = true
are_same Forwarded Forwarded = true
are_same one other = false

abbrev pub is_of : Origin → Due → Bool
is_of origin due = are_same due.origin origin

-- how many came from there
abbrev pub count : Origin → List Due → ℕ
count origin dues = count_by (is_of origin) dues

-- ---- merging

-- what an acknowledgement with a destination is for (MS-RPCH 2.2.4)
pub record Key : Type 0 where
  pub destination : ℕ
  pub channel : Cookie

-- other packets have none
abbrev pub key_of : Named → Option Key
key_of (AckTo to received window of) = Some (record { destination = to; channel = of })
key_of _ = None

-- both are for the same channel at the same destination
abbrev pub are_one : Option Key → Option Key → Bool
are_one (Some one) (Some other) =
    (one.destination == other.destination) && bytes_eq one.channel.0 other.channel.0
are_one (Some one) None = false
are_one None other = false

-- the packet is merged with this one, where both acknowledge the same
abbrev pub takes : Named → Due → Bool
takes packet due = are_one (key_of due.packet) (key_of packet)

-- the edge that it tells: bytes received and window
abbrev pub edge_of : Named → ℕ
edge_of (AckTo to received window of) = received + window
edge_of _ = 0

-- the one with the greater edge in the older one's place, the newer where they are equal
abbrev pub better : Due → Named → Due
better older newer =
    if nat_lt (edge_of newer) (edge_of older.packet) then older
    else record { packet = newer; origin = older.origin }

-- merged with the first that takes it, in its place
abbrev pub merged : List Due → Named → List Due
merged [] packet = []
merged (due ∷ dues) packet =
    if takes packet due then better due packet ∷ dues else due ∷ merged dues packet

-- ---- becoming due

abbrev pub with_due : Waiting → List Due → Waiting
with_due w dues = record { room = w.room; due = dues }

-- how many from there may wait
abbrev pub room_of : Origin → Waiting → ℕ
room_of Own w = OWN_ROOM
room_of Forwarded w = w.room

-- behind all that wait
abbrev pub pushed : Waiting → Due → Waiting
pushed w due = with_due w (w.due ++ due ∷ [])

-- a packet of the role's own becomes due
abbrev pub added : Waiting → Named → Waiting
added w packet = pushed w (own packet)

-- a packet is to be forwarded; whether it waits, by itself or merged
abbrev pub forwarded : Waiting → Named → Waiting × Bool
forwarded w packet =
    if list_any (takes packet) w.due then (with_due w (merged w.due packet), true)
    else (if nat_lt (count Forwarded w.due) w.room
    then (pushed w (to_forward packet), true)
    else (w, false))

-- ---- going

-- the first that may go is gone; those that it passed by keep their order
abbrev pub without_first : (Due → Bool) → List Due → List Due
without_first may_go [] = []
without_first may_go (due ∷ dues) =
    if may_go due then dues else due ∷ without_first may_go dues

-- the first that may go is taken
abbrev pub taken : (Due → Bool) → Waiting → Waiting × Option Due
taken may_go w = (with_due w (without_first may_go w.due), find may_go w.due)

-- ---- what always holds

-- the rooms are never passed, and each packet may be written
pub record IsKept (room : ℕ) (dues : List Due) : Type 0 where
  pub forwarded : count Forwarded dues ≤ room
  pub own : count Own dues ≤ OWN_ROOM
  pub writable : All (λ due. MayBeWritten due.packet) dues
