-- what an in proxy has that it may put, which every move keeps so that it reads back
use Rattle.rh_window.specs.Receiving as windows
use Rattle.law_order.proofs.Vocabulary.{◌≡◌, ℕ, ◌+◌, ◌-◌, ◌*◌, ◌^◌, ◌<◌, ◌≤◌, Bool, true, false, ◌&&◌, ◌||◌, List, length, arith, refl, nat_tests, Some, None, Ok, Err, IfSome, if◌then◌else◌, is_ok, nat_le, nat_lt, AllByRecursion, Option, Result}
use Rattle.rh_line.specs.Lines as line
use Rattle.law_moves.proofs.Vocabulary.{Receiver, LEAST_WINDOW, WindowExceeded, Ack, by_test, IsPdu, Cookie, COOKIE_LEN, IsU, Incoming, Line, Which, Current, Next, Due, Waiting, MayGo}
use Rattle.law_role_inproxy.proofs.Vocabulary.{ClientLeg, Entry, Connects, Replaces, Handover, Came, InProxyConfig, Opener, Opening, WantsServer, Announces, Successor, Absent, Up, Joined, InProxy, IsConfig, follows, followed, HasSizes}

-- ---- what may be put

-- a cookie has its 16 bytes
abbrev pub IsSized : Cookie → Type 0
IsSized cookie = length cookie.0 ≡ COOKIE_LEN

abbrev pub IsEntry : Entry → Type 0
IsEntry (Connects group) = IsSized group
IsEntry (Replaces predecessor) = IsSized predecessor

pub record IsOpener (o : Opener) : Type 0 where
  pub connection : IsSized o.connection
  pub channel : IsSized o.channel
  pub entry : IsEntry o.entry

-- what goes first on the is leg is still to go
abbrev pub IsOpening : Opening → Type 0
IsOpening (WantsServer o) = IsOpener o
IsOpening (Announces o) = IsOpener o
IsOpening opening = Unit {0}

abbrev pub IsSuccessor : Successor → Type 0
IsSuccessor (Joined leg stage) = IsSized leg.cookie
IsSuccessor successor = Unit {0}

abbrev pub IsHandover : Handover → Type 0
IsHandover (Came cookie) = IsSized cookie
IsHandover handover = Unit {0}

-- no more came than was told
abbrev pub IsTold : Receiver → Type 0
IsTold window = window.received ≤ window.told

pub record IsChannel (c : Incoming) : Type 0 where
  pub each : AllByRecursion IsPdu c.pdus
  pub within : IsTold c.window

abbrev pub MayWait : List Due → Type 0
MayWait dues = AllByRecursion (λ (due : Due). MayGo IsU due.packet) dues

pub record Parts (config : InProxyConfig) (opening : Opening) (cookie : Cookie)
    (successor : Successor) (handover : Handover) (dues : List Due) (now next : Incoming)
    : Type 0 where
  pub ranges : IsConfig config
  pub sizes : HasSizes config
  pub opener : IsOpening opening
  pub channel : IsSized cookie
  pub behind : IsSuccessor successor
  pub handed : IsHandover handover
  pub waits : MayWait dues
  pub current : IsChannel now
  pub following : IsChannel next

abbrev pub IsSound : InProxy → Type 0
IsSound s =
    Parts s.config s.opening s.current.cookie s.successor s.handover s.waiting.due
    s.line.current s.line.next

-- ---- a part is changed

pub opening_is : (s : InProxy) (opening : Opening) → IsOpening opening → IsSound s
    → IsSound (record s { opening = opening })
opening_is s opening is k = record {
  ranges = k.ranges;
  sizes = k.sizes;
  opener = is;
  channel = k.channel;
  behind = k.behind;
  handed = k.handed;
  waits = k.waits;
  current = k.current;
  following = k.following;
}

pub current_is : (s : InProxy) (leg : ClientLeg) → IsSized leg.cookie → IsSound s
    → IsSound (record s { current = leg })
current_is s leg is k = record {
  ranges = k.ranges;
  sizes = k.sizes;
  opener = k.opener;
  channel = is;
  behind = k.behind;
  handed = k.handed;
  waits = k.waits;
  current = k.current;
  following = k.following;
}

pub successor_is : (s : InProxy) (successor : Successor) → IsSuccessor successor → IsSound s
    → IsSound (record s { successor = successor })
successor_is s successor is k = record {
  ranges = k.ranges;
  sizes = k.sizes;
  opener = k.opener;
  channel = k.channel;
  behind = is;
  handed = k.handed;
  waits = k.waits;
  current = k.current;
  following = k.following;
}

pub handover_is : (s : InProxy) (handover : Handover) → IsHandover handover → IsSound s
    → IsSound (record s { handover = handover })
handover_is s handover is k = record {
  ranges = k.ranges;
  sizes = k.sizes;
  opener = k.opener;
  channel = k.channel;
  behind = k.behind;
  handed = is;
  waits = k.waits;
  current = k.current;
  following = k.following;
}

pub waiting_is : (s : InProxy) (waiting : Waiting) → MayWait waiting.due → IsSound s
    → IsSound (record s { waiting = waiting })
waiting_is s waiting is k = record {
  ranges = k.ranges;
  sizes = k.sizes;
  opener = k.opener;
  channel = k.channel;
  behind = k.behind;
  handed = k.handed;
  waits = is;
  current = k.current;
  following = k.following;
}

pub line_is : (s : InProxy) (l : Line) → IsChannel l.current → IsChannel l.next → IsSound s
    → IsSound (record s { line = l })
line_is s l now next k = record {
  ranges = k.ranges;
  sizes = k.sizes;
  opener = k.opener;
  channel = k.channel;
  behind = k.behind;
  handed = k.handed;
  waits = k.waits;
  current = now;
  following = next;
}

pub channel_is : (s : InProxy) (which : Which) (c : Incoming) → IsChannel c → IsSound s
    → IsSound (record s { line = line.with_channel s.line which c })
channel_is s Current c is k = line_is s (line.with_channel s.line Current c) is k.following k
channel_is s Next c is k = line_is s (line.with_channel s.line Next c) k.current is k

pub channel_at : (s : InProxy) (which : Which) → IsSound s
    → IsChannel (line.channel_of s.line which)
channel_at s Current k = k.current
channel_at s Next k = k.following

-- ---- the next channel becomes current

fresh_is : (window : Receiver) → IsTold window → IsChannel (line.fresh window)
fresh_is window told = record { each = tt; within = told }

follows_is : (has_next : Bool) (current : ClientLeg) (successor : Successor)
    → IsSized current.cookie → IsSuccessor successor
    → IsSized (follows has_next current successor).0.cookie
    × IsSuccessor (follows has_next current successor).1
follows_is true current Absent c is = (c, is)
follows_is true current (Up number) c is = (c, is)
follows_is true current (Joined leg stage) c is = (c, is)
follows_is false current Absent c is = (c, is)
follows_is false current (Up number) c is = (c, is)
follows_is false current (Joined leg stage) c is = (is, tt)

followed_is : (s : InProxy) → IsSound s → IsSound (followed s)
followed_is s k =
    let now = follows_is s.line.has_next s.current s.successor k.channel k.behind in
    let legs = follows s.line.has_next s.current s.successor in
    successor_is (record s { current = legs.0 }) legs.1 now.1 (current_is s legs.0 now.0 k)

pub settles : (s : InProxy) → IsSound s
    → IsSound (followed (record s { line = line.settled s.line }))
settles s k =
    by_test (λ (l : Line). IsSound (followed (record s { line = l })))
    (s.line.finished && line.is_empty s.line.current.pdus) (line.moved_on s.line) s.line
    (λ e. followed_is (record s { line = line.moved_on s.line })
    (line_is s (line.moved_on s.line) k.following
    (fresh_is (windows.shut s.line.size) (omega arith)) k))
    (λ e. followed_is s k)

-- a next channel is there, and nothing came on it
pub opens_next : (s : InProxy) → IsSound s
    → IsSound (record s { line = line.after_open_next s.line false })
opens_next s k =
    line_is s (line.after_open_next s.line false) k.current
    (fresh_is (windows.opened s.line.size) (omega arith)) k

-- ---- windows

pub at_most : (a b : ℕ) → nat_le a b ≡ true → a ≤ b
at_most a b e = grind (arith, nat_tests)

pub less_than : (a b : ℕ) → nat_lt a b ≡ true → a < b
less_than a b e = grind (arith, nat_tests)

pub admits : (window : Receiver) (len : ℕ) → IsTold window
    → IsTold (windows.after_admit window len)
admits window len told =
    by_test
    (λ (verdict : Result (Unit {0}) WindowExceeded).
    IsTold (if is_ok verdict
    then record window { received = window.received + len }
    else window))
    (nat_le (window.received + len) window.told) (Ok tt)
    (Err (record { reached = window.received + len; edge = window.told }))
    (λ e. at_most (window.received + len) window.told e)
    (λ e. told)

-- an acknowledgement has two numbers of four bytes, and tells no less than came
pub record IsAck (window : Receiver) (ack : Ack) : Type 0 where
  pub received : ack.received < 2 ^ 32
  pub available : ack.available < 2 ^ 32
  pub within : window.received ≤ ack.received + ack.available

middle : (a b c d : Bool) → a && b && c && d ≡ true → (b ≡ true) × (c ≡ true)
middle false b c d e = absurd cc
middle true false c d e = absurd cc
middle true true false d e = absurd cc
middle true true true d e = (refl, refl)

due_is : (window : Receiver) → IsTold window → windows.is_due window ≡ true
    → IsAck window (record {
      received = window.received;
      available = windows.edge_of window - window.received;
    })
due_is window told e =
    let is = middle (nat_lt 0 window.told) (nat_lt window.told (windows.edge_of window))
    (nat_lt (windows.edge_of window) (2 ^ 32))
    (nat_le window.size (2 * (windows.edge_of window - window.told))
    || nat_lt (window.told - window.received) LEAST_WINDOW) e in
    let behind = less_than window.told (windows.edge_of window) is.0 in
    let short = less_than (windows.edge_of window) (2 ^ 32) is.1 in
    record {
      received = omega (arith, told, behind, short);
      available = omega (arith, short);
      within = omega (arith, told, behind);
    }

pub acknowledges : (window : Receiver) → IsTold window
    → IfSome (windows.due window) (IsAck window)
acknowledges window told =
    by_test (λ (ack : Option Ack). IfSome ack (IsAck window)) (windows.is_due window)
    (Some (record {
      received = window.received;
      available = windows.edge_of window - window.received;
    })) None
    (λ e. due_is window told e)
    (λ e. tt)
