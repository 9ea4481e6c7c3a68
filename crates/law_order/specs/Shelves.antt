-- a machine that is fed on the legs of several channels: one is current, and a later one gives
-- nothing before the earlier one is finished and empty (profile)
use Rattle.std.specs.Prelude.{ℕ, suc, ◌<◌, Bool, true, false, List, [], ◌∷◌, ◌++◌, ◌≡◌, ◌||◌}
use Rattle.law_order.specs.Items.{Item, Piece, Stop, Handover, pdus, has_end, has_handover, IsChannel}
use Rattle.law_order.specs.Logs.{Log, change, below, more}

-- what it has of one channel: the PDUs that came and were not passed on or taken; whether END came,
-- and the handover mark
pub record Shelf : Type 0 where
  pub held : List (List ℕ)
  pub ended : Bool
  pub finished : Bool

pub record Shelves : Type 0 where
  -- the number of the current channel
  pub current : ℕ
  pub now : Shelf
  -- END came on a channel that was current before
  pub was_ended : Bool
  -- the number of the channel that is to take its place, and what came there
  pub following : ℕ
  pub next : Shelf
  -- END came on channel n, which is behind both
  pub later : ℕ → Bool

-- END came on a channel that is current, or was
abbrev pub is_ended : Shelves → Bool
is_ended s = s.was_ended || s.now.ended

-- before, now and next: what came on the channels below the current one, on it, and on the one that
-- follows; out: the PDUs that were passed on or taken
pub record Holds (s : Shelves) (out : List (List ℕ)) (before now next : List Item) : Type 0 where
  pub all : out ++ s.now.held ≡ pdus (before ++ now)
  pub follows : s.next.held ≡ pdus next
  pub was_ended : s.was_ended ≡ has_end before
  pub ended : s.now.ended ≡ has_end now
  pub finished : s.now.finished ≡ has_handover now
  pub next_ended : s.next.ended ≡ has_end next
  pub next_finished : s.next.finished ≡ has_handover next

-- legs: the numbers that have a leg at this machine; any other number is passed over
pub record ShelvedAt (s : Shelves) (legs : ℕ → Bool) (out : List (List ℕ)) (came : Log)
    (current following : ℕ) : Type 0 where
  pub holds : Holds s out (below came current) (came current) (came following)
  pub above : current < following
  -- each channel below the current one ended with its handover mark
  pub past : (n : ℕ) → n < current → legs n ≡ true → has_handover (came n) ≡ true
  -- between both nothing came, and behind both at most END
  pub between : (n : ℕ) → current < n → n < following → (legs n ≡ false) × (came n ≡ [])
  pub unfinished : (n : ℕ) → following < n → has_handover (came n) ≡ false
  pub later : (n : ℕ) → following < n → (pdus (came n) ≡ []) × (s.later n ≡ has_end (came n))
  pub channel : (n : ℕ) → IsChannel (came n)

-- came n is all that it took on channel n
abbrev pub Shelved : Shelves → (ℕ → Bool) → List (List ℕ) → Log → Type 0
Shelved s legs out came = ShelvedAt s legs out came s.current s.following

abbrev pub blank : Shelf
blank = record { held = []; ended = false; finished = false }

-- nothing came, and this channel is the first
abbrev pub new_shelves : ℕ → Shelves
new_shelves first = record {
  current = first;
  now = blank;
  was_ended = false;
  following = suc first;
  next = blank;
  later = λ n. false;
}

-- two pictures that tell the same, where what is behind both channels may be told by two functions
pub record Alike (s f : Shelves) : Type 0 where
  pub current : f.current ≡ s.current
  pub now : f.now ≡ s.now
  pub was_ended : f.was_ended ≡ s.was_ended
  pub following : f.following ≡ s.following
  pub next : f.next ≡ s.next
  pub later : (n : ℕ) → s.following < n → f.later n ≡ s.later n

-- ---- what may come

pub data Coming : Type 0 where
  -- a PDU on the current channel, and on the one that follows
  PduNow : List ℕ → Coming
  PduNext : List ℕ → Coming
  -- END there, and on a channel behind both
  EndNow : Coming
  EndNext : Coming
  EndLater : ℕ → Coming
  -- the handover mark on the current channel, and on the one that follows
  HandoverNow : Coming
  HandoverNext : Coming
  -- another channel is the one that follows, since the one that was to has no leg
  Follows : ℕ → Coming
  -- the current channel is finished and empty: the next one takes its place, and another follows it
  MovesOn : ℕ → Coming

-- the numbers between the channel that follows and a later one have no leg
abbrev pub ArePassedOver : Shelves → (ℕ → Bool) → ℕ → Type 0
ArePassedOver s legs n =
    (k : ℕ) → s.following < k → k < n → (legs k ≡ false) × (s.later k ≡ false)

abbrev pub MayCome : Shelves → (ℕ → Bool) → Coming → Type 0
MayCome s legs (PduNow pdu) = (s.now.finished ≡ false) × (s.now.ended ≡ false)
MayCome s legs (PduNext pdu) = (s.next.finished ≡ false) × (s.next.ended ≡ false)
MayCome s legs EndNow = (s.now.finished ≡ false) × (s.now.ended ≡ false)
MayCome s legs EndNext = (s.next.finished ≡ false) × (s.next.ended ≡ false)
MayCome s legs (EndLater n) = (s.following < n) × (s.later n ≡ false)
MayCome s legs HandoverNow = s.now.finished ≡ false
MayCome s legs HandoverNext = s.next.finished ≡ false
MayCome s legs (Follows n) =
    (s.next ≡ blank) × (legs s.following ≡ false) × (s.following < n) × ArePassedOver s legs n
MayCome s legs (MovesOn n) =
    (s.now.finished ≡ true) × (s.now.held ≡ []) × (s.following < n) × ArePassedOver s legs n

-- the shelf of a channel that comes to follow
abbrev pub shelf_behind : Shelves → ℕ → Shelf
shelf_behind s n = record { held = []; ended = s.later n; finished = false }

abbrev pub comes : Shelves → Coming → Shelves
comes s (PduNow pdu) = record s { now = record (s.now) { held = s.now.held ++ pdu ∷ [] } }
comes s (PduNext pdu) = record s { next = record (s.next) { held = s.next.held ++ pdu ∷ [] } }
comes s EndNow = record s { now = record (s.now) { ended = true } }
comes s EndNext = record s { next = record (s.next) { ended = true } }
comes s (EndLater n) = record s { later = change n (λ e. true) s.later }
comes s HandoverNow = record s { now = record (s.now) { finished = true } }
comes s HandoverNext = record s { next = record (s.next) { finished = true } }
comes s (Follows n) = record s { following = n; next = shelf_behind s n }
comes s (MovesOn n) = record s {
  current = s.following;
  now = s.next;
  was_ended = is_ended s;
  following = n;
  next = shelf_behind s n;
}

-- the channel on which it comes, and the item
abbrev pub channel_of : Shelves → Coming → ℕ
channel_of s (PduNow pdu) = s.current
channel_of s (PduNext pdu) = s.following
channel_of s EndNow = s.current
channel_of s EndNext = s.following
channel_of s (EndLater n) = n
channel_of s HandoverNow = s.current
channel_of s HandoverNext = s.following
channel_of s (Follows n) = s.current
channel_of s (MovesOn n) = s.current

abbrev pub items_of : Coming → List Item
items_of (PduNow pdu) = Piece pdu ∷ []
items_of (PduNext pdu) = Piece pdu ∷ []
items_of EndNow = Stop ∷ []
items_of EndNext = Stop ∷ []
items_of (EndLater n) = Stop ∷ []
items_of HandoverNow = Handover ∷ []
items_of HandoverNext = Handover ∷ []
items_of (Follows n) = []
items_of (MovesOn n) = []

abbrev pub came_by : Shelves → Coming → Log → Log
came_by s what came = more (channel_of s what) (items_of what) came
