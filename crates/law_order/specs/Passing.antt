-- a proxy, in one direction: it is fed on one or several near legs, and puts on one far leg. An in
-- proxy has a near leg for each IN channel that it reads, of which the later ones came by IN_R2; an
-- out proxy has one (profile)
use Rattle.std.specs.Prelude.{ℕ, ◌<◌, ◌≤◌, Bool, true, false, List, [], ◌∷◌, ◌≡◌, nat_le}
use Rattle.law_order.specs.Items.{Item, Piece, Stop, Handover, pdus, has_end, has_handover, IsChannel}
use Rattle.law_order.specs.Logs.{Log}
use Rattle.law_order.specs.Shelves.{Shelves, Shelved, is_ended, new_shelves, Coming, PduNow, PduNext, EndNow, EndNext, EndLater, HandoverNow, HandoverNext, Follows, MovesOn, MayCome, comes, came_by}

-- what order sees of a proxy in one direction
pub record Passer : Type 0 where
  -- what it has of the channels that it reads
  pub shelves : Shelves
  -- END was put on the far leg, and the handover mark
  pub end_put : Bool
  pub handover_put : Bool

-- the near legs are numbered from the first one
abbrev pub from_first : ℕ → ℕ → Bool
from_first first n = nat_le first n

-- what came on the near legs up to the current one, in order, was put on the far leg or is held;
-- where came n is all that it took on near leg n, and put is all that it put on the far leg
pub record PasserLaw (x : Passer) (first : ℕ) (came : Log) (put : List Item) : Type 0 where
  pub shelved : Shelved x.shelves (from_first first) (pdus put) came
  pub from : first ≤ x.shelves.current
  pub unused : (n : ℕ) → n < first → came n ≡ []
  pub channel : IsChannel put
  pub end_put : x.end_put ≡ has_end put
  pub handover_put : x.handover_put ≡ has_handover put
  -- END goes only behind END of a near leg, and behind all PDUs
  pub end_came : x.end_put ≡ true → (is_ended x.shelves ≡ true) × (x.shelves.now.held ≡ [])
  -- the handover mark goes only behind that of the current near leg, and behind all PDUs
  pub handover_came : x.handover_put ≡ true
      → (x.shelves.now.finished ≡ true) × (x.shelves.now.held ≡ [])
  -- no PDU came on the next near leg behind END
  pub over : is_ended x.shelves ≡ true → x.shelves.next.held ≡ []

-- nothing came, and nothing was put
abbrev pub new_passer : ℕ → Passer
new_passer first =
    record { shelves = new_shelves first; end_put = false; handover_put = false }

-- ---- what a proxy may do

pub data Passing : Type 0 where
  Takes : Coming → Passing
  -- the front PDU is put, and others are left
  PassesPdu : List ℕ → List (List ℕ) → Passing
  -- END is put
  PassesEnd : Passing
  -- the handover mark is put
  PassesHandover : Passing

-- no PDU is taken behind END of a near leg before it, and no END ahead of a PDU of one behind it
abbrev pub MayTake : Passer → Coming → Type 0
MayTake x (PduNow pdu) = is_ended x.shelves ≡ false
MayTake x (PduNext pdu) = is_ended x.shelves ≡ false
MayTake x EndNow = x.shelves.next.held ≡ []
MayTake x EndNext = Unit {0}
MayTake x (EndLater n) = Unit {0}
MayTake x HandoverNow = Unit {0}
MayTake x HandoverNext = Unit {0}
MayTake x (Follows n) = Unit {0}
MayTake x (MovesOn n) = x.handover_put ≡ false

abbrev pub MayPass : Passer → ℕ → Passing → Type 0
MayPass x first (Takes what) = MayCome x.shelves (from_first first) what × MayTake x what
MayPass x first (PassesPdu pdu rest) = x.shelves.now.held ≡ pdu ∷ rest
MayPass x first PassesEnd =
    (is_ended x.shelves ≡ true) × (x.shelves.now.held ≡ [])
    × (x.end_put ≡ false) × (x.handover_put ≡ false)
MayPass x first PassesHandover =
    (x.shelves.now.finished ≡ true) × (x.shelves.now.held ≡ []) × (x.handover_put ≡ false)

abbrev pub with_held : Shelves → List (List ℕ) → Shelves
with_held s held = record s { now = record (s.now) { held = held } }

abbrev pub passes : Passer → Passing → Passer
passes x (Takes what) = record x { shelves = comes x.shelves what }
passes x (PassesPdu pdu rest) = record x { shelves = with_held x.shelves rest }
passes x PassesEnd = record x { end_put = true }
passes x PassesHandover = record x { handover_put = true }

-- what comes on the near legs
abbrev pub came_at : Passer → Passing → Log → Log
came_at x (Takes what) came = came_by x.shelves what came
came_at x (PassesPdu pdu rest) came = came
came_at x PassesEnd came = came
came_at x PassesHandover came = came

-- what is put on the far leg
abbrev pub passed_items : Passing → List Item
passed_items (Takes what) = []
passed_items (PassesPdu pdu rest) = Piece pdu ∷ []
passed_items PassesEnd = Stop ∷ []
passed_items PassesHandover = Handover ∷ []
