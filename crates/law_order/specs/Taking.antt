-- an end that takes: the server what the client gave, and the client what the server gave (profile)
use Rattle.std.specs.Prelude.{ℕ, Bool, true, List, [], ◌∷◌, ◌++◌, ◌≡◌}
use Rattle.law_order.specs.Logs.{Log}
use Rattle.law_order.specs.Shelves.{Shelves, Shelved, is_ended, new_shelves, Coming, MayCome, comes, came_by}
use Rattle.law_order.specs.Passing.{with_held}

-- what order sees of an end that takes
pub record Taker : Type 0 where
  -- all PDUs that were taken
  pub taken : List (List ℕ)
  pub shelves : Shelves

-- the law of an end that takes: what was taken, and then what is held, came on the channels up to
-- the current one, in order. legs n: channel n has a leg of its own here, and is not carried on the
-- leg of one before it; came n is all that it took on that leg
abbrev pub TakerLaw : Taker → (ℕ → Bool) → Log → Type 0
TakerLaw t legs came = Shelved t.shelves legs t.taken came

-- take reports that the other end gives no more
pub record ReportsEnd (t : Taker) : Type 0 where
  pub ended : is_ended t.shelves ≡ true
  pub empty : t.shelves.now.held ≡ []

-- nothing came, and nothing was taken
abbrev pub new_taker : Taker
new_taker = record { taken = []; shelves = new_shelves 1 }

-- ---- what an end that takes may do

pub data Taking : Type 0 where
  Hears : Coming → Taking
  -- the front PDU is taken, and others are left
  TakesPdu : List ℕ → List (List ℕ) → Taking

abbrev pub MayTake : Taker → (ℕ → Bool) → Taking → Type 0
MayTake t legs (Hears what) = MayCome t.shelves legs what
MayTake t legs (TakesPdu pdu rest) = t.shelves.now.held ≡ pdu ∷ rest

abbrev pub takes : Taker → Taking → Taker
takes t (Hears what) = record t { shelves = comes t.shelves what }
takes t (TakesPdu pdu rest) =
    record t { taken = t.taken ++ pdu ∷ []; shelves = with_held t.shelves rest }

abbrev pub heard_by : Taker → Taking → Log → Log
heard_by t (Hears what) came = came_by t.shelves what came
heard_by t (TakesPdu pdu rest) came = came
