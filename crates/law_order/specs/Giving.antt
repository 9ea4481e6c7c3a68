-- an end that gives: the client towards the server, and the server towards the client (profile)
use Rattle.std.specs.Prelude.{ℕ, suc, ◌<◌, Bool, true, false, List, [], ◌∷◌, ◌++◌, ◌≡◌}
use Rattle.law_order.specs.Items.{Item, Piece, Stop, Handover, pdus, has_end, has_handover, IsChannel, IsJoined}
use Rattle.law_order.specs.Logs.{Log, through, more}

-- what order sees of an end that gives
pub record Giver : Type 0 where
  -- all PDUs that were accepted
  pub given : List (List ℕ)
  -- those that were not put yet
  pub queue : List (List ℕ)
  -- no more is accepted
  pub closing : Bool
  -- the number of the writing channel
  pub writing : ℕ
  -- END was put on it
  pub end_put : Bool

-- what is given was put on the channels up to the writing one, in order, or is in the queue
pub record GiverAt (g : Giver) (sent : Log) (writing : ℕ) : Type 0 where
  pub all : g.given ≡ pdus (through sent writing) ++ g.queue
  -- END is put only where no more is accepted and the queue is empty
  pub over : has_end (through sent writing) ≡ true → (g.closing ≡ true) × (g.queue ≡ [])
  pub joined : IsJoined (through sent writing)
  pub end_put : g.end_put ≡ has_end (sent writing)
  -- each channel below the writing one ended with its handover mark, the writing one did not
  pub numbered : 0 < writing
  pub handed : (n : ℕ) → 0 < n → n < writing → has_handover (sent n) ≡ true
  pub unhanded : has_handover (sent writing) ≡ false
  pub unused : sent 0 ≡ []
  pub later : (n : ℕ) → writing < n → sent n ≡ []
  pub channel : (n : ℕ) → IsChannel (sent n)

-- the law of an end that gives, where sent n is all that it put on channel n
abbrev pub GiverLaw : Giver → Log → Type 0
GiverLaw g sent = GiverAt g sent g.writing

-- nothing was given, and nothing put
abbrev pub new_giver : Giver
new_giver = record { given = []; queue = []; closing = false; writing = 1; end_put = false }

-- ---- what an end that gives may do

pub data Giving : Type 0 where
  -- a PDU is accepted
  Accepts : List ℕ → Giving
  -- it is told to close
  Closes : Giving
  -- the front PDU is put, and others are left
  PutsPdu : List ℕ → List (List ℕ) → Giving
  -- END is put
  PutsEnd : Giving
  -- the handover mark is put, and the successor is the writing channel
  HandsOver : Giving

abbrev pub MayGive : Giver → Giving → Type 0
MayGive g (Accepts pdu) = g.closing ≡ false
MayGive g Closes = Unit {0}
MayGive g (PutsPdu pdu rest) = g.queue ≡ pdu ∷ rest
MayGive g PutsEnd = (g.closing ≡ true) × (g.queue ≡ []) × (g.end_put ≡ false)
MayGive g HandsOver = Unit {0}

abbrev pub gives : Giver → Giving → Giver
gives g (Accepts pdu) = record g { given = g.given ++ pdu ∷ []; queue = g.queue ++ pdu ∷ [] }
gives g Closes = record g { closing = true }
gives g (PutsPdu pdu rest) = record g { queue = rest }
gives g PutsEnd = record g { end_put = true }
gives g HandsOver = record g { writing = suc g.writing; end_put = false }

-- what it puts on the channel that was the writing one
abbrev pub given_items : Giving → List Item
given_items (Accepts pdu) = []
given_items Closes = []
given_items (PutsPdu pdu rest) = Piece pdu ∷ []
given_items PutsEnd = Stop ∷ []
given_items HandsOver = Handover ∷ []

abbrev pub sent_by : Giver → Giving → Log → Log
sent_by g act sent = more g.writing (given_items act) sent
