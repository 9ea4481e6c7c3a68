-- the law of streams of one machine in one direction: what it puts or gives out is of what it was
-- fed or given, in that order (profile)
use Rattle.std.specs.Prelude.{ℕ, ◌<◌, ◌≡◌, Bool, true, List, [], ◌∷◌, if◌then◌else◌}
use mathlib.Core.List.{IsPrefix}
use Rattle.law_order.specs.Items.{Item, Piece, Stop, Handover, pdus, has_end, has_handover, IsChannel}
use Rattle.law_order.specs.Logs.{Log, through}

-- ---- what a machine is fed

-- the items up to the handover mark and with it
abbrev pub to_mark : List Item → List Item
to_mark [] = []
to_mark (Piece pdu ∷ items) = Piece pdu ∷ to_mark items
to_mark (Stop ∷ items) = Stop ∷ to_mark items
to_mark (Handover ∷ items) = Handover ∷ []

-- and those before END
abbrev pub to_end : List Item → List Item
to_end [] = []
to_end (Piece pdu ∷ items) = Piece pdu ∷ to_end items
to_end (Stop ∷ items) = []
to_end (Handover ∷ items) = Handover ∷ to_end items

-- of each number that has a leg
abbrev pub on_legs : (ℕ → Bool) → Log → Log
on_legs legs fed = λ n. if legs n then to_mark (fed n) else []

-- the legs joined in order of number, up to one and with it
abbrev pub joined : (ℕ → Bool) → Log → ℕ → List Item
joined legs fed last = through (on_legs legs fed) last

-- each leg before one has its handover mark, so that it and those before it count
abbrev pub AreMarked : (ℕ → Bool) → Log → ℕ → Type 0
AreMarked legs fed last = (n : ℕ) → n < last → legs n ≡ true → has_handover (fed n) ≡ true

-- these PDUs are a front of those that it was fed
pub record IsOfFed (legs : ℕ → Bool) (fed : Log) (out : List (List ℕ)) : Type 0 where
  pub last : ℕ
  pub marked : AreMarked legs fed last
  pub front : IsPrefix out (pdus (joined legs fed last))

-- ---- a proxy puts them on one leg

pub record PassesOn (legs : ℕ → Bool) (fed : Log) (put : List Item) : Type 0 where
  pub last : ℕ
  pub marked : AreMarked legs fed last
  pub front : IsPrefix (pdus put) (pdus (joined legs fed last))
  -- behind the handover mark nothing is put, and behind END no PDU
  pub channel : IsChannel put
  -- the mark goes behind all PDUs before the one that it answers
  pub handed : has_handover put ≡ true
      → (has_handover (fed last) ≡ true) × (pdus put ≡ pdus (joined legs fed last))
  -- and so does END
  pub ended : has_end put ≡ true
      → (has_end (joined legs fed last) ≡ true)
      × IsPrefix (pdus (to_end (joined legs fed last))) (pdus put)

-- ---- an end puts what it was given

pub record GivesOut (given : List (List ℕ)) (closed : Bool) (put : Log) : Type 0 where
  pub last : ℕ
  -- nothing is put on a leg before the handover mark of each leg before it
  pub marked : (n : ℕ) → 0 < n → n < last → has_handover (put n) ≡ true
  pub later : (n : ℕ) → last < n → put n ≡ []
  pub front : IsPrefix (pdus (through put last)) given
  pub channel : (n : ℕ) → IsChannel (put n)
  -- END is put only where no more is given, behind all PDUs that were
  pub ended : has_end (through put last) ≡ true
      → (closed ≡ true) × (pdus (through put last) ≡ given)
