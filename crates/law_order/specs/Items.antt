-- what order is about: the RPC PDUs, END and the handover marks of a channel, in the order in which
-- they stand on a leg (profile)
use Rattle.std.specs.Prelude.{ℕ, Bool, true, false, List, [], ◌∷◌, ◌≡◌}

-- an RPC PDU; END; or the mark behind which a successor goes on: IN_R1/A5 and IN_R1/A6, OUT_R1/A9
-- and OUT_R1/A10. Any other packet is no item
pub data Item : Type 0 where
  Piece : List ℕ → Item
  Stop : Item
  Handover : Item

-- the PDUs among items
abbrev pub pdus : List Item → List (List ℕ)
pdus [] = []
pdus (Piece pdu ∷ items) = pdu ∷ pdus items
pdus (Stop ∷ items) = pdus items
pdus (Handover ∷ items) = pdus items

-- END is among them
abbrev pub has_end : List Item → Bool
has_end [] = false
has_end (Piece pdu ∷ items) = has_end items
has_end (Stop ∷ items) = true
has_end (Handover ∷ items) = has_end items

-- the handover mark is among them
abbrev pub has_handover : List Item → Bool
has_handover [] = false
has_handover (Piece pdu ∷ items) = has_handover items
has_handover (Stop ∷ items) = has_handover items
has_handover (Handover ∷ items) = true

-- ---- one channel

-- behind END stands no PDU and no END
abbrev pub IsBehindEnd : List Item → Type 0
IsBehindEnd [] = Unit {0}
IsBehindEnd (Piece pdu ∷ items) = ⊥
IsBehindEnd (Stop ∷ items) = ⊥
IsBehindEnd (Handover ∷ items) = items ≡ []

-- and behind the handover mark stands nothing
abbrev pub IsChannel : List Item → Type 0
IsChannel [] = Unit {0}
IsChannel (Piece pdu ∷ items) = IsChannel items
IsChannel (Stop ∷ items) = IsBehindEnd items
IsChannel (Handover ∷ items) = items ≡ []

-- ---- channels that are joined

-- behind END stands no PDU. END may stand on each channel, so more than once
abbrev pub IsJoined : List Item → Type 0
IsJoined [] = Unit {0}
IsJoined (Piece pdu ∷ items) = IsJoined items
IsJoined (Stop ∷ items) = pdus items ≡ []
IsJoined (Handover ∷ items) = IsJoined items
