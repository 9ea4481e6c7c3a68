-- queues of PDUs
use Rattle.std.specs.Prelude.{ℕ, ◌+◌, ◌-◌, ◌==◌, ◌++◌, if◌then◌else◌, List, [], ◌∷◌, length, drop, Some, None}
use Rattle.std.specs.declared.option.Option.{Option}
use Rattle.rh_line.specs.declared.send_line.TheConstants.{QUEUE_BYTES}

-- the most bytes of PDUs that a queue holds
abbrev pub queue_bytes : ℕ
queue_bytes = QUEUE_BYTES

-- the bytes of all PDUs together
abbrev pub total : List (List ℕ) → ℕ
total [] = 0
total (pdu ∷ pdus) = length pdu + total pdus

-- the PDUs behind the first one
abbrev pub behind : List (List ℕ) → List (List ℕ)
behind [] = []
behind (pdu ∷ pdus) = pdus

-- the length of the first one
abbrev pub front_length : List (List ℕ) → Option ℕ
front_length [] = None
front_length (pdu ∷ pdus) = Some (length pdu)

-- the first one at the front of a room, which stays behind it
abbrev pub put_first : List (List ℕ) → List ℕ → List ℕ
put_first [] room = room
put_first (pdu ∷ pdus) room = pdu ++ drop (length pdu) room

-- the PDUs that have no byte among the first so many of all
abbrev pub untouched : ℕ → List (List ℕ) → List (List ℕ)
untouched count [] = []
untouched count (pdu ∷ pdus) =
    if count == 0 then pdu ∷ pdus else untouched (count - length pdu) pdus
