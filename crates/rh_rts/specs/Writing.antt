-- bytes written over others
use Rattle.std.specs.Prelude.{◌≡◌, ◌≤◌, ◌<◌, ◌+◌, ℕ, List, ◌++◌, length, take, drop, Ok, Err}
use Rattle.std.specs.declared.result.Result.{Result}
use Rattle.rh_rts.specs.declared.fault.NoRoom.{NoRoom}
use Rattle.rh_rts.specs.Packets.{Parts, packet_bytes}

-- the list with the piece over it, from that place on
unfoldable pub over : List ℕ → ℕ → List ℕ → List ℕ
over xs at piece = take at xs ++ (piece ++ drop (at + length piece) xs)

-- the packet stands at the front of the room and the rest is as before; or the room is too short,
-- and as before
abbrev pub Writes : Parts → List ℕ → List ℕ → Result ℕ NoRoom → Type 0
Writes p before after (Ok len) =
    (len ≡ length (packet_bytes p)) × (len ≤ length before)
    × (after ≡ packet_bytes p ++ drop len before)
Writes p before after (Err wrong) =
    (wrong.need ≡ length (packet_bytes p)) × (length before < wrong.need) × (after ≡ before)
