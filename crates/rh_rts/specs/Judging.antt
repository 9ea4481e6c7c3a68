-- what bytes are read as
use Rattle.std.specs.Prelude.{◌≡◌, ℕ, List, Ok, Err}
use Rattle.std.specs.declared.result.Result.{Result}
use Rattle.rh_rts.specs.declared.fault.RtsFault.{RtsFault}
use Rattle.rh_rts.specs.declared.fault.DecodeFault.{DecodeFault}
use Rattle.rh_rts.specs.declared.fault.DecodeFault.TheVariants.{Rts, NoMemory}
use Rattle.rh_rts.specs.Packets.{Parts, IsPacket, packet_bytes}
use Rattle.rh_rts.specs.Refusals.{FirstFault}

-- the packet whose spelling the bytes are; else the first part that is wrong
abbrev pub Judged : List ℕ → Result Parts RtsFault → Type 0
Judged bytes (Ok p) = IsPacket p × (bytes ≡ packet_bytes p)
Judged bytes (Err wrong) = FirstFault bytes wrong

-- the same, unless there was no memory
abbrev pub Decoded : List ℕ → Result Parts DecodeFault → Type 0
Decoded bytes (Ok p) = IsPacket p × (bytes ≡ packet_bytes p)
Decoded bytes (Err (Rts place kind)) = FirstFault bytes (record { place = place; kind = kind })
Decoded bytes (Err NoMemory) = Unit {0}

-- it is this packet or this fault, unless there was no memory
abbrev pub IsReadBy : Result Parts RtsFault → Result Parts DecodeFault → Type 0
IsReadBy read (Ok p) = Ok p ≡ read
IsReadBy read (Err (Rts place kind)) = Err (record { place = place; kind = kind }) ≡ read
IsReadBy read (Err NoMemory) = Unit {0}
