-- what bytes are read as: a packet, or the first fault (MS-RPCH 2.2.3.5, 2.2.3.6)
use Rattle.std.specs.Prelude.{◌==◌, ◌-◌, ℕ, zero, suc, List, [], ◌∷◌, length, drop}
use Rattle.std.specs.Prelude.{nat_lt, if◌then◌else◌, Some, None, Ok, Err}
use Rattle.std.specs.declared.option.Option.{Option}
use Rattle.std.specs.declared.result.Result.{Result}
use Rattle.rh_rts.specs.declared.fault.RtsFault.{RtsFault}
use Rattle.rh_rts.specs.declared.fault.RtsKind.TheVariants.{BadHeader, BadLength, BadFlags}
use Rattle.rh_rts.specs.declared.fault.RtsKind.TheVariants.{CutShort, Left}
use Rattle.rh_rts.specs.declared.header.TheConstants.{PACKET_HEADER_LEN, FRAG_AT, FLAGS_AT}
use Rattle.rh_rts.specs.declared.packet.TheConstants.{ALL_FLAGS}
use Rattle.rh_rts.specs.Packets.{Parts, parts}
use Rattle.rh_rts.specs.Refusals.{fault, header_like, frag_of, flags_of, count_of, command_fault}
use Rattle.rh_rts.specs.Listing.{length_of, listed}

-- the first of two faults
abbrev pub or_else : Option RtsFault → Option RtsFault → Option RtsFault
or_else None later = later
or_else (Some wrong) later = Some wrong

-- how many bytes in front are as they are to be
abbrev pub agreed : List ℕ → List ℕ → ℕ
agreed [] b = 0
agreed (w ∷ want) [] = 0
agreed (w ∷ want) (x ∷ b) = if x == w then suc (agreed want b) else 0

-- what is wrong with a header that begins as it is to be
abbrev pub told_fault : List ℕ → Option RtsFault
told_fault b =
    if frag_of b == length b
    then (if nat_lt ALL_FLAGS (flags_of b) then fault FLAGS_AT BadFlags else None)
    else fault FRAG_AT BadLength

-- what is wrong with a header of which so many bytes are as they are to be
abbrev pub like_fault : ℕ → List ℕ → Option RtsFault
like_fault same b = if nat_lt same FLAGS_AT then fault same BadHeader else told_fault b

-- what is wrong with the header
unfoldable pub header_fault : List ℕ → Option RtsFault
header_fault b =
    if nat_lt (length b) PACKET_HEADER_LEN then fault (length b) CutShort
    else like_fault (agreed (header_like b) b) b

-- what is wrong with the rest of a packet of so many bytes, where so many commands are to come
abbrev pub body_fault : ℕ → ℕ → List ℕ → Option RtsFault
body_fault total zero b = if length b == 0 then None else fault (total - length b) Left
body_fault total (suc n) b =
    or_else (command_fault (total - length b) b) (body_fault total n (drop (length_of b) b))

-- the first part that is wrong
abbrev pub first_fault : List ℕ → Option RtsFault
first_fault b =
    or_else (header_fault b) (body_fault (length b) (count_of b) (drop PACKET_HEADER_LEN b))

-- the flags and the commands, where nothing is wrong
abbrev pub contents : List ℕ → Parts
contents b = parts (flags_of b) (listed (count_of b) (drop PACKET_HEADER_LEN b))

abbrev pub read_by : Option RtsFault → List ℕ → Result Parts RtsFault
read_by None b = Ok (contents b)
read_by (Some wrong) b = Err wrong

-- the packet that the bytes are; else the first part that is wrong
unfoldable pub read_packet : List ℕ → Result Parts RtsFault
read_packet b = read_by (first_fault b) b
