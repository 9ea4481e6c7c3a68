-- what is the first to be wrong with bytes that are to be a packet (MS-RPCH 2.2.3.5, 2.2.3.6)
use Rattle.std.specs.Prelude.{◌≡◌, ◌≢◌, ◌≤◌, ◌<◌, ◌+◌, ◌-◌, ◌⊎◌, ℕ, List, [], ◌∷◌, ◌++◌, length}
use Rattle.std.specs.Prelude.{take, drop}
use Rattle.std.specs.Prelude.{nat_lt, if◌then◌else◌, slice_index, Some, None}
use Rattle.std.specs.declared.option.Option.{Option}
use Rattle.std.specs.Int.{w16, w32, from_le_bytes}
use Rattle.rh_rts.specs.declared.command.Command.{Command}
use Rattle.rh_rts.specs.declared.fault.RtsFault.{RtsFault}
use Rattle.rh_rts.specs.declared.fault.RtsKind.{RtsKind}
use Rattle.rh_rts.specs.declared.fault.RtsKind.TheVariants.{BadHeader, BadLength, BadFlags}
use Rattle.rh_rts.specs.declared.fault.RtsKind.TheVariants.{CutShort, BadType, Left}
use Rattle.rh_rts.specs.declared.header.TheConstants.{PACKET_HEADER_LEN, FRAG_AT, FLAGS_AT}
use Rattle.rh_rts.specs.declared.header.TheConstants.{COUNT_AT}
use Rattle.rh_rts.specs.declared.packet.TheConstants.{ALL_FLAGS}
use Rattle.rh_rts.specs.declared.layout.Layout.{Layout}
use Rattle.rh_rts.specs.declared.layout.TheConstants.{NUMBER_LEN}
use Rattle.rh_rts.specs.Layouts.{layout_of, fixed_length, asked_length, greatest_field}
use Rattle.rh_rts.specs.Commands.{spellings, AreCommands}
use Rattle.rh_rts.specs.Packets.{header_front}

-- this is wrong, behind so many bytes
abbrev pub fault : ℕ → RtsKind → Option RtsFault
fault place kind = Some (record { place = place; kind = kind })

-- ---- the header

-- the first 16 bytes as they are to be, with whatever frag_length
abbrev pub header_like : List ℕ → List ℕ
header_like b = header_front (slice_index b FRAG_AT ∷ slice_index b (FRAG_AT + 1) ∷ [])

-- the number of two bytes from this place on
abbrev pub le2_at : List ℕ → ℕ → ℕ
le2_at b at = from_le_bytes w16 (slice_index b at ∷ slice_index b (at + 1) ∷ [])

abbrev pub frag_of : List ℕ → ℕ
frag_of b = le2_at b FRAG_AT

abbrev pub flags_of : List ℕ → ℕ
flags_of b = le2_at b FLAGS_AT

abbrev pub count_of : List ℕ → ℕ
count_of b = le2_at b COUNT_AT

-- the first byte that isn't the one that is wanted stands at that place
pub record DiffersAt (place : ℕ) (want b : List ℕ) : Type 0 where
  pub same : take place b ≡ take place want
  pub within : place < length want
  pub other : slice_index b place ≢ slice_index want place

-- it is all there, and begins as it is to be
pub record IsLike (b : List ℕ) : Type 0 where
  pub long : PACKET_HEADER_LEN ≤ length b
  pub front : take FLAGS_AT b ≡ header_like b

-- a header with nothing wrong
pub record IsHead (b : List ℕ) : Type 0 where
  pub like : IsLike b
  pub frag : frag_of b ≡ length b
  pub flags : flags_of b ≤ ALL_FLAGS

-- what is the first to be wrong with a header, and where, kind by kind
abbrev pub HeadFault : List ℕ → ℕ → RtsKind → Type 0
HeadFault b place CutShort = (place ≡ length b) × (length b < PACKET_HEADER_LEN)
HeadFault b place BadHeader = (PACKET_HEADER_LEN ≤ length b) × DiffersAt place (header_like b) b
HeadFault b place BadLength = (place ≡ FRAG_AT) × IsLike b × (frag_of b ≢ length b)
HeadFault b place BadFlags =
    (place ≡ FLAGS_AT) × IsLike b × (frag_of b ≡ length b) × (ALL_FLAGS < flags_of b)
HeadFault b place _ = ⊥

-- ---- a command

-- the number of four bytes in front
abbrev pub number_of : List ℕ → ℕ
number_of b = from_le_bytes w32 (take NUMBER_LEN b)

-- the type of a command, and the number behind it
abbrev pub type_of : List ℕ → ℕ
type_of b = number_of b

abbrev pub field_of : List ℕ → ℕ
field_of b = number_of (drop NUMBER_LEN b)

-- the bytes of a command of this layout, with this number behind its type
abbrev pub length_by : Layout → ℕ → ℕ
length_by layout field = fixed_length layout + asked_length layout field

-- a number above this greatest one is wrong
abbrev pub above : ℕ → ℕ → Option (ℕ × RtsKind) → Option RtsFault
above at field None = None
above at field (Some most) = if nat_lt most.0 field then fault (at + NUMBER_LEN) most.1 else None

-- a number out of its range, and how it is told
abbrev pub field_fault : ℕ → Layout → ℕ → Option RtsFault
field_fault at layout field = above at field (greatest_field layout)

-- where the fields are in range: whether all of the bytes are there
abbrev pub end_fault : ℕ → Layout → List ℕ → Option RtsFault → Option RtsFault
end_fault at layout b (Some wrong) = Some wrong
end_fault at layout b None =
    if nat_lt (length b) (length_by layout (field_of b)) then fault at CutShort else None

-- what is wrong behind a type
abbrev pub layout_fault : ℕ → List ℕ → Option Layout → Option RtsFault
layout_fault at b None = fault at BadType
layout_fault at b (Some layout) =
    if nat_lt (length b) (fixed_length layout) then fault at CutShort
    else end_fault at layout b (field_fault at layout (field_of b))

-- what is wrong with the command in front, which begins at that place
unfoldable pub command_fault : ℕ → List ℕ → Option RtsFault
command_fault at b =
    if nat_lt (length b) NUMBER_LEN then fault at CutShort else layout_fault at b
    (layout_of (type_of b))

-- ---- the packet

-- behind so many whole commands: the next one is wrong, or bytes are left behind the last
abbrev pub RestFault : ℕ → ℕ → ℕ → List ℕ → RtsFault → Type 0
RestFault whole count at rest wrong =
    ((whole < count) × (command_fault at rest ≡ Some wrong))
    ⊎ ((whole ≡ count) × (rest ≢ []) × (fault at Left ≡ Some wrong))

-- the commands of a packet of so many bytes: some are whole, and what stands behind them is wrong
pub record BodyFault (total count : ℕ) (body : List ℕ) (wrong : RtsFault) : Type 0 where
  pub before : List Command
  pub rest : List ℕ
  pub bytes : body ≡ spellings before ++ rest
  pub whole : AreCommands before
  pub first : RestFault (length before) count (total - length rest) rest wrong

-- the first part that is wrong
abbrev pub FirstFault : List ℕ → RtsFault → Type 0
FirstFault b wrong =
    HeadFault b wrong.place wrong.kind
    ⊎ (IsHead b × BodyFault (length b) (count_of b) (drop PACKET_HEADER_LEN b) wrong)
