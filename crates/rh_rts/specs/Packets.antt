-- the whole packet (MS-RPCH 2.2.3.6)
use Rattle.std.specs.Prelude.{◌≡◌, ◌⊎◌, ◌≤◌, ◌+◌, ◌-◌, ◌^◌, ℕ, List, [], ◌∷◌, ◌++◌, length, min}
use Rattle.std.specs.Prelude.{nat_lt, if◌then◌else◌}
use Rattle.std.specs.Prelude.{Some, None, Ok, Err}
use Rattle.std.specs.declared.option.Option.{Option}
use Rattle.std.specs.declared.result.Result.{Result}
use Rattle.std.specs.Int.{w16, to_le_bytes}
use Rattle.rh_rts.specs.declared.command.Command.{Command}
use Rattle.rh_rts.specs.declared.command.Command.TheVariants as commands
use Rattle.rh_rts.specs.declared.fault.PacketFault.{PacketFault}
use Rattle.rh_rts.specs.declared.fault.PacketFault.TheVariants.{BadFlags, BadDestination, TooLong}
use Rattle.rh_rts.specs.declared.fault.PacketFault.TheVariants.{NoMemory}
use Rattle.rh_rts.specs.declared.packet.TheConstants.{ALL_FLAGS, GREATEST_PACKET_LENGTH}
use Rattle.rh_rts.specs.declared.header.TheConstants.{PACKET_HEADER_LEN}
use Rattle.rh_rts.specs.declared.command.TheConstants.{GREATEST_DESTINATION}
use Rattle.rh_rts.specs.Commands.{spellings, AreCommands}

-- what a packet says
pub record Parts : Type 0 where
  pub flags : ℕ
  pub commands : List Command

abbrev pub parts : ℕ → List Command → Parts
parts flags commands = record { flags = flags; commands = commands }

-- a number of two bytes, the least first
abbrev pub le2 : ℕ → List ℕ
le2 n = to_le_bytes w16 n

-- frag_length: the sum of the parts
abbrev pub packet_length : Parts → ℕ
packet_length p = PACKET_HEADER_LEN + length (spellings p.commands)

-- the header up to the flags, with these two bytes of frag_length (C706 12.6.3.1): version 5.0,
-- PTYPE 20,
-- first and last fragment, least significant byte first, no authentication, call 0
abbrev pub header_front : List ℕ → List ℕ
header_front frag = (5 ∷ 0 ∷ 20 ∷ 3 ∷ 16 ∷ 0 ∷ 0 ∷ 0 ∷ []) ++ (frag ++ (0 ∷ 0 ∷ 0 ∷ 0 ∷ 0 ∷ 0 ∷ []))

-- the header, up to the commands
abbrev pub header_bytes : ℕ → ℕ → ℕ → List ℕ
header_bytes frag flags count = header_front (le2 frag) ++ (le2 flags ++ le2 count)

-- the one spelling of a packet
unfoldable pub packet_bytes : Parts → List ℕ
packet_bytes p = header_bytes (packet_length p) p.flags (length p.commands) ++ spellings p.commands

-- what can be sent
pub record IsPacket (p : Parts) : Type 0 where
  pub flags : p.flags ≤ ALL_FLAGS
  pub commands : AreCommands p.commands
  pub length : packet_length p ≤ GREATEST_PACKET_LENGTH

-- ---- making a packet

-- the first destination that is none
abbrev pub bad_destination : List Command → Option ℕ
bad_destination [] = None
bad_destination (commands.Destination n ∷ cs) =
    if nat_lt GREATEST_DESTINATION n then Some n else bad_destination cs
bad_destination (c ∷ cs) = bad_destination cs

-- a sum as it is told: the greatest u64 at most
abbrev pub as_told : ℕ → ℕ
as_told n = min n (2 ^ 64 - 1)

-- where the destinations are in range
abbrev pub made_of : Option ℕ → Parts → Result Parts PacketFault
made_of (Some n) p = Err (BadDestination n)
made_of None p = if nat_lt GREATEST_PACKET_LENGTH (packet_length p) then Err
    (TooLong (as_told (packet_length p))) else Ok p

-- the packet of these parts, or the first of the reasons why there is none
abbrev pub made : Parts → Result Parts PacketFault
made p = if nat_lt ALL_FLAGS p.flags then Err (BadFlags p.flags) else made_of
    (bad_destination p.commands) p

-- it is that, or there was no memory for the packet
abbrev pub IsMade : Parts → Result Parts PacketFault → Type 0
IsMade p result = (result ≡ made p) ⊎ ((made p ≡ Ok p) × (result ≡ Err NoMemory))
