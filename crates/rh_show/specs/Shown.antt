-- packets as text: one line each
use Rattle.std.specs.Prelude.{◌≡◌, ℕ, ◌≤◌, ◌⊎◌, ◌/◌, ◌%◌, List, [], ◌∷◌, ◌++◌, length, slice_index, codes}
use Rattle.std.specs.Prelude.{Some, None, Ok, Err}
use Rattle.std.specs.declared.option.Option.{Option}
use Rattle.std.specs.declared.result.Result.{Result}
use Rattle.std.specs.Fmt.{decimal}
use Rattle.hex.specs.Hex.{encode_lower}
use Rattle.rh_text.specs.declared.lines.TheConstants.{LINE_FEED}
use Rattle.rh_pdu.specs.declared.fault.PduFault.{PduFault}
use Rattle.rh_pdu.specs.declared.header.TheConstants.{PTYPE_AT}
use Rattle.rh_pdu.specs.Header.{header_length, rts, header_of}
use Rattle.rh_pdu.specs.Checking.{pdu_fault}
use Rattle.rh_pdu.specs.Texts.{pdu_fault_text}
use Rattle.rh_rts.specs.declared.command.Address4or16.{Address4or16}
use Rattle.rh_rts.specs.declared.command.Address4or16.TheVariants.{V4, V6}
use Rattle.rh_rts.specs.declared.command.Command.{Command}
use Rattle.rh_rts.specs.declared.command.Command.TheVariants as commands
use Rattle.rh_rts.specs.declared.fault.RtsFault.{RtsFault}
use Rattle.rh_rts.specs.Packets.{Parts}
use Rattle.rh_rts.specs.Judging.{Judged}
use Rattle.rh_rts.specs.Texts.{command_name, fault_text}
use Rattle.rh_sig.specs.Cookies.{text_of_cookie}

-- ---- an RTS packet (MS-RPCH 2.2.3.6)

-- the flags as four hex digits in lower case
abbrev pub flags_text : ℕ → List ℕ
flags_text flags = encode_lower (flags / 256 ∷ flags % 256 ∷ [])

-- a number in decimal, with a space before it
abbrev pub number_text : ℕ → List ℕ
number_text n = codes " " ++ decimal n

-- a cookie or a group's id, with a space before it
abbrev pub id_text : List ℕ → List ℕ
id_text bytes = codes " " ++ text_of_cookie bytes

-- bytes as hex digits, with a space before them
abbrev pub bytes_text : List ℕ → List ℕ
bytes_text bytes = codes " " ++ encode_lower bytes

-- the bytes of a padding, or a hyphen where there are none
abbrev pub padding_text : List ℕ → List ℕ
padding_text [] = codes " -"
padding_text (b ∷ bytes) = bytes_text (b ∷ bytes)

-- an address: its type and its bytes (MS-RPCH 2.2.3.2)
abbrev pub address_text : Address4or16 → List ℕ
address_text (V4 bytes) = codes " 0" ++ bytes_text bytes
address_text (V6 bytes) = codes " 1" ++ bytes_text bytes

-- the values of a command, in the order of its fields
abbrev pub values_text : Command → List ℕ
values_text (commands.ReceiveWindowSize n) = number_text n
values_text (commands.FlowControlAck received window cookie) =
    number_text received ++ number_text window ++ id_text cookie.0
values_text (commands.ConnectionTimeout n) = number_text n
values_text (commands.Cookie cookie) = id_text cookie.0
values_text (commands.ChannelLifetime n) = number_text n
values_text (commands.ClientKeepalive n) = number_text n
values_text (commands.Version n) = number_text n
values_text commands.Empty = []
values_text (commands.Padding bytes) = padding_text bytes
values_text commands.NegativeAnce = []
values_text commands.Ance = []
values_text (commands.ClientAddress address padding) = address_text address ++ bytes_text padding
values_text (commands.AssociationGroupId cookie) = id_text cookie.0
values_text (commands.Destination n) = number_text n
values_text (commands.PingTrafficSentNotify n) = number_text n

-- a command: its name and its values
abbrev pub command_text : Command → List ℕ
command_text c = command_name c ++ values_text c

-- the commands in their order, each with a space before it
abbrev pub commands_text : List Command → List ℕ
commands_text [] = []
commands_text (c ∷ cs) = codes " " ++ command_text c ++ commands_text cs

-- a packet: its flags and its commands
abbrev pub packet_text : Parts → List ℕ
packet_text p = codes "rts " ++ flags_text p.flags ++ commands_text p.commands

-- the packet, or the first part that is wrong
abbrev pub judged_text : Result Parts RtsFault → List ℕ
judged_text (Ok p) = packet_text p
judged_text (Err wrong) = fault_text wrong

-- ---- another PDU (C706 12.6.3.1)

-- where nothing is wrong, the fields of the header: PTYPE, frag_length and call_id
abbrev pub checked_text : List ℕ → Option PduFault → List ℕ
checked_text b (Some fault) = codes "fault " ++ pdu_fault_text fault
checked_text b None =
    codes "rpc " ++ decimal (header_of b).ptype ++ codes " " ++ decimal (header_of b).frag
    ++ codes " " ++ decimal (header_of b).call

-- a PDU, or what is wrong with it first
abbrev pub pdu_text : List ℕ → List ℕ
pdu_text b = checked_text b (pdu_fault b)

-- ---- a line

-- a whole header of the PTYPE of RTS packets
abbrev pub IsRts : List ℕ → Type 0
IsRts b = (header_length ≤ length b) × (slice_index b PTYPE_AT ≡ rts)

-- the bytes are read as an RTS packet, and this is the text of the packet or of its fault
abbrev pub RtsText : List ℕ → List ℕ → Type 0
RtsText b text = (judged : Result Parts RtsFault) × Judged b judged × (text ≡ judged_text judged)

-- the one text that tells the bytes
abbrev pub ShownAs : List ℕ → List ℕ → Type 0
ShownAs b text = (IsRts b × RtsText b text) ⊎ ((¬ IsRts b) × (text ≡ pdu_text b))

-- the lines of these packets, each ended by LF
abbrev pub ShowText : List (List ℕ) → List ℕ → Type 0
ShowText [] text = text ≡ []
ShowText (b ∷ packets) text =
    (line : List ℕ) × (more : List ℕ)
    × ShownAs b line × (text ≡ line ++ LINE_FEED ∷ more) × ShowText packets more
