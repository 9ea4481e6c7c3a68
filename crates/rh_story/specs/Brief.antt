-- the items of a stream as text: RTS packets by their names and the fields that matter (MS-RPCH
-- 2.2.4), other PDUs by their kind, call and length (C706 12.6.3.1), heads by their first line
-- (RFC 9112 section 2.1)
use Rattle.std.specs.Prelude.{◌&&◌, ℕ, Bool, List, [], ◌∷◌, ◌++◌, map, take, nat_le, slice_index, slice_get, codes, if◌then◌else◌, Some, None, Ok, Err}
use Rattle.std.specs.List.{prefix_len}
use Rattle.std.specs.declared.option.Option.{Option}
use Rattle.std.specs.declared.result.Result.{Result}
use Rattle.std.specs.Fmt.{decimal}
use Rattle.hex.specs.Hex.{encode_lower}
use Rattle.rh_pdu.specs.declared.fault.PduFault.{PduFault}
use Rattle.rh_pdu.specs.declared.header.Header.{Header}
use Rattle.rh_pdu.specs.Header.{header_of}
use Rattle.rh_pdu.specs.Checking.{pdu_fault}
use Rattle.rh_rts.specs.declared.command.Command.{Command}
use Rattle.rh_rts.specs.declared.command.Command.TheVariants as commands
use Rattle.rh_rts.specs.declared.fault.RtsFault.{RtsFault}
use Rattle.rh_rts.specs.Packets.{Parts}
use Rattle.rh_rts.specs.Reading.{read_packet}
use Rattle.rh_sig.specs.declared.name.Name.{Name}
use Rattle.rh_sig.specs.declared.name.Pipe.{Pipe}
use Rattle.rh_sig.specs.Naming.{name_on}
use Rattle.rh_name.specs.Words.{name_word}
use Rattle.rh_name.specs.Fields.{cookie_word, counted, counts_field, named_field}
use Rattle.rh_name.specs.Pdus.{kind_by, kinds, pdu_text}
use Rattle.rh_name.specs.Telling.{is_rts, told}
use Rattle.rh_story.specs.Items.{is_framed}

-- ---- RTS packets

-- the last four bytes of a cookie
abbrev pub last_four : List ℕ → List ℕ
last_four cookie = map (λ (at : ℕ). slice_index cookie at) (12 ∷ 13 ∷ 14 ∷ 15 ∷ [])

abbrev pub short_id : List ℕ → List ℕ
short_id cookie = codes " .." ++ encode_lower (last_four cookie)

-- an acknowledgement: bytes received, available window and the channel
abbrev pub ack_brief : ℕ → ℕ → List ℕ → List ℕ
ack_brief received window cookie =
    counts_field [] received window ++ (codes " channel" ++ short_id cookie)

-- a field of a packet of that name, before which so many cookies stand; a client's address isn't
-- told
abbrev pub brief_field : Name → ℕ → Command → List ℕ
brief_field name n (commands.Cookie cookie) = cookie_word name n ++ short_id cookie.0
brief_field name n (commands.AssociationGroupId cookie) = codes " group" ++ short_id cookie.0
brief_field name n (commands.FlowControlAck received window cookie) =
    ack_brief received window cookie.0
brief_field name n (commands.ClientAddress address padding) = []
brief_field name n command = named_field name n command

-- the fields, in their order
abbrev pub brief_fields : Name → ℕ → List Command → List ℕ
brief_fields name n [] = []
brief_fields name n (c ∷ cs) = brief_field name n c ++ brief_fields name (counted n c) cs

abbrev pub packet_text : Name → Parts → List ℕ
packet_text name p = name_word name ++ brief_fields name 0 p.commands

-- a packet by the name that it has there; one without is told as `name` tells it
abbrev pub named_brief : Pipe → List ℕ → Parts → Option Name → List ℕ
named_brief pipe b p (Some name) = packet_text name p
named_brief pipe b p None = told (Some pipe) b

abbrev pub packet_brief : Pipe → List ℕ → Result Parts RtsFault → List ℕ
packet_brief pipe b (Ok p) = named_brief pipe b p (name_on p pipe)
packet_brief pipe b (Err wrong) = told (Some pipe) b

-- where there is no pipe, too
abbrev pub rts_brief : Option Pipe → List ℕ → List ℕ
rts_brief None b = told None b
rts_brief (Some pipe) b = packet_brief pipe b (read_packet b)

-- ---- other PDUs

-- the kind, the call and the length
unfoldable pub numbers_brief : Header → List ℕ
numbers_brief h = codes " call " ++ decimal h.call ++ codes " length " ++ decimal h.frag

abbrev pub header_brief : Header → List ℕ
header_brief h = kind_by h.ptype (slice_get kinds h.ptype) ++ numbers_brief h

-- or the first fault
abbrev pub pdu_brief_by : List ℕ → Option PduFault → List ℕ
pdu_brief_by b (Some fault) = pdu_text b
pdu_brief_by b None = header_brief (header_of b)

abbrev pub pdu_brief : List ℕ → List ℕ
pdu_brief b = pdu_brief_by b (pdu_fault b)

-- a frame on a pipe
unfoldable pub frame_brief : Option Pipe → List ℕ → List ℕ
frame_brief pipe b = if is_rts b then rts_brief pipe b else pdu_brief b

-- ---- heads and greetings

-- a byte that ASCII prints
abbrev pub is_printed : ℕ → Bool
is_printed b = nat_le 32 b && nat_le b 126

-- what is printed of the front: of a head the first line, and all of a greeting
unfoldable pub text_brief : List ℕ → List ℕ
text_brief b = take (prefix_len is_printed b) b

-- ---- an item

unfoldable pub item_brief : Option Pipe → List ℕ → List ℕ
item_brief pipe b = if is_framed b then frame_brief pipe b else text_brief b
