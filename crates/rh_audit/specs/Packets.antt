-- what the frames of a captured stream are: RPC PDUs, and packets with a name and cookies (MS-RPCH
-- 2.2.4; the packets of replacement are this profile's)
use Rattle.std.specs.Prelude.{ℕ, ◌==◌, List, [], ◌∷◌, slice_index, Bool, true, false, if◌then◌else◌, Some, None, Ok, Err}
use Rattle.std.specs.declared.option.Option.{Option}
use Rattle.std.specs.declared.result.Result.{Result}
use Rattle.rh_pdu.specs.declared.header.TheConstants.{PTYPE_AT}
use Rattle.rh_pdu.specs.Header.{rts}
use Rattle.rh_rts.specs.declared.command.Command.{Command}
use Rattle.rh_rts.specs.declared.command.Command.TheVariants as commands
use Rattle.rh_rts.specs.declared.command.Cookie.{Cookie}
use Rattle.rh_rts.specs.declared.command.TheConstants.{NO_COOKIE}
use Rattle.rh_rts.specs.declared.fault.RtsFault.{RtsFault}
use Rattle.rh_rts.specs.Packets.{Parts}
use Rattle.rh_rts.specs.Reading.{read_packet}
use Rattle.rh_sig.specs.declared.name.Name.{Name}
use Rattle.rh_sig.specs.declared.name.Name.TheVariants as name
use Rattle.rh_sig.specs.declared.name.Pipe.{Pipe}
use Rattle.rh_sig.specs.Naming.{name_on}
use Rattle.rh_audit.specs.declared.packet.First.{First}
use Rattle.rh_audit.specs.declared.packet.LastCookies.{LastCookies}
use Rattle.rh_audit.specs.declared.packet.Met.{Met}
use Rattle.rh_audit.specs.declared.packet.Met.TheVariants as kinds
use Rattle.rh_audit.specs.declared.packet.Packet.{Packet}

-- ---- a packet

-- the last two cookies among commands, the last one and the one before it, where these stood before
abbrev pub latest : LastCookies → List Command → LastCookies
latest found [] = found
latest found (commands.Cookie cookie ∷ cs) =
    latest (record { last = cookie; before = found.last }) cs
latest found (c ∷ cs) = latest found cs

abbrev pub no_cookies : LastCookies
no_cookies = record { last = NO_COOKIE; before = NO_COOKIE }

abbrev pub with_name : Option Name → List Command → Option Packet
with_name None cs = None
with_name (Some name) cs = Some (record { name = name; cookies = latest no_cookies cs })

abbrev pub packet_by : Pipe → Result Parts RtsFault → Option Packet
packet_by pipe (Ok p) = with_name (name_on p pipe) p.commands
packet_by pipe (Err fault) = None

-- a frame that is a packet with a name on the pipe, whatever its values
unfoldable pub packet_on : Pipe → List ℕ → Option Packet
packet_on pipe frame = packet_by pipe (read_packet frame)

-- ---- a frame

abbrev pub met_by : Option Packet → Met
met_by None = kinds.Nameless
met_by (Some packet) = kinds.Packet packet

-- what the frame is: an RPC PDU, or else a packet with a name, or none
abbrev pub met : Pipe → List ℕ → Met
met pipe frame =
    if slice_index frame PTYPE_AT == rts then met_by (packet_on pipe frame) else kinds.Pdu

abbrev pub is_pdu : Met → Bool
is_pdu kinds.Pdu = true
is_pdu kinds.Nameless = false
is_pdu (kinds.Packet packet) = false

-- ---- what packets say

-- the last cookie is that of the channel, and the one before it that of the predecessor
abbrev pub connects : LastCookies → First
connects cookies = record { own = cookies.last; predecessor = None }

abbrev pub replaces : LastCookies → First
replaces cookies = record { own = cookies.last; predecessor = Some cookies.before }

-- the packets with which a leg begins
abbrev pub first_by : Name → LastCookies → Option First
first_by name.ConnA1 cookies = Some (connects cookies)
first_by name.ConnA2 cookies = Some (connects cookies)
first_by name.ConnB1 cookies = Some (connects cookies)
first_by name.ConnB2 cookies = Some (connects cookies)
first_by name.InR1A1 cookies = Some (replaces cookies)
first_by name.InR1A2 cookies = Some (replaces cookies)
first_by name.OutR1A3 cookies = Some (replaces cookies)
first_by name.OutR1A4 cookies = Some (replaces cookies)
first_by _ cookies = None

abbrev pub first_of : Packet → Option First
first_of packet = first_by packet.name packet.cookies

abbrev pub first_met : Met → Option First
first_met kinds.Pdu = None
first_met kinds.Nameless = None
first_met (kinds.Packet packet) = first_of packet

-- a handover mark: no RPC PDU of the channel is put behind it
abbrev pub marks : Name → Bool
marks name.InR1A5 = true
marks name.InR1A6 = true
marks name.OutR1A9 = true
marks name.OutR1A10 = true
marks _ = false

abbrev pub is_mark : Met → Bool
is_mark kinds.Pdu = false
is_mark kinds.Nameless = false
is_mark (kinds.Packet packet) = marks packet.name

-- the cookie that a channel gets anew where its successor comes by the same proxy
abbrev pub renews : Name → Cookie → Option Cookie
renews name.InR2A2 cookie = Some cookie
renews _ cookie = None

abbrev pub renewed_by : Met → Option Cookie
renewed_by kinds.Pdu = None
renewed_by kinds.Nameless = None
renewed_by (kinds.Packet packet) = renews packet.name packet.cookies.last
