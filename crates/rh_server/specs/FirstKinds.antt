-- which kind a server's leg has, by the first frame that comes on it (profile)
use Rattle.std.specs.Prelude.{ℕ, List, take, length, if◌then◌else◌, nat_lt, Some, None, Ok, Err}
use Rattle.std.specs.declared.option.Option.{Option}
use Rattle.std.specs.declared.result.Result.{Result}
use Rattle.rh_pdu.specs.Header.{header_length, head_fault, frag_of}
use Rattle.rh_pdu.specs.declared.fault.HeadFault.{HeadFault}
use Rattle.rh_rts.specs.Packets.{Parts}
use Rattle.rh_rts.specs.Reading.{read_packet}
use Rattle.rh_rts.specs.declared.fault.RtsFault.{RtsFault}
use Rattle.rh_sig.specs.declared.name.Name.{Name}
use Rattle.rh_sig.specs.declared.name.Name.TheVariants as name
use Rattle.rh_sig.specs.declared.name.Pipe.TheVariants.{IsU, OsU}
use Rattle.rh_sig.specs.Naming.{name_on}
use Rattle.rh_server.specs.declared.first_frame.FirstKind.{FirstKind}
use Rattle.rh_server.specs.declared.first_frame.FirstKind.TheVariants.{Need, In, Out, Stranger}

-- CONN/A2 and OUT_R1/A4 come first on an os leg
abbrev pub out_by : Option Name → FirstKind
out_by (Some name.ConnA2) = Out
out_by (Some name.OutR1A4) = Out
out_by other = Stranger

-- CONN/B2 and IN_R1/A2 on an is leg
abbrev pub in_by : Option Name → FirstKind → FirstKind
in_by (Some name.ConnB2) other = In
in_by (Some name.InR1A2) other = In
in_by unnamed other = other

abbrev pub kind_by : Result Parts RtsFault → FirstKind
kind_by (Ok parts) = in_by (name_on parts IsU) (out_by (name_on parts OsU))
kind_by (Err fault) = Stranger

-- a frame is whole, or its header is at fault
abbrev pub frame_by : List ℕ → Option HeadFault → ℕ → FirstKind
frame_by bytes (Some fault) len = Stranger
frame_by bytes None len =
    if nat_lt (length bytes) len then Need else kind_by (read_packet (take len bytes))

abbrev pub frame_of : List ℕ → List ℕ → FirstKind
frame_of bytes header = frame_by bytes (head_fault header) (frag_of header)

abbrev pub first_kind : List ℕ → FirstKind
first_kind bytes =
    if nat_lt (length bytes) header_length then Need
    else frame_of bytes (take header_length bytes)
