-- packets as text, each in one line: what they are called, and their fields
use Rattle.std.specs.Prelude.{◌==◌, ◌&&◌, Bool, ℕ, List, [], ◌∷◌, ◌++◌, length, nat_le, slice_index, codes, if◌then◌else◌, Some, None, Ok, Err}
use Rattle.std.specs.List.{list_any}
use Rattle.std.specs.Str.{bytes_eq}
use Rattle.std.specs.declared.option.Option.{Option}
use Rattle.std.specs.declared.result.Result.{Result}
use Rattle.std.specs.Fmt.{decimal}
use Rattle.rh_pdu.specs.declared.header.TheConstants.{PTYPE_AT}
use Rattle.rh_pdu.specs.Header.{header_length, rts}
use Rattle.rh_rts.specs.declared.fault.RtsFault.{RtsFault}
use Rattle.rh_rts.specs.Packets.{Parts}
use Rattle.rh_rts.specs.Reading.{read_packet}
use Rattle.rh_rts.specs.Texts.{kind_name}
use Rattle.rh_sig.specs.declared.name.Name.{Name}
use Rattle.rh_sig.specs.declared.name.Pipe.{Pipe}
use Rattle.rh_sig.specs.declared.name.Pipe.TheVariants.{CiU, IsU, IsD, CoU, CoD, OsU, OsD}
use Rattle.rh_sig.specs.Naming.{name_on}
use Rattle.rh_name.specs.Words.{name_word}
use Rattle.rh_name.specs.Fields.{fields_text, unnamed_text}
use Rattle.rh_name.specs.Pdus.{pdu_text}

-- ---- names

-- the name is one of these
unfoldable pub is_told : Name → List Name → Bool
is_told name names = list_any (λ (told : Name). bytes_eq (name_word told) (name_word name)) names

-- the names, and one more where it isn't one of these
unfoldable pub added : List Name → Option Name → List Name
added names None = names
added names (Some name) = if is_told name names then names else names ++ name ∷ []

-- the names, and those that the packet has on these pipes, each once
abbrev pub names_on : Parts → List Name → List Pipe → List Name
names_on p names [] = names
names_on p names (pipe ∷ pipes) = names_on p (added names (name_on p pipe)) pipes

-- all pipes, in the order in which packets go on from leg to leg
abbrev pub pipes : List Pipe
pipes = CiU ∷ IsU ∷ IsD ∷ CoU ∷ OsU ∷ OsD ∷ CoD ∷ []

-- the name that the packet has on that pipe, or all those that it has on some pipe
abbrev pub names_of : Parts → Option Pipe → List Name
names_of p (Some pipe) = names_on p [] (pipe ∷ [])
names_of p None = names_on p [] pipes

-- ---- an RTS packet (MS-RPCH 2.2.4)

-- the further names of a packet
abbrev pub others_text : List Name → List ℕ
others_text [] = []
others_text (name ∷ names) = (codes " or " ++ name_word name) ++ others_text names

-- what it is called, and its fields by the first name: those of one signature have the same words
abbrev pub named_text : List Name → Parts → List ℕ
named_text [] p = unnamed_text p
named_text (name ∷ names) p =
    name_word name ++ (others_text names ++ fields_text name 0 p.commands)

-- what is wrong, and how many bytes stand before it
abbrev pub bad_text : RtsFault → List ℕ
bad_text wrong = codes "bad " ++ kind_name wrong.kind ++ codes " " ++ decimal wrong.place

-- the packet, or the first part that is wrong
abbrev pub rts_text : Option Pipe → Result Parts RtsFault → List ℕ
rts_text pipe (Ok p) = named_text (names_of p pipe) p
rts_text pipe (Err wrong) = bad_text wrong

abbrev pub rts_told : Option Pipe → List ℕ → List ℕ
rts_told pipe b = rts_text pipe (read_packet b)

-- ---- a line

-- a whole header of the PTYPE of RTS packets
abbrev pub is_rts : List ℕ → Bool
is_rts b = nat_le header_length (length b) && (slice_index b PTYPE_AT == rts)

-- what the bytes are called that stand on that pipe, or on any one
unfoldable pub told : Option Pipe → List ℕ → List ℕ
told pipe b = if is_rts b then rts_told pipe b else pdu_text b
