-- the stream that the bytes of one tag and pipe are (C706 12.6.3.1; MS-RPCH 2.2.4)
use Rattle.std.specs.Prelude.{ℕ, ◌+◌, ◌==◌, ◌&&◌, ◌||◌, not, List, [], ◌∷◌, ◌++◌, length, drop, Bool, true, false, if◌then◌else◌, nat_le, is_some, map, Some, None}
use Rattle.std.specs.List.{concat, list_any}
use Rattle.std.specs.declared.option.Option.{Option}
use Rattle.rh_pdu.specs.Header.{header_length, head_fault}
use Rattle.rh_pdu.specs.Cut.{frames_of, is_sound, rest_of}
use Rattle.rh_rts.specs.declared.command.Cookie.{Cookie}
use Rattle.rh_sig.specs.declared.name.Pipe.{Pipe}
use Rattle.rh_audit.specs.declared.opening.Opening.{Opening}
use Rattle.rh_audit.specs.declared.opening.Opening.TheVariants.{Waits, Opens, Fails}
use Rattle.rh_audit.specs.declared.packet.First.{First}
use Rattle.rh_audit.specs.declared.packet.Met.{Met}
use Rattle.rh_audit.specs.declared.packet.Met.TheVariants as kinds
use Rattle.rh_audit.specs.Openings.{opening}
use Rattle.rh_audit.specs.Packets as packets
use Rattle.rh_audit.specs.Packets.{first_met, is_mark, is_pdu, renewed_by}
use Rattle.rh_audit.specs.Pipes.{is_upward}

-- ---- frames

-- an RTS PDU has a name on its pipe, and a stream towards the server begins with a first packet
abbrev pub stands : Pipe → Bool → Met → Bool
stands pipe begins kinds.Nameless = false
stands pipe begins kinds.Pdu = not (begins && is_upward pipe)
stands pipe begins (kinds.Packet packet) =
    not (begins && is_upward pipe) || is_some (packets.first_of packet)

-- frames up to the first that may not stand there; whether the first of them begins the stream
unfoldable pub counted : Pipe → Bool → List (List ℕ) → List (List ℕ)
counted pipe begins [] = []
counted pipe begins (frame ∷ frames) =
    if stands pipe begins (packets.met pipe frame) then frame ∷ counted pipe false frames else []

-- the header of the rest is whole, and breaks a rule
abbrev pub is_bad : List ℕ → Bool
is_bad rest = nat_le header_length (length rest) && not (is_sound (head_fault rest))

-- ---- a stream

-- the frames that count, and behind how many bytes it is broken
pub record Stream : Type 0 where
  pub frames : List (List ℕ)
  pub broken : Option ℕ

abbrev pub stream_is : List (List ℕ) → Option ℕ → Stream
stream_is frames broken = record { frames = frames; broken = broken }

-- where nothing is wrong, all frames count, and the rest may be the front of one
abbrev pub broken_behind : ℕ → List (List ℕ) → List (List ℕ) → List ℕ → Option ℕ
broken_behind place counting frames rest =
    if (length counting == length frames) && not (is_bad rest)
    then None
    else Some (place + length (concat counting))

abbrev pub framed_by : Pipe → Bool → ℕ → List (List ℕ) → List ℕ → Stream
framed_by pipe begins place frames rest =
    let counting = counted pipe begins frames in
    stream_is counting (broken_behind place counting frames rest)

-- bytes in frames, of which the first begins the stream or not, behind so many bytes
unfoldable pub framed : Pipe → Bool → ℕ → List ℕ → Stream
framed pipe begins place bytes = framed_by pipe begins place (frames_of bytes) (rest_of bytes)

abbrev pub opened : Pipe → List ℕ → Opening → Stream
opened pipe bytes Waits = stream_is [] None
opened pipe bytes (Fails place) = stream_is [] (Some place)
opened pipe bytes (Opens n) = framed pipe true n (drop n bytes)

-- the stream that bytes on a pipe are
abbrev pub stream : Pipe → List ℕ → Stream
stream pipe bytes = opened pipe bytes (opening pipe bytes)

-- ---- what it says

-- what each of its frames is
abbrev pub mets : Pipe → Stream → List Met
mets pipe s = map (packets.met pipe) s.frames

-- the first packet
abbrev pub first_among : List Met → Option First
first_among [] = None
first_among (m ∷ ms) = first_met m

abbrev pub later : Option Cookie → Option Cookie → Option Cookie
later found None = found
later found (Some cookie) = Some cookie

-- the last cookie that the channel got anew, if any, else this
abbrev pub renewed : Option Cookie → List Met → Option Cookie
renewed found [] = found
renewed found (m ∷ ms) = renewed (later found (renewed_by m)) ms

-- a handover mark is there
abbrev pub is_marked : List Met → Bool
is_marked ms = list_any is_mark ms

-- the RPC PDUs
abbrev pub pdus : Pipe → List (List ℕ) → List (List ℕ)
pdus pipe [] = []
pdus pipe (frame ∷ frames) =
    if is_pdu (packets.met pipe frame) then frame ∷ pdus pipe frames else pdus pipe frames
