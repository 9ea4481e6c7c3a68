-- the common header of connection-oriented PDUs (C706 12.6.3.1), as the first 16 bytes of a list
use Rattle.std.specs.Prelude.{ℕ, ◌+◌, ◌*◌, ◌/◌, ◌==◌, List, Bool, if◌then◌else◌, nat_lt, not, slice_index}
use Rattle.std.specs.Prelude.{Some, None}
use Rattle.std.specs.declared.option.Option.{Option}
use Rattle.rh_pdu.specs.declared.fault.HeadFault.{HeadFault}
use Rattle.rh_pdu.specs.declared.fault.HeadFault.TheVariants.{Version, Minor, ByteOrder, TooShort, TooLong}
use Rattle.rh_pdu.specs.declared.header.Header.{Header}
use Rattle.rh_pdu.specs.declared.header.TheConstants.{VERSION_AT, MINOR_AT, PTYPE_AT, FLAGS_AT, ORDER_AT, FRAG_AT, AUTH_AT, CALL_AT}
use Rattle.rh_pdu.specs.declared.header.TheConstants.{HEADER_LEN, GREATEST_FRAG, VERSION, GREATEST_MINOR, LITTLE_ENDIAN, RTS}

-- the version of the protocol, and its greatest minor version
abbrev pub version : ℕ
version = VERSION

abbrev pub greatest_minor : ℕ
greatest_minor = GREATEST_MINOR

-- the first four bits of the data representation where integers have their least byte first; else
-- they are 0
abbrev pub little_endian : ℕ
little_endian = LITTLE_ENDIAN

-- the PTYPE of RTS PDUs (MS-RPCH 2.2.3.6)
abbrev pub rts : ℕ
rts = RTS

-- the length of the header, in bytes, and the greatest length of a PDU (profile)
abbrev pub header_length : ℕ
header_length = HEADER_LEN

abbrev pub greatest_length : ℕ
greatest_length = GREATEST_FRAG

-- ---- the fields

-- how integers stand: the high four bits of the data representation
abbrev pub integer_order : List ℕ → ℕ
integer_order b = slice_index b ORDER_AT / 16

-- integers have their least byte first
abbrev pub is_little : List ℕ → Bool
is_little b = integer_order b == little_endian

-- a number of two bytes, in the header's own byte order
abbrev pub short_at : List ℕ → ℕ → ℕ
short_at b at =
    if is_little b
    then slice_index b at + 256 * slice_index b (at + 1)
    else slice_index b (at + 1) + 256 * slice_index b at

-- a number of four bytes, in the header's own byte order
abbrev pub long_at : List ℕ → ℕ → ℕ
long_at b at =
    if is_little b
    then short_at b at + 65536 * short_at b (at + 2)
    else short_at b (at + 2) + 65536 * short_at b at

-- frag_length
unfoldable pub frag_of : List ℕ → ℕ
frag_of b = short_at b FRAG_AT

-- the fields of the header
abbrev pub header_of : List ℕ → Header
header_of b = record {
  ptype = slice_index b PTYPE_AT;
  flags = slice_index b FLAGS_AT;
  little = is_little b;
  frag = frag_of b;
  auth = short_at b AUTH_AT;
  call = long_at b CALL_AT;
}

-- ---- the rules

-- the first rule that the header breaks
unfoldable pub head_fault : List ℕ → Option HeadFault
head_fault b =
    if not (slice_index b VERSION_AT == version) then Some (Version (slice_index b VERSION_AT))
    else (if nat_lt greatest_minor (slice_index b MINOR_AT)
    then Some (Minor (slice_index b MINOR_AT))
    else (if nat_lt little_endian (integer_order b) then Some (ByteOrder (slice_index b ORDER_AT))
    else (if nat_lt (frag_of b) header_length then Some (TooShort (frag_of b))
    else (if nat_lt greatest_length (frag_of b) then Some (TooLong (frag_of b)) else None))))
