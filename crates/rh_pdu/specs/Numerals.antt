-- the numbers of the common header, written out
use Rattle.std.specs.Prelude.{◌≡◌}
use Rattle.rh_pdu.specs.declared.header.TheConstants.{VERSION_AT, MINOR_AT, PTYPE_AT, FLAGS_AT}
use Rattle.rh_pdu.specs.declared.header.TheConstants.{ORDER_AT, FRAG_AT, AUTH_AT, CALL_AT}
use Rattle.rh_pdu.specs.declared.header.TheConstants.{HEADER_LEN, VERSION, GREATEST_MINOR}
use Rattle.rh_pdu.specs.declared.header.TheConstants.{LITTLE_ENDIAN, RTS, GREATEST_FRAG}

pub record AreFixed : Type 0 where
  -- where its fields stand (C706 12.6.3.1)
  pub version_at : VERSION_AT ≡ 0
  pub minor_at : MINOR_AT ≡ 1
  pub ptype_at : PTYPE_AT ≡ 2
  pub flags_at : FLAGS_AT ≡ 3
  pub order_at : ORDER_AT ≡ 4
  pub frag_at : FRAG_AT ≡ 8
  pub auth_at : AUTH_AT ≡ 10
  pub call_at : CALL_AT ≡ 12
  -- its length, the version, the greatest minor version, and where the least byte stands first
  -- (C706 12.6.3.1)
  pub header_length : HEADER_LEN ≡ 16
  pub version : VERSION ≡ 5
  pub greatest_minor : GREATEST_MINOR ≡ 1
  pub little_endian : LITTLE_ENDIAN ≡ 1
  -- the PTYPE of RTS PDUs (MS-RPCH 2.2.3)
  pub rts : RTS ≡ 20
  -- the most bytes of a PDU (profile)
  pub greatest_length : GREATEST_FRAG ≡ 8_192
