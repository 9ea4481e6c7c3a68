-- the numbers of lines and legs, written out
use Rattle.std.specs.Prelude.{◌≡◌, ◌+◌}
use Rattle.rh_http.specs.declared.lengths.TheConstants.{OPENS_OUT, REPLACES_OUT}
use Rattle.rh_line.specs.declared.send_line.TheConstants.{QUEUE_BYTES}
use Rattle.rh_line.specs.declared.leg.TheConstants.{LAST_NUMBER}
use Rattle.rh_sig.specs.declared.name.Name.TheVariants.{ConnA1, OutR1A3, OutR2C1}
use Rattle.rh_sig.specs.Numerals.{bytes_of}

pub record AreFixed : Type 0 where
  -- the most bytes of PDUs in a queue (profile)
  pub queue_bytes : QUEUE_BYTES ≡ 262_144
  -- the greatest number of a leg (profile)
  pub last_number : LAST_NUMBER ≡ 4_294_967_295
  -- the requests for an OUT channel tell the bytes of the packets that open it (MS-RPCH 2.2.4), or
  -- of those that replace it (profile)
  pub opens_out : OPENS_OUT ≡ bytes_of ConnA1
  pub replaces_out : REPLACES_OUT ≡ bytes_of OutR1A3 + bytes_of OutR2C1
