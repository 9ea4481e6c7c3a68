-- the numbers of an in proxy, written out
use Rattle.std.specs.Prelude.{◌≡◌}
use Rattle.rh_inproxy.specs.declared.in_proxy.TheConstants.{ROOMS}
use Rattle.rh_inproxy.specs.declared.opening.TheConstants.{ECHO_LENGTH, GREATEST_LENGTHS, KEEPALIVE}

pub record AreFixed : Type 0 where
  -- the most unfinished legs of each kind (profile)
  pub rooms : ROOMS ≡ record { client_out = 0; out_server = 0; client_in = 2; in_server = 1 }
  -- the most bytes of an echo request (profile)
  pub echo_length : ECHO_LENGTH ≡ 16
  -- what the lengths of the requests add up to at most before a later ci leg, in bytes (profile)
  pub greatest_lengths : GREATEST_LENGTHS ≡ 2_147_221_503
  -- the keepalive by default, in milliseconds (profile)
  pub keepalive : KEEPALIVE ≡ 300_000
