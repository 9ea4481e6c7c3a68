-- the numbers of an out proxy, written out
use Rattle.std.specs.Prelude.{◌≡◌}
use Rattle.rh_outproxy.specs.declared.out_proxy.TheConstants.{ROOMS}

pub record AreFixed : Type 0 where
  -- the most unfinished legs of each kind (profile)
  pub rooms : ROOMS ≡ record { client_out = 1; out_server = 1; client_in = 0; in_server = 0 }
