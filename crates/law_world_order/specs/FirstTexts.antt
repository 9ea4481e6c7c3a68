-- the port of a server, which the requests of its client name (MS-RPCH 2.1.2)
use Rattle.std.specs.Prelude.{ℕ, ◌≤◌}
use Rattle.rh_http.specs.declared.numbers.TheConstants.{LEAST_PORT, GREATEST_PORT}

-- a server has a port of this range
pub record IsPort (port : ℕ) : Type 0 where
  pub least : LEAST_PORT ≤ port
  pub most : port ≤ GREATEST_PORT
