-- where what an out proxy puts is read, and which numbers it is made with (MS-RPCH 2.2.4)
use Rattle.std.specs.Prelude.{Some, None}
use Rattle.std.specs.declared.option.Option.{Option}
use Rattle.rh_window.specs.Sides.{IsWindow}
use Rattle.rh_sig.specs.declared.name.Pipe.{Pipe}
use Rattle.rh_sig.specs.declared.name.Pipe.TheVariants.{CoD, OsU}
use Rattle.rh_sig.specs.Values.{IsLifetime, IsTimeout}
use Rattle.rh_line.specs.declared.leg.Leg.{Leg}
use Rattle.rh_line.specs.declared.leg.LegKind.{LegKind}
use Rattle.rh_line.specs.declared.leg.LegKind.TheVariants.{ClientOut, OutServer}
use Rattle.rh_outproxy.specs.declared.state.OutProxyConfig.{OutProxyConfig}

-- the pipe on which what it puts on a leg is read: to the client, or to the server (MS-RPCH 2.2.4)
abbrev pub pipe_to : LegKind → Option Pipe
pipe_to ClientOut = Some CoD
pipe_to OutServer = Some OsU
pipe_to kind = None

abbrev pub pipe_put : Leg → Option Pipe
pipe_put leg = pipe_to leg.kind

-- the numbers that it tells are in their ranges (profile)
pub record IsConfig (config : OutProxyConfig) : Type 0 where
  pub window : IsWindow config.window
  pub lifetime : IsLifetime config.lifetime
  pub timeout : IsTimeout config.timeout
