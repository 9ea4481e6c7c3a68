-- what an in proxy puts reads back: on which pipe, and what is asked of a configuration (MS-RPCH
-- 2.2.4)
use Rattle.std.specs.Prelude.{◌≡◌, length, Some, None}
use Rattle.std.specs.declared.option.Option.{Option}
use Rattle.rh_rts.specs.declared.command.TheConstants.{V4_LEN}
use Rattle.rh_sig.specs.declared.name.Pipe.{Pipe}
use Rattle.rh_sig.specs.declared.name.Pipe.TheVariants.{IsU}
use Rattle.rh_line.specs.declared.leg.Leg.{Leg}
use Rattle.rh_line.specs.declared.leg.LegKind.{LegKind}
use Rattle.rh_line.specs.declared.leg.LegKind.TheVariants.{InServer}
use Rattle.rh_inproxy.specs.declared.state.InProxyConfig.{InProxyConfig}

-- where the server reads; on a ci leg no packet may be put
abbrev pub pipe_to : LegKind → Option Pipe
pipe_to InServer = Some IsU
pipe_to kind = None

-- the pipe on which what an in proxy puts on a leg is read
abbrev pub pipe_put : Leg → Option Pipe
pipe_put leg = pipe_to leg.kind

-- the address has its four bytes, as it has in every value of the Rust type (MS-RPCH 2.2.3.2)
pub record HasSizes (config : InProxyConfig) : Type 0 where
  pub address : length config.address ≡ V4_LEN
