-- what a client puts reads back: on which pipe, and what is asked of its values (MS-RPCH 2.2.3.1,
-- 2.2.4)
use Rattle.std.specs.Prelude.{◌≡◌, List, length, Some, None}
use Rattle.std.specs.List.{AllByRecursion}
use Rattle.std.specs.declared.option.Option.{Option}
use Rattle.rh_window.specs.Sides.{IsWindow}
use Rattle.rh_rts.specs.declared.command.Cookie.{Cookie}
use Rattle.rh_rts.specs.declared.command.TheConstants.{COOKIE_LEN}
use Rattle.rh_sig.specs.declared.name.Pipe.{Pipe}
use Rattle.rh_sig.specs.declared.name.Pipe.TheVariants.{CiU, CoU}
use Rattle.rh_sig.specs.Values.{IsLifetime, IsKeepalive}
use Rattle.rh_http.specs.declared.config.ClientConfig.{ClientConfig}
use Rattle.rh_line.specs.declared.leg.Leg.{Leg}
use Rattle.rh_line.specs.declared.leg.LegKind.{LegKind}
use Rattle.rh_line.specs.declared.leg.LegKind.TheVariants.{ClientOut, OutServer, ClientIn, InServer}
use Rattle.law_moves.specs.Moves.{Move, Up, EndMove, Moves}

-- ---- pipes

-- where the proxy of a channel reads (MS-RPCH 2.2.4)
abbrev pub pipe_to : LegKind → Option Pipe
pipe_to ClientOut = Some CoU
pipe_to OutServer = None
pipe_to ClientIn = Some CiU
pipe_to InServer = None

-- the pipe on which what a client puts on a leg is read
abbrev pub pipe_put : Leg → Option Pipe
pipe_put leg = pipe_to leg.kind

-- ---- values

-- the numbers of a configuration are in their ranges (profile)
pub record IsConfig (config : ClientConfig) : Type 0 where
  pub window : IsWindow config.window
  pub lifetime : IsLifetime config.lifetime
  pub keepalive : IsKeepalive config.keepalive

-- 16 bytes, as every cookie of the Rust type has (MS-RPCH 2.2.3.1)
abbrev pub IsCookie : Cookie → Type 0
IsCookie cookie = length cookie.0 ≡ COOKIE_LEN

-- the cookies of a configuration
pub record HasCookies (config : ClientConfig) : Type 0 where
  pub connection : IsCookie config.connection
  pub group : IsCookie config.group

-- and those under which legs are up
abbrev pub HasCookie : Move → Type 0
HasCookie (Up leg cookie) = IsCookie cookie
HasCookie move = Unit {0}

abbrev pub HasCookieAtEnd : EndMove → Type 0
HasCookieAtEnd (Moves move) = HasCookie move
HasCookieAtEnd move = Unit {0}

abbrev pub HaveCookies : List EndMove → Type 0
HaveCookies moves = AllByRecursion HasCookieAtEnd moves
