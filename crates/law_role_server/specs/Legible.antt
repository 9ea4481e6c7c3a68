-- on which pipe what a server puts is read (MS-RPCH 2.2.4)
use Rattle.std.specs.Prelude.{Some, None}
use Rattle.std.specs.declared.option.Option.{Option}
use Rattle.rh_sig.specs.declared.name.Pipe.{Pipe}
use Rattle.rh_sig.specs.declared.name.Pipe.TheVariants.{IsD, OsD}
use Rattle.rh_line.specs.declared.leg.Leg.{Leg}
use Rattle.rh_line.specs.declared.leg.LegKind.{LegKind}
use Rattle.rh_line.specs.declared.leg.LegKind.TheVariants.{ClientOut, OutServer, ClientIn, InServer}

-- by the proxies on its legs; it has no others
abbrev pub pipe_to : LegKind → Option Pipe
pipe_to InServer = Some IsD
pipe_to OutServer = Some OsD
pipe_to ClientIn = None
pipe_to ClientOut = None

abbrev pub pipe_put : Leg → Option Pipe
pipe_put leg = pipe_to leg.kind
