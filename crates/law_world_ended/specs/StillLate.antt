-- legs that end for a node from the end nearer the server, and may close it still (profile)
use Rattle.std.specs.Prelude.{Bool, true, false}
use Rattle.rh_line.specs.declared.cause.Cause.{Cause}
use Rattle.rh_line.specs.declared.leg.LegKind.{LegKind}
use Rattle.rh_line.specs.declared.leg.LegKind.TheVariants.{OutServer, InServer}
use Rattle.rh_record.specs.declared.answer.Who.{Who}
use Rattle.rh_record.specs.declared.answer.Who.TheVariants.{Client, In, Out}
use Rattle.law_world_unclosed.specs.Late.{ClosedWhere}

-- a leg of the client for it, and a proxy's leg to the server for the proxy
abbrev pub is_still_late : Who → LegKind → Bool
is_still_late Client kind = true
is_still_late (In n) InServer = true
is_still_late (Out n) OutServer = true
is_still_late node kind = false

-- the node closed since such a leg ended
abbrev pub ClosedStillLate : Who → Cause → Type 0
ClosedStillLate = ClosedWhere is_still_late
