-- legs that end for a node from the end nearer the server (profile)
use Rattle.std.specs.Prelude.{◌≡◌, ◌++◌, List, ◌∷◌, Bool, true, false}
use Rattle.rh_line.specs.declared.cause.Cause.{Cause}
use Rattle.rh_line.specs.declared.cause.Cause.TheVariants.{LegEnded}
use Rattle.rh_line.specs.declared.leg.LegKind.{LegKind}
use Rattle.rh_line.specs.declared.leg.LegKind.TheVariants.{OutServer, InServer}
use Rattle.rh_record.specs.declared.answer.Answer.TheVariants.{NodeClosed}
use Rattle.rh_record.specs.declared.answer.Who.{Who}
use Rattle.rh_record.specs.declared.answer.Who.TheVariants.{Client, Server, In, Out}
use Rattle.rh_record.specs.declared.line.Line.{Line}
use Rattle.law_node_history.specs.Closes.{IsOneOf}
use Rattle.rh_world.specs.declared.any_world.AnyWorld.TheVariants.{Before}
use Rattle.rh_world.specs.Any.{after, step}

-- a leg of the client for it, a proxy's leg to the server for the proxy, and an is leg for the server
abbrev pub is_late : Who → LegKind → Bool
is_late Client kind = true
is_late Server InServer = true
is_late (In n) InServer = true
is_late (Out n) OutServer = true
is_late node kind = false

-- the node closed since a leg ended that is one of these for it
abbrev pub ClosedWhere : (Who → LegKind → Bool) → Who → Cause → Type 0
ClosedWhere late node (LegEnded leg partial) = late node leg.kind ≡ true
ClosedWhere late node why = ⊥

-- since such a leg ended
abbrev pub ClosedLate : Who → Cause → Type 0
ClosedLate = ClosedWhere is_late

-- a line of the recording reports the node as closed
pub record ReportsClosed (lines : List Line) (node : Who) (why : Cause) : Type 0 where
  pub before : List Line
  pub line : Line
  pub behind : List Line
  pub split : lines ≡ before ++ line ∷ behind
  pub told : IsOneOf (NodeClosed node why) (step (after Before before) line).1
