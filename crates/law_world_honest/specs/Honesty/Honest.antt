-- why an honest node closes by what is fed to it (MS-RPCH 3.2)
use Rattle.std.specs.Prelude.{ℕ, List}
use Rattle.rh_text.specs.declared.ends.Dir.{Dir}
use Rattle.rh_text.specs.declared.ends.Dir.TheVariants.{D}
use Rattle.rh_line.specs.declared.cause.Cause.{Cause}
use Rattle.rh_line.specs.declared.leg.Leg.{Leg}
use Rattle.rh_line.specs.declared.leg.LegKind.{LegKind}
use Rattle.rh_line.specs.declared.leg.LegKind.TheVariants.{ClientOut, ClientIn}
use Rattle.rh_record.specs.declared.answer.Who.{Who}
use Rattle.rh_record.specs.declared.answer.Who.TheVariants.{Client, Server, In, Out}
use Rattle.rh_inproxy.specs.Machine as in_proxy
use Rattle.rh_outproxy.specs.Machine as out_proxy
use Rattle.rh_client.specs.Client as client
use Rattle.rh_server.specs.Servers as server
use Rattle.law_moves.specs.ReadBack.Well.{Answers, is_named, is_packet}
use Rattle.law_world_order.specs.Flows.{read_on}
use Rattle.law_world_honest.specs.Honesty.Causes.{IsOfHeard}

-- what reads well there: each packet has a name. But to a client an answer to an echo request may
-- be put, and the packet in that has none (MS-RPCH 2.1.2)
abbrev pub well_on : LegKind → Dir → Answers
well_on ClientOut D = is_packet
well_on ClientIn D = is_packet
well_on kind dir = is_named

-- the node's role has such a cause, where it heard these bytes of a direction of the leg
abbrev pub IsOfNode : Who → Leg → Dir → List ℕ → Cause → Type 0
IsOfNode Client leg dir heard why = IsOfHeard client.rules leg (read_on leg.kind dir) heard why
IsOfNode Server leg dir heard why = IsOfHeard server.rules leg (read_on leg.kind dir) heard why
IsOfNode (In n) leg dir heard why = IsOfHeard in_proxy.rules leg (read_on leg.kind dir) heard why
IsOfNode (Out n) leg dir heard why = IsOfHeard out_proxy.rules leg (read_on leg.kind dir) heard why
