-- what an out proxy knows of its client's receive window, and what it tells the server of its own
-- (MS-RPCH 3.2; successors are this profile's)
use Rattle.std.specs.Prelude.{◌≡◌, ◌+◌, ◌==◌, ◌≤◌, ℕ, List, if◌then◌else◌}
use Rattle.std.specs.List.{AllByRecursion}
use Rattle.rh_rts.specs.declared.command.TheConstants.{TO_OUT_PROXY}
use Rattle.rh_sig.specs.declared.named.Named.{Named}
use Rattle.rh_sig.specs.declared.named.Named.TheVariants.{AckTo, ConnA1, OutR1A3}
use Rattle.rh_shell.specs.Rules.{Message}
use Rattle.rh_outproxy.specs.declared.state.ServerLeg.TheVariants as servers
use Rattle.rh_outproxy.specs.OutProxy.{OutProxy}
use Rattle.law_moves.specs.Moves.{OnLeg, Passage}
use Rattle.law_moves.specs.Passages.Passing.{HasOne}
use Rattle.law_moves.specs.Wires.{of_leg}
use Rattle.law_role_outproxy.specs.Sending.{OpensOnce, os_leg}
use Rattle.law_role_edges.specs.Edges.{IsWithin, edge_told}

-- ---- towards the client

-- up to where a packet tells the proxy that it may send: the client's window, with which the
-- channel opens, and the end of the room of an acknowledgement to the proxy
abbrev pub edge_for_proxy : Named → ℕ
edge_for_proxy (ConnA1 version connection channel window) = window
edge_for_proxy (OutR1A3 version connection predecessor channel window) = window
edge_for_proxy (AckTo to received available channel) =
    if to == TO_OUT_PROXY then received + available else 0
edge_for_proxy packet = 0

abbrev pub IsKnown : ℕ → OnLeg → Type 0
IsKnown edge one = IsWithin edge_for_proxy edge one.1

-- where at most one packet opened the channel, the edge up to which the proxy sends is none below
-- any that it was told
abbrev pub KnowsClient : ℕ → OutProxy → List OnLeg → Type 0
KnowsClient n s came = OpensOnce n came → AllByRecursion (IsKnown s.window.edge) came

-- ---- towards the server

-- a packet among these tells this edge, or one behind it
abbrev pub IsToldIn : ℕ → List Message → Type 0
IsToldIn edge messages = HasOne (λ packet. edge ≤ edge_told packet) messages

-- once the proxy's first packet was put, and until it loses that leg, one that it put tells all that
-- its window told
abbrev pub TellsServer : ℕ → Passage OutProxy → Type 0
TellsServer n p =
    p.role.server ≡ servers.Up
    → IsToldIn p.role.line.current.window.told (of_leg (os_leg n) p.put)
