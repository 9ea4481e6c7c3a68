-- the packets by which proxies tell the server of channels that began, and those that are still due
-- (MS-RPCH 2.2.4; successors are this profile's)
use Rattle.std.specs.Prelude.{◌≡◌, ◌+◌, ◌==◌, ◌&&◌, ℕ, List, [], ◌∷◌, Bool, true, false, not, if◌then◌else◌, Some, None}
use Rattle.std.specs.declared.option.Option.{Option}
use Rattle.rh_rts.specs.declared.command.Cookie.{Cookie}
use Rattle.rh_sig.specs.declared.named.Named.{Named}
use Rattle.rh_sig.specs.declared.named.Named.TheVariants.{InR1A2, InR2A2}
use Rattle.rh_line.specs.declared.leg.Leg.{Leg}
use Rattle.rh_line.specs.declared.leg.LegKind.TheVariants.{ClientIn}
use Rattle.rh_shell.specs.Rules.{Message}
use Rattle.rh_shell.specs.Shells.{is_of, one_if}
use Rattle.rh_inproxy.specs.declared.state.Joining.TheVariants.{TellsServer}
use Rattle.rh_inproxy.specs.declared.state.Opener.{Opener}
use Rattle.rh_inproxy.specs.declared.state.Opening.{Opening}
use Rattle.rh_inproxy.specs.declared.state.Opening.TheVariants.{WantsServer, Announces}
use Rattle.rh_inproxy.specs.declared.state.Successor.{Successor}
use Rattle.rh_inproxy.specs.declared.state.Successor.TheVariants.{Joined}
use Rattle.rh_inproxy.specs.Opening.{connects, is_connection}
use Rattle.rh_inproxy.specs.State.{InProxy}
use Rattle.rh_outproxy.specs.declared.state.Channel.{Channel}
use Rattle.rh_outproxy.specs.declared.state.Channel.TheVariants as channels
use Rattle.rh_outproxy.specs.declared.state.ServerLeg.{ServerLeg}
use Rattle.rh_outproxy.specs.declared.state.ServerLeg.TheVariants as servers
use Rattle.rh_outproxy.specs.OutProxy.{OutProxy, is_server_marked, is_successor}
use Rattle.law_moves.specs.Moves.{OnLeg, Passage}
use Rattle.law_moves.specs.Wires.{of_leg}
use Rattle.law_moves.specs.Passages.Passing.{count_of, of_kind}
use Rattle.law_moves.specs.PacketKinds.{is_conn_a1, is_conn_a2, is_conn_b1, is_conn_b2, is_in_r1_a1, is_in_a2, is_out_r1_a3, is_out_r1_a4}
use Rattle.law_role_inproxy.specs.Counted.{is_leg}
use Rattle.law_role_inproxy.specs.Putting.Puts.{ci}
use Rattle.law_role_outproxy.specs.Sending.{OpensOnce, co_leg, os_leg}

-- ---- in proxies

-- IN_R1/A2 of a successor whose cookie passes a test
abbrev pub is_in_r1_a2 : (Cookie → Bool) → Named → Bool
is_in_r1_a2 of (InR1A2 version connection predecessor successor window timeout) = of successor
is_in_r1_a2 of packet = false

-- IN_R2/A2 of one
abbrev pub is_in_r2_a2 : (Cookie → Bool) → Named → Bool
is_in_r2_a2 of (InR2A2 successor) = of successor
is_in_r2_a2 of packet = false

-- a ci leg behind the first one, which has this number
abbrev pub is_later : ℕ → Leg → Bool
is_later n leg = is_of ClientIn leg && not (leg.number == n)

-- the messages on such legs
abbrev pub of_later : ℕ → List OnLeg → List Message
of_later n [] = []
of_later n (one ∷ log) =
    if is_later n one.0 then one.1 ∷ of_later n log else of_later n log

-- what the first packet to the server is to tell, as long as it was not put
abbrev pub first_due : Opening → Option Opener
first_due (WantsServer opener) = Some opener
first_due (Announces opener) = Some opener
first_due opening = None

-- it is to tell of a successor whose cookie passes a test
abbrev pub replaces : (Cookie → Bool) → Option Opener → Bool
replaces of None = false
replaces of (Some opener) = not (connects opener.entry) && of opener.channel

-- IN_R2/A2 is to tell of one
abbrev pub joins : (Cookie → Bool) → Successor → Bool
joins of (Joined leg (TellsServer behind)) = of leg.cookie
joins of successor = false

-- the first channel
pub record OpensAll (n : ℕ) (p : Passage InProxy) : Type 0 where
  -- CONN/B2 was put for CONN/B1, or is due
  pub connection : count_of is_conn_b1 (of_kind ClientIn p.came)
      ≡ count_of is_conn_b2 (of_leg (is_leg n) p.put)
      + one_if (is_connection (first_due p.role.opening))
  -- IN_R1/A2 for IN_R1/A1 on the first ci leg: of any successor, or of one cookie
  pub successor : (of : Cookie → Bool)
      → count_of (is_in_r1_a1 of) (of_leg (ci n) p.came)
      ≡ count_of (is_in_r1_a2 of) (of_leg (is_leg n) p.put)
      + one_if (replaces of (first_due p.role.opening))

-- later ones
pub record JoinsAll (n : ℕ) (p : Passage InProxy) : Type 0 where
  -- IN_R2/A2 for IN_R1/A1 on the ci legs behind the first one
  pub later : (of : Cookie → Bool)
      → count_of (is_in_r1_a1 of) (of_later n p.came)
      ≡ count_of (is_in_r2_a2 of) (of_leg (is_leg n) p.put) + one_if (joins of p.role.successor)
  -- IN_R1/A2 or IN_R2/A2 for IN_R1/A1 on all ci legs
  pub all : (of : Cookie → Bool)
      → count_of (is_in_r1_a1 of) (of_kind ClientIn p.came)
      ≡ count_of (is_in_a2 of) (of_leg (is_leg n) p.put)
      + (one_if (replaces of (first_due p.role.opening)) + one_if (joins of p.role.successor))

-- ---- out proxies

-- nothing was put to the server
abbrev pub is_unbegun : ServerLeg → Bool
is_unbegun servers.Down = true
is_unbegun servers.FirstDue = true
is_unbegun leg = false

-- the channel was opened by CONN/A1
abbrev pub is_first : Channel → Bool
is_first (channels.New connection cookie) = true
is_first (channels.Joined connection cookie) = true
is_first channel = false

-- its channel
pub record TellsAll (n : ℕ) (p : Passage OutProxy) : Type 0 where
  -- CONN/A2 was put for CONN/A1, or is due
  pub connection : count_of is_conn_a1 (of_leg (co_leg n) p.came)
      ≡ count_of is_conn_a2 (of_leg (os_leg n) p.put)
      + one_if (is_unbegun p.role.server && is_first p.role.channel)
  -- OUT_R1/A4 for OUT_R1/A3
  pub successor : count_of is_out_r1_a3 (of_leg (co_leg n) p.came)
      ≡ count_of is_out_r1_a4 (of_leg (os_leg n) p.put)
      + one_if (is_unbegun p.role.server && is_successor p.role.channel)

-- where at most one packet opened it, and as long as the leg to the server was not lost
abbrev pub TellsOfChannel : ℕ → Passage OutProxy → Type 0
TellsOfChannel n p =
    OpensOnce n p.came → is_server_marked p.role.server ≡ false → TellsAll n p
