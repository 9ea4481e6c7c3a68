-- what an in proxy tells its client of its receive windows (MS-RPCH 3.2; several channels over one
-- in proxy are this profile's)
use Rattle.std.specs.Prelude.{◌≡◌, ◌≤◌, ℕ, max, List, true}
use Rattle.rh_rts.specs.declared.command.Cookie.{Cookie}
use Rattle.rh_rts.specs.declared.command.TheConstants.{TO_CLIENT}
use Rattle.rh_sig.specs.declared.named.Named.{Named}
use Rattle.rh_sig.specs.declared.named.Named.TheVariants.{ConnB2, InR1A2}
use Rattle.rh_shell.specs.Waiting.{Key}
use Rattle.rh_inproxy.specs.declared.state.InProxyConfig.{InProxyConfig}
use Rattle.rh_inproxy.specs.declared.state.Successor.{Successor}
use Rattle.rh_inproxy.specs.declared.state.Successor.TheVariants.{Joined}
use Rattle.rh_inproxy.specs.Ending.{is_announced}
use Rattle.rh_inproxy.specs.State.{InProxy}
use Rattle.law_moves.specs.Moves.{OnLeg, Passage}
use Rattle.law_moves.specs.Wires.{of_leg}
use Rattle.law_moves.specs.Passages.Passing.{HasOne}
use Rattle.law_role_inproxy.specs.Counted.{is_leg}
use Rattle.law_role_edges.specs.Passing.{greatest_in}

-- what acknowledges a channel to the client
abbrev pub to_client : Cookie → Key
to_client cookie = record { destination = TO_CLIENT; channel = cookie }

-- up to where the client of a channel was told that it may send: the window with which the channel
-- opens, or the greatest edge of an acknowledgement that was put
abbrev pub told_client : ℕ → Cookie → List OnLeg → ℕ
told_client window cookie put = max window (greatest_in (to_client cookie) put)

-- CONN/B2 and IN_R1/A2, by which the server learns it for the client
abbrev pub TellsWindow : ℕ → Named → Type 0
TellsWindow size (ConnB2 version connection channel window timeout group address padding) =
    window ≡ size
TellsWindow size (InR1A2 version connection predecessor successor window timeout) =
    window ≡ size
TellsWindow size packet = ⊥

-- where a next channel is
abbrev pub IsNextTold : ℕ → ℕ → List OnLeg → Successor → Type 0
IsNextTold window told put (Joined leg stage) = told ≤ told_client window leg.cookie put
IsNextTold window told put successor = Unit {0}

-- of each channel, the current one and the next one, no more was told by its window than was put
pub record TellsClient (config : InProxyConfig) (p : Passage InProxy) : Type 0 where
  -- once the first packet to the server was put, it told the window
  pub opened : is_announced p.role.opening ≡ true
      → HasOne (TellsWindow config.window) (of_leg (is_leg config.number) p.put)
  pub current : p.role.line.current.window.told
      ≤ told_client config.window p.role.current.cookie p.put
  pub next : IsNextTold config.window p.role.line.next.window.told p.put p.role.successor
