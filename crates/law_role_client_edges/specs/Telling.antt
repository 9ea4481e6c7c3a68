-- what a client told of the receive windows of its OUT channels (MS-RPCH 3.2; successors are this
-- profile's)
use Rattle.std.specs.Prelude.{◌≡◌, ◌⊎◌, ◌+◌, ◌≤◌, ℕ, List, true}
use Rattle.rh_rts.specs.declared.command.Cookie.{Cookie}
use Rattle.rh_rts.specs.declared.command.TheConstants.{TO_OUT_PROXY}
use Rattle.rh_sig.specs.declared.named.Named.{Named}
use Rattle.rh_sig.specs.declared.named.Named.TheVariants.{AckTo, ConnA1, OutR1A3}
use Rattle.rh_line.specs.declared.leg.LegKind.TheVariants.{ClientIn}
use Rattle.rh_client.specs.declared.state.ClientRole.{ClientRole}
use Rattle.rh_client.specs.Channels.{is_asked}
use Rattle.rh_client.specs.State.{co}
use Rattle.law_moves.specs.Moves.{OnLeg, Passage}
use Rattle.law_moves.specs.Passages.Passing.{HasOne, of_kind}
use Rattle.law_moves.specs.Wires.{of_leg}

-- the packet opens an OUT channel, and the window that it tells reaches as far
abbrev pub OpensTo : ℕ → Named → Type 0
OpensTo edge (ConnA1 version connection channel window) = edge ≤ window
OpensTo edge (OutR1A3 version connection predecessor channel window) = edge ≤ window
OpensTo edge packet = ⊥

-- it acknowledges to the channel's out proxy, and the room that it tells reaches as far
abbrev pub AcksTo : Cookie → ℕ → Named → Type 0
AcksTo cookie edge (AckTo to received available channel) =
    (to ≡ TO_OUT_PROXY) × (channel ≡ cookie) × (edge ≤ received + available)
AcksTo cookie edge packet = ⊥

-- of OUT channel n, which has the cookie, that was told: by its first packet, or on an IN channel
abbrev pub IsToldOf : ℕ → Cookie → ℕ → List OnLeg → Type 0
IsToldOf n cookie edge put =
    HasOne (OpensTo edge) (of_leg (co n) put) ⊎ HasOne (AcksTo cookie edge) (of_kind ClientIn put)

-- of the current channel, and of the next one in the line, all that the window told was told, once
-- the first packet of the channel was put
pub record TellsWindows (p : Passage ClientRole) : Type 0 where
  pub current : is_asked p.role.current.opening ≡ true
      → IsToldOf p.role.current.number p.role.current.cookie
      p.role.line.current.window.told p.put
  pub next : p.role.line.has_next ≡ true → is_asked p.role.out_successor.opening ≡ true
      → IsToldOf p.role.out_successor.number p.role.out_successor.cookie
      p.role.line.next.window.told p.put
