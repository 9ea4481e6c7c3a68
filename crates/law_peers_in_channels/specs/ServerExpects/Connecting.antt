-- an in proxy speaks to the server for the connections of its client (MS-RPCH 2.2.4)
use Rattle.std.specs.Prelude.{◌≤◌, Bool, false}
use Rattle.rh_rts.specs.declared.command.Cookie.{Cookie}
use Rattle.rh_sig.specs.declared.named.Named.{Named}
use Rattle.rh_sig.specs.declared.named.Named.TheVariants.{ConnA2, ConnB1, ConnB2}
use Rattle.rh_line.specs.declared.leg.Leg.{Leg}
use Rattle.rh_line.specs.declared.leg.LegKind.TheVariants.{ClientIn}
use Rattle.rh_inproxy.specs.State.{InProxy}
use Rattle.law_moves.specs.Moves.{Passage}
use Rattle.law_moves.specs.Wires.{of_leg}
use Rattle.law_moves.specs.Passages.Passing.{count_of, of_kind}

-- CONN/B1 of a connection whose cookie passes a test
abbrev pub asks : (Cookie → Bool) → Named → Bool
asks of (ConnB1 version connection channel lifetime keepalive group) = of connection
asks of packet = false

-- CONN/A2 or CONN/B2 of one
abbrev pub connects : (Cookie → Bool) → Named → Bool
connects of (ConnA2 version connection channel lifetime window) = of connection
connects of (ConnB2 version connection channel window timeout group address padding) =
    of connection
connects of packet = false

-- of all connections, of one, or of any others
abbrev pub ConnectsForWhatCame : Passage InProxy → Type 0
ConnectsForWhatCame p =
    (of : Cookie → Bool) (leg : Leg)
    → count_of (connects of) (of_leg leg p.put) ≤ count_of (asks of) (of_kind ClientIn p.came)
