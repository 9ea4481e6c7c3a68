-- cookies of connections and of OUT channels, by what came (MS-RPCH 2.2.3.1, 2.2.4)
use Rattle.std.specs.Prelude.{ℕ, ◌≡◌, List}
use Rattle.rh_rts.specs.declared.command.Cookie.{Cookie}
use Rattle.rh_sig.specs.declared.named.Named.{Named}
use Rattle.rh_sig.specs.declared.named.Named.TheVariants.{ConnA2, ConnB2, OutR1A4}
use Rattle.rh_line.specs.declared.leg.LegKind.{LegKind}
use Rattle.rh_line.specs.declared.leg.LegKind.TheVariants.{OutServer}
use Rattle.law_moves.specs.Moves.{OnLeg}
use Rattle.law_moves.specs.Wires.{of_leg}
use Rattle.law_moves.specs.Passages.Passing.{of_kind, HasOne}
use Rattle.law_role_server.specs.Counted.Counting.{leg_at}

-- the packet opens a connection of this cookie
abbrev pub Connects : Cookie → Named → Type 0
Connects cookie (ConnA2 version connection channel lifetime window) = connection ≡ cookie
Connects cookie (ConnB2 version connection channel window timeout group address padding) =
    connection ≡ cookie
Connects cookie packet = ⊥

-- or begins an OUT channel of it at the server
abbrev pub OpensOut : Cookie → Named → Type 0
OpensOut cookie (ConnA2 version connection channel lifetime window) = channel ≡ cookie
OpensOut cookie (OutR1A4 version connection predecessor successor lifetime window timeout) =
    successor ≡ cookie
OpensOut cookie packet = ⊥

-- such a packet came, on legs of a kind, and on an os leg
abbrev pub IsConnection : LegKind → Cookie → List OnLeg → Type 0
IsConnection kind cookie came = HasOne (Connects cookie) (of_kind kind came)

abbrev pub IsOutChannel : ℕ → Cookie → List OnLeg → Type 0
IsOutChannel number cookie came =
    HasOne (OpensOut cookie) (of_leg (leg_at OutServer number) came)
