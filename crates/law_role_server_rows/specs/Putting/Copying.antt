-- what a server's packets copy of those that came (MS-RPCH 2.2.4, 3.2.5)
use Rattle.std.specs.Prelude.{ℕ, ◌≡◌, ◌⊎◌, List}
use Rattle.std.specs.List.{AllByRecursion}
use Rattle.rh_rts.specs.declared.command.Cookie.{Cookie}
use Rattle.rh_rts.specs.declared.command.TheConstants.{TO_CLIENT, TO_OUT_PROXY}
use Rattle.rh_sig.specs.declared.ranges.TheConstants.{PROTOCOL_VERSION}
use Rattle.rh_sig.specs.declared.named.Named.{Named}
use Rattle.rh_sig.specs.declared.named.Named.TheVariants.{ConnB2, ConnB3, ConnC1, InR1A2, InR1A3, InR1B2, InR2A3, OutR1A1, OutR1A4, OutR1A5, Ack, AckTo}
use Rattle.rh_line.specs.declared.leg.Leg.{Leg}
use Rattle.rh_line.specs.declared.leg.LegKind.{LegKind}
use Rattle.rh_line.specs.declared.leg.LegKind.TheVariants.{OutServer, InServer}
use Rattle.rh_shell.specs.Rules.{Text, Pdu, Packet}
use Rattle.rh_server.specs.States.{Server, no_cookie}
use Rattle.law_moves.specs.Moves.{OnLeg, Passage}
use Rattle.law_moves.specs.Wires.{of_leg}
use Rattle.law_moves.specs.Passages.Passing.{HasOne, HasOn}

-- ---- what came

-- CONN/B2 with this window and timeout of the in proxy
abbrev pub IsConnB2 : ℕ → ℕ → Named → Type 0
IsConnB2 window timeout (ConnB2 version connection cookie its_window its_timeout a b c) =
    (its_window ≡ window) × (its_timeout ≡ timeout)
IsConnB2 window timeout packet = ⊥

-- IN_R1/A2 with these
abbrev pub IsInR1A2 : ℕ → ℕ → Named → Type 0
IsInR1A2 window timeout (InR1A2 version connection predecessor successor its_window its_timeout) =
    (its_window ≡ window) × (its_timeout ≡ timeout)
IsInR1A2 window timeout packet = ⊥

-- OUT_R1/A4 with this timeout of the out proxy
abbrev pub IsOutR1A4 : ℕ → Named → Type 0
IsOutR1A4 timeout (OutR1A4 version connection predecessor successor lifetime window its_timeout) =
    its_timeout ≡ timeout
IsOutR1A4 timeout packet = ⊥

-- the packet begins an IN channel of this cookie
abbrev pub Begins : Cookie → Named → Type 0
Begins cookie (ConnB2 version connection channel window timeout group address padding) =
    channel ≡ cookie
Begins cookie (InR1A2 version connection predecessor successor window timeout) =
    successor ≡ cookie
Begins cookie packet = ⊥

abbrev pub leg_at : LegKind → ℕ → Leg
leg_at kind n = record { kind = kind; number = n }

abbrev pub CameAt : LegKind → ℕ → (Named → Type 0) → List OnLeg → Type 0
CameAt kind n Is came = HasOne Is (of_leg (leg_at kind n) came)

-- on some leg of this kind
abbrev pub CameOn : LegKind → (Named → Type 0) → List OnLeg → Type 0
CameOn kind Is came = (n : ℕ) × CameAt kind n Is came

-- ---- what is put

-- CONN/C1 has the numbers of the CONN/B2 that came on the first is leg, IN_R1/A3 those of an
-- IN_R1/A2, OUT_R1/A5 the timeout of an OUT_R1/A4; an acknowledgement with a destination came as it
-- is; one to an in proxy has the cookie with which a channel began on that leg, or none, where none
-- began there; and CONN/B3 and IN_R1/B2 tell the server's window
abbrev pub CopiesAt : ℕ → List OnLeg → LegKind → ℕ → Named → Type 0
CopiesAt size came kind n (ConnC1 version window timeout) =
    (version ≡ PROTOCOL_VERSION) × CameAt InServer 1 (IsConnB2 window timeout) came
CopiesAt size came kind n (InR1A3 to version window timeout) =
    ((to ≡ TO_CLIENT) × (version ≡ PROTOCOL_VERSION))
    × CameOn InServer (IsInR1A2 window timeout) came
CopiesAt size came kind n (InR2A3 to) = to ≡ TO_CLIENT
CopiesAt size came kind n (OutR1A1 to) = to ≡ TO_CLIENT
CopiesAt size came kind n (OutR1A5 to version timeout) =
    ((to ≡ TO_CLIENT) × (version ≡ PROTOCOL_VERSION))
    × CameOn OutServer (IsOutR1A4 timeout) came
CopiesAt size came kind n (AckTo to received window cookie) =
    ((to ≡ TO_CLIENT) ⊎ (to ≡ TO_OUT_PROXY)) × HasOn InServer (AckTo to received window cookie) came
CopiesAt size came kind n (Ack received window cookie) =
    CameAt kind n (Begins cookie) came ⊎ (cookie ≡ no_cookie)
CopiesAt size came kind n (ConnB3 window version) = (window ≡ size) × (version ≡ PROTOCOL_VERSION)
CopiesAt size came kind n (InR1B2 window) = window ≡ size
CopiesAt size came kind n packet = Unit {0}

abbrev pub Copies : ℕ → List OnLeg → OnLeg → Type 0
Copies size came (leg, Text bytes) = Unit {0}
Copies size came (leg, Pdu pdu) = Unit {0}
Copies size came (leg, Packet packet) = CopiesAt size came leg.kind leg.number packet

-- each packet that was put copies what came
abbrev pub CopiesWhatCame : ℕ → Passage Server → Type 0
CopiesWhatCame size p = AllByRecursion (Copies size p.came) p.put
