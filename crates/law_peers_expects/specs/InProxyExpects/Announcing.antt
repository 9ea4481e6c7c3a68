-- for what an in proxy put the packet that tells the server its first channel (MS-RPCH 3.2.3; a
-- successor with an is leg of its own is this profile's)
use Rattle.std.specs.Prelude.{ℕ, ◌≡◌, List}
use Rattle.rh_rts.specs.declared.command.Cookie.{Cookie}
use Rattle.rh_sig.specs.declared.named.Named.{Named}
use Rattle.rh_sig.specs.declared.named.Named.TheVariants.{ConnB1, ConnB2, InR1A1, InR1A2}
use Rattle.rh_inproxy.specs.State.{InProxy}
use Rattle.law_moves.specs.Moves.{OnLeg, Passage}
use Rattle.law_moves.specs.Wires.{of_leg}
use Rattle.law_moves.specs.Passages.Passing.{Has, HasOne}
use Rattle.law_role_inproxy.specs.Counted.{is_leg}
use Rattle.law_role_inproxy.specs.Refusing.{ci_leg}

-- CONN/B1 of this connection, channel and association group
abbrev pub Connects : Cookie → Cookie → Cookie → Named → Type 0
Connects connection channel group (ConnB1 version of own lifetime keepalive in_group) =
    (of ≡ connection) × (own ≡ channel) × (in_group ≡ group)
Connects connection channel group packet = ⊥

-- IN_R1/A1 of this connection, predecessor and successor
abbrev pub Replaces : Cookie → Cookie → Cookie → Named → Type 0
Replaces connection predecessor successor (InR1A1 version of before own) =
    (of ≡ connection) × (before ≡ predecessor) × (own ≡ successor)
Replaces connection predecessor successor packet = ⊥

-- such a packet came on the ci leg of this number
abbrev pub CameOn : ℕ → (Named → Type 0) → List OnLeg → Type 0
CameOn n Is came = HasOne Is (of_leg (ci_leg n) came)

-- CONN/B2 for the CONN/B1 with its connection, channel and association group that came on the ci
-- leg of the proxy's own number; so IN_R1/A2 for IN_R1/A1
abbrev pub IsFor : ℕ → List OnLeg → Named → Type 0
IsFor n came (ConnB2 version connection channel window timeout group address padding) =
    CameOn n (Connects connection channel group) came
IsFor n came (InR1A2 version connection predecessor successor window timeout) =
    CameOn n (Replaces connection predecessor successor) came
IsFor n came packet = Unit {0}

abbrev pub AnnouncesWhatCame : ℕ → Passage InProxy → Type 0
AnnouncesWhatCame n p =
    (named : Named) → Has named (of_leg (is_leg n) p.put) → IsFor n p.came named
