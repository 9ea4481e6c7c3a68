-- what is so in an in proxy's logs where it refuses what comes (MS-RPCH 3.2; replacement and the
-- end are this profile's)
use Rattle.std.specs.Prelude.{ℕ, suc, ◌+◌, ◌≡◌, ◌⊎◌, ◌≤◌, Bool, true, false, List, [], ◌∷◌, IsTrue, Err}
use Rattle.rh_rts.specs.declared.command.Cookie.{Cookie}
use Rattle.rh_rts.specs.declared.command.TheConstants.{TO_OUT_PROXY, TO_SERVER}
use Rattle.rh_sig.specs.declared.named.Named.{Named}
use Rattle.rh_sig.specs.declared.named.Named.TheVariants.{ConnB1, ConnB3, InR1A1, InR1A5, InR1B1, InR1B2, InR2A2, OutR1A7, EndA1, Ack, AckTo, KeepAlive}
use Rattle.rh_line.specs.declared.leg.Leg.{Leg}
use Rattle.rh_line.specs.declared.leg.LegKind.{LegKind}
use Rattle.rh_line.specs.declared.leg.LegKind.TheVariants.{ClientOut, OutServer, ClientIn, InServer}
use Rattle.rh_shell.specs.declared.answers.Count.{Count}
use Rattle.rh_shell.specs.declared.answers.Refused.TheVariants as refused
use Rattle.rh_shell.specs.Rules.{Message, Text, Pdu, Packet}
use Rattle.rh_inproxy.specs.State.{InProxy}
use Rattle.rh_inproxy.specs.Machine.{rules}
use Rattle.law_moves.specs.Moves.{Passage, is_in_use}
use Rattle.law_moves.specs.Wires.{of_leg}
use Rattle.law_moves.specs.Passages.Passing.{Has, HasOne, HasBegunIn, count_of, of_kind}
use Rattle.law_moves.specs.Passages.Counted.{packets}
use Rattle.law_moves.specs.PacketKinds.{is_conn_b1, is_in_r1_a1, is_in_r1_a5, is_in_r1_a6, opens_server}
use Rattle.law_role_inproxy.specs.Counted.{is_leg}

abbrev pub ci_leg : ℕ → Leg
ci_leg n = record { kind = ClientIn; number = n }

-- ---- what came on a ci leg

-- no packet
abbrev pub IsNew : Passage InProxy → ℕ → Type 0
IsNew p n = packets (of_leg (ci_leg n) p.came) ≡ 0

abbrev pub HasPacket : Passage InProxy → ℕ → Type 0
HasPacket p n = 1 ≤ packets (of_leg (ci_leg n) p.came)

-- IN_R1/A5
abbrev pub IsLeft : Passage InProxy → ℕ → Type 0
IsLeft p n = 1 ≤ count_of is_in_r1_a5 (of_leg (ci_leg n) p.came)

-- END
abbrev pub IsEnded : Passage InProxy → ℕ → Type 0
IsEnded p n = Has EndA1 (of_leg (ci_leg n) p.came)

abbrev pub HasPduIn : List Message → Type 0
HasPduIn [] = ⊥
HasPduIn (Text bytes ∷ messages) = HasPduIn messages
HasPduIn (Pdu pdu ∷ messages) = Unit {0}
HasPduIn (Packet named ∷ messages) = HasPduIn messages

-- an RPC PDU
abbrev pub HasPdu : Passage InProxy → ℕ → Type 0
HasPdu p n = HasPduIn (of_leg (ci_leg n) p.came)

abbrev pub is_in_r2_a2 : Named → Bool
is_in_r2_a2 (InR2A2 successor) = true
is_in_r2_a2 packet = false

-- the next ci leg was up, and IN_R2/A2 was put for the later ones up to this one at most: each that
-- was put names the channel of such a leg
abbrev pub IsUntold : ℕ → Passage InProxy → ℕ → Type 0
IsUntold first p n =
    IsTrue (rules.was_up p.role (ci_leg (suc n)))
    × (first + count_of is_in_r2_a2 (of_leg (is_leg first) p.put) ≤ n)
    × ((cookie : Cookie) → Has (InR2A2 cookie) (of_leg (is_leg first) p.put)
    → (k : ℕ) × (k ≤ n) × HasBegunIn cookie (of_leg (ci_leg k) p.came))

-- ---- unexpected

-- on a ci leg each packet but the first needs that one came, and none comes behind IN_R1/A5; on an
-- earlier leg that comes once the server was told of the next one. Other packets have no row there,
-- since none of theirs has a name on it
abbrev pub UnexpectedOnClient : ℕ → Passage InProxy → ℕ → Named → Type 0
UnexpectedOnClient first p n (ConnB1 version connection channel lifetime keepalive group) =
    (n ≡ first → ⊥) ⊎ HasPacket p n
UnexpectedOnClient first p n (InR1A1 version connection predecessor channel) = HasPacket p n
UnexpectedOnClient first p n (AckTo to received available channel) =
    (to ≡ TO_OUT_PROXY → ⊥) ⊎ IsNew p n ⊎ IsLeft p n
UnexpectedOnClient first p n (OutR1A7 to successor) = (to ≡ TO_SERVER → ⊥) ⊎ IsNew p n ⊎ IsLeft p n
UnexpectedOnClient first p n (KeepAlive keepalive) = IsNew p n ⊎ IsLeft p n
UnexpectedOnClient first p n EndA1 = IsNew p n ⊎ IsLeft p n ⊎ IsEnded p n ⊎ HasPdu p (suc n)
UnexpectedOnClient first p n (InR1A5 successor) = IsNew p n ⊎ IsLeft p n ⊎ IsUntold first p n
UnexpectedOnClient first p n packet = Unit {0}

abbrev pub any : Cookie → Bool
any cookie = true

-- on the is leg: CONN/B3 needs CONN/B1, and IN_R1/B2 that IN_R1/A1 came on the first ci leg, and
-- one of both comes once; Ack comes behind it; IN_R1/B1 behind IN_R1/A6. Other packets have no row
abbrev pub UnexpectedOnServer : ℕ → Passage InProxy → Named → Type 0
UnexpectedOnServer first p (ConnB3 size version) =
    (count_of is_conn_b1 (of_kind ClientIn p.came) ≡ 0)
    ⊎ (1 ≤ count_of opens_server (of_leg (is_leg first) p.came))
UnexpectedOnServer first p (InR1B2 size) =
    (count_of (is_in_r1_a1 any) (of_leg (ci_leg first) p.came) ≡ 0)
    ⊎ (1 ≤ count_of opens_server (of_leg (is_leg first) p.came))
UnexpectedOnServer first p InR1B1 =
    count_of is_in_r1_a6 (of_leg (is_leg first) p.put) ≡ 0
UnexpectedOnServer first p (Ack received available channel) =
    count_of opens_server (of_leg (is_leg first) p.came) ≡ 0
UnexpectedOnServer first p packet = Unit {0}

-- an in proxy has no other legs
abbrev pub UnexpectedBy : ℕ → Passage InProxy → ℕ → Named → LegKind → Type 0
UnexpectedBy first p n named ClientIn = UnexpectedOnClient first p n named
UnexpectedBy first p n named InServer = UnexpectedOnServer first p named
UnexpectedBy first p n named ClientOut = ⊥
UnexpectedBy first p n named OutServer = ⊥

abbrev pub Unexpected : ℕ → Passage InProxy → Leg → Named → Type 0
Unexpected first p leg named = UnexpectedBy first p leg.number named leg.kind

-- an RPC PDU: no packet came there, or IN_R1/A5, or END came there or on an earlier leg. The is leg
-- carries none to the proxy
abbrev pub UnexpectedPduBy : Passage InProxy → ℕ → LegKind → Type 0
UnexpectedPduBy p n ClientIn = IsNew p n ⊎ IsLeft p n ⊎ ((k : ℕ) × (k ≤ n) × IsEnded p k)
UnexpectedPduBy p n InServer = Unit {0}
UnexpectedPduBy p n ClientOut = ⊥
UnexpectedPduBy p n OutServer = ⊥

abbrev pub UnexpectedPdu : Passage InProxy → Leg → Type 0
UnexpectedPdu p leg = UnexpectedPduBy p leg.number leg.kind

-- ---- another cookie

-- CONN/B1 or IN_R1/A1 names this connection
abbrev pub NamesConnection : Cookie → Named → Type 0
NamesConnection cookie (ConnB1 version connection channel lifetime keepalive group) =
    connection ≡ cookie
NamesConnection cookie (InR1A1 version connection predecessor channel) = connection ≡ cookie
NamesConnection cookie packet = ⊥

-- IN_R1/A1 on a later leg names the connection, and the channel of the leg before it; IN_R1/A5 on
-- an earlier leg that of the next one
abbrev pub MismatchOnClient : ℕ → Passage InProxy → ℕ → Named → Cookie → Cookie → Type 0
MismatchOnClient first p n (InR1A1 version connection predecessor channel) expected got =
    ((got ≡ connection) × HasOne (NamesConnection expected) (of_leg (ci_leg first) p.came))
    ⊎ ((got ≡ predecessor) × ((k : ℕ) × (n ≡ suc k)
    × HasBegunIn expected (of_leg (ci_leg k) p.came)))
MismatchOnClient first p n (InR1A5 successor) expected got =
    (got ≡ successor) × HasBegunIn expected (of_leg (ci_leg (suc n)) p.came)
MismatchOnClient first p n packet expected got = ⊥

-- an acknowledgement names the channel of the first ci leg
abbrev pub MismatchOnServer : ℕ → Passage InProxy → Named → Cookie → Cookie → Type 0
MismatchOnServer first p (Ack received available channel) expected got =
    (got ≡ channel) × HasBegunIn expected (of_leg (ci_leg first) p.came)
MismatchOnServer first p packet expected got = ⊥

abbrev pub MismatchBy : ℕ → Passage InProxy → ℕ → Named → Cookie → Cookie → LegKind → Type 0
MismatchBy first p n named expected got ClientIn = MismatchOnClient first p n named expected got
MismatchBy first p n named expected got InServer = MismatchOnServer first p named expected got
MismatchBy first p n named expected got ClientOut = ⊥
MismatchBy first p n named expected got OutServer = ⊥

abbrev pub Mismatch : ℕ → Passage InProxy → Leg → Named → Cookie → Cookie → Type 0
Mismatch first p leg named expected got =
    (expected ≡ got → ⊥) × MismatchBy first p leg.number named expected got leg.kind

-- ---- the law

-- what comes on a leg that was up and is in use is refused so only where this is so
pub record RefusesFor (first : ℕ) (p : Passage InProxy) : Type 0 where
  pub unexpected : (leg : Leg) (count : Count) (named : Named)
      → IsTrue (is_in_use rules p.role leg) → IsTrue (rules.was_up p.role leg)
      → (rules.packet p.role leg count named).1 ≡ Err refused.Unexpected
      → Unexpected first p leg named
  pub unexpected_pdu : (leg : Leg) (count : Count) (bytes : List ℕ)
      → IsTrue (is_in_use rules p.role leg) → IsTrue (rules.was_up p.role leg)
      → (rules.pdu p.role leg count bytes).1 ≡ Err refused.Unexpected → UnexpectedPdu p leg
  pub mismatch : (leg : Leg) (count : Count) (named : Named) (expected got : Cookie)
      → IsTrue (is_in_use rules p.role leg) → IsTrue (rules.was_up p.role leg)
      → (rules.packet p.role leg count named).1 ≡ Err (refused.Cookie expected got)
      → Mismatch first p leg named expected got
  -- no RPC PDU is refused for a cookie
  pub no_mismatch : (leg : Leg) (count : Count) (bytes : List ℕ) (expected got : Cookie)
      → IsTrue (is_in_use rules p.role leg) → IsTrue (rules.was_up p.role leg)
      → (rules.pdu p.role leg count bytes).1 ≡ Err (refused.Cookie expected got) → ⊥
