-- what is so in a server's logs where it refuses what comes as unexpected (MS-RPCH 3.2.5; profile)
use Rattle.std.specs.Prelude.{ℕ, suc, ◌≡◌, ◌⊎◌, ◌≤◌, IsTrue, Err}
use Rattle.rh_rts.specs.declared.command.Cookie.{Cookie}
use Rattle.rh_rts.specs.declared.command.TheConstants.{TO_CLIENT, TO_OUT_PROXY, TO_SERVER}
use Rattle.rh_sig.specs.declared.named.Named.{Named}
use Rattle.rh_sig.specs.declared.named.Named.TheVariants.{ConnA2, ConnB2, InR1A2, InR1A6, OutR1A4, OutR1A8, Ack, AckTo, PingTraffic}
use Rattle.rh_line.specs.declared.leg.Leg.{Leg}
use Rattle.rh_line.specs.declared.leg.LegKind.{LegKind}
use Rattle.rh_line.specs.declared.leg.LegKind.TheVariants.{ClientOut, OutServer, ClientIn, InServer}
use Rattle.rh_shell.specs.declared.answers.Count.{Count}
use Rattle.rh_shell.specs.declared.answers.Refused.TheVariants as refused
use Rattle.rh_server.specs.States.{Server}
use Rattle.rh_server.specs.Servers.{rules}
use Rattle.law_moves.specs.Moves.{Passage, is_in_use}
use Rattle.law_moves.specs.Wires.{of_leg}
use Rattle.law_moves.specs.Passages.Counted.{packets, Tells}
use Rattle.law_role_server.specs.Counted.Counting.{is_conn_a2, is_conn_b2, is_out_r1_a1, is_out_r1_a4, is_out_r1_a5, is_out_r1_a8, is_out_r1_a9, in_came, out_came, out_put, often_at}
use Rattle.law_role_server_rows.specs.Refusing.Cookies.{IsConnection, IsOutChannel}

-- ---- first on the leg, or not

abbrev pub came_on : Passage Server → Leg → ℕ
came_on p leg = packets (of_leg leg p.came)

abbrev pub IsFirst : Passage Server → Leg → Type 0
IsFirst p leg = came_on p leg ≡ 0

abbrev pub IsLater : Passage Server → Leg → Type 0
IsLater p leg = 1 ≤ came_on p leg

-- ---- OUT channels

-- none began on the os leg
abbrev pub IsUnbegun : Passage Server → ℕ → Type 0
IsUnbegun p number =
    (often_at is_conn_a2 OutServer number p.came ≡ 0)
    × (often_at is_out_r1_a4 OutServer number p.came ≡ 0)

-- ---- packets (MS-RPCH 2.2.4)

-- on an is leg; nothing is said of packets that have no row there, of END/A2, and of those that
-- replace an IN channel
abbrev pub UnexpectedIn : Passage Server → Leg → Named → Type 0
UnexpectedIn p leg (ConnB2 version connection cookie window timeout group address padding) =
    IsLater p leg ⊎ (leg.number ≡ 1 → ⊥) ⊎ (1 ≤ in_came is_conn_b2 p)
UnexpectedIn p leg (AckTo destination received window cookie) =
    IsFirst p leg ⊎ ((destination ≡ TO_CLIENT → ⊥) × (destination ≡ TO_OUT_PROXY → ⊥))
UnexpectedIn p leg (OutR1A8 destination successor) =
    IsFirst p leg ⊎ (destination ≡ TO_SERVER → ⊥)
    ⊎ (out_put is_out_r1_a5 p ≤ in_came is_out_r1_a8 p)
UnexpectedIn p leg packet = Unit {0}

-- on an os leg
abbrev pub UnexpectedOut : Passage Server → Leg → Named → Type 0
UnexpectedOut p leg (ConnA2 version connection cookie lifetime window) =
    IsLater p leg ⊎ (leg.number ≡ 1 → ⊥) ⊎ (1 ≤ out_came is_conn_a2 p)
UnexpectedOut p leg
    (OutR1A4 version connection predecessor successor lifetime window timeout) =
    IsLater p leg ⊎ (leg.number ≡ suc (suc (out_put is_out_r1_a9 p)) → ⊥)
    ⊎ (out_put is_out_r1_a1 p ≤ out_came is_out_r1_a4 p)
UnexpectedOut p leg (Ack received window cookie) = IsFirst p leg ⊎ IsUnbegun p leg.number
UnexpectedOut p leg (PingTraffic bytes) = IsFirst p leg
UnexpectedOut p leg packet = Unit {0}

abbrev pub UnexpectedBy : Passage Server → Leg → Named → LegKind → Type 0
UnexpectedBy p leg named InServer = UnexpectedIn p leg named
UnexpectedBy p leg named OutServer = UnexpectedOut p leg named
UnexpectedBy p leg named ClientIn = Unit {0}
UnexpectedBy p leg named ClientOut = Unit {0}

abbrev pub Unexpected : Passage Server → Leg → Named → Type 0
Unexpected p leg named = UnexpectedBy p leg named leg.kind

-- ---- other cookies (MS-RPCH 2.2.3.1)

-- what came is what the row got, and another one than what it expected
pub record IsOther (cookie expected got : Cookie) : Type 0 where
  pub is_got : cookie ≡ got
  pub differs : expected ≡ got → ⊥

-- on an is leg; nothing is said of where a predecessor or a successor of an IN channel was expected
abbrev pub MismatchIn : Passage Server → Named → Cookie → Cookie → Type 0
MismatchIn p (ConnB2 version connection cookie window timeout group address padding) expected got =
    IsOther connection expected got × IsConnection OutServer expected p.came
MismatchIn p (OutR1A8 destination successor) expected got =
    IsOther successor expected got
    × IsOutChannel (suc (suc (out_put is_out_r1_a9 p))) expected p.came
MismatchIn p (InR1A2 version connection predecessor successor window timeout) expected got =
    (IsOther connection expected got
    × (IsConnection OutServer expected p.came ⊎ IsConnection InServer expected p.came))
    ⊎ IsOther predecessor expected got
MismatchIn p (InR1A6 successor) expected got = IsOther successor expected got
MismatchIn p packet expected got = ⊥

-- on an os leg
abbrev pub MismatchOut : Passage Server → ℕ → Named → Cookie → Cookie → Type 0
MismatchOut p number (ConnA2 version connection cookie lifetime window) expected got =
    IsOther connection expected got × IsConnection InServer expected p.came
MismatchOut p number
    (OutR1A4 version connection predecessor successor lifetime window timeout) expected got =
    (IsOther connection expected got
    × (IsConnection OutServer expected p.came ⊎ IsConnection InServer expected p.came))
    ⊎ (IsOther predecessor expected got
    × IsOutChannel (suc (out_put is_out_r1_a9 p)) expected p.came)
MismatchOut p number (Ack received window cookie) expected got =
    IsOther cookie expected got × IsOutChannel number expected p.came
MismatchOut p number packet expected got = ⊥

abbrev pub MismatchBy : Passage Server → ℕ → Named → Cookie → Cookie → LegKind → Type 0
MismatchBy p number named expected got InServer = MismatchIn p named expected got
MismatchBy p number named expected got OutServer = MismatchOut p number named expected got
MismatchBy p number named expected got ClientIn = ⊥
MismatchBy p number named expected got ClientOut = ⊥

abbrev pub Mismatch : Passage Server → Leg → Named → Cookie → Cookie → Type 0
Mismatch p leg named expected got = MismatchBy p leg.number named expected got leg.kind

-- ---- the law

-- the packet is refused so only where this is so
pub record RefusesFor (p : Passage Server) : Type 0 where
  pub unexpected : (leg : Leg) (count : Count) (named : Named)
      → IsTrue (is_in_use rules p.role leg) → Tells count (came_on p leg)
      → (rules.packet p.role leg count named).1 ≡ Err refused.Unexpected
      → Unexpected p leg named
  pub mismatch : (leg : Leg) (count : Count) (named : Named) (expected got : Cookie)
      → (rules.packet p.role leg count named).1 ≡ Err (refused.Cookie expected got)
      → Mismatch p leg named expected got
