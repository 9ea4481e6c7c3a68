-- what waits at an out proxy for its client, by what came from the server (MS-RPCH 2.2.4; the
-- replacement of channels is this profile's)
use Rattle.std.specs.Prelude.{ℕ, zero, suc, ◌≡◌, ◌+◌, ◌≤◌, ◌++◌, Bool, true, false, if◌then◌else◌, List, [], ◌∷◌}
use Rattle.std.specs.List.{AllByRecursion}
use Rattle.rh_rts.specs.declared.command.Cookie.{Cookie}
use Rattle.rh_rts.specs.declared.command.TheConstants.{TO_CLIENT}
use Rattle.rh_sig.specs.declared.named.Named.{Named}
use Rattle.rh_sig.specs.declared.named.Named.TheVariants.{AckTo, ConnC2, InR1A3, InR1A4, InR2A3, InR2A4, OutR1A2, OutR1A6}
use Rattle.rh_shell.specs.declared.due.Due.{Due}
use Rattle.rh_shell.specs.declared.waiting.TheConstants.{FORWARDED_ROOM}
use Rattle.rh_shell.specs.Rules.{Message, Text, Pdu, Packet}
use Rattle.rh_outproxy.specs.OutProxy.{OutProxy}
use Rattle.law_moves.specs.Moves.{Passage}
use Rattle.law_moves.specs.Wires.{of_leg}
use Rattle.law_moves.specs.Passages.Passing.{count_of, HasOne}
use Rattle.law_moves.specs.PacketKinds.{is_conn_c1, is_conn_c2, is_out_r1_a1, is_out_r1_a2, is_out_r1_a5, is_out_r1_a6}
use Rattle.law_role_client.specs.Counted.Counting.{is_in_a4}
use Rattle.law_role_outproxy.specs.Counted.{co_leg, os_leg}

-- ---- packets

-- IN_R1/A3 or IN_R2/A3, with which the server answers the replacement of an IN channel
abbrev pub is_in_a3 : Named → Bool
is_in_a3 (InR1A3 to version window timeout) = true
is_in_a3 (InR2A3 to) = true
is_in_a3 packet = false

-- an acknowledgement to the client, for the channel with this cookie (MS-RPCH 2.2.4)
abbrev pub AcksFor : Cookie → Named → Type 0
AcksFor cookie (AckTo to received window of) = (to ≡ TO_CLIENT) × (of ≡ cookie)
AcksFor cookie packet = ⊥

-- what an out proxy forwards
abbrev pub IsForwarded : Named → Type 0
IsForwarded (ConnC2 version window timeout) = Unit {0}
IsForwarded (InR1A4 to version window timeout) = Unit {0}
IsForwarded (InR2A4 to) = Unit {0}
IsForwarded (OutR1A2 to) = Unit {0}
IsForwarded (OutR1A6 to version timeout) = Unit {0}
IsForwarded (AckTo to received window of) = to ≡ TO_CLIENT
IsForwarded packet = ⊥

-- ---- messages

-- those behind the first so many packets that pass the test
abbrev pub behind : (Named → Bool) → ℕ → List Message → List Message
behind test zero messages = messages
behind test (suc k) [] = []
behind test (suc k) (Text bytes ∷ messages) = behind test (suc k) messages
behind test (suc k) (Pdu pdu ∷ messages) = behind test (suc k) messages
behind test (suc k) (Packet named ∷ messages) =
    if test named then behind test k messages else behind test (suc k) messages

-- ---- what waits

abbrev pub IsToForward : Due → Type 0
IsToForward due = IsForwarded due.packet

-- the packets that wait, in their order
abbrev pub packets_of : List Due → List Message
packets_of [] = []
packets_of (due ∷ dues) = Packet due.packet ∷ packets_of dues

-- the cookies of the channels that are acknowledged
abbrev pub cookie_in : Named → List Cookie
cookie_in (AckTo to received window of) = of ∷ []
cookie_in packet = []

abbrev pub cookies_in : List Due → List Cookie
cookies_in [] = []
cookies_in (due ∷ dues) = cookie_in due.packet ++ cookies_in dues

-- no two are the same
abbrev pub AreDifferent : List Cookie → Type 0
AreDifferent [] = Unit {0}
AreDifferent (cookie ∷ cookies) =
    AllByRecursion (λ (other : Cookie). other ≡ cookie → ⊥) cookies × AreDifferent cookies

-- ---- at an out proxy

-- what came from the server, and what was put to the client
abbrev pub from_server : ℕ → Passage OutProxy → List Message
from_server n p = of_leg (os_leg n) p.came

abbrev pub to_client : ℕ → Passage OutProxy → List Message
to_client n p = of_leg (co_leg n) p.put

abbrev pub waiting_at : Passage OutProxy → List Due
waiting_at p = p.role.waiting.due

-- of a kind those that were put and those that wait are no more than came for them
abbrev pub AreOfCame : (Named → Bool) → (Named → Bool) → ℕ → Passage OutProxy → Type 0
AreOfCame before after n p =
    count_of after (to_client n p) + count_of after (packets_of (waiting_at p))
    ≤ count_of before (from_server n p)

-- an acknowledgement for the channel came behind as many IN_R1/A3 and IN_R2/A3 as A4 were put
abbrev pub HasComeSince : ℕ → Passage OutProxy → Cookie → Type 0
HasComeSince n p cookie =
    HasOne (AcksFor cookie)
    (behind is_in_a3 (count_of is_in_a4 (to_client n p)) (from_server n p))

pub record WaitsInOrder (n : ℕ) (p : Passage OutProxy) : Type 0 where
  pub room : p.role.waiting.room ≡ FORWARDED_ROOM
  pub each : AllByRecursion IsToForward (waiting_at p)
  pub connection : AreOfCame is_conn_c1 is_conn_c2 n p
  pub ins : AreOfCame is_in_a3 is_in_a4 n p
  pub wishes : AreOfCame is_out_r1_a1 is_out_r1_a2 n p
  pub answers : AreOfCame is_out_r1_a5 is_out_r1_a6 n p
  pub different : AreDifferent (cookies_in (waiting_at p))
  pub acks : AllByRecursion (HasComeSince n p) (cookies_in (waiting_at p))
