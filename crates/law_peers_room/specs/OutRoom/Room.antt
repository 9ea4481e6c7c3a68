-- packets that go round pass an out proxy one by one, and it has room for what it is to forward
-- (MS-RPCH 2.2.4; the room and the replacement of channels are this profile's)
use Rattle.std.specs.Prelude.{ℕ, ◌≡◌, ◌+◌, ◌≤◌, ◌++◌, Bool, List, length, Err}
use Rattle.std.specs.List.{AllByRecursion}
use Rattle.rh_rts.specs.declared.command.Cookie.{Cookie}
use Rattle.rh_sig.specs.declared.named.Named.{Named}
use Rattle.rh_line.specs.declared.leg.Leg.{Leg}
use Rattle.rh_shell.specs.declared.answers.Count.{Count}
use Rattle.rh_shell.specs.declared.answers.Refused.TheVariants as refused
use Rattle.rh_shell.specs.Rules.{Message}
use Rattle.rh_outproxy.specs.Machine.{rules}
use Rattle.rh_outproxy.specs.OutProxy.{OutProxy}
use Rattle.law_moves.specs.Moves.{Passage}
use Rattle.law_moves.specs.Passages.Passing.{count_of, HasOne}
use Rattle.law_moves.specs.PacketKinds.{is_conn_c1, is_out_r1_a1, is_out_r1_a2, is_out_r1_a5, is_out_r1_a6}
use Rattle.law_role_client.specs.Counted.Counting.{is_in_a4}
use Rattle.law_peers_room.specs.OutRoom.Waits.{AcksFor, AreDifferent, from_server, is_in_a3, to_client, waiting_at}

-- ---- at a moment

-- no more came than were put, but for one
abbrev pub IsOneAhead : (Named → Bool) → (Named → Bool) → ℕ → Passage OutProxy → Type 0
IsOneAhead before after n p =
    count_of before (from_server n p) ≤ count_of after (to_client n p) + 1

pub record PassOneByOne (n : ℕ) (p : Passage OutProxy) : Type 0 where
  pub connection : count_of is_conn_c1 (from_server n p) ≤ 1
  pub ins : IsOneAhead is_in_a3 is_in_a4 n p
  pub wishes : IsOneAhead is_out_r1_a1 is_out_r1_a2 n p
  pub answers : IsOneAhead is_out_r1_a5 is_out_r1_a6 n p

-- ---- what the server puts

-- each of these channels is acknowledged to the client
abbrev pub AreAcked : List Message → List Cookie → Type 0
AreAcked messages cookies =
    AllByRecursion (λ (cookie : Cookie). HasOne (AcksFor cookie) messages) cookies

-- at most ten are
abbrev pub AcksFew : List Message → Type 0
AcksFew messages =
    (cookies : List Cookie) → AreDifferent cookies → AreAcked messages cookies
    → length cookies ≤ 10

-- so it is in each stretch with one IN_R1/A3 or IN_R2/A3 at most
abbrev pub AcksFewBetween : List Message → Type 0
AcksFewBetween messages =
    (before stretch behind : List Message) → messages ≡ before ++ stretch ++ behind
    → count_of is_in_a3 stretch ≤ 1 → AcksFew stretch

-- ---- room

-- fewer wait than may, which are sixteen, and no packet is refused for want of room
pub record HasRoom (p : Passage OutProxy) : Type 0 where
  pub waits : length (waiting_at p) ≤ 14
  pub packet : (leg full : Leg) (count : Count) (named : Named)
      → (rules.packet p.role leg count named).1 ≡ Err (refused.Full full) → ⊥
