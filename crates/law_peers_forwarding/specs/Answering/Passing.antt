-- the order of answers and of wishes at an out proxy (the replacement of channels is this
-- profile's; the packets are of MS-RPCH 2.2.4)
use Rattle.std.specs.Prelude.{ℕ, suc, ◌≤◌, Bool, if◌then◌else◌, List, [], ◌∷◌}
use Rattle.rh_sig.specs.declared.named.Named.{Named}
use Rattle.rh_shell.specs.Rules.{Message, Text, Pdu, Packet}
use Rattle.rh_outproxy.specs.OutProxy.{OutProxy}
use Rattle.rh_client.specs.declared.state.ClientRole.{ClientRole}
use Rattle.rh_server.specs.States.{Server}
use Rattle.law_moves.specs.Moves.{Passage}
use Rattle.law_moves.specs.Wires.{of_leg}
use Rattle.law_moves.specs.Passages.Passing.{count_of}
use Rattle.law_moves.specs.PacketKinds.{is_out_r1_a1, is_out_r1_a2}
use Rattle.law_role_client.specs.Counted.Counting.{is_in_a4}
use Rattle.law_role_outproxy.specs.Counted.{co_leg, os_leg}
use Rattle.law_peers_room.specs.OutRoom.Waits.{behind, from_server, is_in_a3, to_client}

-- how many packets pass the test before the first that passes the other
abbrev pub count_until : (test stop : Named → Bool) → List Message → ℕ
count_until test stop [] = 0
count_until test stop (Text bytes ∷ messages) = count_until test stop messages
count_until test stop (Pdu pdu ∷ messages) = count_until test stop messages
count_until test stop (Packet named ∷ messages) =
    if stop named then 0
    else if test named then suc (count_until test stop messages)
    else count_until test stop messages

-- no more answers go to the client before OUT_R1/A2 than came from the server before OUT_R1/A1
abbrev pub AnswersKeepBefore : ℕ → Passage OutProxy → Type 0
AnswersKeepBefore n p =
    count_until is_in_a4 is_out_r1_a2 (to_client n p)
    ≤ count_until is_in_a3 is_out_r1_a1 (from_server n p)

-- nor come to it so
abbrev pub AnswersComeBefore : ℕ → Passage ClientRole → Passage Server → Type 0
AnswersComeBefore n client server =
    count_until is_in_a4 is_out_r1_a2 (of_leg (co_leg n) client.came)
    ≤ count_until is_in_a3 is_out_r1_a1 (of_leg (os_leg n) server.put)

-- ---- behind the first wish

-- on the os leg at most one answer for an IN channel was put behind OUT_R1/A1
abbrev pub OneFollows : ℕ → Passage Server → Type 0
OneFollows n server =
    count_of is_in_a3 (behind is_out_r1_a1 1 (of_leg (os_leg n) server.put)) ≤ 1
