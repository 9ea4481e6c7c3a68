-- what a server puts before an acknowledgement to the client that waits longer, by its wishes for
-- successors of OUT channels (MS-RPCH 2.2.4, 3.2.1; when they go is this profile's)
use Rattle.std.specs.Prelude.{ℕ, ◌≡◌, ◌⊎◌, ◌+◌, ◌*◌, ◌<◌, ◌≤◌, ◌++◌, Bool, true, false, List, length, Some, None}
use Rattle.std.specs.declared.option.Option.{Option}
use Rattle.rh_keep.specs.Meters.{may_put}
use Rattle.rh_rts.specs.declared.command.Cookie.{Cookie}
use Rattle.rh_sig.specs.declared.lengths.TheConstants.{ACK_TO_LEN}
use Rattle.rh_server.specs.declared.state.OutLeg.{OutLeg}
use Rattle.rh_server.specs.OutReplacement.{last_number}
use Rattle.rh_server.specs.States.{Server, out_leg}
use Rattle.law_moves.specs.Moves.{EndMove, Passage}
use Rattle.law_moves.specs.Wires.{of_leg}
use Rattle.law_moves.specs.Passages.Passing.{count_of}
use Rattle.law_moves.specs.PacketKinds.{is_out_r1_a1}
use Rattle.law_role_server.specs.Counted.Counting.{out_put, waits_for}
use Rattle.law_role_outproxy.specs.Counted.{os_leg}
use Rattle.law_peers_moments.specs.GoingRound.{taken_in}
use Rattle.law_role_server_in.specs.Handovers.{passed}
use Rattle.law_peers_room.specs.OutRoom.Waits.{behind, is_in_a3}
use Rattle.law_peers_room.specs.ServerRoom.Overtaking.{AreLong, ack_room, is_ack_for}
use Rattle.law_peers_forwarding.specs.ServerFull.Taken.{due_in}

-- ---- a server

-- the meter of a leg lets an acknowledgement to the client go
abbrev pub lets_acks_on : Option OutLeg → Bool
lets_acks_on None = false
lets_acks_on (Some leg) = may_put leg.meter ACK_TO_LEN

-- the writing channel may have a successor, or has room for such an acknowledgement
abbrev pub MayGoOn : Server → Type 0
MayGoOn s = (s.writing < last_number) ⊎ (lets_acks_on (out_leg s.writing s.outs) ≡ true)

-- behind each front of the moves one answer to IN_R1/A2 and IN_R2/A2 at most is due
abbrev pub OneIsDue : ℕ → List EndMove → Type 0
OneIsDue window moves =
    (front later : List EndMove) → moves ≡ front ++ later
    → due_in (passed window front).role ≤ 1

-- IN_R1/A3 and IN_R2/A3 on an os leg behind its first OUT_R1/A1
abbrev pub behind_wish : ℕ → Passage Server → ℕ
behind_wish n p = count_of is_in_a3 (behind is_out_r1_a1 1 (of_leg (os_leg n) p.put))

-- ---- the law

-- while an acknowledgement waits that waited behind the front of the moves, the answers that are
-- put are those that were due there, one more, and those behind the wish for a successor of the
-- channel that wrote there
abbrev pub FewPass : ℕ → List EndMove → List EndMove → Type 0
FewPass window front later =
    (least : ℕ) (channel : Cookie) → AreLong least (passed window (front ++ later)).came
    → ACK_TO_LEN * length (passed window front).role.waiting.due + ack_room ≤ least
    → OneIsDue window (front ++ later) → MayGoOn (passed window (front ++ later)).role
    → 1 ≤ waits_for (is_ack_for channel) (passed window front).role
    → out_put (is_ack_for channel) (passed window (front ++ later))
    ≤ out_put (is_ack_for channel) (passed window front)
    → taken_in (passed window (front ++ later))
    ≤ taken_in (passed window front) + due_in (passed window front).role + 1
    + behind_wish (passed window front).role.writing (passed window (front ++ later))
