-- Words that proofs cite, passed on from one place. Declares nothing.
pub use Rattle.rh_inproxy.specs.Acknowledging.{ack_by, ack_due, ack_for, acked, acked_by, current_ack, forward_by, forwarded, next_ack, on_ack, on_ack_to, put_ack, put_acks}
pub use Rattle.rh_inproxy.specs.Answers.{Done, Pick, is_some, or_else, refuse, taken, unexpected}
pub use Rattle.rh_inproxy.specs.Ending.{has_later, is_announced, is_done, is_drained, is_newest, is_over, is_succeeded, mark, newest_ended, on_end_a1, put_end, settled, settled_pick, tells_server}
pub use Rattle.rh_inproxy.specs.InReplacement.{finish_by, finished, hand_over, handed_over, has_passed, is_newcomer, join, joined, mark_by, on_in_r1_a1, on_in_r1_a5, on_in_r1_b1, on_in_r1_b2, on_later_in_r1_a1, one_less, put_in_r1_a6, put_in_r2_a2, told_by}
pub use Rattle.rh_inproxy.specs.Machine.{on_channel, on_channel_by, on_ci, on_is, packet, pdu, pdu_by, rooms, rules}
pub use Rattle.rh_inproxy.specs.Opening.{accepted, accepts, accepts_later, announcement, awaits_packet, channel_asked, connected, drawn, drawn_by, echo_answer, echo_asked, echo_by, echo_packet, first_by, had_client, has_server, head, head_by, is_absent, is_connection, is_first, is_replacement, is_unknown, kept_for, leg_of, may_accept, newest, newest_by, on_conn_b1, on_conn_b3, on_first_in_r1_a1, opened, opener, opener_of, phase_by, put_echo, put_first, up, wants, wants_server}
pub use Rattle.rh_inproxy.specs.Opening.{was_up, with_edge}
pub use Rattle.rh_inproxy.specs.OutReplacement.{on_out_r1_a7}
pub use Rattle.rh_inproxy.specs.Passing.{next_pdu, on_pdu, passed, put_pdu}
pub use Rattle.rh_inproxy.specs.Putting.{next, put, put_behind, put_control, put_early, put_mark, put_stream, put_waiting, waiting_by}
pub use Rattle.rh_inproxy.specs.State.{InProxy, IsConfig, channel_of, first, followed, follows, hands_over, has_a5, has_come, has_opened, is_client_leg, is_joined, is_server_leg, next_of, same_cookie}
pub use Rattle.rh_inproxy.specs.Time.{on_keep_alive, ping, put_ping}
pub use Rattle.rh_inproxy.specs.declared.opening.TheConstants.{ECHO_LENGTH, GREATEST_LENGTHS, KEEPALIVE}
pub use Rattle.rh_inproxy.specs.declared.state.ClientLeg.{ClientLeg}
pub use Rattle.rh_inproxy.specs.declared.state.Edge.{Edge}
pub use Rattle.rh_inproxy.specs.declared.state.Edge.TheVariants.{Known, Unknown}
pub use Rattle.rh_inproxy.specs.declared.state.Entry.{Entry}
pub use Rattle.rh_inproxy.specs.declared.state.Entry.TheVariants.{Connects, Replaces}
pub use Rattle.rh_inproxy.specs.declared.state.Handover.{Handover}
pub use Rattle.rh_inproxy.specs.declared.state.Handover.TheVariants.{Before, Came, Passed}
pub use Rattle.rh_inproxy.specs.declared.state.InProxyConfig.{InProxyConfig}
pub use Rattle.rh_inproxy.specs.declared.state.Joining.{Joining}
pub use Rattle.rh_inproxy.specs.declared.state.Joining.TheVariants.{Follows, TellsServer, Told}
pub use Rattle.rh_inproxy.specs.declared.state.Opener.{Opener}
pub use Rattle.rh_inproxy.specs.declared.state.Opening.{Opening}
pub use Rattle.rh_inproxy.specs.declared.state.Opening.TheVariants.{Announced, Announces, AwaitsClient, AwaitsPacket, WantsServer}
pub use Rattle.rh_inproxy.specs.declared.state.Successor.{Successor}
pub use Rattle.rh_inproxy.specs.declared.state.Successor.TheVariants.{Absent, Joined, Up}
pub use Rattle.rh_inproxy.specs.declared.state.Work.{Work}
pub use Rattle.law_role_inproxy.specs.Counted.{HappensOnce, PutsForWhatCame, is_leg}
pub use Rattle.law_role_inproxy.specs.Legible.{HasSizes, pipe_put, pipe_to}
pub use Rattle.law_role_inproxy.specs.Order.{KeepsOrder, came_log, came_on, is_on, item_came, item_put, next_shelf, passer_of, put_items, put_on_server, shelf}
pub use Rattle.law_role_inproxy.specs.Putting.Puts.{Acknowledges, ArePutUp, CameFirst, CameOn, HasPdu, IsFirst, IsFront, IsPacket, IsPing, IsPlain, IsPlainPacket, IsPutUp, IsRest, IsStream, Joins, Leaves, PutsInOrder, Switches, ci}
pub use Rattle.law_role_inproxy.specs.Putting.Standing.{EndsLast, MayFollowEnd, SendsWhereTold, is_conn_b3, is_in_r1_b2}
pub use Rattle.law_role_inproxy.specs.Refusing.{HasPacket, HasPduIn, IsEnded, IsLeft, IsNew, IsUntold, Mismatch, MismatchOnClient, MismatchOnServer, NamesConnection, RefusesFor, Unexpected, UnexpectedOnClient, UnexpectedOnServer, UnexpectedPdu, UnexpectedPduBy, any, ci_leg, is_in_r2_a2}
