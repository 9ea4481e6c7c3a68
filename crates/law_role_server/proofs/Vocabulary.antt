-- Words that proofs cite, passed on from one place. Declares nothing.
pub use Rattle.rh_server.proofs.Onces.{none_counts, none_found, none_taken, one_if, passes, same_forwarded}
pub use Rattle.rh_server.specs.Acknowledging.{acked_at, acked_cookie, acked_in, admitted_by, admitted_on, channel_at, channel_leg, channel_place, elsewhere, forward_by, forwards, forwards_to, forwards_writing, has_ack_by, has_ack_elsewhere, is_full, is_of_channel, number_by, on_ack, on_ack_to, on_pdu, on_ping_traffic, out_server}
pub use Rattle.rh_server.specs.Ending.{are_lost, close, completed, drawn, drawn_by, end_a2_at, end_a2_on_leg, end_a2_waiting, ended_on, give, give_by, in_is_done, in_is_drawn, in_only_marks, is_complete, is_done, is_done_by, is_over_on, lost_in, mark, mark_by, on_end_a2, only_marks, only_marks_by, settled, waits_ended, with_ack_dropped, without_ack_of}
pub use Rattle.rh_server.specs.InReplacement.{announced, becomes_current, carries_next, ended_if, first_waiting, hands_over, has_fresh_below, in_r1_a2_at, in_r1_a2_by, in_r2_a2_on, is_fresh_below, leaves, leaves_by, moved_if, newest_by, next_opened, on_in_r1_a2, on_in_r1_a6, on_in_r2_a2, opens_leg, opens_next, take, waiting_place}
pub use Rattle.rh_server.specs.Opening.{Done, conn_a2_at, conn_b2_at, first_in, first_out_at, has_room, in_leg_up, is_first, may_up, may_up_by, on_conn_a2, on_conn_b2, opens, out_leg_up, refuse, took, unexpected, up, up_by, with_first_in, with_first_out, with_out_channel}
pub use Rattle.rh_server.specs.OutLegs.{acked, acked_by, counted, may_end, may_go, went}
pub use Rattle.rh_server.specs.OutLines.{Gate, are_kind, has, is_ack, is_ack_of, is_kind, is_own, kind_of, length_of, lets, lets_packet, waits}
pub use Rattle.rh_server.specs.OutReplacement.{answered, answered_by, answered_on, asks, confirms, handed, is_asked, is_under_way, last_number, may_answer, on_out_r1_a4, on_out_r1_a8, out_r1_a4_at, out_r1_a4_by, out_r1_a8_at, recycle, wanted_by, wished, wishes}
pub use Rattle.rh_server.specs.Putting.{Pick, ack_due, cookie_or_none, counts, counts_at, gate, gate_at, goes, is_end_due, may_end_at, may_go_at, next_in, next_out, or_else, out_greeting_at, pdu_by, put, put_ack, put_ack_by, put_b1, put_b1_by, put_by, put_end, put_in, put_in_by, put_in_greeting, put_open, put_out, put_out_at, put_out_greeting, put_out_place, put_pdu, put_pdu_or_end, put_tells, put_tells_by, put_waiting, settled_pick, told_by, waiting_at, waiting_by}
pub use Rattle.rh_server.specs.Putting.{was_current, was_put, went_at, with_out}
pub use Rattle.rh_server.specs.Servers.{acts, first, new_server, on_is, on_os, packet, packet_by, pdu, rules}
pub use Rattle.rh_server.specs.States.{Server, cookie_by, has_left, in_at, in_leg, in_place, is_closing, is_confirmed, is_due, is_fresh, is_lost, is_nil, is_open, is_put, is_shut, is_some, is_steady, is_waiting, no_cookie, out_at, out_cookie, out_leg, out_place, phase_of, removed_at, same_cookie, set_at, stays, with_in, without_in, without_out}
pub use Rattle.rh_server.specs.declared.out_line.Kind.{Kind}
pub use Rattle.rh_server.specs.declared.state.Edge.{Edge}
pub use Rattle.rh_server.specs.declared.state.Edge.TheVariants.{Shut, Told}
pub use Rattle.rh_server.specs.declared.state.EndMark.{EndMark}
pub use Rattle.rh_server.specs.declared.state.Greeting.{Greeting}
pub use Rattle.rh_server.specs.declared.state.Greeting.TheVariants.{Due, Put}
pub use Rattle.rh_server.specs.declared.state.InLeg.{InLeg}
pub use Rattle.rh_server.specs.declared.state.InStage.{InStage}
pub use Rattle.rh_server.specs.declared.state.InStage.TheVariants.{Fresh, Opened, Waits}
pub use Rattle.rh_server.specs.declared.state.Leaving.{Leaving}
pub use Rattle.rh_server.specs.declared.state.OutLeg.{OutLeg}
pub use Rattle.rh_server.specs.declared.state.Replacement.{Replacement}
pub use Rattle.rh_server.specs.declared.state.Replacement.TheVariants.{Answered, Asked, Confirmed, Steady}
pub use Rattle.rh_server.specs.declared.state.Stage.{Stage}
pub use Rattle.rh_server.specs.declared.state.Stage.TheVariants.{Ended, InCame, Open, OutCame}
pub use Rattle.rh_server.specs.declared.state.Tells.{Tells}
pub use Rattle.law_role_server.specs.Counted.Answering.{AreAnswered, BeginOnce, how_many, waits_on}
pub use Rattle.law_role_server.specs.Counted.BeforeC1.{HasRoom, HasRoomIn, HaveRoom, MayGoBefore}
pub use Rattle.law_role_server.specs.Counted.Counting.{IsOnEachFrom, in_came, is_ack_to, is_conn_a2, is_conn_b2, is_conn_b3, is_conn_c1, is_end_a2, is_in_r1_a2, is_in_r1_a3, is_in_r1_a6, is_in_r2_a2, is_in_r2_a3, is_out_r1_a1, is_out_r1_a4, is_out_r1_a5, is_out_r1_a8, is_out_r1_a9, leg_at, often, often_at, out_came, out_put, waiting_of, waits_for}
pub use Rattle.law_role_server.specs.Counted.Opening.{IsText, OpensOnce, since_conn_a2, since_conn_b2, since_open}
pub use Rattle.law_role_server.specs.Counted.Replacing.{AreInTurn, ArePutInTurn, AreReplaced, since_answered, since_asked, since_confirmed}
pub use Rattle.law_role_server.specs.Legible.{pipe_put, pipe_to}
pub use Rattle.law_role_server.specs.Order.{came_up, ended_by, following, giver_of, got, has_leg, in_items, is_up, items_if, items_on, out_items, sent, shelf, shelves_of, taker_of}
