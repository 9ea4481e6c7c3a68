-- Words that proofs cite, passed on from one place. Declares nothing.
pub use Rattle.rh_client.specs.Acknowledging.{ack_due, ack_named, ack_row, ack_row_by, acked, admit_row, cookie_of, is_switched, is_switched_by, may_ack, on_ack_to, on_pdu, pdu_channel, pdu_on}
pub use Rattle.rh_client.specs.Channels.{in_up, is_asked, is_named, is_put, is_up, metered, no_cookie, out_up, sent, told_in, unopened_in, unopened_out}
pub use Rattle.rh_client.specs.Client.{acts, first_client, on_packet, packet, packet_by, packet_on, pdu, pdu_by, rooms, rules}
pub use Rattle.rh_client.specs.Ending.{Given, close, drawn, drawn_by, end_channel, end_on, give, give_pdu, is_done_by, on_end_b2, take}
pub use Rattle.rh_client.specs.InReplacement.{answer_at, answer_by, answered, handed_over, on_in_r1_a4, on_in_r2_a4, recycle, recycle_by, wants_successor, wish_by, wished}
pub use Rattle.rh_client.specs.Opening.{head_by, on_conn_a3, on_conn_c2, opened_by, success, up, up_by, wants_by, was_in_up, was_up, was_up_by, with_next}
pub use Rattle.rh_client.specs.OutReplacement.{a10_at, a10_by, a2_by, a6_at, a6_by, ended_or, on_out_r1_a10, on_out_r1_a2, on_out_r1_a6, pass_at, pass_by, passed, succeeded}
pub use Rattle.rh_client.specs.Putting.{Pick, ack_by, begun_in, begun_out, conn_a1, conn_b1, due_by, in_r1_a1, is_end_due, lets_pdu, or_else, out_due, out_r1_a3, put, put_in_r1_a5, put_out_r1_a7, settled_or_wished, settled_pick, with_end_put, without_ping}
unfoldable pub use Rattle.rh_client.specs.Putting.{put_ack, put_ack_of, put_by, put_conn_b1, put_current, put_due, put_end, put_in, put_in_r1_a1, put_in_successor, put_next, put_out, put_out_successor, put_pdu, put_ping, put_successor_ping, put_writing}
pub use Rattle.rh_client.specs.Replacements.{has_out, is_finished, is_in, is_none, is_out, with_in, with_out}
pub use Rattle.rh_client.specs.State.{Done, after_in, after_out, begin_in, begin_out, ci, co, first, is_current, is_in_successor, is_open, is_opening, is_out_successor, is_over, is_writing, settled, taken, unexpected}
pub use Rattle.rh_client.specs.Time.{ping, ping_by}
pub use Rattle.rh_client.specs.declared.channels.InChannel.{InChannel}
pub use Rattle.rh_client.specs.declared.channels.Opening.{Opening}
pub use Rattle.rh_client.specs.declared.channels.Opening.TheVariants.{First, NotUp, Put, Request, Second}
pub use Rattle.rh_client.specs.declared.channels.OutChannel.{OutChannel}
pub use Rattle.rh_client.specs.declared.channels.TheConstants.{LAST_NUMBER}
pub use Rattle.rh_client.specs.declared.lengths.TheConstants.{CONN_A1_LEN, OUT_R1_A3_C1_LEN}
pub use Rattle.rh_client.specs.declared.replacement.InStage.{InStage}
pub use Rattle.rh_client.specs.declared.replacement.OutStage.{OutStage}
pub use Rattle.rh_client.specs.declared.replacement.Replacement.{Replacement}
pub use Rattle.rh_client.specs.declared.replacement.Replacement.TheVariants.{In, NoneUnderWay, Out}
pub use Rattle.rh_client.specs.declared.replacement.Waits.{Waits}
pub use Rattle.rh_client.specs.declared.state.ClientRole.{ClientRole}
pub use Rattle.law_role_client.specs.Counted.Counting.{StandsOnEach, is_among, is_conn_a1, is_conn_b1, is_conn_c2, is_greeting, is_in_a4, is_in_r1_a1, is_in_r1_a5, is_out_r1_a10, is_out_r1_a2, is_out_r1_a3, is_out_r1_a6, is_out_r1_a7, once_if, total}
pub use Rattle.law_role_client.specs.Counted.Naming.{EachBehind, NamesIn, NamesIns, NamesOut, NamesOuts}
pub use Rattle.law_role_client.specs.Counted.Opening.{IsUnused, OpensOnce, opened}
pub use Rattle.law_role_client.specs.Counted.Replacing.{AsksWhereWanted, InIsAt, OutFollows, OutIsAt, OutStands, ReplacesIns, ReplacesOuts, in_answered, in_asked, in_handed_over, is_to_ask, out_answered, out_asked, out_finished, out_switched, out_waits, out_wanted}
pub use Rattle.law_role_client.specs.Legible.{HasCookie, HasCookieAtEnd, HasCookies, HaveCookies, IsConfig, IsCookie, pipe_put, pipe_to}
pub use Rattle.law_role_client.specs.Order.{AreAllowedMoves, GivesInOrder, TakesInOrder, came_log, client_moved, client_started, down_items, down_mark, giver_of, has_leg, items_on, log_of, put_log, shelf_of, taker_of, up_items, up_mark}
pub use Rattle.law_role_client.specs.Sending.{BeginsByCookie, IsInRange, IsWithin, RefusesFalseAcks, SendsAsTold, TellsEdge}
