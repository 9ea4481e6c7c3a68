-- Words that proofs cite, passed on from one place. Declares nothing.
pub use Rattle.rh_outproxy.specs.Acknowledging.{ack_due, ack_row, acked, admitted, line_row, on_ack, on_ack_to, on_pdu}
pub use Rattle.rh_outproxy.specs.Ending.{drawn, mark, on_end_b1, only_marks}
pub use Rattle.rh_outproxy.specs.Machine.{on_co, on_os, packet, pdu, rules}
pub use Rattle.rh_outproxy.specs.Opening.{conn_c1_by, first_packet, head, head_by, may_up, new_length, on_conn_c1, on_out_r2_c1, opened, pipe, successor_length, told_length, up, wants, was_up}
pub use Rattle.rh_outproxy.specs.OutProxy.{OutProxy, has_come, is_client_down, is_client_marked, is_due, is_echo_drawn, is_echo_put, is_known, is_over, is_ping_due, is_put, is_response_put, is_server_down, is_server_first, is_server_marked, is_successor, joined, new_proxy}
pub use Rattle.rh_outproxy.specs.OutReplacement.{on_out_r1_a9}
pub use Rattle.rh_outproxy.specs.Putting.{Pick, ack_by, answer_by, behind_response, echo_packet, echo_text, first_by, next_co, next_os, or_else, pdu_by, ping_room, put, put_ack, put_answer, put_end, put_first, put_handover, put_mark, put_pdu, put_ping, put_waiting, waiting_by}
pub use Rattle.rh_outproxy.specs.Rows.{Done, forwarded, forwarded_by, is_carrying, is_co, is_first, is_joined, is_os, is_second, passed_on, refuse, same_cookie, taken, takes_pdus, unexpected}
pub use Rattle.rh_outproxy.specs.Time.{ping, ping_after}
pub use Rattle.rh_outproxy.specs.declared.out_proxy.TheConstants.{ROOMS}
pub use Rattle.rh_outproxy.specs.declared.state.Answer.{Answer}
pub use Rattle.rh_outproxy.specs.declared.state.Channel.{Channel}
pub use Rattle.rh_outproxy.specs.declared.state.ClientLeg.{ClientLeg}
pub use Rattle.rh_outproxy.specs.declared.state.Mark.{Mark}
pub use Rattle.rh_outproxy.specs.declared.state.OutProxyConfig.{OutProxyConfig}
pub use Rattle.rh_outproxy.specs.declared.state.Ping.TheVariants.{Due, NotDue}
pub use Rattle.rh_outproxy.specs.declared.state.ServerLeg.{ServerLeg}
pub use Rattle.law_role_outproxy.specs.Counted.{ForwardsWhatCame, IsOpenedBy, NamesNew, NamesSuccessor, OpensAsAsked, OpensWhatCame, co_leg, os_leg}
pub use Rattle.law_role_outproxy.specs.Legible.{IsConfig, pipe_put}
pub use Rattle.law_role_outproxy.specs.Order.{KeepsOrder, came_log, client_leg, from_server, items_of, items_on, passer_of, put_items, server_leg, shelf_of, shelves_of, to_client}
pub use Rattle.law_role_outproxy.specs.Putting.{AcksPacket, BeginsServer, IsAck, IsEcho, IsNew, IsOpening, IsPassed, IsSuccessor, IsToClient, IsToServer, OpensClient, OpensNew, OpensServer, OpensSuccessor, PassesPacket, PutsToClient, PutsToServer, response}
pub use Rattle.law_role_outproxy.specs.Refusing.{CarriesNone, IsNotAsked, IsUnjoined, Mismatch, MismatchFromServer, PassesNone, RefusesFor, TakesNone, Unexpected, UnexpectedFromClient, UnexpectedFromServer, UnexpectedPdu, asked_after, asked_by, from_client, last_asked}
pub use Rattle.law_role_outproxy.specs.Sending.{IsInRange, IsNoWindow, MaySend, OpensOnce, RefusesFalseAcks, SendsWithin, TellsWindow, opens}
