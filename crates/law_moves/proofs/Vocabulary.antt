-- Words that proofs cite, passed on from one place. Declares nothing.
pub use Rattle.rh_text.specs.declared.ends.Dir.{Dir}
pub use Rattle.rh_text.specs.declared.ends.Dir.TheVariants.{D, U}
pub use Rattle.rh_text.specs.declared.ends.Side.{Side}
pub use Rattle.rh_text.specs.declared.ends.Side.TheVariants.{Client, Server}
pub use Rattle.rh_window.specs.Sending.{ack_verdict, after_acked, after_sent, bad_ack, may_send, unsent}
pub use Rattle.rh_window.specs.Sides.{IsWindow, Receiver, Sender}
pub use Rattle.rh_window.specs.declared.fault.BadAck.{BadAck}
pub use Rattle.rh_window.specs.declared.fault.TheConstants.{FLOW_CONTROL_ACK}
pub use Rattle.rh_window.specs.declared.fault.WindowExceeded.{WindowExceeded}
pub use Rattle.rh_window.specs.declared.range.TheConstants.{GREATEST_WINDOW, LEAST_WINDOW}
pub use Rattle.rh_window.specs.declared.recv_window.Ack.{Ack}
pub use Rattle.rh_keep.specs.Meters.{Meter, after_put, fits, may_put, wanted}
pub use Rattle.rh_keep.specs.declared.range.TheConstants.{LEAST_LIFETIME}
pub use Rattle.law_order.proofs.ByNumber.{below_empty, below_prefix, by_test, change_here, change_other, more_here, more_none, more_other, other_number, same_number, seen-append, test_other, test_same}
pub use Rattle.law_order.proofs.GiverKeeps.{giver_same, giver_starts, giver_step}
pub use Rattle.law_order.proofs.ItemLists.{all_ended, behind_channel, ended_whole, handed_whole, has_end-append, has_handover-append, neither, nil_back, nil_front, pdus-append}
pub use Rattle.law_order.proofs.OnTheWay.{exact, part_past, reader_at}
pub use Rattle.law_order.proofs.PasserKeeps.{passer_starts, passer_step, passer_takes}
pub use Rattle.law_order.proofs.Prefixes.{prefix_behind, prefix_more, prefix_pdus, prefix_self, prefix_trans}
pub use Rattle.law_order.proofs.ShelvesKeep.{below_next, or_none, shelves_alike, shelves_fewer}
pub use Rattle.law_order.proofs.Streams.{end_stays, or_false}
pub use Rattle.law_order.proofs.TakerKeeps.{taker_starts, taker_step}
pub use Rattle.rh_pdu.proofs.Framing.{each_append}
pub use Rattle.rh_pdu.proofs.Headers.{frag_bounds, frag_same, head_same}
pub use Rattle.rh_pdu.proofs.Pdus.{pdu_from_none}
pub use Rattle.rh_pdu.specs.Checking.{checked, pdu_fault}
pub use Rattle.rh_pdu.specs.Frames.{IsFrame, IsPdu, IsUnfinished}
pub use Rattle.rh_pdu.specs.Header.{header_length, rts}
unfoldable pub use Rattle.rh_pdu.specs.Header.{frag_of, head_fault}
pub use Rattle.rh_pdu.specs.declared.fault.HeadFault.{HeadFault}
pub use Rattle.rh_pdu.specs.declared.fault.PduFault.{PduFault}
pub use Rattle.rh_rts.proofs.OneReading.{sized}
pub use Rattle.rh_rts.specs.Commands.{AreCommands, HasSize, HaveSizes, IsCommand, address_bytes, spellings}
unfoldable pub use Rattle.rh_rts.specs.Commands.{spelling}
pub use Rattle.rh_rts.specs.Packets.{IsPacket, Parts, header_bytes, packet_length}
unfoldable pub use Rattle.rh_rts.specs.Packets.{packet_bytes}
unfoldable pub use Rattle.rh_rts.specs.Reading.{read_packet}
pub use Rattle.rh_rts.specs.declared.command.Address4or16.TheVariants.{V4}
pub use Rattle.rh_rts.specs.declared.command.Command.{Command}
pub use Rattle.rh_rts.specs.declared.command.Cookie.{Cookie}
pub use Rattle.rh_rts.specs.declared.command.TheConstants.{COOKIE_LEN, GREATEST_DESTINATION, NO_COOKIE, TO_OUT_PROXY}
pub use Rattle.rh_sig.proofs.Members.{carried}
pub use Rattle.rh_sig.specs.Looking.{carries}
unfoldable pub use Rattle.rh_sig.specs.Looking.{names}
pub use Rattle.rh_sig.specs.Names.{row_of, unpadded}
unfoldable pub use Rattle.rh_sig.specs.Naming.{name_on, named_bytes, named_of}
pub use Rattle.rh_sig.specs.Values.{AreInRange, IsKeepalive, IsLifetime, IsRefused, IsTimeout, MayBeWritten, ReadsAs, commands_of, name_of_named, parts_of}
pub use Rattle.rh_sig.specs.declared.lengths.TheConstants.{ACK_TO_LEN, CONN_B1_LEN, END_A1_LEN, IN_R1_A1_LEN, IN_R1_A5_LEN, OUT_R1_A7_LEN, PING_LEN}
pub use Rattle.rh_sig.specs.declared.name.Pipe.{Pipe}
pub use Rattle.rh_sig.specs.declared.name.Pipe.TheVariants.{CiU, CoD, CoU, IsD, IsU, OsD, OsU}
pub use Rattle.rh_sig.specs.declared.named.Named.{Named}
pub use Rattle.rh_sig.specs.declared.named.Named.TheVariants.{AckTo, ConnA1, ConnA2, ConnA3, ConnB1, ConnB2, ConnB3, ConnC1, ConnC2, EndA1, EndA2, EndB1, EndB2, InR1A1, InR1A2, InR1A3, InR1A4, InR1A5, InR1A6, InR1B1, InR1B2, InR2A2, InR2A3, KeepAlive, OutR1A1, OutR1A10, OutR1A3, OutR1A4, OutR1A5, OutR1A7, OutR1A8, OutR1A9, OutR2C1, Ping}
pub use Rattle.rh_sig.specs.declared.ranges.TheConstants.{GREATEST_TIMEOUT, PROTOCOL_VERSION}
pub use Rattle.rh_http.proofs.EndLemmas.{in_all, in_front}
pub use Rattle.rh_http.proofs.Heads.Finds.{some_is}
pub use Rattle.rh_http.proofs.Heads.Judged.{request_answered, response_answered, whole_response}
pub use Rattle.rh_http.proofs.Lines.{ArePlain, blank_last, blank_there}
pub use Rattle.rh_http.proofs.Written.{plain, request_read}
pub use Rattle.rh_http.proofs.WrittenResponses.{refusal_told, response_told}
pub use Rattle.rh_http.specs.Ends.{EndsAt, FirstEnd, blank_line}
pub use Rattle.rh_http.specs.Heads.Ends.{is_whole}
pub use Rattle.rh_http.specs.Heads.Verdicts.{Asked, asked, asked_of, request_verdict, response_judged}
unfoldable pub use Rattle.rh_http.specs.Heads.Verdicts.{response_verdict}
pub use Rattle.rh_http.specs.Lengths.{greatest_echo, greatest_response, may_ask}
pub use Rattle.rh_http.specs.Reading.{IsAnswer}
pub use Rattle.rh_http.specs.Refusals.{refusal_of}
pub use Rattle.rh_http.specs.Requests.{JudgesRequest, host_text, method_of}
pub use Rattle.rh_http.specs.Responses.{JudgesResponse}
pub use Rattle.rh_http.specs.Texts.{IsToldAs, crlf, echo_length, field_line, head_of, in_request, out_request, refusal_line, refusal_text, request_fields, request_line, request_lines, status_line, status_of, target_of}
unfoldable pub use Rattle.rh_http.specs.Texts.{request_text, response_text}
pub use Rattle.rh_http.specs.declared.config.ClientConfig.{ClientConfig}
pub use Rattle.rh_http.specs.declared.fault.HttpFault.{HttpFault}
pub use Rattle.rh_http.specs.declared.fault.HttpFault.TheVariants.{TooLong}
pub use Rattle.rh_http.specs.declared.refusal.Refusal.{Refusal}
pub use Rattle.rh_http.specs.declared.refusal.Refusal.TheVariants.{Bad, Missing, Unavailable}
pub use Rattle.rh_http.specs.declared.response.Response.{Response}
pub use Rattle.rh_line.proofs.Queues.{each_push, total_push}
pub use Rattle.rh_line.specs.Histories.{Acknowledges, Admits, Call, CanCall, Finishes, IsWithin, OpensNext}
pub use Rattle.rh_line.specs.Lines.{Incoming, IsLine, IsThere, Line, admit_verdict, admitted, after_admit, after_end, after_finish, after_open_next, after_take, after_tell, after_told, by_window, channel_of, channel_verdict, due, first_line, fresh, is_empty, moved_on, released, settled, with_channel, with_window}
pub use Rattle.rh_line.specs.Queue.{behind, front_length, queue_bytes, total}
pub use Rattle.rh_line.specs.Texts.{cause_leg}
pub use Rattle.rh_line.specs.declared.cause.Cause.{Cause}
pub use Rattle.rh_line.specs.declared.cause.Cause.TheVariants.{BadFrame, BadHead, BadPacket, BodyOver, ControlFull, CookieMismatch, HttpRefused, LegBroken, LegEnded, OutOfRange, Silent, Unexpected}
pub use Rattle.rh_line.specs.declared.give_fault.GiveFault.{GiveFault}
pub use Rattle.rh_line.specs.declared.leg.Leg.{Leg}
pub use Rattle.rh_line.specs.declared.leg.LegKind.{LegKind}
pub use Rattle.rh_line.specs.declared.leg.LegKind.TheVariants.{ClientIn, ClientOut, InServer, OutServer}
pub use Rattle.rh_line.specs.declared.line_fault.LineFault.{LineFault}
pub use Rattle.rh_line.specs.declared.line_fault.LineFault.TheVariants.{Over, Window}
pub use Rattle.rh_line.specs.declared.line_take.LineTake.{LineTake}
pub use Rattle.rh_line.specs.declared.state.State.{State}
pub use Rattle.rh_line.specs.declared.state.Verdict.{Verdict}
pub use Rattle.rh_line.specs.declared.which.Which.{Which}
pub use Rattle.rh_line.specs.declared.which.Which.TheVariants.{Current, Next}
pub use Rattle.rh_shell.proofs.Hearings.{hear_none, hear_stopped}
pub use Rattle.rh_shell.specs.Drawing.{Drawn, begun_now, drawn, filled, left_by, next_byte, put_on}
unfoldable pub use Rattle.rh_shell.specs.Drawing.{draw}
pub use Rattle.rh_shell.specs.Ends.{cause_of, close_where, give, give_to, give_where, recycle, recycle_where, take_answer, take_where, with_role}
pub use Rattle.rh_shell.specs.Hearing.{Turn, begun_body, behind_frame, behind_head, cause_unread, close_row, goes, greeting, head_row, heading, heard, is_greeting, is_ping, is_stopped, is_upward, is_zero, one_more, row_by, stage_of, stop, stop_head, stops, take_next, take_packet, take_ping, touched, with_intake}
unfoldable pub use Rattle.rh_shell.specs.Hearing.{hear, hear_byte, take, take_frame}
pub use Rattle.rh_shell.specs.Intakes.{Came, Fault, Frame, Greeting, Head, Intake, Nothing, byte_by, counted, frame_by, frame_byte, holds, is_full, is_whole_greeting, is_whole_head, length_told, text_by}
unfoldable pub use Rattle.rh_shell.specs.Intakes.{ends_head, on_byte}
pub use Rattle.rh_shell.specs.NearEnds.{NearEnd, first_of, first_stage, is_ended, is_finished, is_marked, is_over, is_useless, marked, new_end}
pub use Rattle.rh_shell.specs.Readings.{named_by, packet_by}
unfoldable pub use Rattle.rh_shell.specs.Readings.{packet_of}
pub use Rattle.rh_shell.specs.Rules.{Acts, Message, Packet, Pdu, Row, Rules, Text, put_into, spell}
pub use Rattle.rh_shell.specs.Shells.{Shell, begun, broken, broken_at, broken_by, bytes, bytes_at, bytes_by, close, drawn_at, drawn_by, earlier, end_at, ended, ended_at, ended_by, finished, finished_at, finished_by, first_silent, free_place, has_room, is_at, is_before, is_free, is_going, is_heard, is_of, is_quiet, is_quiet_by, is_silent, is_silent_by, is_working, is_working_by, kind_number, lose, lost, may_up, one_if, passed, passed_by, pinged, place, put_back, refuse}
pub use Rattle.rh_shell.specs.Shells.{same_leg, seated, seated_at, silent_one, state_by, state_of, stop_by, stopped, tick, ticked, turned, unreached, unreached_by, up, verdict_by, wants, with_end, with_leg, with_verdict}
unfoldable pub use Rattle.rh_shell.specs.Shells.{first_where}
pub use Rattle.rh_shell.specs.Waiting.{Key, Waiting, added, are_one, are_same, better, count, edge_of, empty, forwarded, key_of, merged, own, pushed, taken, takes, to_forward, with_due, without_first}
pub use Rattle.rh_shell.specs.declared.answers.Behind.{Behind}
pub use Rattle.rh_shell.specs.declared.answers.Behind.TheVariants.{Frames, PassedOver}
pub use Rattle.rh_shell.specs.declared.answers.Count.{Count}
pub use Rattle.rh_shell.specs.declared.answers.HeadRefused.{HeadRefused}
pub use Rattle.rh_shell.specs.declared.answers.HeadTaken.{HeadTaken}
pub use Rattle.rh_shell.specs.declared.answers.Phase.{Phase}
pub use Rattle.rh_shell.specs.declared.answers.Refused.{Refused}
pub use Rattle.rh_shell.specs.declared.course.Course.{Course}
pub use Rattle.rh_shell.specs.declared.course.Course.TheVariants.{Closed, Going, Refusing}
pub use Rattle.rh_shell.specs.declared.due.Due.{Due}
pub use Rattle.rh_shell.specs.declared.due.Origin.{Origin}
pub use Rattle.rh_shell.specs.declared.due.Origin.TheVariants.{Forwarded, Own}
pub use Rattle.rh_shell.specs.declared.end_role.GiveRefused.{GiveRefused}
pub use Rattle.rh_shell.specs.declared.end_role.GiveRefused.TheVariants.{Closing, Full}
pub use Rattle.rh_shell.specs.declared.end_role.RecycleRefused.{RecycleRefused}
pub use Rattle.rh_shell.specs.declared.end_role.RecycleRefused.TheVariants.{Busy, Last}
pub use Rattle.rh_shell.specs.declared.heading.Heading.{Heading}
pub use Rattle.rh_shell.specs.declared.reading.PacketFault.{PacketFault}
pub use Rattle.rh_shell.specs.declared.rooms.Rooms.{Rooms}
pub use Rattle.rh_shell.specs.declared.stage.Stage.{Stage}
pub use Rattle.rh_shell.specs.declared.stop.Stop.{Stop}
pub use Rattle.rh_shell.specs.declared.waiting.TheConstants.{FORWARDED_ROOM}
pub use Rattle.law_moves.specs.Carrying.{Cut, EndLogs, EndPasses, IsQuiet, LogsAtEnd, LogsDrawn, LogsHeard, LogsUnmarked, Passes, PutsTo, TakesTo, accepted, first_in, handed, handed_by, is_deaf, message_in, messages_in, named_messages, on_leg, spelled}
pub use Rattle.law_moves.specs.Chains.Sums.{count_on, sum_below}
pub use Rattle.law_moves.specs.Chains.Ways.{AreFronts, Logs}
pub use Rattle.law_moves.specs.Laws.{ClosedWith, Stays, then_drawn}
pub use Rattle.law_moves.specs.Legible.Legible.{AllMayGo, AllReadBack, AreFine, AreLegible, IsFine, IsFineMessage, IsLegible, MayGo, MayGoOn, ReadsBack, taken_of}
pub use Rattle.law_moves.specs.Moves.{AreAllowed, AreAllowedAtEnd, Closes, EndMove, EndPassage, Gives, HeadCame, IsDrawn, Marks, MayEndMove, MayMove, Move, Moves, OnLeg, PacketCame, Passage, PduCame, Pings, Puts, Recycles, Takes, Up, all_end_moved, all_moved, end_moved, end_now_at, end_started, given_by, is_at_work, is_in_use, moved, now_at, put_by, started, taken_by, with_first}
pub use Rattle.law_moves.specs.Moving.{AreHeld, Breaks, ComesUp, Draws, EndEvent, EndFollows, EndLeads, Ends, Event, Follows, Happens, Hears, IsClosed, IsGiven, IsHeld, IsRecycled, IsTaken, Leads, Ticks, after_end_event, after_end_events, after_event, after_events}
pub use Rattle.law_moves.specs.PacketKinds.{is_conn_a1, is_conn_a2, is_conn_a3, is_conn_b1, is_conn_b2, is_conn_c1, is_conn_c2, is_end_b1, is_end_b2, is_in_a2, is_in_r1_a1, is_in_r1_a3, is_in_r1_a4, is_in_r1_a5, is_in_r1_a6, is_in_r1_b1, is_in_r2_a3, is_in_r2_a4, is_out_r1_a1, is_out_r1_a10, is_out_r1_a2, is_out_r1_a3, is_out_r1_a4, is_out_r1_a5, is_out_r1_a6, is_out_r1_a7, is_out_r1_a8, is_out_r1_a9, opens_client, opens_server}
pub use Rattle.law_moves.specs.Passages.Counted.{AreCounted, AreCountedAtEnd, IsCounted, IsCountedAtEnd, Tells, is_any, packets}
pub use Rattle.law_moves.specs.Passages.Passing.{BeginsIn, BeginsOut, Has, HasBegunIn, HasBegunOut, HasOn, HasOne, count_of, of_kind, pdu_bytes}
pub use Rattle.law_moves.specs.Passages.Rising.{AreUpFirst, CameUpWith, HasComeUp, IsUpFirst, WasUp}
pub use Rattle.law_moves.specs.ReadBack.Reading.{AreNoTexts, Begins, BeginsBy, BeginsWith, IsNoText, IsWholeText, Reading, ReadsNothing, all_read_of, begin, frame_read, messages_from, messages_read, read_by, read_of, reading, reading_after, text_read}
unfoldable pub use Rattle.law_moves.specs.ReadBack.Reading.{read_byte}
pub use Rattle.law_moves.specs.ReadBack.Well.{Answers, AreTaken, ByteIsWell, FrameIsWell, HeaderIsWell, IsWellText, ReadsWell, ReadsWellFrom, TextIsWell, is_named, is_packet}
pub use Rattle.law_moves.specs.Turns.{AreInTurn, AreInTurnFrom, IsInTurn, RefusesInTurn, Stages, is_head_on, none_up, stages_after, takes_frames, with_stage}
pub use Rattle.law_moves.specs.Wires.{In, Out, of_leg}
