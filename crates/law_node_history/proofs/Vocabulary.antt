-- Words that proofs cite, passed on from one place. Declares nothing.
pub use Rattle.rh_record.specs.Events.Events.{Refuses, Silent, Stops, StopsGiving, StopsTaking, event, events, given, of_end, offer, offered, other, taken}
pub use Rattle.rh_record.specs.Events.Order.{IsOrdered, IsPrefix}
pub use Rattle.rh_record.specs.Words.{most_number, takes, within}
pub use Rattle.rh_record.specs.declared.answer.Answer.{Answer}
pub use Rattle.rh_record.specs.declared.answer.Answer.TheVariants.{Down, NodeClosed, Up}
pub use Rattle.rh_record.specs.declared.answer.TakeAnswer.{TakeAnswer}
pub use Rattle.rh_record.specs.declared.answer.Who.{Who}
pub use Rattle.rh_record.specs.declared.answer.Who.TheVariants.{Client, In, Out, Server}
pub use Rattle.rh_record.specs.declared.line.Key.{Key}
pub use Rattle.rh_record.specs.declared.line.Line.{Line}
pub use Rattle.rh_record.specs.declared.line.Line.TheVariants.{BreakLeg, Close, EndLeg, First, Give, Move, OpenLeg, OpenSame, RecycleIn, RecycleOut, Send, Set, Settle, Take, Tick}
pub use Rattle.rh_wires.specs.Counts.{none, one_more}
pub use Rattle.rh_wires.specs.Numbered.{act, act_by, ask, change, change_by, grown, more, put_at}
pub use Rattle.rh_wires.specs.Readers.{reader_of, with_reader}
pub use Rattle.rh_wires.specs.Wires.{blank, in_flight, lower, put, raise, receiver, sender, take_out}
pub use Rattle.rh_wires.specs.declared.counts.Counts.{Counts}
pub use Rattle.rh_wires.specs.declared.legs.Legs.{Legs}
pub use Rattle.rh_wires.specs.declared.wire.Wire.{Wire}
pub use Rattle.rh_company.specs.Closings.{lines, place}
pub use Rattle.rh_company.specs.Company.{Company, Rulebook, rules_of}
pub use Rattle.rh_company.specs.Cookies.{Cookies, behind, cookie_of, draw, is_one_of, past, past_one, was_had, with_other}
pub use Rattle.rh_company.specs.Places.{is_absent, is_working, most_legs, one_fewer}
pub use Rattle.rh_company.specs.Telling.{cause_in, closing, happens, tell}
pub use Rattle.rh_company.specs.declared.closing.Closing.{Closing}
pub use Rattle.rh_company.specs.declared.event.Event.{Event}
pub use Rattle.rh_company.specs.declared.event.Event.TheVariants.{Breaks, Comes, Ends, Passes}
pub use Rattle.rh_company.specs.declared.place.Place.{Place}
pub use Rattle.rh_company.specs.declared.place.Place.TheVariants.{Absent, Gone, Here}
pub use Rattle.rh_nodes.specs.Breaking.{break_leg, end_leg, is_up, lose, lost, refuse}
pub use Rattle.rh_nodes.specs.Carrying.{draw_into, fed, feed, send, sent}
pub use Rattle.rh_nodes.specs.Giving.{Deeds, close, give, give_answer, given_down, given_up, has_ended, recycle_in, recycle_out, take, take_answer, take_from, taken_down, taken_up}
pub use Rattle.rh_nodes.specs.Halves.{broken_end, end_of, ended_end, half, half_by, is_same, make_by, make_proxy, refused_half, tick_from, up_at, up_client, up_end, up_half, with_cookie}
pub use Rattle.rh_nodes.specs.Opening.{Makers, at_moment, connect, connect_client, is_wanted, may_make, may_open_same, open_by, open_in_to, open_leg, open_out_to, open_same, open_server, read_on, reader_before, up_at_both, with_in, with_out}
pub use Rattle.rh_nodes.specs.Reports.{and_then, each}
pub use Rattle.rh_nodes.specs.Settling.{behind_round, carried, carry, carry_all, carry_both, carry_bytes, carry_kind, end_all, end_kind, end_one, end_where, ended, ends_now, is_finished, leg_at, most_bytes, next_number, open_all, open_client_ins, open_client_outs, open_in_servers, open_next, open_next_in, open_out_servers, opened, opened_same, round, settle, take_both, take_one, took}
unfoldable pub use Rattle.rh_nodes.specs.Settling.{rounds_from}
pub use Rattle.rh_nodes.specs.Steps.{answer_of, answered, ending_answer, last, last_of, last_with, leg_answer, reported, step, step_line, tell_closed, told}
pub use Rattle.rh_nodes.specs.Time.{for_each, tick, tick_all, tick_ins, tick_outs}
pub use Rattle.rh_nodes.specs.World.{World, at, node_by}
pub use Rattle.rh_nodes.specs.declared.half.Half.{Half}
pub use Rattle.law_node_history.specs.Carriages.{Carriage, IsCarried, IsDone, IsUnheard, wire_of}
pub use Rattle.law_node_history.specs.Carried.{AllAccepted, AreAccepted, AreAcceptedAtEnd, AreCarried, AreHeard, ComesUpOnce, ComesUpOnceAtEnd, IsAccepted, IsAcceptedAtEnd, IsHeard, IsTraced, Ledger, LegsComeUpOnce, RemembersLegs, RemembersLegsAtEnd, came_up, carriage, drawn_at_end, drawn_by, drawn_in, drawn_on, end_drawn_on, end_node, events_of, happened, heard_in, heard_on, is_of_client, is_up_of, ledger, wire_at}
pub use Rattle.law_node_history.specs.Changes.{AreAllowed, ByLines, Change, Closes, Draws, Gives, GoesBy, GoesDown, GoesQuietly, GoesUp, HasUp, IsDrawn, IsFed, IsHalf, IsLine, IsTold, Leads, MayBeTold, MayChange, MovesTo, OpensIn, OpensOut, OpensSame, Quietly, RaisesAlone, RecyclesIn, RecyclesOut, Reports, StandsAt, Takes, Turn, Works, WorksBy, after_turn, after_turns, all_changed, changed, is_led, is_quiet, is_silent, is_whole, is_work, may_have, of_line}
pub use Rattle.law_node_history.specs.Closes.{ClientTells, ClosedPlace, ClosesNode, HasClosed, IsClosedBy, IsOneOf, LineCloses, ServerTells, closing_of, closings_of, told_by}
pub use Rattle.law_node_history.specs.Drawn.{AreDrawn, AreDrawnFor, AreLeft, DrawnByLines, DrawsBy, HaveOwnCookies, RoseWith, all_risen, risen}
pub use Rattle.law_node_history.specs.Histories.{AreRuns, History, IsNew, IsRun, WasLetGo, act_at, acts_by, all_noted, at_place, fed_by, heard, in_place, made_by, noted, nothing, out_place, to_node, told_to}
pub use Rattle.law_node_history.specs.Standing.{ClosedHere, MakesGoing, StandsClosed}
