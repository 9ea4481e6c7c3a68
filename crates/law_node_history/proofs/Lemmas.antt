-- Lemmas that crates above cite, passed on from one place. Declares nothing.
pub use Rattle.law_node_history.proofs.Answering.{is_other}
pub use Rattle.law_node_history.proofs.Appended.{accepted_append, came_append, drawn_append, end_accepted_append, end_drawn_append, end_drawn_more, happened_append, happened_more, heard_append}
pub use Rattle.law_node_history.proofs.Closed.{closed_stays, tell_closes, told_closes, told_silent}
pub use Rattle.law_node_history.proofs.Connecting.{Joins, connects, connects_open_leg, connects_open_same, joins_open_leg, joins_open_same, or_left, or_right, quiet_connects}
pub use Rattle.law_node_history.proofs.Counting.{some_none, told_once}
pub use Rattle.law_node_history.proofs.Drawing.{DrawsWork, draws_by_lines, draws_none, draws_one, draws_then, is_steady, risen_append}
pub use Rattle.law_node_history.proofs.Drawn.{IsAmong, Risen, all_rose, drawn_between, drawn_front, own_cookies, same_number}
pub use Rattle.law_node_history.proofs.Halves.{HalfFits, MakeHalves, half_works, leads_turns}
pub use Rattle.law_node_history.proofs.HeardAll.{is_hears, unheard}
pub use Rattle.law_node_history.proofs.Leading.{cast_kept, cast_stays, changed_append, leads_more, leads_none, leads_then}
pub use Rattle.law_node_history.proofs.Ledgers.{here_itself, is_here, not_other, or_false, or_true, who_itself}
pub use Rattle.law_node_history.proofs.LegsKept.{not_both}
pub use Rattle.law_node_history.proofs.Lines.{goes_step_line, leads_step, leg_goes, same_who, step_by_lines, step_draws}
pub use Rattle.law_node_history.proofs.NodeTraces.{drawn_more, in_may, is_comes, is_draws, may_come, moments, never_up, none_drawn, none_up, out_may, silent_up, up_more, up_of, up_there}
pub use Rattle.law_node_history.proofs.Noting.{absent_is, begins, changes_are_noted, does, end_on}
pub use Rattle.law_node_history.proofs.Numbers.{acted, acts_elsewhere, answered, asked, changed_here, changes_elsewhere, put_elsewhere, put_here}
pub use Rattle.law_node_history.proofs.Once.{once_remembered, once_remembered_at_end}
pub use Rattle.law_node_history.proofs.Recordings.{changes_are_traced, elsewhere, heard_was_drawn, traced_first}
pub use Rattle.law_node_history.proofs.Reported.{one_behind}
pub use Rattle.law_node_history.proofs.Reporting.{changes_close, one_of_both, one_of_lines}
pub use Rattle.law_node_history.proofs.Rounds.{carries_go, carry_all_goes, end_all_goes, ends_go, open_goes, opens_go, round_goes, rounds_go}
pub use Rattle.law_node_history.proofs.Runs.{Runs, draw_meets, end_events_append, events_append, tell_meets, up_meets}
pub use Rattle.law_node_history.proofs.Tracing.{change_is_traced, client_end, or_assoc, told_comes}
pub use Rattle.law_node_history.proofs.Wired.{cases_leg, is_up_at, lower_beside, lower_here, put_beside, raise_beside, raise_here, same_itself, take_beside, take_here}
pub use Rattle.law_node_history.proofs.Working.{all_wider, quiet_work, work_of_line, works_by_lines, works_more, works_none, works_one, works_quietly, works_then}
