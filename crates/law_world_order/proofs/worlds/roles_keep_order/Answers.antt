use Rattle.law_world_order.proofs.Fronts.{Ended}
use Rattle.law_world_order.proofs.Kept.{keeps_order}
use Rattle.law_world_order.proofs.worlds.roles_keep_order.Goals as goal

pub returns : goal.returns
returns g c = λ m w new ours ranges.
    let ended : Ended = record {
      client_ends = c.takes_that_end_report_the_end.ensures.client;
      server_ends = c.takes_that_end_report_the_end.ensures.server;
      down = c.callers_take_what_was_given.ensures.taken;
      down_ended = c.callers_take_what_was_given.ensures.ended;
      up = c.what_came_up_was_given.ensures.taken;
      up_ended = c.what_came_up_was_given.ensures.ended;
    } in
    keeps_order m w ours ended (c.directions_are_joined.ensures m w new ours ranges)
    (λ v by.
    (c.a_recording_of_roles_is_known.ensures.changes m w v new ours by.leads).traced.runs)
