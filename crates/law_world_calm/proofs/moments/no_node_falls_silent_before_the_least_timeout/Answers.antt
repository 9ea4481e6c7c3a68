use Rattle.law_node_traces.proofs.Vocabulary.{deeds, rules}
use Rattle.law_peers_routes.proofs.Upwards.Unread.{refusal_unread}
use Rattle.law_world_calm.proofs.Silences.{SilenceLaws, silence_is_late}
use Rattle.law_world_calm.proofs.moments.no_node_falls_silent_before_the_least_timeout.Goals as goal

pub returns : goal.returns
returns g c =
    let law : SilenceLaws g.row.K.Denot = record {
      client = c.a_node_falls_silent_since_it_was_heard.ensures.client;
      in_proxy = c.a_node_falls_silent_since_it_was_heard.ensures.in_proxy;
      out_proxy = c.a_node_falls_silent_since_it_was_heard.ensures.out_proxy;
      server = c.a_node_falls_silent_since_it_was_heard.ensures.server;
      comes = c.causes_come_from_their_events.ensures;
      may = c.events_close_with_their_causes.ensures;
      reads = record {
        put = c.what_was_put_is_read.ensures;
        fine = c.what_is_read_is_fine.ensures;
        refusal = refusal_unread;
      };
      known = λ m w v new ours by.
          c.a_recording_of_roles_is_known.ensures.changes m w v new ours by.leads;
      flowing = λ m w v new ours ranges by.
          c.what_is_put_is_legible.ensures m w new ours ranges v by;
      drawn = λ m w v h traced. c.what_is_heard_was_drawn.ensures rules m deeds w.company v h traced;
      alone = λ m w v h traced node leg apart.
          (c.a_leg_is_read_at_its_ends.ensures rules m deeds w.company v h traced node leg apart).1;
    } in
    λ m w new ours ranges v by change node leg since now closes.
    silence_is_late law m w new ours ranges v by leg since now change node closes
