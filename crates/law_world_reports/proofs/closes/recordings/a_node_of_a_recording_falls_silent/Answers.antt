use Rattle.law_moves.proofs.Vocabulary.{Silent}
use Rattle.law_world_reports.proofs.Vocabulary.{Before, after, prepared}
use Rattle.law_world_reports.proofs.Closed.Recorded.{reached_in}
use Rattle.law_world_reports.proofs.Closed.Silent.{silent_in}
use Rattle.law_world_reports.proofs.closes.recordings.a_node_of_a_recording_falls_silent.Goals as goal

pub returns : goal.returns
returns c = λ before line node leg since now h.
    silent_in (record {
      client = c.a_node_falls_silent_since_it_was_heard.ensures.client;
      in_proxy = c.a_node_falls_silent_since_it_was_heard.ensures.in_proxy;
      out_proxy = c.a_node_falls_silent_since_it_was_heard.ensures.out_proxy;
      server = c.a_node_falls_silent_since_it_was_heard.ensures.server;
    }) (prepared (after Before before) line) line node leg since now (reached_in before line)
    (c.each_close_of_a_recording_shows.ensures before line node (Silent leg since now) h)
