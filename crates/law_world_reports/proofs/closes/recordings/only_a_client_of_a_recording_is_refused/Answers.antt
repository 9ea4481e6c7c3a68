use Rattle.law_moves.proofs.Vocabulary.{HttpRefused}
use Rattle.law_world_reports.proofs.Vocabulary.{Before, after, prepared}
use Rattle.law_world_reports.proofs.Closed.Recorded.{reached_in}
use Rattle.law_world_reports.proofs.Closed.Refused.{refused_in}
use Rattle.law_world_reports.proofs.closes.recordings.only_a_client_of_a_recording_is_refused.Goals as goal

pub returns : goal.returns
returns c = λ before line node leg status h.
    refused_in (record {
      client = c.only_a_client_closes_with_http_refused.ensures.client;
      in_proxy = c.only_a_client_closes_with_http_refused.ensures.in_proxy;
      out_proxy = c.only_a_client_closes_with_http_refused.ensures.out_proxy;
      server = c.only_a_client_closes_with_http_refused.ensures.server;
    }) (prepared (after Before before) line) line node leg status (reached_in before line)
    (c.each_close_of_a_recording_shows.ensures before line node (HttpRefused leg status) h)
