use Rattle.rh_world.specs.Roles as roles
use Rattle.law_node_traces.proofs.Traced.ByChanges.{lines_by_changes}
use Rattle.law_world_order.proofs.Recorded.{new}
use Rattle.law_world_audited.proofs.Moving.StreamsRecorded.{recording_streams}
use Rattle.law_world_audited.proofs.what_moved.streams.what_moved_is_a_stream.Goals as goal

pub returns : goal.returns
returns c =
    recording_streams
    (record {
      streams = c.what_is_put_is_a_stream.ensures;
      refusals = c.refusals_are_no_frames.ensures;
      none = c.no_bytes_are_no_frames.ensures;
    })
    (record {
      ins = c.a_client_opens_in_channels_in_order.ensures;
      outs = c.a_client_opens_out_channels_in_order.ensures;
      in_proxies = c.an_in_proxy_in_turn_puts_in_order.ensures;
      to_servers = c.an_out_proxy_opens_to_the_server_first.ensures;
      to_clients = c.an_out_proxy_answers_echoes_alone.ensures;
      servers = c.a_server_greets_first.ensures;
    })
    (record {
      in_request = c.written_texts_are_fine.ensures.in_request;
      out_request = c.written_texts_are_fine.ensures.out_request;
      response = c.written_texts_are_fine.ensures.response;
    })
    (λ answered world told n.
    let w = roles.begun told.told.config in
    c.no_head_that_comes_asks_for_an_echo.ensures.outs roles.makers w (new told.told.config)
    told.ours told.ranges told.port world
    (lines_by_changes roles.rules roles.makers roles.deeds w world told.told.by) n
    (told.flowing.flows.outs n))
    c.what_moved_is_of_what_was_put.ensures
