use Rattle.rh_line.specs.declared.leg.LegKind.TheVariants.{ClientOut, OutServer}
use Rattle.rh_world.specs.Roles as roles
use Rattle.law_node_traces.proofs.Traced.ByChanges.{lines_by_changes}
use Rattle.law_world_order.proofs.Recorded.{new}
use Rattle.law_world_audited.proofs.FarLegsDown.DownYes.{down_yes}
use Rattle.law_world_audited.proofs.YesRecorded.{recording_says}
use Rattle.law_world_audited.proofs.far_legs_down.down.what_went_down_is_a_front.Goals as goal

pub returns : goal.returns
returns c =
    recording_says ClientOut OutServer
    (down_yes (record {
      route = c.what_goes_down_is_a_route.ensures;
      sends = λ numbers moves made. record {
        client = c.a_client_opens_out_channels_in_order.ensures numbers.client moves.client
            made.client;
        outs = λ n.
            c.an_out_proxy_opens_to_the_server_first.ensures (numbers.outs n) (moves.outs n)
            (made.outs n) (made.outs_counted n) (made.outs_turn n);
        opens = c.a_server_opens_once.ensures numbers.window moves.server;
        replaced = c.a_server_replaces_out_channels_one_by_one.ensures.counts numbers.window
            moves.server;
        in_turn = c.a_server_replaces_out_channels_one_by_one.ensures.legs numbers.window
            moves.server;
        gives = c.a_server_gives_in_order.ensures numbers.window moves.server;
      };
      seen = record {
        packet = c.what_is_put_is_seen.ensures.packet;
        bytes = c.a_capture_has_what_moved.ensures.bytes;
        lines = c.a_capture_has_what_moved.ensures.lines;
        own = c.a_capture_has_what_moved.ensures.own;
        empty = c.no_bytes_are_no_frames.ensures;
      };
      os = c.what_roles_see_fits.ensures.os_put;
      co = c.what_roles_see_fits.ensures.co_put;
      front = c.what_is_seen_far_is_a_front.ensures;
    }))
    (λ config world ours ranges by.
    c.directions_are_joined.ensures roles.makers (roles.begun config) (new config) ours ranges world
    (lines_by_changes roles.rules roles.makers roles.deeds (roles.begun config) world by))
    c.what_is_joined_was_put_on_legs.ensures
