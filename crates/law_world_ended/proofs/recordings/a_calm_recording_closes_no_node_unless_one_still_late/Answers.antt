use Rattle.law_order.proofs.Vocabulary.{true≢false, sym, ◌∙◌}
use Rattle.rh_world.specs.Roles as roles
use Rattle.law_node_traces.proofs.Vocabulary.{deeds, rules}
use Rattle.law_world_order.proofs.FirstTexts.Taken.{recorded_port}
use Rattle.law_world_order.proofs.Recorded.{in_range, new, ours}
use Rattle.law_world_unclosed.proofs.Recorded.{makes_going}
use Rattle.law_world_ended.proofs.Ended.{RecordLaws, ended_behind_marks, none_closes}
use Rattle.law_world_ended.proofs.recordings.a_calm_recording_closes_no_node_unless_one_still_late.Goals as goal

pub returns : goal.returns
returns c = record { unclosed = none_closes law; marked = ended_behind_marks law }
  where
    law : RecordLaws
    law = record {
      nodes = record {
        keeps_client = c.a_leg_of_use_is_kept.ensures.client;
        keeps_server = c.a_leg_of_use_is_kept.ensures.server;
        keeps_in = c.a_leg_of_use_is_kept.ensures.in_proxy;
        drew_client = c.what_a_node_has_finished_is_drawn.ensures.client;
        drew_in = c.what_a_node_has_finished_is_drawn.ensures.in_proxy;
        client_put = c.a_client_leaves_what_was_handed_over.ensures.no_other_ins;
        client_rests = c.a_client_whose_work_is_done_is_done_for_good.ensures;
        in_handed = c.an_in_proxy_may_lose_what_was_handed_over.ensures;
        in_unused = c.an_in_proxy_may_lose_what_it_has_no_use_for.ensures;
        in_over = λ config pipe events stream heads agree over.
            (c.an_in_proxy_that_lost_what_was_handed_over_is_over_once_told.ensures config pipe
            events stream heads agree over).0;
        server_done = c.no_end_of_a_leg_that_it_is_done_with_closes_a_server.ensures;
        server_handed = c.no_end_of_a_leg_that_was_handed_over_closes_a_server.ensures;
        server_over = λ node leg over.
            c.a_node_goes_on_where_it_may_lose_a_leg.ensures node leg
            (λ work. absurd (true≢false (sym work ∙ over)));
      };
      worlds = λ config ranges.
          let once = c.legs_of_roles_come_up_once.ensures roles.makers
          (roles.begun config).company config (ours config) in
          record {
            along = record {
              known = λ v leads.
                  c.a_recording_of_roles_is_known.ensures.changes roles.makers
                  (roles.begun config) v (new config) (ours config) leads;
              go = λ v leads.
                  c.nodes_that_nothing_closed_go_on.ensures roles.makers (roles.begun config) v
                  (new config) (ours config) makes_going leads;
              over = λ v ends.
                  c.nodes_go_on_where_legs_are_over_upwards.ensures roles.makers
                  (roles.begun config) (new config) (ours config) (in_range config ranges)
                  (recorded_port config) v ends;
              events = record {
                client = c.causes_come_from_their_events.ensures;
                server = c.causes_come_from_their_events-2.ensures;
                in_proxy = c.causes_come_from_their_events-3.ensures;
                out_proxy = c.causes_come_from_their_events-4.ensures;
              };
              reported =
                  c.what_is_reported_closed_was_closed.ensures.reported roles.rules roles.makers
                  roles.deeds;
            };
            passes = λ v ends.
                c.what_is_lost_in_time_had_passed.ensures.over roles.makers (roles.begun config)
                (new config) (ours config) (in_range config ranges) (recorded_port config) v ends;
            heads = λ v by.
                c.no_head_that_comes_asks_for_an_echo.ensures.ins roles.makers
                (roles.begun config) (new config) (ours config) (in_range config ranges)
                (recorded_port config) v by;
            live_in =
                c.what_comes_is_read.ensures.ins roles.makers (roles.begun config) (new config)
                (ours config) (in_range config ranges) (recorded_port config);
            live_server =
                c.what_comes_is_read.ensures.server roles.makers (roles.begun config)
                (new config) (ours config);
            round = λ v by.
                c.the_clean_end_went_round_where_a_client_is_done.ensures roles.makers
                (roles.begun config) (new config) (ours config) (in_range config ranges) v by;
            order = λ v by.
                c.channels_come_up_in_order.ensures.changes rules roles.makers deeds
                (roles.begun config) v (new config) once by;
            led = λ v lines.
                c.channels_come_up_in_order.ensures.lines rules roles.makers deeds
                (roles.begun config) v (new config) once lines;
            low = λ v leads.
                c.a_proxy_that_was_let_go_has_no_leg_up.ensures rules roles.makers deeds
                (roles.begun config) v (new config) once leads;
          };
      ends = c.a_node_of_a_calm_recording_closes_for_an_end.ensures.ends;
      licensed = c.each_close_of_a_recording_shows.ensures;
    }
