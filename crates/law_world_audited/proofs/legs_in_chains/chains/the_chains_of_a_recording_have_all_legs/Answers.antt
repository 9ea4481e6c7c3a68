use Rattle.law_order.proofs.Vocabulary.{arith, refl, sym, append-nil, []}
use Rattle.rh_world.specs.Roles as roles
use Rattle.law_node_history.proofs.Vocabulary.{of_line}
use Rattle.law_world_order.proofs.Recorded.{new, ours}
use Rattle.law_world_audited.proofs.LegsInChains.Recorded.{distinct_by, recording_chains}
use Rattle.law_world_audited.proofs.legs_in_chains.chains.the_chains_of_a_recording_have_all_legs.Goals as goal

pub returns : goal.returns
returns c =
    recording_chains
    (record {
      seen = record {
        pdu = c.what_is_put_is_seen.ensures.pdu;
        packet = c.what_is_put_is_seen.ensures.packet;
        read = c.what_is_read_is_whole.ensures;
      };
      empty = c.no_bytes_are_no_frames.ensures;
      chains = c.successors_stand_in_a_chain.ensures;
      succeed = c.each_leg_replaces_the_one_before_it.ensures.successors;
      turn = c.each_leg_replaces_the_one_before_it.ensures.turns;
      have_own = c.each_leg_replaces_the_one_before_it.ensures.own;
      none_told = c.where_no_tag_is_left_none_is_told.ensures;
      bytes = c.a_capture_has_what_moved.ensures.bytes;
      lines = c.a_capture_has_what_moved.ensures.lines;
      own = c.a_capture_has_what_moved.ensures.own;
      known = λ config world by.
          c.a_recording_of_roles_is_known.ensures.changes roles.makers (roles.begun config) world
          (new config) (ours config) by.leads;
      distinct = λ config world by.
          let most = c.cookies_are_drawn_for_channels.ensures roles.makers (roles.begun config) world
          (new config) (ours config) refl by in
          distinct_by
          (λ config world by left.
          c.cookies_of_lines_differ.ensures roles.rules roles.makers roles.deeds of_line
          (roles.begun config) world by left by.works.leads.changes []
          (sym (append-nil by.works.leads.changes)))
          config world by (omega (arith, most));
    })
    c.what_moved_is_a_stream.ensures
