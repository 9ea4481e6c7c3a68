use Rattle.rh_world.specs.Roles as roles
use Rattle.law_node_traces.proofs.Traced.ByChanges.{lines_by_changes}
use Rattle.law_world_order.proofs.Recorded.{in_range, new, ours}
use Rattle.law_world_audited.proofs.Moving.SentRecorded.{recording_sends}
use Rattle.law_world_audited.proofs.what_moved.sent.what_moved_is_of_what_was_put.Goals as goal

pub returns : goal.returns
returns c =
    recording_sends
    (record {
      ins = c.a_proxy_refuses_for_a_reason.ensures.in_proxy;
      outs = c.a_proxy_refuses_for_a_reason.ensures.out_proxy;
    })
    (λ config world leads.
    c.a_recording_of_roles_is_known.ensures.changes roles.makers (roles.begun config) world
    (new config) (ours config) leads)
    (λ config ranges world by.
    c.a_world_of_roles_is_at_a_moment.ensures roles.makers (roles.begun config) (new config)
    (ours config) (in_range config ranges) world
    (lines_by_changes roles.rules roles.makers roles.deeds (roles.begun config) world by))
    c.a_recording_tells_what_moved.ensures
