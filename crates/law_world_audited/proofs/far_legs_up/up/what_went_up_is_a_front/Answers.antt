use Rattle.rh_line.specs.declared.leg.LegKind.TheVariants.{ClientIn, InServer}
use Rattle.rh_world.specs.Roles as roles
use Rattle.law_node_traces.proofs.Traced.ByChanges.{lines_by_changes}
use Rattle.law_world_order.proofs.Recorded.{new}
use Rattle.law_world_audited.proofs.FarLegsUp.UpYes.{up_yes}
use Rattle.law_world_audited.proofs.YesRecorded.{recording_says}
use Rattle.law_world_audited.proofs.far_legs_up.up.what_went_up_is_a_front.Goals as goal

pub returns : goal.returns
returns c =
    recording_says InServer ClientIn
    (up_yes (record {
      up = record {
        route = c.what_goes_up_is_a_route.ensures;
        elsewhere = c.an_in_proxy_begins.ensures.elsewhere;
      };
      seen = record {
        packet = c.what_is_put_is_seen.ensures.packet;
        bytes = c.a_capture_has_what_moved.ensures.bytes;
        lines = c.a_capture_has_what_moved.ensures.lines;
        own = c.a_capture_has_what_moved.ensures.own;
        empty = c.no_bytes_are_no_frames.ensures;
      };
      ci = c.what_roles_see_fits.ensures.ci_put;
      is = c.what_roles_see_fits.ensures.is_put;
      front = c.what_is_seen_far_is_a_front.ensures;
    }))
    (λ config world ours ranges by.
    c.directions_are_joined.ensures roles.makers (roles.begun config) (new config) ours ranges world
    (lines_by_changes roles.rules roles.makers roles.deeds (roles.begun config) world by))
    c.what_is_joined_was_put_on_legs.ensures
