use Rattle.law_order.proofs.Vocabulary.{List}
use Rattle.rh_line.specs.declared.cause.Cause.TheVariants.{WindowExceeded}
use Rattle.law_moves.proofs.Vocabulary.{Cause, BadFrame, BadHead, BadPacket, BodyOver, ControlFull, CookieMismatch, HttpRefused, LegBroken, LegEnded, OutOfRange, Silent, Unexpected}
use Rattle.law_node_history.proofs.Vocabulary.{NodeClosed, Who, Line, IsOneOf}
use Rattle.rh_world.specs.Roles as roles
use Rattle.law_world_reports.proofs.Vocabulary.{Before, after, step}
use Rattle.law_world_order.proofs.Recorded.{new, ours}
use Rattle.law_world_calm.proofs.Recorded.{CalmLaws, IsOutside, closes_for}
use Rattle.law_world_calm.proofs.recordings.a_node_of_a_calm_recording_closes_for_an_end.Goals as goal

pub returns : goal.returns
returns c = record {
  settles = λ before line node why calm told. (closes_for law before line calm node why told).0;
  ends = λ before line node why calm told. (closes_for law before line calm node why told).1;
}
  where
    honest : (before : List Line) (line : Line) (node : Who) (why : Cause)
        → IsOneOf (NodeClosed node why) (step (after Before before) line).1 → IsOutside why
    honest before line node (LegBroken leg) told = tt
    honest before line node (LegEnded leg partial) told = tt
    honest before line node (HttpRefused leg status) told = tt
    honest before line node (Silent leg since now) told = tt
    honest before line node (BadFrame leg place fault) told =
        c.no_node_of_a_recording_closes_for_bad_bytes.ensures.frame before line node leg place fault
        told
    honest before line node (BadPacket leg place fault) told =
        c.no_node_of_a_recording_closes_for_bad_bytes.ensures.packet before line node leg place
        fault told
    honest before line node (Unexpected leg place) told =
        c.no_node_of_a_recording_refuses_what_comes.ensures.unexpected before line node leg place
        told
    honest before line node (CookieMismatch leg expected got) told =
        c.no_node_of_a_recording_refuses_what_comes.ensures.cookie before line node leg expected got
        told
    honest before line node (WindowExceeded leg reached edge) told =
        c.no_window_closes_a_node_of_a_recording.ensures.windows before line node leg reached edge
        told
    honest before line node (OutOfRange leg command value) told =
        c.no_window_closes_a_node_of_a_recording.ensures.ranges before line node leg command value
        told
    honest before line node (BadHead leg place fault) told =
        c.no_node_of_a_recording_closes_for_bad_bytes.ensures.head before line node leg place fault
        told
    honest before line node (ControlFull leg) told =
        c.no_node_of_a_recording_lacks_room.ensures before line node leg told
    honest before line node (BodyOver leg count length) told =
        c.no_body_of_a_recording_is_too_long.ensures before line node leg count length told

    law : CalmLaws
    law = record {
      licensed = c.each_close_of_a_recording_shows.ensures;
      shown = c.each_cause_of_a_recording_shows.ensures;
      refused = c.only_a_client_of_a_recording_is_refused.ensures;
      out_channel = λ before line node n status told.
          (c.a_refused_client_of_a_recording_lost_its_server.ensures.out_channel before line node n
          status told).1;
      in_channel = λ before line node n status told.
          (c.a_refused_client_of_a_recording_lost_its_server.ensures.in_channel before line node n
          status told).1;
      silent = λ config ranges v by.
          c.no_node_falls_silent_before_the_least_timeout.ensures roles.makers (roles.begun config)
          (new config) (ours config) ranges v by;
      unbroken = λ config w leads.
          c.no_leg_breaks_for_a_node_by_settling.ensures roles.makers (roles.begun config) w
          (new config) (ours config) leads;
      honest = honest;
    }
