-- each claim is a law
use Rattle.law_order.proofs.Vocabulary.{List, subst, sym}
use Rattle.rh_line.specs.declared.cause.Cause.TheVariants.{WindowExceeded}
use Rattle.rh_audit.specs.Audits.{IsAudit}
use Rattle.rh_capture.specs.Captured.{captured}
use Rattle.law_moves.proofs.Vocabulary.{BadFrame, BadHead, BadPacket, BodyOver, ControlFull, CookieMismatch, HttpRefused, LegBroken, LegEnded, OutOfRange, Silent, Unexpected}
use Rattle.law_node_history.proofs.Vocabulary.{Line}
use Rattle.law_world_reports.proofs.Vocabulary.{Before, after, run, CountsCapped, EndsWithLast}
use Rattle.law_world_audited.specs.WholeAudits.Findings.{FindsNothing}
use Rattle.law_run.proofs.claims.recordings_keep_to_their_claims.Goals as goal
use Rattle.law_run.specs.Claims.{RolesAreHonest}

pub returns : goal.returns
returns c = λ lines. record {
  ordered = c.every_recording_is_ordered.ensures lines;
  sides = c.a_recording_names_the_sides_of_its_gives.ensures lines;
  ends = c.every_recording_ends_for_good.ensures lines;
  counted = λ behind is.
      subst (λ (all : List Line). CountsCapped all (run all)) (sym is)
      (c.a_recording_counts.ensures behind);
  last = λ behind is.
      subst (λ (all : List Line). EndsWithLast Before all) (sym is)
      (c.a_recording_ends_with_its_last_lines.ensures behind);
  held = λ before behind is. c.windows_hold_in_every_recording.ensures.recording before;
  onwards = λ before behind is. c.windows_hold_throughout_every_recording.ensures before;
  hops = λ before behind is. c.hops_of_a_recording_are_kept.ensures before;
  reasons = λ before behind line is. record {
    licensed = c.each_close_of_a_recording_shows.ensures before line;
    shown = c.each_cause_of_a_recording_shows.ensures before line;
    refused = c.only_a_client_of_a_recording_is_refused.ensures before line;
    silent = c.a_node_of_a_recording_falls_silent.ensures before line;
  };
  directly = λ before behind is. c.direct_recordings_keep_all.ensures before;
  ways = λ before behind is. c.every_recording_keeps_what_is_on_its_way.ensures before;
  told = λ before behind is. c.a_recording_tells_what_is_on_its_way.ensures before;
  turns = λ before behind is. c.rpc_pdus_of_a_recording_pass_in_turn.ensures before;
  exact = λ before behind is. record {
    in_time = c.recordings_lose_nothing.ensures.losses before;
    unbroken = c.recordings_lose_nothing.ensures.none before;
  };
  told_exactly = λ before behind is. record {
    in_time = c.a_recording_tells_all_that_it_keeps.ensures.losses before;
    unbroken = c.a_recording_tells_all_that_it_keeps.ensures.none before;
  };
  refusals = λ before behind line is. record {
    out_channel = c.a_refused_client_of_a_recording_lost_its_server.ensures.out_channel before line;
    in_channel = c.a_refused_client_of_a_recording_lost_its_server.ensures.in_channel before line;
  };
  honest = λ before behind line is. honest before line;
  calm = λ before behind line is calm. record {
    only = λ node why.
        c.a_node_of_a_calm_recording_closes_for_an_end.ensures.settles before line node why calm;
    cause = λ node why.
        c.a_node_of_a_calm_recording_closes_for_an_end.ensures.ends before line node why calm;
  };
  once = c.a_recording_reports_a_node_closed_once.ensures lines;
  named = c.an_end_of_a_recording_names_its_cause.ensures lines;
  closes = λ before behind is. c.each_close_of_a_recording_is_reported.ensures before;
  reported = c.an_end_of_a_recording_names_what_was_reported.ensures lines;
  rests = λ before behind rounds is. c.a_quiet_recording_is_at_rest.ensures before rounds;
  waits = λ before behind rounds is. c.what_is_not_taken_waits_at_nodes.ensures before rounds;
  audited = λ behind told up down is.
      subst (λ (all : List Line). IsAudit (captured (run all)) told up down
      → FindsNothing told up down) (sym is)
      (c.an_audit_of_a_recording_finds_nothing.ensures behind told up down);
}
  where
    honest : (before : List Line) (line : Line) → RolesAreHonest (after Before before) line
    honest before line node (LegBroken leg) told = tt
    honest before line node (LegEnded leg partial) told = tt
    honest before line node (BadFrame leg place fault) told =
        c.no_node_of_a_recording_closes_for_bad_bytes.ensures.frame before line node leg place fault
        told
    honest before line node (BadPacket leg place fault) told =
        c.no_node_of_a_recording_closes_for_bad_bytes.ensures.packet before line node leg place
        fault told
    honest before line node (Unexpected leg place) told =
        c.no_node_of_a_recording_refuses_what_comes.ensures.unexpected before line node leg place
        told
    honest before line node (CookieMismatch leg expected got) told =
        c.no_node_of_a_recording_refuses_what_comes.ensures.cookie before line node leg expected got
        told
    honest before line node (WindowExceeded leg reached edge) told =
        c.no_window_closes_a_node_of_a_recording.ensures.windows before line node leg reached edge
        told
    honest before line node (OutOfRange leg command value) told =
        c.no_window_closes_a_node_of_a_recording.ensures.ranges before line node leg command value
        told
    honest before line node (HttpRefused leg status) told = tt
    honest before line node (BadHead leg place fault) told =
        c.no_node_of_a_recording_closes_for_bad_bytes.ensures.head before line node leg place fault
        told
    honest before line node (Silent leg since now) told = tt
    honest before line node (ControlFull leg) told =
        c.no_node_of_a_recording_lacks_room.ensures before line node leg told
    honest before line node (BodyOver leg count length) told =
        c.no_body_of_a_recording_is_too_long.ensures before line node leg count length told
