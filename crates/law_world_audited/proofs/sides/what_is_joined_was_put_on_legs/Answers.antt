use Rattle.law_world_audited.proofs.LegsJoined.{recording_sides}
use Rattle.law_world_audited.proofs.sides.what_is_joined_was_put_on_legs.Goals as goal

pub returns : goal.returns
returns c =
    recording_sides
    (record {
      bytes = c.a_capture_has_what_moved.ensures.bytes;
      pdus = c.frames_are_items.ensures.pdus;
      mark = c.frames_are_items.ensures.mark;
    })
    c.the_chains_of_a_recording_have_all_legs.ensures
