use Rattle.rh_line.specs.declared.cause.Cause.TheVariants as cause
use Rattle.rh_world.specs.Roles as roles
use Rattle.law_world_order.proofs.Recorded.{new, ours}
use Rattle.law_world_order.proofs.FirstTexts.Taken.{recorded_port}
use Rattle.law_world_honest.proofs.Honesty.Recorded.{of_recording}
use Rattle.law_world_honest.proofs.honest.recordings.no_node_of_a_recording_closes_for_bad_bytes.Goals as goal

pub returns : goal.returns
returns c = record {
  frame = λ before line node leg place fault told.
      let why = cause.BadFrame leg place fault in
      of_recording node why ⊥ (λ config ranges v by change may closes.
      c.no_change_closes_a_node_for_bad_bytes.ensures.frame roles.makers (roles.begun config)
      (new config) (ours config) ranges v by change node leg place fault may closes) before line
      (c.each_close_of_a_recording_shows.ensures before line node why told);
  packet = λ before line node leg place fault told.
      let why = cause.BadPacket leg place fault in
      of_recording node why ⊥ (λ config ranges v by change may closes.
      c.no_change_closes_a_node_for_bad_bytes.ensures.packet roles.makers (roles.begun config)
      (new config) (ours config) ranges v by change node leg place fault may closes) before line
      (c.each_close_of_a_recording_shows.ensures before line node why told);
  head = λ before line node leg place fault told.
      let why = cause.BadHead leg place fault in
      of_recording node why ⊥ (λ config ranges v by change may closes.
      c.no_change_closes_a_node_for_bad_bytes.ensures.head roles.makers (roles.begun config)
      (new config) (ours config) ranges (recorded_port config) v by change node leg place fault may
      closes) before line
      (c.each_close_of_a_recording_shows.ensures before line node why told);
}
