use Rattle.law_order.proofs.Vocabulary.{refl}
use Rattle.rh_line.specs.declared.cause.Cause.TheVariants as cause
use Rattle.law_node_history.proofs.Vocabulary.{happened}
use Rattle.rh_world.specs.Roles as roles
use Rattle.law_node_traces.proofs.Vocabulary.{history_at}
use Rattle.law_world_reports.proofs.Vocabulary.{WorldConfig}
use Rattle.law_world_order.proofs.Recorded.{new, ours}
use Rattle.law_world_order.proofs.Distinct.{own_distinct}
use Rattle.law_world_order.proofs.Vocabulary.{numbers_of}
use Rattle.law_world_honest.proofs.Honesty.Recorded.{of_recording_apart}
use Rattle.law_world_windows.proofs.windows.recordings.no_window_closes_a_node_of_a_recording.Goals as goal
use Rattle.law_world_windows.specs.ClientHops.{HasOneWindow}

-- its in proxies have the window that was set, whatever their numbers
one_window : (config : WorldConfig) → HasOneWindow (numbers_of (ours config))
one_window config = λ m n. refl

pub returns : goal.returns
returns c = record {
  windows = λ before line node leg reached edge told.
      let why = cause.WindowExceeded leg reached edge in
      of_recording_apart node why ⊥ (λ config range v by own change may closes.
      c.no_window_closes_a_node.ensures.windows roles.makers (roles.begun config)
      (new config) (ours config) range (one_window config) v by
      (own_distinct (happened (history_at roles.makers (roles.begun config) v by.leads).client) own)
      change may node leg reached edge closes) before line
      (c.cookies_of_a_recording_are_left.ensures before line)
      (c.each_close_of_a_recording_shows.ensures before line node why told);
  ranges = λ before line node leg command value told.
      let why = cause.OutOfRange leg command value in
      of_recording_apart node why ⊥ (λ config range v by own change may closes.
      c.no_window_closes_a_node.ensures.ranges roles.makers (roles.begun config)
      (new config) (ours config) range (one_window config) v by
      (own_distinct (happened (history_at roles.makers (roles.begun config) v by.leads).client) own)
      change may node leg command value closes) before line
      (c.cookies_of_a_recording_are_left.ensures before line)
      (c.each_close_of_a_recording_shows.ensures before line node why told);
}
