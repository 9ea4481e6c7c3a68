use Rattle.rh_record.specs.declared.answer.Who.TheVariants as who
use Rattle.law_moves.proofs.Vocabulary.{ControlFull}
use Rattle.rh_world.specs.Roles as roles
use Rattle.law_world_order.proofs.Recorded.{new, ours}
use Rattle.law_world_expected.proofs.Recorded.{of_recording}
use Rattle.law_world_expected.proofs.room.recordings.no_node_of_a_recording_lacks_room.Goals as goal

pub returns : goal.returns
returns c before line who.Client full told =
    of_recording who.Client (ControlFull full) ⊥ (λ config range v by lines have change may closes.
    c.no_node_lacks_room.ensures.client roles.makers (roles.begun config) (new config)
    (ours config) range v by change may full closes) before line
    (c.cookies_of_a_recording_are_left.ensures before line)
    (c.each_close_of_a_recording_shows.ensures before line who.Client (ControlFull full) told)
returns c before line who.Server full told =
    of_recording who.Server (ControlFull full) ⊥ (λ config range v by lines have change may closes.
    c.no_node_lacks_room.ensures.server roles.makers (roles.begun config) (new config)
    (ours config) range v by have.distinct change may full closes) before line
    (c.cookies_of_a_recording_are_left.ensures before line)
    (c.each_close_of_a_recording_shows.ensures before line who.Server (ControlFull full) told)
returns c before line (who.In k) full told =
    of_recording (who.In k) (ControlFull full) ⊥ (λ config range v by lines have change may closes.
    c.no_node_lacks_room.ensures.in_proxies roles.makers (roles.begun config) (new config)
    (ours config) range v by have.distinct change may k full closes) before line
    (c.cookies_of_a_recording_are_left.ensures before line)
    (c.each_close_of_a_recording_shows.ensures before line (who.In k) (ControlFull full) told)
returns c before line (who.Out k) full told =
    of_recording (who.Out k) (ControlFull full) ⊥ (λ config range v by lines have change may closes.
    c.no_node_lacks_room.ensures.out_proxies roles.makers (roles.begun config) (new config)
    (ours config) range v by have.distinct change may k full closes) before line
    (c.cookies_of_a_recording_are_left.ensures before line)
    (c.each_close_of_a_recording_shows.ensures before line (who.Out k) (ControlFull full) told)
