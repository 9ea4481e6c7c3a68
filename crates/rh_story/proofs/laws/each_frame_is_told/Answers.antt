use Rattle.rh_story.proofs.FrameItems.{frames_told, none_held}
use Rattle.rh_story.proofs.laws.each_frame_is_told.Goals as goal

pub returns-clause-items : goal.returns-clause-items
returns-clause-items c = frames_told

pub returns-clause-held : goal.returns-clause-held
returns-clause-held c = none_held
