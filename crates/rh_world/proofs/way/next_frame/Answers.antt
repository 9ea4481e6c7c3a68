-- what the framer answered, in the words of all bytes
use Rattle.std.proofs.Common.{sym, subst}
use Rattle.rh_pdu.specs.Frames.{IsBad}
use Rattle.rh_pdu.proofs.Fed.{none_taken, fault_taken}
use Rattle.rh_world.proofs.Frames.{frame_in_front}
use Rattle.rh_world.proofs.way.next_frame.Goals as goal

pub unreachable-requires : goal.unreachable-requires
unreachable-requires c =
    let t = fault_taken _ _ _ _ _ c.in-Fault.ensures.fed in
    c.requires.sound (subst IsBad (sym t.rest) t.bad)

pub returns-in-Need-clause-frames : goal.returns-in-Need-clause-frames
returns-in-Need-clause-frames c =
    let t = none_taken _ _ _ c.in-Need.ensures.fed in (t.frames, sym t.rest)

pub returns-in-Frame-clause-frames : goal.returns-in-Frame-clause-frames
returns-in-Frame-clause-frames c = frame_in_front _ _ _ _ _ c.in-Frame.ensures.fed
