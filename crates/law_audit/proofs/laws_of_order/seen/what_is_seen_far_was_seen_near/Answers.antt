use Rattle.law_audit.proofs.FarAndNear.Fronts.{far_is_front}
use Rattle.law_audit.proofs.laws_of_order.seen.what_is_seen_far_was_seen_near.Goals as goal

pub returns : goal.returns
returns c = far_is_front
