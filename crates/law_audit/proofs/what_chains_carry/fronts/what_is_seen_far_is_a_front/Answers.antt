use Rattle.law_audit.proofs.Carrying.Yes.{yes}
use Rattle.law_audit.proofs.what_chains_carry.fronts.what_is_seen_far_is_a_front.Goals as goal

pub returns : goal.returns
returns c = yes c.what_is_seen_far_was_seen_near.ensures
