use Rattle.law_order.proofs.Reaching.{reached_front}
use Rattle.law_order.proofs.route.what_can_be_taken_was_given.Goals as goal

pub returns : goal.returns
returns c = reached_front
