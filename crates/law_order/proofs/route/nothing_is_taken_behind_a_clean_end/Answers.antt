use Rattle.law_order.proofs.Streams.{none_later}
use Rattle.law_order.proofs.route.nothing_is_taken_behind_a_clean_end.Goals as goal

pub returns : goal.returns
returns c = none_later
