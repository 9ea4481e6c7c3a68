use Rattle.law_order.proofs.Streams.{all_taken}
use Rattle.law_order.proofs.route.all_is_taken_at_a_clean_end.Goals as goal

pub returns-clause-taken : goal.returns-clause-taken
returns-clause-taken c = λ r l end. (all_taken r l end).all

pub returns-clause-closing : goal.returns-clause-closing
returns-clause-closing c = λ r l end. (all_taken r l end).closing
