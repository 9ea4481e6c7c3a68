use Rattle.law_order.proofs.Streams.{taken_prefix, held_prefix}
use Rattle.law_order.proofs.route.taken_is_a_front_of_given.Goals as goal

pub returns-clause-taken : goal.returns-clause-taken
returns-clause-taken c = taken_prefix

pub returns-clause-held : goal.returns-clause-held
returns-clause-held c = held_prefix
