use Rattle.law_moves.proofs.Vocabulary.{Leg, begun, after_events}
use Rattle.law_node_causes.proofs.Refusing.{on_any, refuses_from_start}
use Rattle.law_node_causes.proofs.refusals.a_node_refuses_for_a_reason.Goals as goal

abbrev Any : Leg → Type 0
Any leg = Unit {0}

pub returns : goal.returns
returns g c = λ role rooms events.
    let rules = g.R.Role.rules in
    let node = after_events rules (begun role rooms) events in
    on_any rules Any node.role node.course
    (refuses_from_start rules Any (λ s leg may is. tt) role rooms events)
