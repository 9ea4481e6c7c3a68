use Rattle.law_order.proofs.Vocabulary.{refl}
use Rattle.rh_line.specs.declared.cause.Cause.TheVariants as cause
use Rattle.law_moves.proofs.Vocabulary.{begun}
use Rattle.law_node_traces.proofs.Traced.RefusedDraws.{all_draws}
use Rattle.law_node_traces.proofs.traces.refusals.what_a_node_draws_goes_on_or_refuses.Goals as goal

pub returns : goal.returns
returns g c = λ role rooms events leg.
    all_draws g.R.Role.rules
    (λ node event lost e.
    c.causes_come_from_their_events.ensures node event (cause.LegBroken lost) e)
    c.a_node_closes_once.ensures.kept leg (begun role rooms) events refl
    (c.a_node_refuses_for_a_reason.ensures role rooms)
