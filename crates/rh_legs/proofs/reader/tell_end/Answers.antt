-- it was asked, and told where it has a use for the leg
use Rattle.rh_legs.proofs.reader.tell_end.Goals as goal

pub returns-then-is_finished-clause-ends : goal.returns-then-is_finished-clause-ends
returns-then-is_finished-clause-ends g c =
    let asks = c.is_finished.ensures.acts in (asks.0, asks.1, asks.2 c.if-is_finished.true)

pub returns-clause-ends : goal.returns-clause-ends
returns-clause-ends g c =
    (_, c.is_finished.ensures.acts.0, _, c.is_finished.ensures.acts.1, c.act.ensures.acts)
