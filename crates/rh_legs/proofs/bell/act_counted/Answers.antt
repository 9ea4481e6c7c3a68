use Rattle.rh_legs.proofs.Replying.{acts-replied}
use Rattle.rh_legs.proofs.bell.act_counted.Goals as goal

pub returns-clause-replied : goal.returns-clause-replied
returns-clause-replied g c = acts-replied _ _ _ _ _ _ _ c.act-reply.ensures.acts
