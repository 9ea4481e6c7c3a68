-- by lemmas over plain variables
use Rattle.std.proofs.Common.{◌∙◌}
use Rattle.rh_wires.proofs.Keeping.{act_at, act_past, idle_set}
use Rattle.rh_company.proofs.places.Places.draw.Goals as goal

pub invariant_of-self : goal.invariant_of-self
invariant_of-self g c =
    (idle_set _ _ _ _ _ _ _ c.min-self-inside.ensures c.self.invariant.0, c.self.invariant.1)

pub returns-then-at-len-clause-drawn : goal.returns-then-at-len-clause-drawn
returns-then-at-len-clause-drawn g c =
    act_at _ _ _ _ _ _ _ _ _ c.self.view_is
    (c.len.ensures ∙ c.self.inside.list.ok.0) c.if-at-len.true
    c.index_mut.ensures.value c.draw.ensures.drawn

pub returns-else-at-len-clause-drawn : goal.returns-else-at-len-clause-drawn
returns-else-at-len-clause-drawn g c =
    act_past _ _ _ _ _ _ c.self.view_is (c.len.ensures ∙ c.self.inside.list.ok.0)
    c.if-at-len.false

pub returns-then-at-len-clause-fits : goal.returns-then-at-len-clause-fits
returns-then-at-len-clause-fits g c = c.draw.ensures.fits
