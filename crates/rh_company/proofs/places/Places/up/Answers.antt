-- by lemmas over plain variables
use Rattle.std.proofs.Common.{◌∙◌}
use Rattle.rh_wires.proofs.Keeping.{change_at, change_past, idle_set}
use Rattle.rh_company.proofs.places.Places.up.Goals as goal

pub invariant_of-self : goal.invariant_of-self
invariant_of-self g c =
    (idle_set _ _ _ _ _ _ _ c.min-self-inside.ensures c.self.invariant.0, c.self.invariant.1)

pub returns-then-at-len : goal.returns-then-at-len
returns-then-at-len g c =
    change_at _ _ _ _ _ _ _ c.self.view_is
    (c.len.ensures ∙ c.self.inside.list.ok.0) c.if-at-len.true
    c.index_mut.ensures.value c.up.ensures

pub returns-else-at-len : goal.returns-else-at-len
returns-else-at-len g c =
    change_past _ _ _ _ _ c.self.view_is (c.len.ensures ∙ c.self.inside.list.ok.0)
    c.if-at-len.false
