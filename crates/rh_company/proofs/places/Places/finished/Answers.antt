-- by lemmas over plain variables
use Rattle.std.proofs.Common.{◌∙◌}
use Rattle.rh_wires.proofs.Keeping.{ask_at, ask_past}
use Rattle.rh_company.proofs.places.Places.finished.Goals as goal

pub returns-then-at-len : goal.returns-then-at-len
returns-then-at-len g c =
    ask_at _ _ _ _ _ _ _ _ c.self.view_is (c.len.ensures ∙ c.self.inside.list.ok.0)
    c.if-at-len.true c.index.ensures c.finished.ensures

pub returns-else-at-len : goal.returns-else-at-len
returns-else-at-len g c =
    ask_past _ _ _ _ _ _ c.self.view_is (c.len.ensures ∙ c.self.inside.list.ok.0)
    c.if-at-len.false
