-- no lengths, no pieces
use Rattle.std.proofs.Common.{sym, ap, ◌∙◌}
use Rattle.rh_world.specs.Pieces.{Received}
use Rattle.rh_world.proofs.PieceLaws.{pieces_none}
use Rattle.rh_world.proofs.received.Received.pop.Goals as goal

pub returns-in_default-clause-ok : goal.returns-in_default-clause-ok
returns-in_default-clause-ok c =
    let none = sym c.front.ensures ∙ sym c.copied.ensures ∙ c.in_default.is in
    let empty = sym (ap (λ (r : Received). r.pdus) c.self.view_is)
    ∙ pieces_none c.self.inside.lengths.items c.self.inside.bytes.items none in
    (empty, empty)
