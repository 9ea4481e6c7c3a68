use Rattle.std.proofs.Common.{◌∙◌, ap}
use Rattle.rh_line.specs.Queue.{total}
use Rattle.rh_line.specs.Rings.{Ring}
use Rattle.rh_line.proofs.RingLaws.{held_bytes}
use Rattle.rh_line.proofs.pdu_ring.PduRing.held.Goals as goal

pub returns-clause-bytes : goal.returns-clause-bytes
returns-clause-bytes c =
    c.len.ensures.len ∙ held_bytes c.self.inside.bytes.items c.self.invariant
    ∙ ap (λ (r : Ring). total r.pdus) c.self.view_is
