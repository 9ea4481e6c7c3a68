use Rattle.std.proofs.Common.{List, ℕ, ap}
use Rattle.rh_line.specs.Rings.{ring}
use Rattle.rh_line.proofs.RingLaws.{nothing}
use Rattle.rh_line.proofs.pdu_ring.PduRing.with_capacity.Goals as goal

pub invariant_of-result : goal.invariant_of-result
invariant_of-result c = rw c.in_ok-bytes.ensures nothing.1

pub returns : goal.returns
returns c =
    rw c.in_ok-bytes.ensures (ap (λ (x : List (List ℕ)). ring x c.args.room) nothing.0)
