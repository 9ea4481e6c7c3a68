-- nothing is on the way
use Rattle.std.proofs.Common.{ap}
use Rattle.rh_pdu.specs.Feeding.{FramerState}
use Rattle.rh_world.proofs.Ways.{nothing_carried}
use Rattle.rh_world.proofs.way.Way.new.Goals as goal

pub invariant_of-result : goal.invariant_of-result
invariant_of-result c =
    let is = c.new-4.ensures in
    rw (c.in_ok-new.ensures, c.new-2.ensures, c.in_ok-with_capacity.ensures, c.in_ok-new-2.ensures)
    (nothing_carried c.new-4.result (ap (λ (s : FramerState). s.rest) is)
    (ap (λ (s : FramerState). s.fault) is))
