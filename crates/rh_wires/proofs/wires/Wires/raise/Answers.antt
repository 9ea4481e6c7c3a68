-- by lemmas over plain variables
use Rattle.std.proofs.Common.{◌∙◌, ◌+◌, List, ap, arith}
use Rattle.rh_wires.specs.declared.wire.Wire.{Wire}
use Rattle.rh_wires.specs.Numbered.{grown}
use Rattle.rh_wires.specs.Wires.{blank}
use Rattle.rh_wires.proofs.Keeping.{idle_set, idle_grown, change_at}
use Rattle.rh_wires.proofs.wires.Wires.raise.Goals as goal

pub invariant_of-self : goal.invariant_of-self
invariant_of-self c = (
  idle_grown _ _ _ _ _ c.grow.ensures.same c.self.invariant.0,
  omega (arith, c.grow.ensures.most, c.self.invariant.1, c.ranges.number.fits),
)

pub invariant_of-self-2 : goal.invariant_of-self-2
invariant_of-self-2 c = (
  idle_set _ _ _ _ _ _ _ c.min-self-inside.ensures
      (idle_grown _ _ _ _ _ c.grow.ensures.same c.self.invariant.0),
  omega (arith, c.grow.ensures.most, c.self.invariant.1, c.ranges.number.fits),
)

pub returns : goal.returns
returns c =
    let first : List Wire → List Wire = grown (c.args.number + 1) blank in
    change_at _ _ _ _ _ _ _ (c.in_ok-grow.ensures.done ∙ ap first c.self.view_is)
    (c.grow.new.list.ok.0) (omega (arith, c.in_ok-grow.ensures.long))
    c.index_mut.ensures.value c.raise.ensures
