-- by lemmas over plain variables
use Rattle.std.proofs.Common.{◌∙◌, ◌+◌, List, slice_set, ap, arith}
use Rattle.rh_wires.specs.Numbered.{grown}
use Rattle.rh_wires.proofs.Keeping.{idle_set, idle_grown}
use Rattle.rh_company.specs.declared.place.Place.{Place}
use Rattle.rh_company.specs.declared.place.Place.TheVariants.{Absent, Here}
use Rattle.rh_company.proofs.places.Places.make.Goals as goal

pub invariant_of-self : goal.invariant_of-self
invariant_of-self g c = (
  idle_grown _ _ _ _ _ c.grow.ensures.same c.self.invariant.0,
  omega (arith, c.grow.ensures.most, c.self.invariant.1, c.ranges.number.fits),
)

pub invariant_of-self-2 : goal.invariant_of-self-2
invariant_of-self-2 g c = (
  idle_set _ _ _ _ _ _ _ c.min-self-inside.ensures
      (idle_grown _ _ _ _ _ c.grow.ensures.same c.self.invariant.0),
  omega (arith, c.grow.ensures.most, c.self.invariant.1, c.ranges.number.fits),
)

pub returns : goal.returns
returns g c =
    ap (λ (list : List (Place _)). slice_set list c.args.number (Here c.args.node 0))
    (c.in_ok-grow.ensures.done
    ∙ ap (λ (list : List (Place _)). grown (c.args.number + 1) Absent list) c.self.view_is)
