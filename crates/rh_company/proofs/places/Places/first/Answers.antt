-- by lemmas over plain variables
use Rattle.std.proofs.Common.{◌∙◌, List, subst, sym}
use Rattle.rh_wires.specs.Numbered.{AreIdle}
use Rattle.rh_wires.proofs.Keeping.{busy_at, idle_below}
use Rattle.rh_company.specs.declared.place.Place.{Place}
use Rattle.rh_company.specs.declared.place.Place.TheVariants.{Absent}
use Rattle.rh_company.specs.Places.{is_idle}
use Rattle.rh_company.proofs.places.Places.first.Goals as goal

pub skip_idle-requires : goal.skip_idle-requires
skip_idle-requires g c =
    subst (λ (l : List (Place _)). AreIdle is_idle Absent c.self.inside.first l)
    (sym c.deref.ensures.value) c.self.invariant.0

pub invariant_of-self : goal.invariant_of-self
invariant_of-self g c = (
  subst (λ (l : List (Place _)). AreIdle is_idle Absent c.skip_idle.new.mark l)
      c.deref.ensures.value c.skip_idle.ensures.idle,
  c.self.invariant.1,
)

pub returns-clause-idle : goal.returns-clause-idle
returns-clause-idle g c =
    idle_below is_idle Absent _ _ _ _ _ (c.deref.ensures.value ∙ c.self.view_is) c.min.ensures
    c.skip_idle.ensures.idle

pub returns-clause-stands : goal.returns-clause-stands
returns-clause-stands g c =
    busy_at is_idle Absent _ _ _ _ _ (c.deref.ensures.value ∙ c.self.view_is)
    (c.len.ensures ∙ sym c.deref.ensures.len) c.min.ensures c.skip_idle.ensures.stands
