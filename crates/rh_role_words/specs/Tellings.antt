-- what is told of several ends (profile)
use Rattle.std.specs.Prelude.{◌≡◌, ◌⊎◌, ◌<◌, ◌≤◌, List, ◌∷◌, ◌++◌}
use Rattle.std.specs.List.{AllByRecursion}
use Rattle.rh_legs.specs.NodeEnds.{rank_of}
use Rattle.rh_legs.specs.declared.end.NodeEnd.{NodeEnd}
use Rattle.rh_legs.specs.declared.end.NodeEnd.TheVariants.{Ended}
use Rattle.rh_relay.specs.Runs.{AllAre}
use Rattle.rh_role_words.specs.declared.status.RoleStatus.{RoleStatus}
use Rattle.rh_role_words.specs.Statuses.{status_of}

-- It is one of the ends, and goes before all of them in the order in which ends are told. Of those
-- that go equally early it is the first.
pub record IsToldFirst (ends : List NodeEnd) (told : NodeEnd) : Type 0 where
  pub front : List NodeEnd
  pub behind : List NodeEnd
  pub place : ends ≡ front ++ told ∷ behind
  pub before : AllByRecursion (λ end. rank_of told < rank_of end) front
  pub after : AllByRecursion (λ end. rank_of told ≤ rank_of end) behind

-- all ended in order, or this one is told first
abbrev pub IsToldOf : List NodeEnd → NodeEnd → Type 0
IsToldOf ends told = (AllAre Ended ends × (told ≡ Ended)) ⊎ IsToldFirst ends told

-- the status is that of the end which is told
abbrev pub TellsOfAll : List NodeEnd → RoleStatus → Type 0
TellsOfAll ends status = (told : NodeEnd) × IsToldOf ends told × (status ≡ status_of told)
